use Rattle.ntfs_fixup.proofs.LawLemmas.{unfix_of-refix_of, unfix_of-refix_of-back}
use Rattle.ntfs_fixup.proofs.laws.unfix_accepts_refixed.Goals as goal

pub returns-clause-accepted : goal.returns-clause-accepted
returns-clause-accepted c = unfix_of-refix_of c.args.magic c.args.block.now c.requires.block c.requires.front

pub returns-clause-back : goal.returns-clause-back
returns-clause-back c = unfix_of-refix_of-back c.args.magic c.args.block.now c.requires.block c.requires.front
