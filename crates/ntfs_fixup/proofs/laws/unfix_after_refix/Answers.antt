use Rattle.ntfs_fixup.proofs.LawLemmas.{AllAgree-refix_of, SameOutsideArray-refix_of}
use Rattle.ntfs_fixup.proofs.laws.unfix_after_refix.Goals as goal

pub returns-clause-agree : goal.returns-clause-agree
returns-clause-agree c = AllAgree-refix_of c.args.block.now c.requires.block c.requires.array

pub returns-clause-back : goal.returns-clause-back
returns-clause-back c = SameOutsideArray-refix_of c.args.block.now c.requires.block c.requires.array
