use Rattle.ntfs_fixup.proofs.UnfixLemmas.{refused, accepted, on_ok, bytes, others, keeps, front}
use Rattle.ntfs_fixup.proofs.unfixing.unfix.Goals as goal

pub returns-clause-refused : goal.returns-clause-refused
returns-clause-refused c =
    refused c.args.magic c.args.block.now c.unfix_exactly.new.block
    c.unfix_exactly.result c.unfix_exactly.ensures.exact

pub returns-clause-whole : goal.returns-clause-whole
returns-clause-whole c =
    accepted c.args.magic c.args.block.now c.unfix_exactly.new.block
    c.unfix_exactly.result c.unfix_exactly.ensures.exact

pub returns-clause-bytes : goal.returns-clause-bytes
returns-clause-bytes c =
    on_ok c.args.magic c.args.block.now c.unfix_exactly.new.block
    _ c.unfix_exactly.result c.unfix_exactly.ensures.exact (bytes _ _ _)

pub returns-clause-others : goal.returns-clause-others
returns-clause-others c =
    on_ok c.args.magic c.args.block.now c.unfix_exactly.new.block
    _ c.unfix_exactly.result c.unfix_exactly.ensures.exact (others _ _ _)

pub returns-clause-front : goal.returns-clause-front
returns-clause-front c =
    on_ok c.args.magic c.args.block.now c.unfix_exactly.new.block
    _ c.unfix_exactly.result c.unfix_exactly.ensures.exact (front _ _ _)

pub returns-clause-keeps : goal.returns-clause-keeps
returns-clause-keeps c =
    on_ok c.args.magic c.args.block.now c.unfix_exactly.new.block
    _ c.unfix_exactly.result c.unfix_exactly.ensures.exact (keeps _ _ _)
