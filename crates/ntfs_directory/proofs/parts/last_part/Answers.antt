use Rattle.std.proofs.Common.{sym, ◌∙◌}
use Rattle.std.proofs.lemmas.Bool.{eqb-true}
use Rattle.ntfs_directory.proofs.PathLemmas.{parts-empty, parts-one}
use Rattle.ntfs_directory.proofs.parts.last_part.Goals as goal

pub returns-then-is_empty-clause-none : goal.returns-then-is_empty-clause-none
returns-then-is_empty-clause-none c none =
    parts-empty c.args.path.now (eqb-true _ _ (sym c.is_empty.ensures ∙ c.if-is_empty.true))

pub returns-else-is_empty-clause-part : goal.returns-else-is_empty-clause-part
returns-else-is_empty-clause-part c =
    parts-one c.args.path.now (sym c.is_empty.ensures ∙ c.if-is_empty.false) c.requires.slashless
