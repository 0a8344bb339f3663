use Rattle.std.proofs.Common.{◌≡◌, Ok, Some, refl, rules, sym}
use Rattle.ntfs_words.specs.declared.request.Request.TheVariants as request
use Rattle.ntfs_run.proofs.OutputLemmas.{files_kept, made_others}
use Rattle.ntfs_run.proofs.RangeLemmas.{made_shape}
use Rattle.ntfs_run.proofs.ToolLemmas.{does_refused}
use Rattle.ntfs_run.proofs.command.answer.Goals as goal

pub returns-in-Err-clause-does : goal.returns-in-Err-clause-does
returns-in-Err-clause-does g c told input = rw (c.in-Err.is, c.from.ensures) (does_refused _ _ _ _ _ _ refl refl (λ settled. refl))

pub make_file-requires-clause-shape : goal.make_file-requires-clause-shape
make_file-requires-clause-shape g c =
    let is : c.args.request.now ≡ Ok (request.Make c.in-Ok-Make.file c.in-Ok-Make.seed c.in-Ok-Make.clusters c.in-Ok-Make.cluster) = search rules in
    made_shape c.args.request.now _ _ _ _ c.requires.ranges is

pub returns-in-Ok-Make-clause-others : goal.returns-in-Ok-Make-clause-others
returns-in-Ok-Make-clause-others g c told =
    let is : c.args.request.now ≡ Ok (request.Make c.in-Ok-Make.file c.in-Ok-Make.seed c.in-Ok-Make.clusters c.in-Ok-Make.cluster) = search rules in
    rw (is, sym c.as_str-in-Ok-Make.ensures) (files_kept (Some c.as_str-in-Ok-Make.result.now) _ _
    (made_others c.as_str-in-Ok-Make.result.now c.in-Ok-Make.seed c.in-Ok-Make.clusters c.in-Ok-Make.cluster _ _ (c.make_file.ensures.left told)))
