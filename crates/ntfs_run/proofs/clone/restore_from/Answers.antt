use Rattle.std.proofs.Common.{drop, refl, subst, sym}
use Rattle.std.proofs.lemmas.Result.{err_from_is_err_and}
use Rattle.ntfs_clone.specs.Header.{clone_header}
use Rattle.ntfs_clone.specs.Restored.{IsPartOf}
use Rattle.ntfs_clone.specs.Taking.{to_come}
use Rattle.ntfs_clone.proofs.TakingLemmas.{given-then, to_come-after, told-after}
use Rattle.ntfs_run.specs.Clone.{IsRestoredFrom, LeavesOutput, restored_into}
use Rattle.ntfs_run.specs.Outcome.{Ends, clone_status, outcome_or, status_of}
use Rattle.ntfs_run.proofs.OutputLemmas.{ends_refused, leaves_map}
use Rattle.ntfs_run.proofs.RestoreLemmas.{header_read, header_refused}
use Rattle.ntfs_run.proofs.ToolLemmas.{refused_ok}
use Rattle.ntfs_run.proofs.clone.restore_from.Goals as goal

pub returns-in_err-header-clause-ends : goal.returns-in_err-header-clause-ends
returns-in_err-header-clause-ends g c shelf told =
    let r = c.args.request.now in
    let p = err_from_is_err_and c.from_residual.result c.from_residual.ensures.1 in
    rw (p.1, p.2) (ends_refused _ _ _ _ refl (λ settled. header_refused r.output.now r.overwrite (to_come (g.I.Source.seen c.args.source.now)) _ _
    (c.in_err-header.ensures.gives told settled)))

pub returns-clause-ends : goal.returns-clause-ends
returns-clause-ends g c shelf told =
    let r = c.args.request.now in
    let header = c.in_ok-header.header in
    let image = to_come (g.I.Source.seen c.args.source.now) in
    let files = (g.S.Shelf.seen c.args.shelf.now).files in
    let left = (g.S.Shelf.seen c.restore_into.new.shelf).files in
    let here = told-after header.offset (g.I.Source.seen c.args.source.now) (g.I.Source.seen c.read_clone_header.new.source) told c.in_ok-header.ensures.given in
    let rest = to_come-after header.offset (g.I.Source.seen c.args.source.now) (g.I.Source.seen c.read_clone_header.new.source) told c.in_ok-header.ensures.given in
    subst (λ work. Ends (outcome_or files work) (status_of c.restore_into.result) left) (sym (header_read r.output.now r.overwrite image files header (c.in_ok-header.ensures.gives told)))
    (subst (λ rest. Ends (outcome_or files (restored_into r.output.now r.overwrite header rest files)) (status_of c.restore_into.result) left) rest
    (c.restore_into.ensures.ends shelf here))

pub returns-clause-left : goal.returns-clause-left
returns-clause-left g c shelf told =
    let r = c.args.request.now in
    let header = c.in_ok-header.header in
    let image = to_come (g.I.Source.seen c.args.source.now) in
    let files = (g.S.Shelf.seen c.args.shelf.now).files in
    let left = (g.S.Shelf.seen c.restore_into.new.shelf).files in
    let here = told-after header.offset (g.I.Source.seen c.args.source.now) (g.I.Source.seen c.read_clone_header.new.source) told c.in_ok-header.ensures.given in
    let rest = to_come-after header.offset (g.I.Source.seen c.args.source.now) (g.I.Source.seen c.read_clone_header.new.source) told c.in_ok-header.ensures.given in
    leaves_map r.output.now r.overwrite (IsPartOf header (drop header.offset image)) (IsRestoredFrom image) files left
    (λ bytes part. record { header = header; begins = refused_ok clone_status (clone_header image) header (c.in_ok-header.ensures.gives told); part = part })
    (subst (λ rest. LeavesOutput r.output.now r.overwrite (IsPartOf header rest) files left) rest (c.restore_into.ensures.left shelf here))

pub returns-clause-kept : goal.returns-clause-kept
returns-clause-kept g c = given-then _ _ _ c.in_ok-header.ensures.kept c.restore_into.ensures.kept
