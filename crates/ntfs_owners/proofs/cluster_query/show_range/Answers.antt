use Rattle.std.proofs.Common.{◌≡◌, ◌∙◌, ◌-◌, ap, sym, map, List, Ok}
use Rattle.std.proofs.lemmas.Result.{err_from_is_err_and}
use Rattle.ntfs_base.specs.Bytes.{cluster_at}
use Rattle.ntfs_base.proofs.FramesLemmas.{puts_none, told_still}
use Rattle.ntfs_volume.specs.Located.{slots_of}
use Rattle.ntfs_print.specs.Fault.{show_origin}
use Rattle.ntfs_owners.specs.Held.{held_of, slots_held, wants_record, wants_runs}
use Rattle.ntfs_owners.specs.OwnerLines.{held_clusters}
use Rattle.ntfs_owners.specs.declared.held.Wanted.TheVariants as wanted
use Rattle.ntfs_owners.specs.declared.holding.Holding.{Holding}
use Rattle.ntfs_print.proofs.AnswerLemmas.{puts_by}
use Rattle.ntfs_owners.proofs.FileLemmas.{cut-never}
use Rattle.ntfs_owners.proofs.RangeOutcomeLemmas.{cut-listed, range-found, range-unsurveyed}
use Rattle.ntfs_owners.proofs.cluster_query.show_range.Goals as goal

pub returns-in_err-survey_all-clause-told : goal.returns-in_err-survey_all-clause-told
returns-in_err-survey_all-clause-told g c told =
    let o = c.args.table.now in
    let p = err_from_is_err_and c.from_residual.result c.from_residual.ensures.1 in
    rw (p.1, p.2) (puts_none show_origin _ _ (g.K.Sink.seen c.args.out.now) (λ settled.
    range-unsurveyed o (cluster_at (g.G.Image.seen c.args.image.now).content o.geometry.cluster) c.args.from c.args.to _ (c.in_err-survey_all.ensures.wrong told settled)))

pub returns-in_err-survey_all-clause-listed : goal.returns-in_err-survey_all-clause-listed
returns-in_err-survey_all-clause-listed g c query =
    let p = err_from_is_err_and c.from_residual.result c.from_residual.ensures.1 in
    rw (p.1, p.2) (c.in_err-survey_all.ensures.listed query)

pub returns-in_err-held-clause-told : goal.returns-in_err-held-clause-told
returns-in_err-held-clause-told g c told =
    let p = err_from_is_err_and c.from_residual-in_err-held.result c.from_residual-in_err-held.ensures.1 in
    rw (p.1, p.2) (puts_none show_origin _ _ (g.K.Sink.seen c.args.out.now) (λ settled. absurd (cut-never c.in_err-held.field-0.0 c.in_err-held.ensures.cuts settled)))

pub returns-in_err-held-clause-listed : goal.returns-in_err-held-clause-listed
returns-in_err-held-clause-listed g c query =
    let p = err_from_is_err_and c.from_residual-in_err-held.result c.from_residual-in_err-held.ensures.1 in
    rw (p.1, p.2) (cut-listed query c.in_err-held.field-0.0 c.in_err-held.ensures.cuts)

pub returns-clause-told : goal.returns-clause-told
returns-clause-told g c told =
    let o = c.args.table.now in
    let content = (g.G.Image.seen c.args.image.now).content in
    let end = c.range_end-end.result in
    let right = c.in_ok-survey_all.ensures.right told in
    let held = told_still g.G.Image _ _ (λ content. map held_of c.in_ok-held.held.items ≡ slots_held (wants_record (wanted.Range c.args.from end)) (wants_runs (wanted.Range c.args.from end)) 0
    (slots_of o.geometry o.map (cluster_at content o.geometry.cluster))) c.in_ok-survey_all.ensures.reads.seen c.in_ok-held.ensures.held told in
    puts_by show_origin _ _ _ _ _
    (range-found o (cluster_at content o.geometry.cluster) c.args.from c.args.to end right.0 (map held_of c.in_ok-held.held.items) right.1 c.range_end-end.ensures held
    ∙ ap (λ (held : List Holding). Ok (held_clusters c.args.from (end - c.args.from) (map held_of held))) (sym c.deref.ensures.value)) c.put_range.ensures.puts
