use Rattle.std.proofs.Common.{◌≡◌, ℕ, List, ap, ap₂, ◌∙◌, arith, true, Result, Ok, Err}
use Rattle.std.proofs.lemmas.Result.{err_from_is_err_and}
use Rattle.ntfs_base.specs.Bytes.{cluster_at}
use Rattle.ntfs_base.specs.Frames.{Gives}
use Rattle.ntfs_base.proofs.FramesLemmas.{told_still}
use Rattle.ntfs_bitmap.specs.ClusterSet.{count_where}
use Rattle.ntfs_boot.specs.declared.geometry.Geometry.{Geometry}
use Rattle.ntfs_survey.specs.Owned.{is_whole}
use Rattle.ntfs_survey.specs.Surveying.{record_at}
use Rattle.ntfs_volume.specs.Opened.{Opened}
use Rattle.ntfs_print.specs.Fault.{show_origin}
use Rattle.ntfs_owners.specs.Owners.{are_bad_in, record_attributes, bad_clusters_record, owns}
use Rattle.ntfs_print.specs.declared.fault.ShowFault.{ShowFault}
use Rattle.ntfs_owners.proofs.OwnersLemmas.{summary-found, summary-refused, survey-gave}
use Rattle.ntfs_owners.proofs.SlotLemmas.{survey-whole}
use Rattle.ntfs_owners.proofs.owner_query.count_all.Goals as goal

abbrev bad_in : Opened → List ℕ → ℕ
bad_in o content = count_where (are_bad_in (record_attributes o (cluster_at content o.geometry.cluster) bad_clusters_record)) o.geometry.clusters

abbrev CountsBad : Opened → Result ℕ ShowFault → List ℕ → Type 0
CountsBad o result content = is_whole (record_at o (cluster_at content o.geometry.cluster) bad_clusters_record) ≡ true → Gives show_origin (λ count. count) (Ok (bad_in o content)) result

same-count : (n k : ℕ) → ◌≡◌ {A = Result ℕ ShowFault} (Ok n) (Ok k) → k ≡ n
same-count n k is = cc

no-count : (n : ℕ) (fault : ShowFault) → ◌≡◌ {A = Result ℕ ShowFault} (Ok n) (Err fault) → ⊥
no-count n fault is = cc

pub returns-in_err-survey-clause-gives : goal.returns-in_err-survey-clause-gives
returns-in_err-survey-clause-gives g c told =
    let o = c.args.table.now in
    let p = err_from_is_err_and c.from_residual.result c.from_residual.ensures.1 in
    rw (p.1, p.2) (λ settled. summary-refused o (cluster_at (g.G.Image.seen c.args.image.now).content o.geometry.cluster) _ (c.in_err-survey.ensures.gives told settled))

pub returns-in_err-bad-clause-gives : goal.returns-in_err-bad-clause-gives
returns-in_err-bad-clause-gives g c told =
    let o = c.args.table.now in
    let f = cluster_at (g.G.Image.seen c.args.image.now).content o.geometry.cluster in
    let whole = survey-whole o f c.in_ok-survey.survey bad_clusters_record (omega (arith, c.geometry.ensures.good.least_record)) (survey-gave o f c.in_ok-survey.survey (c.in_ok-survey.ensures.gives told)) in
    let bad = told_still g.G.Image _ _ (CountsBad o (Err c.in_err-bad.field-0.0)) c.in_ok-survey.ensures.reads.seen c.in_err-bad.ensures.gives told whole in
    let p = err_from_is_err_and c.from_residual-in_err-bad.result c.from_residual-in_err-bad.ensures.1 in
    rw (p.1, p.2) (λ settled. absurd (no-count (bad_in o (g.G.Image.seen c.args.image.now).content) _ (bad settled)))

pub returns-clause-gives : goal.returns-clause-gives
returns-clause-gives g c told =
    let o = c.args.table.now in
    let f = cluster_at (g.G.Image.seen c.args.image.now).content o.geometry.cluster in
    let surveyed = c.in_ok-survey.ensures.gives told in
    let whole = survey-whole o f c.in_ok-survey.survey bad_clusters_record (omega (arith, c.geometry.ensures.good.least_record)) (survey-gave o f c.in_ok-survey.survey surveyed) in
    let bad = told_still g.G.Image _ _ (CountsBad o (Ok c.in_ok-bad.bad)) c.in_ok-survey.ensures.reads.seen c.in_ok-bad.ensures.gives told whole in
    summary-found o f c.in_ok-survey.survey c.geometry.result.now.clusters c.in_ok-owned.owned c.in_ok-bad.bad surveyed
    (ap (λ (k : Geometry). k.clusters) c.geometry.ensures.kept)
    (c.in_ok-owned.ensures.count ∙ ap₂ (λ owners (k : Geometry). count_where (owns owners) k.clusters) c.owners.ensures c.geometry.ensures.kept)
    (same-count _ _ bad)

pub returns-in_err-survey-clause-listed : goal.returns-in_err-survey-clause-listed
returns-in_err-survey-clause-listed g c query =
    let p = err_from_is_err_and c.from_residual.result c.from_residual.ensures.1 in
    rw (p.1, p.2) (c.in_err-survey.ensures.listed query)

pub returns-in_err-bad-clause-listed : goal.returns-in_err-bad-clause-listed
returns-in_err-bad-clause-listed g c query =
    let p = err_from_is_err_and c.from_residual-in_err-bad.result c.from_residual-in_err-bad.ensures.1 in
    rw (p.1, p.2) (c.in_err-bad.ensures.listed query)
