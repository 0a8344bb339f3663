use Rattle.std.proofs.Common.{◌≡◌, ◌∙◌, subst, sym, Ok, Err, Result}
use Rattle.std.proofs.lemmas.Result.{err_from_is_err_and}
use Rattle.ntfs_base.proofs.FramesLemmas.{told_still}
use Rattle.ntfs_base.specs.Bytes.{cluster_at}
use Rattle.ntfs_base.specs.Frames.{Gives, IsSettled}
use Rattle.ntfs_base.specs.declared.refusal.Rule.TheVariants as rule
use Rattle.ntfs_bitmap.specs.ClusterSet.{Clusters}
use Rattle.ntfs_check_clusters.proofs.FirstLemmas.{after-names, marks-stop, names-stop, survey-stops}
use Rattle.ntfs_check_clusters.proofs.clusters.check_clusters.Goals as goal
use Rattle.ntfs_check_clusters.specs.Outcome.{clusters_judged, marks_of}
use Rattle.ntfs_rules.specs.Outcome.{check_origin, unless_number}
use Rattle.ntfs_rules.specs.Records.{c6}
use Rattle.ntfs_rules.specs.VolumeData.{volume_data}
use Rattle.ntfs_rules.specs.declared.fault.CheckFault.{CheckFault}

pub returns-in_err-found-clause-gives : goal.returns-in_err-found-clause-gives
returns-in_err-found-clause-gives g c told =
    let o = c.args.table.now in
    let f = cluster_at (g.G.Image.seen c.args.image.now).content o.geometry.cluster in
    let p = err_from_is_err_and c.from_residual.result c.from_residual.ensures.1 in
    rw (p.1, p.2) (λ settled. survey-stops o f c.in_err-found.field-0.0 (c.in_err-found.ensures.gives told settled))

pub returns-in_err-check_marks-clause-gives : goal.returns-in_err-check_marks-clause-gives
returns-in_err-check_marks-clause-gives g c told =
    let o = c.args.table.now in
    let f = cluster_at (g.G.Image.seen c.args.image.now).content o.geometry.cluster in
    let p = err_from_is_err_and c.from_residual-in_err-check_marks.result c.from_residual-in_err-check_marks.ensures.1 in
    let stops = told_still g.G.Image _ _ (λ content. IsSettled (check_origin c.in_err-check_marks.field-0.0)
    → unless_number rule.C5 (marks_of (volume_data o (cluster_at content o.geometry.cluster))) (tt {0}) ≡ Err c.in_err-check_marks.field-0.0)
    c.in_ok-found.ensures.reads.seen c.in_err-check_marks.ensures.gives told in
    rw (p.1, p.2) (λ settled. marks-stop o f c.in_ok-found.found c.in_err-check_marks.field-0.0 (c.in_ok-found.ensures.gives told) (stops settled))

pub returns-in_err-check_names-clause-gives : goal.returns-in_err-check_names-clause-gives
returns-in_err-check_names-clause-gives g c told =
    let o = c.args.table.now in
    let f = cluster_at (g.G.Image.seen c.args.image.now).content o.geometry.cluster in
    let p = err_from_is_err_and c.from_residual-in_err-check_names.result c.from_residual-in_err-check_names.ensures.1 in
    let marked = told_still g.G.Image _ _ (λ content. unless_number rule.C5 (marks_of (volume_data o (cluster_at content o.geometry.cluster))) (tt {0}) ≡ Ok tt)
    c.in_ok-found.ensures.reads.seen c.in_ok-check_marks.ensures.gives told in
    let stops = told_still g.G.Image _ _ (λ content. IsSettled (check_origin c.in_err-check_names.field-0.0)
    → unless_number rule.C6 (c6 (volume_data o (cluster_at content o.geometry.cluster)).slots) (tt {0}) ≡ Err c.in_err-check_names.field-0.0)
    (c.in_ok-check_marks.ensures.reads.seen ∙ c.in_ok-found.ensures.reads.seen) c.in_err-check_names.ensures.gives told in
    rw (p.1, p.2) (λ settled. names-stop o f c.in_ok-found.found c.in_err-check_names.field-0.0 (c.in_ok-found.ensures.gives told) marked (stops settled))

pub returns-clause-gives : goal.returns-clause-gives
returns-clause-gives g c told =
    let o = c.args.table.now in
    let f = cluster_at (g.G.Image.seen c.args.image.now).content o.geometry.cluster in
    let marked = told_still g.G.Image _ _ (λ content. unless_number rule.C5 (marks_of (volume_data o (cluster_at content o.geometry.cluster))) (tt {0}) ≡ Ok tt)
    c.in_ok-found.ensures.reads.seen c.in_ok-check_marks.ensures.gives told in
    let named = told_still g.G.Image _ _ (λ content. unless_number rule.C6 (c6 (volume_data o (cluster_at content o.geometry.cluster)).slots) (tt {0}) ≡ Ok tt)
    (c.in_ok-check_marks.ensures.reads.seen ∙ c.in_ok-found.ensures.reads.seen) c.in_ok-check_names.ensures.gives told in
    let judged = told_still g.G.Image _ _ (λ content. Gives check_origin (λ set. set) (clusters_judged (volume_data o (cluster_at content o.geometry.cluster)) c.in_ok-found.found) c.judge_clusters.result)
    (c.in_ok-check_names.ensures.reads.seen ∙ c.in_ok-check_marks.ensures.reads.seen ∙ c.in_ok-found.ensures.reads.seen) c.judge_clusters.ensures.gives told in
    subst (λ (expected : Result Clusters CheckFault). Gives check_origin (λ set. set) expected c.judge_clusters.result) (sym (after-names o f c.in_ok-found.found (c.in_ok-found.ensures.gives told) marked named)) judged
