use Rattle.std.proofs.Common.{◌∙◌, ap, sym, Err}
use Rattle.std.proofs.lemmas.Result.{err_from_is_err_and}
use Rattle.std.specs.List.{flat_map}
use Rattle.ntfs_base.specs.Bytes.{cluster_at}
use Rattle.ntfs_boot.specs.declared.geometry.Geometry.{Geometry}
use Rattle.ntfs_check_clusters.proofs.FirstLemmas.{bitmap-stops, claims-given, claims-refused, claims-stop, clusters-pass, once-bound}
use Rattle.ntfs_check_clusters.proofs.clusters.judge_clusters.Goals as goal
use Rattle.ntfs_check_clusters.specs.Outcome.{clusters_judged}
use Rattle.ntfs_rules.specs.VolumeData.{volume_data}
use Rattle.ntfs_survey.specs.Owned.{owner_claims}

pub returns-in_err-set-in-Ok-clause-gives : goal.returns-in_err-set-in-Ok-clause-gives
returns-in_err-set-in-Ok-clause-gives g c told =
    let o = c.args.table.now in
    let v = volume_data o (cluster_at (g.G.Image.seen c.args.image.now).content o.geometry.cluster) in
    let p = err_from_is_err_and c.from_residual.result c.from_residual.ensures.1 in
    rw (p.1, p.2)
    (λ settled. ap (clusters_judged v) c.in-Ok.is
    ∙ claims-stop v c.in-Ok.owners c.in_err-set-in-Ok.field-0.0
    (claims-refused o _ c.geometry.result.now c.owners-in-Ok.result.now c.in-Ok.owners _ c.geometry.ensures.kept c.owners-in-Ok.ensures (c.in_err-set-in-Ok.ensures.gives settled)))

pub check_bitmap-requires-clause-bound : goal.check_bitmap-requires-clause-bound
check_bitmap-requires-clause-bound g c =
    once-bound c.geometry.result.now.clusters (flat_map owner_claims c.owners-in-Ok.result.now) c.in_ok-set-in-Ok.set c.in_ok-set-in-Ok.ensures.gives ∙ ap (λ (k : Geometry). k.clusters) c.geometry.ensures.kept

pub returns-in_err-check_bitmap-in-Ok-clause-gives : goal.returns-in_err-check_bitmap-in-Ok-clause-gives
returns-in_err-check_bitmap-in-Ok-clause-gives g c told =
    let o = c.args.table.now in
    let v = volume_data o (cluster_at (g.G.Image.seen c.args.image.now).content o.geometry.cluster) in
    let p = err_from_is_err_and c.from_residual-in_err-check_bitmap-in-Ok.result c.from_residual-in_err-check_bitmap-in-Ok.ensures.1 in
    rw (p.1, p.2)
    (λ settled. ap (clusters_judged v) c.in-Ok.is
    ∙ bitmap-stops v c.in-Ok.owners c.in_ok-set-in-Ok.set c.in_err-check_bitmap-in-Ok.field-0.0
    (claims-given o _ c.geometry.result.now c.owners-in-Ok.result.now c.in-Ok.owners c.in_ok-set-in-Ok.set c.geometry.ensures.kept c.owners-in-Ok.ensures c.in_ok-set-in-Ok.ensures.gives)
    (c.in_err-check_bitmap-in-Ok.ensures.gives told settled))

pub returns-in-Err-clause-gives : goal.returns-in-Err-clause-gives
returns-in-Err-clause-gives g c told settled =
    let o = c.args.table.now in
    let v = volume_data o (cluster_at (g.G.Image.seen c.args.image.now).content o.geometry.cluster) in
    ap (clusters_judged v) c.in-Err.is ∙ ap Err (sym c.damaged.ensures)

pub returns-in_ok-check_bitmap-in-Ok-clause-gives : goal.returns-in_ok-check_bitmap-in-Ok-clause-gives
returns-in_ok-check_bitmap-in-Ok-clause-gives g c told =
    let o = c.args.table.now in
    let v = volume_data o (cluster_at (g.G.Image.seen c.args.image.now).content o.geometry.cluster) in
    ap (clusters_judged v) c.in-Ok.is
    ∙ clusters-pass v c.in-Ok.owners c.in_ok-set-in-Ok.set
    (claims-given o _ c.geometry.result.now c.owners-in-Ok.result.now c.in-Ok.owners c.in_ok-set-in-Ok.set c.geometry.ensures.kept c.owners-in-Ok.ensures c.in_ok-set-in-Ok.ensures.gives)
    (c.in_ok-check_bitmap-in-Ok.ensures.gives told)

pub returns-in_ok-check_bitmap-in-Ok-clause-bound : goal.returns-in_ok-check_bitmap-in-Ok-clause-bound
returns-in_ok-check_bitmap-in-Ok-clause-bound g c =
    once-bound c.geometry.result.now.clusters (flat_map owner_claims c.owners-in-Ok.result.now) c.in_ok-set-in-Ok.set c.in_ok-set-in-Ok.ensures.gives ∙ ap (λ (k : Geometry). k.clusters) c.geometry.ensures.kept
