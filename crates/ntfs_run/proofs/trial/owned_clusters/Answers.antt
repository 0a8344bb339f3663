use Rattle.std.proofs.Common.{ap, ◌∙◌}
use Rattle.ntfs_bitmap.specs.ClusterSet.{Clusters, count_below}
use Rattle.ntfs_boot.specs.declared.geometry.Geometry.{Geometry}
use Rattle.ntfs_run.proofs.TrialLemmas.{counted}
use Rattle.ntfs_run.proofs.trial.owned_clusters.Goals as goal

pub returns : goal.returns
returns c =
    let checked = c.args.checked.now in
    c.count_below.ensures ∙ ap (λ (set : Clusters). count_below set c.geometry.result.now.clusters) c.owned.ensures
    ∙ ap (λ (geometry : Geometry). count_below checked.findings.owned geometry.clusters) c.geometry.ensures.kept
    ∙ counted checked.findings.owned checked.table.geometry.clusters
