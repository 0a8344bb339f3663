use Rattle.std.proofs.Common.{◌≡◌, ◌∙◌, sym, ap, subst, slice_get}
use Rattle.ntfs_runs.specs.Clusters.{vcns}
use Rattle.ntfs_volume.specs.Opened.{Opened}
use Rattle.ntfs_volume.proofs.TableLemmas.{cluster-at, flat}
use Rattle.ntfs_volume.proofs.table.Table.record_cluster.Goals as goal

pub returns-in-None : goal.returns-in-None
returns-in-None c =
    let s = c.self.inside in
    sym (subst (λ (o : Opened). slice_get o.map.clusters c.args.vcn ≡ _) c.self.view_is
    (cluster-at s.geometry.clusters (vcns s.runs) c.args.vcn c.self.invariant.table.cells ∙ ap flat (sym c.in-None.ensures)))

pub returns-in-Some : goal.returns-in-Some
returns-in-Some c =
    let s = c.self.inside in
    sym (subst (λ (o : Opened). slice_get o.map.clusters c.args.vcn ≡ c.in-Some.cell) c.self.view_is
    (cluster-at s.geometry.clusters (vcns s.runs) c.args.vcn c.self.invariant.table.cells ∙ ap flat (sym c.in-Some.ensures)))
