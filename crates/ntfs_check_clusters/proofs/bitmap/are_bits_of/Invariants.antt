use Rattle.std.proofs.Common.{◌≡◌, ◌<◌, ◌-◌, ◌*◌, ◌+◌, ℕ, min}
use Rattle.std.specs.Prelude.{IsTrue, vec_len}
use Rattle.ntfs_base.specs.Causes.{HaveNotFallen}
use Rattle.ntfs_bitmap.specs.ClusterSet.{has}
use Rattle.ntfs_rules.specs.Content.{shown_bytes}
use Rattle.ntfs_rules.specs.Records.{has_bit}
use Rattle.ntfs_check_clusters.proofs.bitmap.are_bits_of.Given as goal

abbrev pub invariant-clusters : goal.invariant-clusters
invariant-clusters g l = record {
  seen : g.G.Image.seen l.image ≡ g.G.Image.seen l.initial.image;
  counts : HaveNotFallen (g.G.Image.faults l.initial.image) (g.G.Image.faults l.image);
  room : vec_len l.buffer ≡ l.geometry.cluster;
  most : 8 * (l.vcn * l.geometry.cluster) < l.geometry.clusters + 8 * l.geometry.cluster;
  same : IsTrue (g.G.Image.seen l.initial.image).is_told → (k : ℕ) → k < min l.geometry.clusters (8 * (l.vcn * l.geometry.cluster))
      → has l.set k ≡ has_bit (shown_bytes l.geometry (g.G.Image.seen l.initial.image).content l.valid l.runs) k;
}

abbrev pub decreases-clusters : goal.decreases-clusters
decreases-clusters g l = l.geometry.clusters - l.vcn
