use Rattle.std.proofs.Common.{◌≡◌, ◌<◌, ◌-◌, ◌*◌, ◌+◌, min, take}
use Rattle.std.specs.Prelude.{IsTrue, vec_len}
use Rattle.ntfs_base.specs.Causes.{HaveNotFallen}
use Rattle.ntfs_rules.specs.Content.{shown_bytes}
use Rattle.ntfs_rules.proofs.content.read_runs.Given as goal

abbrev pub invariant-clusters : goal.invariant-clusters
invariant-clusters g l = record {
  seen : g.G.Image.seen l.image ≡ g.G.Image.seen l.initial.image;
  counts : HaveNotFallen (g.G.Image.faults l.initial.image) (g.G.Image.faults l.image);
  room : vec_len l.buffer ≡ l.geometry.cluster;
  most : l.vcn * l.geometry.cluster < l.most + l.geometry.cluster;
  front : IsTrue (g.G.Image.seen l.initial.image).is_told
      → l.bytes.items ≡ take (min (l.vcn * l.geometry.cluster) l.most) (shown_bytes l.geometry (g.G.Image.seen l.initial.image).content l.valid l.runs);
}

abbrev pub decreases-clusters : goal.decreases-clusters
decreases-clusters g l = l.most - l.vcn
