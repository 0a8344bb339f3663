use Rattle.std.proofs.Common.{◌∙◌}
use Rattle.ntfs_bitmap.specs.ClusterSet.{count_below, has}
use Rattle.ntfs_clone.specs.CloneOf.{saved_header}
use Rattle.ntfs_clone.proofs.VolumeLemmas.{count-owned}
use Rattle.ntfs_clone.proofs.volume.header_of.Goals as goal

pub returns : goal.returns
unfolding saved_header count_below
returns c = λ image i. record {
  cluster = c.args.geometry.now.cluster;
  device = c.device_of.ensures.value i;
  clusters = c.args.geometry.now.clusters;
  in_use = (c.count_below.ensures ∙ count-owned (has c.args.owned.now) c.args.geometry.now.clusters) i;
  offset = 56;
}
