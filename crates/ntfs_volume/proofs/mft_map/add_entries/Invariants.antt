use Rattle.std.proofs.Common.{◌≡◌, length}
use Rattle.std.specs.Prelude.{filter, IsTrue}
use Rattle.ntfs_base.specs.Bytes.{cluster_at}
use Rattle.ntfs_base.specs.Causes.{HaveNotFallen}
use Rattle.ntfs_volume.specs.Known.{IsKnown, known_clusters}
use Rattle.ntfs_volume.specs.MftMap.{further, is_further}
use Rattle.ntfs_volume.proofs.EntriesLemmas.{right_entries}
use Rattle.ntfs_volume.proofs.mft_map.add_entries.Given as goal

abbrev pub invariant-entries : goal.invariant-entries
invariant-entries g l = record {
  can : (goal.iterator-entries g).can_next l.item-iterator;
  finite : (goal.iterator-entries g).is_finite l.item-iterator;
  seen : g.G.Image.seen l.image ≡ g.G.Image.seen l.fn.image;
  counts : HaveNotFallen (g.G.Image.faults l.fn.image) (g.G.Image.faults l.image);
  known : IsKnown l.geometry.clusters l.known;
  block : length l.block ≡ l.geometry.record_size;
  gives : IsTrue (g.G.Image.seen l.fn.image).is_told
      → further l.geometry (cluster_at (g.G.Image.seen l.fn.image).content l.geometry.cluster) l.valid l.first (known_clusters l.known) (filter is_further (right_entries l.item-iterator))
      ≡ further l.geometry (cluster_at (g.G.Image.seen l.fn.image).content l.geometry.cluster) l.valid l.first (known_clusters l.fn.known) (filter is_further (right_entries l.initial.item-iterator));
}
