use Rattle.std.proofs.Common.{◌≡◌, ◌+◌, ◌<◌, ◌^◌, length}
use Rattle.std.specs.Prelude.{IsTrue, vec_len}
use Rattle.ntfs_attrlist.specs.Reading.{list_items}
use Rattle.ntfs_base.specs.Causes.{HaveNotFallen}
use Rattle.ntfs_volume.specs.Gathering.{AreParts, HoldsRecord, shown_parts, volume_slots}
use Rattle.ntfs_volume.proofs.GatherItems.{items_parts}
use Rattle.ntfs_volume.proofs.gather.take_entries.Given as goal

abbrev pub invariant-entries : goal.invariant-entries
invariant-entries g l = record {
  can : (goal.iterator-entries g).can_next l.item-iterator;
  finite : (goal.iterator-entries g).is_finite l.item-iterator;
  seen : g.G.Image.seen l.image ≡ g.G.Image.seen l.initial.image;
  counts : HaveNotFallen (g.G.Image.faults l.initial.image) (g.G.Image.faults l.image);
  count : l.parts.count + length l.item-iterator < 2 ^ 63;
  are : AreParts l.table.geometry.clusters l.parts;
  block : vec_len l.held.block ≡ l.table.geometry.record_size;
  known : IsTrue (g.G.Image.seen l.initial.image).is_told → HoldsRecord l.table (g.G.Image.seen l.initial.image).content l.held;
  same : IsTrue (g.G.Image.seen l.initial.image).is_told
      → items_parts l.goal.number l.goal.sequence l.goal.kind l.goal.name.now (volume_slots l.table (g.G.Image.seen l.initial.image).content) l.item-iterator (shown_parts l.parts)
      ≡ items_parts l.goal.number l.goal.sequence l.goal.kind l.goal.name.now (volume_slots l.table (g.G.Image.seen l.initial.image).content) (list_items l.list) (shown_parts l.initial.parts);
}
