use Rattle.std.proofs.Common.{◌≡◌}
use Rattle.std.specs.Prelude.{IsTrue, vec_len}
use Rattle.ntfs_attrlist.specs.Reading.{list_items}
use Rattle.ntfs_base.specs.Bytes.{cluster_at}
use Rattle.ntfs_base.specs.Causes.{HaveNotFallen}
use Rattle.ntfs_check_streams.proofs.NamedLemmas.{items_joined}
use Rattle.ntfs_check_streams.proofs.list.join_entries.Given as goal
use Rattle.ntfs_check_records.specs.Reading.{records_of}

abbrev pub invariant-entries : goal.invariant-entries
invariant-entries g l = record {
  can : (goal.iterator-entries g).can_next l.item-iterator;
  finite : (goal.iterator-entries g).is_finite l.item-iterator;
  seen : g.G.Image.seen l.image ≡ g.G.Image.seen l.initial.image;
  counts : HaveNotFallen (g.G.Image.faults l.initial.image) (g.G.Image.faults l.image);
  block : vec_len l.block ≡ vec_len l.initial.block;
  same : IsTrue (g.G.Image.seen l.initial.image).is_told
      → items_joined l.table.geometry.cluster l.kind l.name l.joined l.base.number l.base.sequence (records_of l.table (cluster_at (g.G.Image.seen l.initial.image).content l.table.geometry.cluster)) l.item-iterator
      ≡ items_joined l.table.geometry.cluster l.kind l.name l.fn.start l.base.number l.base.sequence (records_of l.table (cluster_at (g.G.Image.seen l.initial.image).content l.table.geometry.cluster)) (list_items l.list);
}
