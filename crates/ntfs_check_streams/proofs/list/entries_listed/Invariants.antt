use Rattle.std.proofs.Common.{◌≡◌, Some, true}
use Rattle.ntfs_check_records.specs.Entries.{good_entries}
use Rattle.std.specs.List.{list_all}
use Rattle.std.specs.Prelude.{IfSome, IsTrue}
use Rattle.ntfs_attrlist.specs.Entry.{Listed}
use Rattle.ntfs_attrlist.specs.Reading.{list_items}
use Rattle.ntfs_base.specs.Bytes.{cluster_at}
use Rattle.ntfs_base.specs.Causes.{HaveNotFallen}
use Rattle.ntfs_check_streams.proofs.list.entries_listed.Given as goal
use Rattle.ntfs_check_records.specs.Reading.{records_of}
use Rattle.ntfs_check_streams.specs.Said.{is_listed_stream}
use Rattle.ntfs_volume.specs.Views.{told_view}

abbrev pub invariant-entries : goal.invariant-entries
invariant-entries g l = record {
  can : (goal.iterator-entries g).can_next l.item-iterator;
  finite : (goal.iterator-entries g).is_finite l.item-iterator;
  seen : g.G.Image.seen l.image ≡ g.G.Image.seen l.initial.image;
  counts : HaveNotFallen (g.G.Image.faults l.initial.image) (g.G.Image.faults l.image);
  before : IsTrue (g.G.Image.seen l.initial.image).is_told
      → IfSome l.last (λ other. is_listed_stream l.table.geometry.cluster l.base.number l.base.sequence (records_of l.table (cluster_at (g.G.Image.seen l.initial.image).content l.table.geometry.cluster)) (good_entries (list_items l.list)) (Some (told_view l.lead)) other.kind other.name.now ≡ true);
  same : IsTrue (g.G.Image.seen l.initial.image).is_told
      → list_all (λ (entry : Listed). is_listed_stream l.table.geometry.cluster l.base.number l.base.sequence (records_of l.table (cluster_at (g.G.Image.seen l.initial.image).content l.table.geometry.cluster)) (good_entries (list_items l.list)) (Some (told_view l.lead)) entry.kind entry.name) (good_entries l.item-iterator)
      ≡ list_all (λ (entry : Listed). is_listed_stream l.table.geometry.cluster l.base.number l.base.sequence (records_of l.table (cluster_at (g.G.Image.seen l.initial.image).content l.table.geometry.cluster)) (good_entries (list_items l.list)) (Some (told_view l.lead)) entry.kind entry.name) (good_entries (list_items l.list));
}
