use Rattle.std.proofs.Common.{◌≡◌, Some, map}
use Rattle.ntfs_check_records.specs.Entries.{good_entries}
use Rattle.std.specs.List.{list_all}
use Rattle.std.specs.Prelude.{IsTrue}
use Rattle.ntfs_attrlist.specs.Reading.{list_items}
use Rattle.ntfs_base.specs.Bytes.{cluster_at}
use Rattle.ntfs_base.specs.Causes.{HaveNotFallen}
use Rattle.ntfs_check_streams.proofs.list.own_listed.Given as goal
use Rattle.ntfs_check_records.specs.Reading.{records_of}
use Rattle.ntfs_check_streams.specs.Said.{is_listed_stream}
use Rattle.ntfs_record.specs.Views.{Shown, placed_of, shown_placed}
use Rattle.ntfs_volume.specs.Views.{told_view}

abbrev pub invariant-attributes : goal.invariant-attributes
invariant-attributes g l = record {
  can : (goal.iterator-attributes g).can_next l.attribute-iterator;
  finite : (goal.iterator-attributes g).is_finite l.attribute-iterator;
  seen : g.G.Image.seen l.image ≡ g.G.Image.seen l.initial.image;
  counts : HaveNotFallen (g.G.Image.faults l.initial.image) (g.G.Image.faults l.image);
  same : IsTrue (g.G.Image.seen l.initial.image).is_told
      → list_all (λ (s : Shown). is_listed_stream l.table.geometry.cluster l.base.number l.base.sequence (records_of l.table (cluster_at (g.G.Image.seen l.initial.image).content l.table.geometry.cluster)) (good_entries (list_items l.list)) (Some (told_view l.lead)) s.kind s.name) (map shown_placed l.attribute-iterator)
      ≡ list_all (λ (s : Shown). is_listed_stream l.table.geometry.cluster l.base.number l.base.sequence (records_of l.table (cluster_at (g.G.Image.seen l.initial.image).content l.table.geometry.cluster)) (good_entries (list_items l.list)) (Some (told_view l.lead)) s.kind s.name) (map shown_placed (placed_of l.view));
}
