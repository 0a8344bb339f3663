use Rattle.std.proofs.Common.{◌≡◌, false}
use Rattle.std.specs.Prelude.{IsTrue, vec_len}
use Rattle.ntfs_attrlist.specs.Reading.{list_items}
use Rattle.ntfs_base.specs.Causes.{HaveNotFallen}
use Rattle.ntfs_check_directories.proofs.NameLemmas.{items_have}
use Rattle.ntfs_check_directories.proofs.list.listed_name.Given as goal
use Rattle.ntfs_check_directories.specs.Names.{records_in}

abbrev pub invariant-entries : goal.invariant-entries
invariant-entries g l = record {
  can : (goal.iterator-entries g).can_next l.item-iterator;
  finite : (goal.iterator-entries g).is_finite l.item-iterator;
  seen : g.G.Image.seen l.image ≡ g.G.Image.seen l.initial.image;
  counts : HaveNotFallen (g.G.Image.faults l.initial.image) (g.G.Image.faults l.image);
  block : vec_len l.block ≡ l.table.geometry.record_size;
  same : IsTrue (g.G.Image.seen l.initial.image).is_told
      → items_have l.any l.sought l.base.number l.base.sequence (records_in l.table (g.G.Image.seen l.initial.image).content) l.item-iterator
      ≡ items_have false l.sought l.base.number l.base.sequence (records_in l.table (g.G.Image.seen l.initial.image).content) (list_items l.list);
}
