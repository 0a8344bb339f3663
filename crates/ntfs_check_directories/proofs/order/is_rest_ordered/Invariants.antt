use Rattle.std.proofs.Common.{◌≡◌, None}
use Rattle.std.specs.Prelude.{IsTrue}
use Rattle.ntfs_base.specs.Causes.{HaveNotFallen}
use Rattle.ntfs_check_directories.proofs.RowLemmas.{IsRow, ordered_behind}
use Rattle.ntfs_check_directories.proofs.order.is_rest_ordered.Given as goal
use Rattle.ntfs_directory.specs.State.{IsOn, answered, left_of}
use Rattle.ntfs_index.specs.State.{entries_most}
use Rattle.ntfs_rules.specs.Directories.{is_ordered}

abbrev pub invariant-entries : goal.invariant-entries
invariant-entries g l = record {
  on : IsOn l.table.geometry l.directory;
  sound : answered l.directory ≡ None;
  seen : g.G.Image.seen l.image ≡ g.G.Image.seen l.initial.image;
  counts : HaveNotFallen (g.G.Image.faults l.initial.image) (g.G.Image.faults l.image);
  row : IsRow l.upper l.row;
  same : IsTrue (g.G.Image.seen l.initial.image).is_told
      → ordered_behind l.upper l.row (left_of l.table.geometry (g.G.Image.seen l.initial.image).content l.directory)
      ≡ is_ordered l.upper (left_of l.table.geometry (g.G.Image.seen l.initial.image).content l.initial.directory);
}

abbrev pub decreases-entries : goal.decreases-entries
decreases-entries g l = entries_most l.directory.walk
