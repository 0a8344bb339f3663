use Rattle.std.proofs.Common.{◌≡◌, None}
use Rattle.std.specs.Prelude.{IsTrue}
use Rattle.ntfs_base.specs.Causes.{HaveNotFallen}
use Rattle.ntfs_directory.specs.Paths.{named_in}
use Rattle.ntfs_directory.specs.State.{IsOn, answered, left_of}
use Rattle.ntfs_directory.proofs.PathLemmas.{named_with}
use Rattle.ntfs_index.specs.State.{entries_most}
use Rattle.ntfs_directory.proofs.search.find_name.Given as goal

abbrev pub invariant-entries : goal.invariant-entries
invariant-entries g l = record {
  on : IsOn l.table.geometry l.directory;
  sound : answered l.directory ≡ None;
  seen : g.G.Image.seen l.image ≡ g.G.Image.seen l.initial.image;
  counts : HaveNotFallen (g.G.Image.faults l.initial.image) (g.G.Image.faults l.image);
  same : IsTrue (g.G.Image.seen l.initial.image).is_told
      → named_with l.upper l.name l.like (left_of l.table.geometry (g.G.Image.seen l.initial.image).content l.directory)
      ≡ named_in l.upper l.name (left_of l.table.geometry (g.G.Image.seen l.initial.image).content l.initial.directory);
}

abbrev pub decreases-entries : goal.decreases-entries
decreases-entries g l = entries_most l.directory.walk
