use Rattle.std.proofs.Common.{◌≡◌, None, length}
use Rattle.std.specs.Prelude.{IsTrue}
use Rattle.ntfs_base.specs.Causes.{HaveNotFallen}
use Rattle.ntfs_check_directories.proofs.leads.all_rest_lead.Given as goal
use Rattle.ntfs_check_directories.specs.Names.{all_lead}
use Rattle.ntfs_directory.specs.State.{IsOn, answered, left_of}
use Rattle.ntfs_index.specs.State.{entries_most}

abbrev pub invariant-entries : goal.invariant-entries
invariant-entries g l = record {
  on : IsOn l.table.geometry l.directory;
  sound : answered l.directory ≡ None;
  seen : g.G.Image.seen l.image ≡ g.G.Image.seen l.initial.image;
  counts : HaveNotFallen (g.G.Image.faults l.initial.image) (g.G.Image.faults l.image);
  block : length l.block ≡ l.table.geometry.record_size;
  same : IsTrue (g.G.Image.seen l.initial.image).is_told
      → all_lead l.table (g.G.Image.seen l.initial.image).content l.number l.sequence (left_of l.table.geometry (g.G.Image.seen l.initial.image).content l.directory)
      ≡ all_lead l.table (g.G.Image.seen l.initial.image).content l.number l.sequence (left_of l.table.geometry (g.G.Image.seen l.initial.image).content l.initial.directory);
}

abbrev pub decreases-entries : goal.decreases-entries
decreases-entries g l = entries_most l.directory.walk
