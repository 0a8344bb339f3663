use Rattle.std.proofs.Common.{◌≡◌, ◌≤◌, ◌-◌}
use Rattle.std.specs.Prelude.{IsTrue, vec_len}
use Rattle.ntfs_base.specs.Bytes.{cluster_at}
use Rattle.ntfs_base.specs.Causes.{HaveNotFallen}
use Rattle.ntfs_check_files.specs.Extending.{HasTaken}
use Rattle.ntfs_check_files.proofs.collect.collect_extensions.Given as goal
use Rattle.ntfs_survey.specs.Surveying.{record_at}
use Rattle.ntfs_volume.specs.Scan.{initialised_count}

abbrev pub invariant-fills : goal.invariant-fills
invariant-fills g l = record {
  seen : g.G.Image.seen l.image ≡ g.G.Image.seen l.initial.image;
  counts : HaveNotFallen (g.G.Image.faults l.initial.image) (g.G.Image.faults l.image);
  table : l.scan.table ≡ l.table;
  room : vec_len l.buffer ≡ vec_len l.initial.buffer;
  block : vec_len l.block ≡ vec_len l.initial.block;
  there : l.scan.next ≤ initialised_count l.table.geometry l.table.map;
  taken : IsTrue (g.G.Image.seen l.initial.image).is_told
      → HasTaken (record_at l.table (cluster_at (g.G.Image.seen l.initial.image).content l.table.geometry.cluster)) 0 l.scan.next l.initial.extensions l.extensions;
}

abbrev pub decreases-fills : goal.decreases-fills
decreases-fills g l = initialised_count l.table.geometry l.table.map - l.scan.next
