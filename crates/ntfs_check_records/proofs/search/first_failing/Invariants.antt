use Rattle.std.proofs.Common.{◌≡◌, ◌≤◌, ◌<◌, ◌-◌, ℕ, true}
use Rattle.std.specs.Prelude.{IsTrue, vec_len}
use Rattle.ntfs_base.specs.Bytes.{cluster_at}
use Rattle.ntfs_base.specs.Causes.{HaveNotFallen}
use Rattle.ntfs_check_records.specs.Asked.{asked_at}
use Rattle.ntfs_check_records.proofs.search.first_failing.Given as goal
use Rattle.ntfs_volume.specs.Scan.{initialised_count}

abbrev pub invariant-fills : goal.invariant-fills
invariant-fills g l = record {
  seen : g.G.Image.seen l.image ≡ g.G.Image.seen l.initial.image;
  counts : HaveNotFallen (g.G.Image.faults l.initial.image) (g.G.Image.faults l.image);
  table : l.scan.table ≡ l.table;
  room : vec_len l.buffer ≡ vec_len l.initial.buffer;
  block : vec_len l.block ≡ vec_len l.initial.block;
  there : l.scan.next ≤ initialised_count l.table.geometry l.table.map;
  before : IsTrue (g.G.Image.seen l.initial.image).is_told → g.Q.Question.presumes l.asked l.table (g.G.Image.seen l.initial.image).content → (n : ℕ) → n < l.scan.next
      → asked_at (g.Q.Question.answer l.asked l.table (g.G.Image.seen l.initial.image).content) l.table (cluster_at (g.G.Image.seen l.initial.image).content l.table.geometry.cluster) n ≡ true;
}

abbrev pub decreases-fills : goal.decreases-fills
decreases-fills g l = initialised_count l.table.geometry l.table.map - l.scan.next
