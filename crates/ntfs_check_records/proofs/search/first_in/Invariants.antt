use Rattle.std.proofs.Common.{◌≡◌, ◌≤◌, ◌<◌, ◌+◌, ◌-◌, ℕ, length, true}
use Rattle.std.specs.Prelude.{IsTrue}
use Rattle.ntfs_base.specs.Bytes.{cluster_at}
use Rattle.ntfs_base.specs.Causes.{HaveNotFallen}
use Rattle.ntfs_check_records.specs.Asked.{asked_at}
use Rattle.ntfs_check_records.proofs.search.first_in.Given as goal
use Rattle.ntfs_volume.specs.Scan.{HoldRecords}

abbrev pub invariant-records : goal.invariant-records
invariant-records g l = record {
  seen : g.G.Image.seen l.image ≡ g.G.Image.seen l.initial.image;
  counts : HaveNotFallen (g.G.Image.faults l.initial.image) (g.G.Image.faults l.image);
  long : length l.block ≡ length l.initial.block;
  most : l.index ≤ l.count;
  before : IsTrue (g.G.Image.seen l.initial.image).is_told → g.Q.Question.presumes l.asked l.table (g.G.Image.seen l.initial.image).content
      → HoldRecords l.table.geometry l.table.map (cluster_at (g.G.Image.seen l.initial.image).content l.table.geometry.cluster) l.number l.count l.raws
      → (n : ℕ) → l.number ≤ n → n < l.number + l.index → asked_at (g.Q.Question.answer l.asked l.table (g.G.Image.seen l.initial.image).content) l.table (cluster_at (g.G.Image.seen l.initial.image).content l.table.geometry.cluster) n ≡ true;
}

abbrev pub decreases-records : goal.decreases-records
decreases-records g l = l.count - l.index
