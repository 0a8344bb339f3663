use Rattle.std.proofs.Common.{◌≡◌, ◌≤◌, ◌<◌, ◌-◌, ℕ, true, IsTrue}
use Rattle.ntfs_base.specs.Causes.{HaveNotFallen}
use Rattle.ntfs_base.specs.Frames.{IfTold}
use Rattle.ntfs_bitmap.specs.ClusterSet.{Clusters, has}
use Rattle.ntfs_clone.specs.CloneOf.{volume_of}
use Rattle.ntfs_clone.specs.Copying.{copied_up_to}
use Rattle.ntfs_clone.specs.Writing.{IsSameFile}
use Rattle.ntfs_clone.proofs.copying.copy_rows.Given as goal

abbrev pub invariant-rows : goal.invariant-rows
invariant-rows g l = record {
  least : l.from ≤ l.at;
  most : l.at ≤ l.end;
  seen : g.G.Image.seen l.image ≡ g.G.Image.seen l.initial.image;
  counts : HaveNotFallen (g.G.Image.faults l.initial.image) (g.G.Image.faults l.image);
  writes : HaveNotFallen (g.F.Image.faults l.initial.target) (g.F.Image.faults l.target);
  same : IsSameFile (g.F.Image.seen l.initial.target) (g.F.Image.seen l.target);
  copied : (owned : Clusters) → ((k : ℕ) → l.from ≤ k → k < l.end → has owned k ≡ true) → IfTold g.G.Image l.initial.image (λ content.
      IsTrue (g.F.Image.seen l.initial.target).is_told → (g.F.Image.seen l.initial.target).content ≡ copied_up_to (volume_of l.geometry owned content) l.from
      → (g.F.Image.seen l.target).content ≡ copied_up_to (volume_of l.geometry owned content) l.at);
}

abbrev pub decreases-rows : goal.decreases-rows
decreases-rows g l = l.end - l.at
