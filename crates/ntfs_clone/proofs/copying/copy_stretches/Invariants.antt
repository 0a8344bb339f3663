use Rattle.std.proofs.Common.{◌≡◌, ◌≤◌, ◌-◌, IsTrue}
use Rattle.ntfs_base.specs.Causes.{HaveNotFallen}
use Rattle.ntfs_base.specs.Frames.{IfTold}
use Rattle.ntfs_clone.specs.CloneOf.{volume_of}
use Rattle.ntfs_clone.specs.Copying.{copied_up_to}
use Rattle.ntfs_clone.specs.Writing.{IsSameFile}
use Rattle.ntfs_clone.proofs.copying.copy_stretches.Given as goal

abbrev pub invariant-stretches : goal.invariant-stretches
invariant-stretches g l = record {
  most : l.from ≤ l.geometry.clusters;
  seen : g.G.Image.seen l.image ≡ g.G.Image.seen l.initial.image;
  counts : HaveNotFallen (g.G.Image.faults l.initial.image) (g.G.Image.faults l.image);
  writes : HaveNotFallen (g.F.Image.faults l.initial.target) (g.F.Image.faults l.target);
  same : IsSameFile (g.F.Image.seen l.initial.target) (g.F.Image.seen l.target);
  copied : IfTold g.G.Image l.initial.image (λ content. IsTrue (g.F.Image.seen l.initial.target).is_told
      → (g.F.Image.seen l.initial.target).content ≡ copied_up_to (volume_of l.geometry l.owned content) 0
      → (g.F.Image.seen l.target).content ≡ copied_up_to (volume_of l.geometry l.owned content) l.from);
}

abbrev pub decreases-stretches : goal.decreases-stretches
decreases-stretches g l = l.geometry.clusters - l.from
