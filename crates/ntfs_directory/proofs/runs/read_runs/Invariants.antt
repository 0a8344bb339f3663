use Rattle.std.proofs.Common.{◌≡◌, ◌≤◌, ◌-◌, take, drop, length}
use Rattle.std.specs.Prelude.{IsTrue}
use Rattle.ntfs_base.specs.Causes.{HaveNotFallen}
use Rattle.ntfs_directory.specs.Runs.{placed_bytes}
use Rattle.ntfs_directory.proofs.runs.read_runs.Given as goal

abbrev pub invariant-pieces : goal.invariant-pieces
invariant-pieces g l = record {
  done : l.done ≤ length l.into;
  long : length l.into ≡ length l.initial.into;
  seen : g.G.Image.seen l.image ≡ g.G.Image.seen l.initial.image;
  counts : HaveNotFallen (g.G.Image.faults l.initial.image) (g.G.Image.faults l.image);
  bytes : IsTrue (g.G.Image.seen l.initial.image).is_told
      → take l.done l.into ≡ take l.done (drop l.place (placed_bytes l.geometry (g.G.Image.seen l.initial.image).content l.stream));
}

abbrev pub decreases-pieces : goal.decreases-pieces
decreases-pieces g l = length l.into - l.done
