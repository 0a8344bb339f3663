use Rattle.std.proofs.Common.{◌≡◌, ◌<◌, ◌^◌, ℕ, drop, max}
use Rattle.std.specs.Prelude.{All}
use Rattle.std.specs.List.{flat_map}
use Rattle.ntfs_check_fixed.specs.Facts.{owned_end}
use Rattle.ntfs_survey.specs.Owned.{LiesBelow, owner_claims}
use Rattle.ntfs_check_fixed.proofs.known.owned_end.Given as goal

abbrev pub invariant-owners : goal.invariant-owners
invariant-owners l = (n : ℕ) → n < 2 ^ 63 → All (LiesBelow n) l.owners
    → owned_end l.number (flat_map owner_claims l.owners) ≡ max l.end (owned_end l.number (flat_map owner_claims (drop l.owner-index l.owners)))
