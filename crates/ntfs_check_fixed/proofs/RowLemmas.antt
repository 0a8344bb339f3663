-- What a row says of a stream.
use Rattle.std.proofs.Common.{◌≡◌, ap, sym, refl, ℕ, Bool, true, false, [], Some, None, if◌then◌else◌, List, ◌∙◌, Option}
use Rattle.ntfs_check_fixed.specs.Facts.{HasNoValue}
use Rattle.ntfs_check_fixed.specs.Rows.{HasNoClusters}
use Rattle.ntfs_rules.specs.FixedRecords.{are_in_place}
use Rattle.ntfs_runs.specs.Cells.{are_cells}
use Rattle.ntfs_runs.specs.Clusters.{vcns}
use Rattle.ntfs_volume.specs.Streams.{Stream}

pub resident-none : (s : Stream ℕ) → None ≡ (if s.is_resident then None else Some s.cells) → true ≡ s.is_resident
resident-none s is = go s.is_resident is
  where
    go : (b : Bool) → None ≡ (if b then None else Some s.cells) → true ≡ b
    go true is = refl
    go false is = absurd cc

pub cells-none : (s : Stream ℕ) → HasNoClusters s → None ≡ (if s.is_resident then None else Some s.cells) → vcns [] ≡ s.cells
unfolding vcns
cells-none s none is = sym (none (sym (resident-none s is)))

pub none-in-place : (s : Stream ℕ) → HasNoClusters s → None ≡ (if s.is_resident then None else Some s.cells) → true ≡ are_in_place 0 s.cells
unfolding are_in_place
none-in-place s none is = sym (ap (are_in_place 0) (none (sym (resident-none s is))))

pub no-runs : vcns [] ≡ []
unfolding vcns
no-runs = refl

pub no-runs-below : (n : ℕ) → are_cells true n (vcns []) ≡ true
unfolding vcns are_cells
no-runs-below n = refl

pub some-below : (s : Stream ℕ) (cells : List (Option ℕ)) (n : ℕ) → Some cells ≡ (if s.is_resident then None else Some s.cells) → are_cells true n s.cells ≡ true → are_cells true n cells ≡ true
some-below s cells n is are = go s.is_resident is
  where
    go : (b : Bool) → Some cells ≡ (if b then None else Some s.cells) → are_cells true n cells ≡ true
    go true is = absurd cc
    go false is = let same : cells ≡ s.cells = cc in ap (are_cells true n) same ∙ are

pub value-none : (s : Stream ℕ) → HasNoValue s → None ≡ (if s.is_resident then Some s.value else None) → [] ≡ s.value
value-none s none is = go s.is_resident refl is
  where
    go : (b : Bool) → s.is_resident ≡ b → None ≡ (if b then Some s.value else None) → [] ≡ s.value
    go true same is = absurd cc
    go false same is = sym (none same)
