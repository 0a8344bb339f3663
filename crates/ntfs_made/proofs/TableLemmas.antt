-- The table plans each area once, and the bad cluster once.
use Rattle.std.proofs.Common.{◌≡◌, ◌+◌, ℕ, arith}
use Rattle.std.specs.List.{flat_map}
use Rattle.ntfs_make.specs.Rows.{file_rows, kind_rows, rows, spare_rows, system_rows}
use Rattle.ntfs_made.proofs.ClaimLemmas.{all_sum, row_runs}
use Rattle.ntfs_made.proofs.CountLemmas.{sum_below}

pub each-area : (area : ℕ → ℕ) (bad : ℕ) → all_sum area bad (flat_map row_runs rows) ≡ sum_below area 29 + bad
unfolding file_rows kind_rows spare_rows system_rows
each-area area bad = omega arith
