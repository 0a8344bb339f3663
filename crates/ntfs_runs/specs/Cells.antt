-- What a run list says, with a cell for each virtual cluster number (VCN): a hole, or what stands for its cluster.
-- First that is the cluster's number, and then its bytes. The form is ours.
use Rattle.std.specs.Prelude.{◌&&◌, ℕ, Bool, true, List, [], ◌∷◌, map, Option, Some, None, nat_lt, if◌then◌else◌}
use Rattle.std.specs.Option.{option_map}
use Rattle.ntfs_runs.specs.Clusters.{vcns}
use Rattle.ntfs_runs.specs.Reading.{reading}

-- whether the mapping pairs are right, and the cells that they spell; the word is ours
pub record Cells (X : Type 0) : Type 0 where
  pub is_right : Bool
  pub cells : List (Option X)

-- the cells with something else in place of each cluster; the word is ours
abbrev pub map_cells : {X Y : Type 0} → (X → Y) → List (Option X) → List (Option Y)
map_cells f cells = map (option_map f) cells

-- the cells that the bytes of mapping pairs spell, of which wrong pairs have none (the Linux-NTFS documentation, "Data
-- Runs")
unfoldable pub cells_of : List ℕ → Cells ℕ
cells_of pairs = record {
  is_right = (reading pairs).is_right;
  cells = if (reading pairs).is_right then vcns (reading pairs).runs else [];
}

-- a cluster below n, or a hole where there may be one; the word is ours
abbrev pub is_cell : Bool → ℕ → Option ℕ → Bool
is_cell holes n None = holes
is_cell holes n (Some k) = nat_lt k n

-- all cells are clusters below n, or holes where there may be some; the word is ours
unfoldable pub are_cells : Bool → ℕ → List (Option ℕ) → Bool
are_cells holes n [] = true
are_cells holes n (cell ∷ cells) = is_cell holes n cell && are_cells holes n cells

-- what the bytes of mapping pairs spell on a volume of n clusters; the word is ours
unfoldable pub cells_below : ℕ → List ℕ → Cells ℕ
cells_below n pairs = record {
  is_right = (cells_of pairs).is_right && are_cells true n (cells_of pairs).cells;
  cells = (cells_of pairs).cells;
}
