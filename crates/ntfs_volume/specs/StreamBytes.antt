-- The bytes of a stream's clusters: zeros in holes and from the initialised size on (the Linux-NTFS documentation,
-- "Data Runs" and "Attribute Header"; the words are ours).
use Rattle.std.specs.Prelude.{◌-◌, ◌*◌, ◌&&◌, ℕ, Bool, List, [], ◌∷◌, ◌++◌, take, replicate, Option, Some, None, nat_le}

-- the bytes of a cell; a hole has c zeros
abbrev pub cell_bytes : ℕ → Option (List ℕ) → List ℕ
cell_bytes c None = replicate c 0
cell_bytes c (Some bytes) = bytes

-- the bytes of cells in a row
unfoldable pub cells_bytes : ℕ → List (Option (List ℕ)) → List ℕ
cells_bytes c [] = []
cells_bytes c (cell ∷ cells) = cell_bytes c cell ++ cells_bytes c cells

-- of an initialised size that isn't above the size: the initialised bytes, and then zeros
unfoldable pub runs_bytes : ℕ → ℕ → ℕ → List (Option (List ℕ)) → List ℕ
runs_bytes c size valid cells = take valid (cells_bytes c cells) ++ replicate (size - valid) 0

-- the sizes fit so many VCNs of c bytes
abbrev pub have_room : ℕ → ℕ → ℕ → ℕ → Bool
have_room c vcns size valid = nat_le size (vcns * c) && nat_le valid size

-- the clusters of cells that aren't holes
unfoldable pub clusters_in : List (Option ℕ) → List ℕ
clusters_in [] = []
clusters_in (None ∷ cells) = clusters_in cells
clusters_in (Some k ∷ cells) = k ∷ clusters_in cells
