-- What is put of a stream, run by run and row by row. The words are ours.
use Rattle.std.specs.Prelude.{◌≡◌, ◌-◌, ◌*◌, ◌/◌, ℕ, List, [], ◌∷◌, ◌++◌, length, take, min, replicate, Option, Some, None}
use Rattle.std.specs.Int.{div_ceil}
use Rattle.ntfs_base.specs.Sink.{SinkState, after_put}
use Rattle.ntfs_stream.specs.declared.row.Remaining.{Remaining}
use Rattle.ntfs_volume.specs.StreamBytes.{cell_bytes, cells_bytes}

-- a cell as it is shown, where so many bytes from its first on are initialised
abbrev pub shown_cell : ℕ → ℕ → Option (List ℕ) → List ℕ
shown_cell c valid cell = take valid (cell_bytes c cell) ++ replicate (c - valid) 0

-- what the cells show of a stream of which so many bytes, and so many initialised ones, are left
unfoldable pub pieces : ℕ → ℕ → ℕ → List (Option (List ℕ)) → List ℕ
pieces c size valid [] = []
pieces c size valid (cell ∷ cells) =
    take (min size c) (shown_cell c valid cell) ++ pieces c (size - c) (valid - c) cells

-- cells as they are shown, where so many bytes from the first one's first on are initialised
unfoldable pub shown_cells : ℕ → ℕ → List (Option (List ℕ)) → List ℕ
shown_cells c valid cells = take valid (cells_bytes c cells) ++ replicate (length cells * c - valid) 0

-- how many of so many clusters are read at once, where so many bytes of the stream remain: as many as hold these bytes,
-- and as the buffer has room for
unfoldable pub row_length : ℕ → ℕ → ℕ → ℕ → ℕ
row_length c size room clusters = min clusters (min (room / c) (div_ceil size c))

-- a row that begins with this cell has no initialised bytes: it is a hole, or no byte from its first on is initialised
abbrev pub HasNoBytes : Option ℕ → ℕ → Type 0
HasNoBytes None valid = Unit {0}
HasNoBytes (Some k) valid = valid ≡ 0

-- of all bytes the rest is left, and those before it were put
pub record IsLeft (all rest : List ℕ) (old now : SinkState) : Type 0 where
  pub so_far : List ℕ
  pub parts : all ≡ so_far ++ rest
  pub put : now ≡ after_put so_far old

-- what is left behind so many clusters of c bytes
pub record IsLeftBehind (c clusters : ℕ) (old new : Remaining) : Type 0 where
  pub size : new.size ≡ old.size - clusters * c
  pub valid : new.valid ≡ old.valid - clusters * c
