-- What standard error has been given. The words are ours.
use Rattle.std.specs.Prelude.{◌≡◌, ◌-◌, ℕ, List, Option, Some, length, slice_get}
use Rattle.std.specs.Io.KnownBytes.{append_known}
use Rattle.arrayvec.specs.ArrayVec.{ArrayVec}

-- the last byte is a line feed
abbrev pub EndsLine : List ℕ → Type 0
EndsLine bytes = slice_get bytes (length bytes - 1) ≡ Some 10

-- what a writer holds, where that is known, and then what waits
abbrev pub line_so_far : Option (List ℕ) → ArrayVec ℕ → Option (List ℕ)
line_so_far known waiting = append_known known waiting.items
