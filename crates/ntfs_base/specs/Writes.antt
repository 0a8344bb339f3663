-- Writes in place: what a content is after a list of them, and what a call that writes promises. The words are ours.
use Rattle.std.specs.Prelude.{◌≡◌, ◌≤◌, ◌+◌, ◌-◌, ◌⊎◌, ◌&&◌, ℕ, Bool, List, [], ◌∷◌, length, take, slice_index, nat_le, nat_lt, OnOk, OnErr, Result, if◌then◌else◌}
use Rattle.ntfs_base.specs.Bytes.{overwrite}
use Rattle.ntfs_base.specs.Image.{ImageState}

-- bytes that are put at a place
pub record Write : Type 0 where
  pub place : ℕ
  pub bytes : List ℕ

-- the content after all writes, in their order
abbrev pub content_after : List Write → List ℕ → List ℕ
content_after [] content = content
content_after (w ∷ ws) content = content_after ws (overwrite w.place w.bytes content)

-- the image as it is after the writes: all but its content as before
unfoldable pub after_writes : List Write → ImageState → ImageState
after_writes ws image =
    record image { content = if image.is_told then content_after ws image.content else image.content }

-- a call that had to make these writes made all of them, or, where it failed, those of a front
pub record Wrote {T E : Type 0} (ws : List Write) (old : ImageState) (result : Result T E) (new : ImageState)
    : Type 0 where
  pub whole : OnOk result (new ≡ after_writes ws old)
  pub part : OnErr result ((k : ℕ) × (k ≤ length ws) × (new ≡ after_writes (take k ws) old))

-- whether a write has the byte at a place
abbrev pub has_byte : Write → ℕ → Bool
has_byte w place = nat_le w.place place && nat_lt (place - w.place) (length w.bytes)

-- the byte at a place: that of the last write that has it, and otherwise the given one
abbrev pub byte_from : List Write → ℕ → ℕ → ℕ
byte_from [] place byte = byte
byte_from (w ∷ ws) place byte =
    byte_from ws place (if has_byte w place then slice_index w.bytes (place - w.place) else byte)

-- two writes of which one ends before the other begins
abbrev pub IsApart : Write → Write → Type 0
IsApart one other = (one.place + length one.bytes ≤ other.place) ⊎ (other.place + length other.bytes ≤ one.place)

-- a write and writes of which none shares a byte with it
abbrev pub IsApartFrom : Write → List Write → Type 0
IsApartFrom one [] = Unit {0}
IsApartFrom one (other ∷ others) = IsApart one other × IsApartFrom one others

-- writes of which no two share a byte
abbrev pub AreApart : List Write → Type 0
AreApart [] = Unit {0}
AreApart (w ∷ ws) = IsApartFrom w ws × AreApart ws
