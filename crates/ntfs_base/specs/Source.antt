-- What contracts see of a source of bytes. The words are ours.
use Rattle.std.specs.Prelude.{◌≡◌, ◌≤◌, ◌<◌, ◌+◌, ◌↔◌, ℕ, Bool, List, length, take, drop, if◌then◌else◌}

pub record SourceState : Type 0 where
  -- whether the bytes are told
  pub is_told : Bool
  -- all its bytes, where they are told
  pub bytes : List ℕ
  -- how many of them it has given
  pub given : ℕ
  -- its name, as an image has it
  pub name : List ℕ

-- the source after it has given n further bytes
abbrev pub after_take : ℕ → SourceState → SourceState
after_take n source = record source { given = if source.is_told then source.given + n else source.given }

-- the n bytes at the front of a buffer are the next ones, and there are none only at the end
pub record GivesNext (source : SourceState) (n : ℕ) (buffer : List ℕ) : Type 0 where
  pub within : source.given + n ≤ length source.bytes
  pub bytes : take n buffer ≡ take n (drop source.given source.bytes)
  pub end : 0 < length buffer → (n ≡ 0) ↔ (source.given ≡ length source.bytes)
