-- What contracts see of an image: its bytes where it tells them, and what no call of `Image` changes. The words are
-- ours.
use Rattle.std.specs.Prelude.{◌≡◌, ℕ, Bool, List, length, IsTrue}

pub record ImageState : Type 0 where
  -- whether the content is told
  pub is_told : Bool
  -- the bytes, where they are told
  pub content : List ℕ
  -- the length in bytes, which is always told
  pub size : ℕ
  -- the name under which a shelf handed it out; empty where it comes from no shelf
  pub name : List ℕ
  -- the content of the image below, of an image that stands over another one; elsewhere empty
  pub lower : List ℕ

-- content that is told has the told length
abbrev pub HasToldSize : ImageState → Type 0
HasToldSize image = IsTrue image.is_told → length image.content ≡ image.size
