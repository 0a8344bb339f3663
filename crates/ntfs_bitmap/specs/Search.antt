-- What a search for the least number gives. The words are ours.
use Rattle.std.specs.Prelude.{◌<◌, ℕ, Option, Some, None}

-- the least number of which a property holds
pub record IsLeast (P : ℕ → Type 0) (least : ℕ) : Type 0 where
  pub holds : P least
  pub none_below : (n : ℕ) → n < least → P n → ⊥

-- the answer is the least number of which a property holds, and none exactly where there is no such number
abbrev pub FindsLeast : (ℕ → Type 0) → Option ℕ → Type 0
FindsLeast P (Some n) = IsLeast P n
FindsLeast P None = (n : ℕ) → P n → ⊥
