-- Answers that a definition gives, and their expected value in other words.
use Rattle.std.proofs.Common.{◌≡◌, List, ℕ, sym, subst, Result, Ok, Err}
use Rattle.ntfs_base.specs.Frames.{Origin, IsSettled, Puts}
use Rattle.ntfs_base.specs.Sink.{SinkState}

pub puts_by : {E : Type 0} (origin : E → Origin) (a b : Result (List ℕ) E) (old : SinkState) (result : Result (Unit {0}) E) (new : SinkState) → a ≡ b → Puts origin b old result new → Puts origin a old result new
puts_by {E = E} origin a b old result new is = subst (λ (e : Result (List ℕ) E). Puts origin e old result new) (sym is)

-- the value of an answer
pub given : {T E : Type 0} (x y : T) → ◌≡◌ {A = Result T E} (Ok x) (Ok y) → y ≡ x
given x y is = cc

-- a refusal where there is a value to give cuts the work off
pub never : {T E : Type 0} (origin : E → Origin) (x : T) (fault : E) → (IsSettled (origin fault) → ◌≡◌ {A = Result T E} (Ok x) (Err fault)) → IsSettled (origin fault) → ⊥
never origin x fault is settled = let same = is settled in cc

pub never-puts : {E : Type 0} (origin : E → Origin) (bytes : List ℕ) (old new : SinkState) (fault : E) → Puts origin (Ok bytes) old (Err fault) new → IsSettled (origin fault) → ⊥
never-puts origin bytes old new fault puts settled = let same = puts.answer settled in cc
