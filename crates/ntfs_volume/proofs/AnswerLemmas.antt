-- Answers that a definition gives, and their expected value in other words.
use Rattle.std.proofs.Common.{◌≡◌, sym, subst, Option, Some, None, Result, Ok, Err, Bool, true, false, ◌&&◌, refl}
use Rattle.std.specs.Option.{ok_or}
use Rattle.std.proofs.lemmas.Bool.{false≢true}
use Rattle.ntfs_base.specs.Frames.{Origin, IsSettled, Gives, must, ◌>>=◌}

pub gives_by : {T U E : Type 0} (origin : E → Origin) (view : T → U) (a b : Result U E) (result : Result T E) → a ≡ b
    → Gives origin view b result → Gives origin view a result
gives_by {U = U} {E = E} origin view a b result is = subst (λ (e : Result U E). Gives origin view e result) (sym is)

-- the value of an answer
pub given : {T E : Type 0} (x y : T) → ◌≡◌ {A = Result T E} (Ok x) (Ok y) → y ≡ x
given x y is = cc

-- a refusal where there is a value to give cuts the work off
pub never : {T E : Type 0} (origin : E → Origin) (x : T) (fault : E)
    → (IsSettled (origin fault) → ◌≡◌ {A = Result T E} (Ok x) (Err fault)) → IsSettled (origin fault) → ⊥
never origin x fault is settled = let same = is settled in cc

pub and-left : (a b : Bool) → (a && b) ≡ true → a ≡ true
and-left true b is = refl
and-left false b is = is

pub and-right : (a b : Bool) → (a && b) ≡ true → b ≡ true
and-right true b is = is
and-right false b is = absurd (false≢true is)

-- ---- the parts of a chain that gives a value

pub bind-ok : {A B E : Type 0} (r : Result A E) (k : A → Result B E) (x : B) → (r >>= k) ≡ Ok x → (a : A) × (r ≡ Ok a) × (k a ≡ Ok x)
bind-ok (Ok a) k x is = (a, refl, is)
bind-ok (Err e) k x is = absurd cc

-- a test, and what stands behind it
pub must-parts : {A E : Type 0} (b : Bool) (fault : E) (rest : Result A E) (x : A) → (must b fault >>= (λ _. rest)) ≡ Ok x → (b ≡ true) × (rest ≡ Ok x)
must-parts true fault rest x is = (refl, is)
must-parts false fault rest x is = absurd cc

-- a value that must be there, and what stands behind it
pub some-parts : {A B E : Type 0} (o : Option A) (fault : E) (k : A → Result B E) (x : B) → (ok_or o fault >>= k) ≡ Ok x → (a : A) × (o ≡ Some a) × (k a ≡ Ok x)
some-parts (Some a) fault k x is = (a, refl, is)
some-parts None fault k x is = absurd cc
