-- Walks one after another.
use Rattle.std.proofs.Common.{◌≡◌, ℕ, List, [], ◌∷◌, ◌++◌, refl, ap}
use Rattle.ntfs_index.specs.Node.{IndexEntry}
use Rattle.ntfs_index.specs.Walk.{Walked, Gave, Whole, Broke, and_then}

pub and_then-assoc : (walked : Walked) (f g : List ℕ → Walked)
    → and_then (and_then walked f) g ≡ and_then walked (λ met. and_then (f met) g)
and_then-assoc (Gave entry rest) f g = ap (Gave entry) (and_then-assoc rest f g)
and_then-assoc (Whole met) f g = refl
and_then-assoc (Broke met fault) f g = refl

-- one that meets nothing more changes nothing
pub and_then-whole : (walked : Walked) → and_then walked Whole ≡ walked
and_then-whole (Gave entry rest) = ap (Gave entry) (and_then-whole rest)
and_then-whole (Whole met) = refl
and_then-whole (Broke met fault) = refl

-- two that go on alike
pub and_then-same : (walked : Walked) (f g : List ℕ → Walked) → ((met : List ℕ) → f met ≡ g met)
    → and_then walked f ≡ and_then walked g
and_then-same (Gave entry rest) f g same = ap (Gave entry) (and_then-same rest f g same)
and_then-same (Whole met) f g same = same met
and_then-same (Broke met fault) f g same = refl

-- these entries, and then the walk
abbrev pub gave_all : List IndexEntry → Walked → Walked
gave_all [] walked = walked
gave_all (entry ∷ entries) walked = Gave entry (gave_all entries walked)

pub gave_all-append : (front rest : List IndexEntry) (walked : Walked)
    → gave_all (front ++ rest) walked ≡ gave_all front (gave_all rest walked)
gave_all-append [] rest walked = refl
gave_all-append (entry ∷ front) rest walked = ap (Gave entry) (gave_all-append front rest walked)

pub gave_all-then : (entries : List IndexEntry) (met : List ℕ) (next : List ℕ → Walked)
    → and_then (gave_all entries (Whole met)) next ≡ gave_all entries (next met)
gave_all-then [] met next = refl
gave_all-then (entry ∷ entries) met next = ap (Gave entry) (gave_all-then entries met next)
