-- VCNs among those that were met, and lists in which none stands twice.
use Rattle.std.proofs.Common.{◌≡◌, ℕ, true, false, ◌||◌, ◌==◌, List, [], ◌∷◌, ◌++◌, refl, sym, ◌∙◌}
use Rattle.std.proofs.lemmas.Bool.{or_parts, or_from, or_left, or_right, eq-eqb, eqb-false, ne_eqb}
use Rattle.std.proofs.lemmas.List.Folds.{list_any-append}
use Rattle.ntfs_index.specs.Walk.{is_met}
use Rattle.ntfs_index.specs.Tree.{AreDistinct}

pub is_met-append : (vcn : ℕ) (front rest : List ℕ) → is_met vcn (front ++ rest) ≡ (is_met vcn front || is_met vcn rest)
is_met-append vcn front rest = list_any-append (λ m. vcn == m) front rest

-- one that was met stays so
pub is_met-more : (v vcn : ℕ) (met : List ℕ) → is_met v met ≡ true → is_met v (met ++ vcn ∷ []) ≡ true
is_met-more v vcn met is = is_met-append v met (vcn ∷ []) ∙ or_left (is_met v met) (is_met v (vcn ∷ [])) is

-- the last one is met
pub is_met-last : (vcn : ℕ) (met : List ℕ) → is_met vcn (met ++ vcn ∷ []) ≡ true
is_met-last vcn met =
    is_met-append vcn met (vcn ∷ [])
    ∙ or_right (is_met vcn met) (is_met vcn (vcn ∷ [])) (or_left (vcn == vcn) false (eq-eqb vcn vcn refl))

-- what follows a first one that doesn't stand among the others has none of it
pub is_met-apart : (v vcn : ℕ) (rest : List ℕ) → is_met v (vcn ∷ rest) ≡ false → is_met vcn (v ∷ []) ≡ false
is_met-apart v vcn rest not =
    or_from (vcn == v) false (ne_eqb vcn v (λ same. eqb-false v vcn ((or_parts (v == vcn) (is_met v rest) not).0)
    (sym same))) refl

-- none stands twice where a new one is added
pub AreDistinct-more : (vcn : ℕ) (met : List ℕ) → AreDistinct met → is_met vcn met ≡ false
    → AreDistinct (met ++ vcn ∷ [])
AreDistinct-more vcn [] distinct not = (refl, tt)
AreDistinct-more vcn (m ∷ met) distinct not = (
  is_met-append m met (vcn ∷ []) ∙ or_from (is_met m met) (is_met m (vcn ∷ [])) distinct.0 (is_met-apart vcn m met not),
  AreDistinct-more vcn met distinct.1 (or_parts (vcn == m) (is_met vcn met) not).1,
)

-- nor in a front
pub AreDistinct-front : (front rest : List ℕ) → AreDistinct (front ++ rest) → AreDistinct front
AreDistinct-front [] rest distinct = tt
AreDistinct-front (m ∷ front) rest distinct = (
  (or_parts (is_met m front) (is_met m rest) (sym (is_met-append m front rest) ∙ distinct.0)).0,
  AreDistinct-front front rest distinct.1,
)

-- one in the middle doesn't stand before
pub AreDistinct-middle : (vcn : ℕ) (front rest : List ℕ) → AreDistinct (front ++ vcn ∷ rest) → is_met vcn front ≡ false
AreDistinct-middle vcn [] rest distinct = refl
AreDistinct-middle vcn (m ∷ front) rest distinct =
    let apart =
    or_parts (is_met m front) (is_met m (vcn ∷ rest)) (sym (is_met-append m front (vcn ∷ rest)) ∙ distinct.0) in
    or_from (vcn == m) (is_met vcn front)
    ((or_parts (vcn == m) false (is_met-apart m vcn rest apart.1)).0)
    (AreDistinct-middle vcn front rest distinct.1)
