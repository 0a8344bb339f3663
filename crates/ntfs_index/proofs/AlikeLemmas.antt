-- A walk shows the same over the same blocks met, in whatever order they are kept.
use Rattle.std.proofs.Common.{◌≡◌, ◌-◌, ℕ, zero, suc, Bool, true, false, cond, ltb, not, ◌==◌, ◌||◌, List, [], ◌∷◌, ◌++◌, length, Ok, Err, Result, if◌then◌else◌, refl, sym, ap, ◌∙◌, arith, inl, inr}
use Rattle.std.specs.List.{list_any}
use Rattle.std.specs.Ordering.{nat_cmp, is_eq}
use Rattle.std.specs.declared.cmp.Ordering.TheVariants.{Less, Equal, Greater}
use Rattle.std.specs.BTreeMap.{is_at}
use Rattle.std.proofs.lemmas.Bool.{cases_Bool, cond_both, eq-eqb, eqb-false, eqb-true, ltb-true, ne_eqb, not-false, not-true}
use Rattle.ntfs_index.specs.Blocks.{BlockMap}
use Rattle.ntfs_index.specs.Node.{Visit, Child, Own, Damage, visits, block_node}
use Rattle.ntfs_index.specs.Walk.{Walked, Gave, Whole, Broke, listing, and_then, is_met, walk_visits, walk_node, walk_child}
use Rattle.ntfs_index.specs.Path.{SameMet, left_above, left_of_nodes}
use Rattle.ntfs_index.specs.declared.fault.IndexFault.{IndexFault}
use Rattle.ntfs_index.specs.declared.fault.IndexFault.TheVariants.{BadNode}
use Rattle.ntfs_index.proofs.MetLemmas.{is_met-append}

-- ---- the keys of a set

nat_cmp-is_eq : (x y : ℕ) → is_eq (nat_cmp x y) ≡ (x == y)
nat_cmp-is_eq x y =
    cond_both (ltb x y) Less (cond (x == y) Equal Greater) (λ r. is_eq r ≡ (x == y))
    (λ less. sym (ne_eqb x y (λ same. absurd (omega (arith, ltb-true x y less, same)))))
    (λ other. cond_both (x == y) Equal Greater (λ r. is_eq r ≡ (x == y)) (λ same. sym same) (λ apart. sym apart))

-- a set has the VCNs that are met in the list of its keys
pub contains-is_met : (vcn : ℕ) (keys : List ℕ) → list_any (is_at (nat_cmp vcn)) keys ≡ is_met vcn keys
contains-is_met vcn [] = refl
contains-is_met vcn (key ∷ keys) = let first = nat_cmp-is_eq vcn key in let rest = contains-is_met vcn keys in
    rw (first, rest) refl

-- one that was added anew, and one that was there
pub insert-new : (vcn : ℕ) (keys : List ℕ) (added : Bool) → added ≡ not (list_any (is_at (nat_cmp vcn)) keys)
    → added ≡ true → is_met vcn keys ≡ false
insert-new vcn keys added is new = sym (contains-is_met vcn keys)
    ∙ not-true (list_any (is_at (nat_cmp vcn)) keys) (sym is ∙ new)

pub insert-twice : (vcn : ℕ) (keys : List ℕ) (added : Bool) → added ≡ not (list_any (is_at (nat_cmp vcn)) keys)
    → added ≡ false → is_met vcn keys ≡ true
insert-twice vcn keys added is twice = sym (contains-is_met vcn keys)
    ∙ not-false (list_any (is_at (nat_cmp vcn)) keys) (sym is ∙ twice)

eqb-sym : (x y : ℕ) → (x == y) ≡ (y == x)
eqb-sym x y = elim (cases_Bool (x == y)) [
  | inl same ↦ same ∙ sym (eq-eqb y x (sym (eqb-true x y same)))
  | inr apart ↦ apart ∙ sym (ne_eqb y x (λ same. eqb-false x y apart (sym same)))
]

or-cond : (met last : Bool) → (met || (last || false)) ≡ cond last true met
or-cond true true = refl
or-cond true false = refl
or-cond false true = refl
or-cond false false = refl

-- a set to which one was added has met it last
pub insert-met : (vcn : ℕ) (old new : List ℕ)
    → ((v : ℕ)
    → list_any (is_at (nat_cmp v)) new ≡ cond (is_at (nat_cmp vcn) v) true (list_any (is_at (nat_cmp v)) old))
    → SameMet (old ++ vcn ∷ []) new
insert-met vcn old new updates = record {
  alike = λ v.
      let all = is_met-append v old (vcn ∷ []) in
      let turned = ap (λ last. is_met v old || (last || false)) (eqb-sym v vcn) ∙ or-cond (is_met v old) (vcn == v) in
      let inside = ap (λ last. cond last true (is_met v old)) (sym (nat_cmp-is_eq vcn v)) in
      let was = ap (λ met. cond (is_at (nat_cmp vcn) v) true met) (sym (contains-is_met v old)) in
      all ∙ turned ∙ inside ∙ was ∙ sym (updates v) ∙ contains-is_met v new;
}

pub SameMet-refl : (met : List ℕ) → SameMet met met
SameMet-refl met = record { alike = λ vcn. refl }

SameMet-more : (vcn : ℕ) (a b : List ℕ) → SameMet a b → SameMet (a ++ vcn ∷ []) (b ++ vcn ∷ [])
SameMet-more vcn a b same =
    record {
      alike = λ v. is_met-append v a (vcn ∷ []) ∙ ap (λ is. is || is_met v (vcn ∷ [])) (same.alike v)
          ∙ sym (is_met-append v b (vcn ∷ []));
    }

-- ---- two walks that show the same, and have met the same where they are whole

abbrev pub AreAlike : Walked → Walked → Type 0
AreAlike (Gave e v) (Gave f w) = (e ≡ f) × AreAlike v w
AreAlike (Gave e v) (Whole b) = ⊥
AreAlike (Gave e v) (Broke b g) = ⊥
AreAlike (Whole a) (Gave f w) = ⊥
AreAlike (Whole a) (Whole b) = SameMet a b
AreAlike (Whole a) (Broke b g) = ⊥
AreAlike (Broke a f) (Gave g w) = ⊥
AreAlike (Broke a f) (Whole b) = ⊥
AreAlike (Broke a f) (Broke b g) = f ≡ g

pub listing-alike : (v w : Walked) → AreAlike v w → listing v ≡ listing w
listing-alike (Gave e v) (Gave f w) alike = let first = alike.0 in let rest = listing-alike v w alike.1 in
    rw (first, rest) refl
listing-alike (Gave e v) (Whole b) alike = absurd alike
listing-alike (Gave e v) (Broke b g) alike = absurd alike
listing-alike (Whole a) (Gave f w) alike = absurd alike
listing-alike (Whole a) (Whole b) alike = refl
listing-alike (Whole a) (Broke b g) alike = absurd alike
listing-alike (Broke a f) (Gave g w) alike = absurd alike
listing-alike (Broke a f) (Whole b) alike = absurd alike
listing-alike (Broke a f) (Broke b g) alike = rw alike refl

-- from the same blocks met on, they go on alike
abbrev GoAlike : (List ℕ → Walked) → Type 0
GoAlike f = (a b : List ℕ) → SameMet a b → AreAlike (f a) (f b)

and_then-alike : (v w : Walked) (next : List ℕ → Walked) → GoAlike next → AreAlike v w
    → AreAlike (and_then v next) (and_then w next)
and_then-alike (Gave e v) (Gave f w) next go alike = (alike.0, and_then-alike v w next go alike.1)
and_then-alike (Gave e v) (Whole b) next go alike = absurd alike
and_then-alike (Gave e v) (Broke b g) next go alike = absurd alike
and_then-alike (Whole a) (Gave f w) next go alike = absurd alike
and_then-alike (Whole a) (Whole b) next go alike = go a b alike
and_then-alike (Whole a) (Broke b g) next go alike = absurd alike
and_then-alike (Broke a f) (Gave g w) next go alike = absurd alike
and_then-alike (Broke a f) (Whole b) next go alike = absurd alike
and_then-alike (Broke a f) (Broke b g) next go alike = alike

visits-alike : (enter : List ℕ → ℕ → Walked) → ((vcn : ℕ) → GoAlike (λ met. enter met vcn)) → (visits : List Visit)
    → GoAlike (walk_visits enter visits)
visits-alike enter go [] a b same = same
visits-alike enter go (Child vcn ∷ rest) a b same =
    and_then-alike (enter a vcn) (enter b vcn) (walk_visits enter rest) (visits-alike enter go rest) (go vcn a b same)
visits-alike enter go (Own entry ∷ rest) a b same = (refl, visits-alike enter go rest a b same)
visits-alike enter go (Damage fault ∷ rest) a b same = refl

node-alike : (enter : List ℕ → ℕ → Walked) → ((vcn : ℕ) → GoAlike (λ met. enter met vcn))
    → (vcn : ℕ) (node : Result (List ℕ) IndexFault) → GoAlike (λ met. walk_node enter vcn met node)
node-alike enter go vcn (Ok entries) a b same = visits-alike enter go (visits vcn 0 entries) a b same
node-alike enter go vcn (Err fault) a b same = refl

entered-alike : (s t : Bool) → s ≡ t → (fault : IndexFault) (a b : List ℕ) (v w : Walked) → AreAlike v w
    → AreAlike (if s then Broke a fault else v) (if t then Broke b fault else w)
entered-alike true true same fault a b v w alike = refl
entered-alike true false same fault a b v w alike = cc
entered-alike false true same fault a b v w alike = cc
entered-alike false false same fault a b v w alike = alike

child-alike : (blocks : BlockMap) (levels vcn : ℕ) → GoAlike (λ met. walk_child blocks levels met vcn)
child-alike blocks zero vcn a b same = refl
child-alike blocks (suc levels) vcn a b same =
    entered-alike (is_met vcn a) (is_met vcn b) (same.alike vcn) (BadNode vcn 6) a b
    (walk_node (walk_child blocks levels) vcn (a ++ vcn ∷ []) (block_node blocks vcn))
    (walk_node (walk_child blocks levels) vcn (b ++ vcn ∷ []) (block_node blocks vcn))
    (node-alike (walk_child blocks levels) (child-alike blocks levels) vcn (block_node blocks vcn) (a ++ vcn ∷ [])
    (b ++ vcn ∷ []) (SameMet-more vcn a b same))

above-alike : (blocks : BlockMap) (levels : ℕ) (above : List (List Visit)) → GoAlike (left_above blocks levels above)
above-alike blocks levels [] a b same = same
above-alike blocks levels (node ∷ above) a b same =
    and_then-alike (left_above blocks (levels - 1) above a) (left_above blocks (levels - 1) above b)
    (walk_visits (walk_child blocks levels) node)
    (visits-alike (walk_child blocks levels) (child-alike blocks levels) node)
    (above-alike blocks (levels - 1) above a b same)

-- what is left of nodes shows the same over the same blocks met
pub nodes-alike : (blocks : BlockMap) (present : List Visit) (above : List (List Visit)) (a b : List ℕ) → SameMet a b
    → listing (left_of_nodes blocks present above a) ≡ listing (left_of_nodes blocks present above b)
nodes-alike blocks present above a b same =
    listing-alike (left_of_nodes blocks present above a) (left_of_nodes blocks present above b)
    (and_then-alike (walk_visits (walk_child blocks (15 - length above)) present a)
    (walk_visits (walk_child blocks (15 - length above)) present b) (left_above blocks 15 above)
    (above-alike blocks 15 above) (visits-alike (walk_child blocks (15 - length above))
    (child-alike blocks (15 - length above)) present a b same))
