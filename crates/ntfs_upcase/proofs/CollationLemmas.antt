-- How `collate` goes on behind the first units.
use Rattle.std.proofs.Common.{◌≡◌, ℕ, true, false, not, nat_eq, List, [], ◌∷◌, refl, sym, ap, ◌∙◌, slice_index, ◌++◌, ◌≤◌, ◌%◌, length, map, ◌↔◌}
use Rattle.std.proofs.lemmas.List.{map-append}
use Rattle.std.proofs.lemmas.Cmp.{tied_itself, nat_cmp_total, nat_list_cmp_total}
use Rattle.std.specs.Cmp.{IsTotalOrder}
use Rattle.std.specs.Cmp.Lexicographic.{slice_cmp, on_texts}
use Rattle.std.specs.FinMap.{slice_cmp-IsAntisymmetric, nat_cmp-IsAntisymmetric}
use Rattle.ntfs_upcase.proofs.NamesLemmas.{units-first, units-append}
use Rattle.std.specs.declared.cmp.Ordering.{Ordering}
use Rattle.std.specs.declared.cmp.Ordering.TheVariants.{Less, Equal, Greater}
use Rattle.std.specs.Ordering.{nat_cmp, ordering_then, ordering_index}
use Rattle.ntfs_upcase.specs.Names.{units}
use Rattle.ntfs_upcase.specs.Collation.{collate, upper_units}

module _ (table a b : List ℕ) where
  module _ (a_rest b_rest : List ℕ) (x y : ℕ) (a_is : units a ≡ x ∷ units a_rest) (b_is : units b ≡ y ∷ units b_rest) (order : Ordering)
      (is : order ≡ nat_cmp (slice_index table x) (slice_index table y)) where
    -- the first units decide, and else what is behind them
    pub collate-first : collate table a b ≡ ordering_then order (collate table a_rest b_rest)
    unfolding collate upper_units
    collate-first = rw (a_is, b_is, is) refl

  -- a name with a unit comes behind one with none
  pub collate-longer : (a_rest : List ℕ) (x : ℕ) → units a ≡ x ∷ units a_rest → units b ≡ [] → Greater ≡ collate table a b
  unfolding collate upper_units
  collate-longer a_rest x a_is b_is = rw (a_is, b_is) refl

  -- and before it the other way round
  pub collate-shorter : (b_rest : List ℕ) (y : ℕ) → units a ≡ [] → units b ≡ y ∷ units b_rest → Less ≡ collate table a b
  unfolding collate upper_units
  collate-shorter b_rest y a_is b_is = rw (a_is, b_is) refl

  -- names with no unit are the same
  pub collate-empty : units a ≡ [] → units b ≡ [] → Equal ≡ collate table a b
  unfolding collate upper_units
  collate-empty a_is b_is = rw (a_is, b_is) refl

-- an order that isn't `Equal` stands
pub then-decided : (order next : Ordering) → not (nat_eq (ordering_index order) 1) ≡ true → ordering_then order next ≡ order
then-decided Less next differ = refl
then-decided Equal next differ = cc
then-decided Greater next differ = refl

-- behind `Equal` the next one counts
pub then-tied : (order next : Ordering) → not (nat_eq (ordering_index order) 1) ≡ false → ordering_then order next ≡ next
then-tied Less next tied = cc
then-tied Equal next tied = refl
then-tied Greater next tied = cc

-- names are ordered as the texts of their mapped units are
pub collate-total : (table : List ℕ) → IsTotalOrder (collate table)
unfolding collate
collate-total table = on_texts (upper_units table)

-- names that are not told apart have the same units, as the table maps them, and those that have are not
pub collate-equal : (table a b : List ℕ) → (collate table a b ≡ Equal) ↔ (upper_units table a ≡ upper_units table b)
unfolding collate
collate-equal table a b = (
  λ same. slice_cmp-IsAntisymmetric nat_cmp-IsAntisymmetric (upper_units table a) (upper_units table b) same,
  λ mapped. ap (slice_cmp nat_cmp (upper_units table a)) (sym mapped) ∙ tied_itself nat_list_cmp_total (upper_units table a),
)

-- a list comes before one that it begins
before-longer : (xs : List ℕ) (y : ℕ) (ys : List ℕ) → slice_cmp nat_cmp xs (xs ++ y ∷ ys) ≡ Less
before-longer [] y ys = refl
before-longer (x ∷ xs) y ys = rw (tied_itself nat_cmp_total x) (before-longer xs y ys)

-- and a name before one that it begins
pub collate-prefix : (table name more : List ℕ) → length name % 2 ≡ 0 → 2 ≤ length more → collate table name (name ++ more) ≡ Less
unfolding collate upper_units
collate-prefix table name more even long =
    let upper : ℕ → ℕ = λ unit. slice_index table unit in
    let first = units-first more long in
    let parts = ap (map upper) (units-append name more even ∙ ap (λ us. units name ++ us) first) ∙ map-append upper (units name) _ in
    ap (slice_cmp nat_cmp (map upper (units name))) parts ∙ before-longer (map upper (units name)) _ _
