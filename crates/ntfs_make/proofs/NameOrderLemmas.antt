-- The generator's order of names is that of the collation by its own $UpCase.
use Rattle.std.proofs.Common.{◌≡◌, ◌≤◌, ◌<◌, ◌+◌, ◌-◌, ◌==◌, ◌&&◌, ℕ, zero, suc, Bool, true, false, List, [], ◌∷◌, ◌++◌, map, refl, sym, ap, ap₂, ◌∙◌, arith, slice_index, nat_lt, nat_le, cond, if◌then◌else◌}
use Rattle.std.proofs.lemmas.List.FromFn.{get_or-map-range_with_len}
use Rattle.std.proofs.lemmas.Bool.{ltb-true}
use Rattle.std.specs.Cmp.Lexicographic.{slice_cmp}
use Rattle.std.specs.List.{range_with_len, flat_map}
use Rattle.std.specs.Ordering.{nat_cmp, is_lt, is_gt, ordering_then}
use Rattle.std.specs.declared.cmp.Ordering.{Ordering}
use Rattle.std.specs.declared.cmp.Ordering.TheVariants.{Less, Equal, Greater}
use Rattle.byteorder.specs.Endian.{little_bytes}
use Rattle.ntfs_make.specs.NameOrder.{volume_table, AllUnits, first_or}
use Rattle.ntfs_make.specs.RootNames.{comes_before, is_before}
use Rattle.ntfs_make.specs.UpCase.{upper, up_case_bytes}
use Rattle.ntfs_upcase.specs.Collation.{collate, upper_units}
use Rattle.ntfs_upcase.specs.Names.{units, unit_bytes}
use Rattle.ntfs_upcase.proofs.TextLemmas.{units-unit_bytes}

-- ---- the table

upper-letter : (letter : Bool) (unit : ℕ) → unit < 0x1_0000 → (if letter then unit - 0x20 else unit) < 0x1_0000
upper-letter true unit small = omega arith
upper-letter false unit small = small

upper-small : (unit : ℕ) → unit < 0x1_0000 → upper unit < 0x1_0000
unfolding upper
upper-small unit small = upper-letter (nat_le 0x61 unit && nat_le unit 0x7A) unit small

uppers : (first count : ℕ) → first + count ≤ 0x1_0000 → AllUnits (map upper (range_with_len first count))
uppers first zero within = tt
uppers first (suc count) within = (upper-small first (omega arith), uppers (first + 1) count (omega arith))

table-bytes : (us : List ℕ) → flat_map (λ unit. little_bytes 2 (upper unit)) us ≡ unit_bytes (map upper us)
unfolding unit_bytes
table-bytes [] = refl
table-bytes (unit ∷ us) = ap (λ rest. little_bytes 2 (upper unit) ++ rest) (table-bytes us)

table-is : volume_table ≡ map upper (range_with_len 0 0x1_0000)
unfolding volume_table up_case_bytes
table-is = ap units (table-bytes (range_with_len 0 0x1_0000)) ∙ units-unit_bytes (map upper (range_with_len 0 0x1_0000)) (uppers 0 0x1_0000 (omega arith))

entry : (unit : ℕ) → unit < 0x1_0000 → slice_index volume_table unit ≡ upper unit
entry unit small = ap (λ t. slice_index t unit) table-is ∙ get_or-map-range_with_len upper 0 0x1_0000 unit unit 0 small (omega arith)

entries : (us : List ℕ) → AllUnits us → map (λ unit. slice_index volume_table unit) us ≡ map upper us
entries [] are = refl
entries (unit ∷ us) are = ap₂ (λ x xs. x ∷ xs) (entry unit are.0) (entries us are.1)

name-uppers : (us : List ℕ) → AllUnits us → upper_units volume_table (unit_bytes us) ≡ map upper us
unfolding upper_units
name-uppers us are = ap (map (λ unit. slice_index volume_table unit)) (units-unit_bytes us are) ∙ entries us are

-- ---- the order

step-less : (less same tie : Bool) (rest : Ordering) → (less ≡ true → same ≡ false) → tie ≡ is_lt rest
    → (if same then tie else less) ≡ is_lt (ordering_then (cond less Less (cond same Equal Greater)) rest)
step-less true true tie rest apart is = absurd (let no = apart refl in cc)
step-less true false tie rest apart is = refl
step-less false true tie rest apart is = is
step-less false false tie rest apart is = refl

step-greater : (less same back greater tie : Bool) (rest : Ordering) → back ≡ same → (less ≡ true → (same ≡ false) × (greater ≡ false))
    → (less ≡ false → same ≡ false → greater ≡ true) → tie ≡ is_gt rest
    → (if back then tie else greater) ≡ is_gt (ordering_then (cond less Less (cond same Equal Greater)) rest)
step-greater true true back greater tie rest agree apart left is = absurd (let no = (apart refl).0 in cc)
step-greater true false back greater tie rest agree apart left is = rw (agree, (apart refl).1) refl
step-greater false true back greater tie rest agree apart left is = rw (agree) is
step-greater false false back greater tie rest agree apart left is = rw (agree, left refl refl) refl

not-same : (x y : ℕ) → nat_lt x y ≡ true → (x == y) ≡ false
not-same x y less = let l = ltb-true x y less in grind arith

not-greater : (x y : ℕ) → nat_lt x y ≡ true → nat_lt y x ≡ false
not-greater x y less = let l = ltb-true x y less in grind arith

greater : (x y : ℕ) → nat_lt x y ≡ false → (x == y) ≡ false → nat_lt y x ≡ true
greater x y less same = grind arith

same-back : (x y : ℕ) → (y == x) ≡ (x == y)
same-back x y = grind arith

before-less : (xs ys : List ℕ) → comes_before xs ys ≡ is_lt (slice_cmp nat_cmp xs ys)
before-less [] [] = refl
before-less [] (y ∷ ys) = refl
before-less (x ∷ xs) [] = refl
before-less (x ∷ xs) (y ∷ ys) = step-less (nat_lt x y) (x == y) (comes_before xs ys) (slice_cmp nat_cmp xs ys) (not-same x y) (before-less xs ys)

before-greater : (xs ys : List ℕ) → comes_before ys xs ≡ is_gt (slice_cmp nat_cmp xs ys)
before-greater [] [] = refl
before-greater [] (y ∷ ys) = refl
before-greater (x ∷ xs) [] = refl
before-greater (x ∷ xs) (y ∷ ys) = step-greater (nat_lt x y) (x == y) (y == x) (nat_lt y x) (comes_before ys xs) (slice_cmp nat_cmp xs ys) (same-back x y)
    (λ less. (not-same x y less, not-greater x y less)) (greater x y) (before-greater xs ys)

joined : (order : Ordering) (less greater tie : Bool) → less ≡ is_lt order → greater ≡ is_gt order
    → (if less then true else (if greater then false else tie)) ≡ first_or order tie
joined Less less greater tie is_less is_greater = rw is_less refl
joined Equal less greater tie is_less is_greater = rw (is_less, is_greater) refl
joined Greater less greater tie is_less is_greater = rw (is_less, is_greater) refl

pub before-collated : (a b : List ℕ) → AllUnits a → AllUnits b
    → is_before a b ≡ first_or (collate volume_table (unit_bytes a) (unit_bytes b)) (comes_before a b)
unfolding collate
before-collated a b first second =
    joined (slice_cmp nat_cmp (map upper a) (map upper b)) (comes_before (map upper a) (map upper b)) (comes_before (map upper b) (map upper a)) (comes_before a b)
    (before-less (map upper a) (map upper b)) (before-greater (map upper a) (map upper b))
    ∙ ap₂ (λ xs ys. first_or (slice_cmp nat_cmp xs ys) (comes_before a b)) (sym (name-uppers a first)) (sym (name-uppers b second))
