-- The first record of which what is asked doesn't hold.
use Rattle.std.proofs.Common.{◌≡◌, ◌≤◌, ◌<◌, ◌+◌, ◌-◌, ◌*◌, ◌/◌, ◌^◌, inl, inr, ℕ, zero, suc, Bool, true, false, List, Option, Some, None, Result, min, take, drop, refl, sym, ap, ◌∙◌, subst, arith, length, if◌then◌else◌}
use Rattle.std.proofs.lemmas.Nat.{le-div}
use Rattle.std.specs.Prelude.{is_some}
use Rattle.std.proofs.lemmas.Bool.{cases_eq, cases_lt}
use Rattle.ntfs_base.proofs.BytesLemmas.{raw_of-within}
use Rattle.ntfs_base.specs.Bytes.{raw_of}
use Rattle.ntfs_check_records.specs.Asked.{FindsFailing, IsFirstFailing, RecordTest, SearchesFailing, asked_at, first_refused, passes_asked}
use Rattle.ntfs_record.specs.Slots.{Slot, first_not}
use Rattle.ntfs_rules.specs.declared.fault.CheckFault.{CheckFault}
use Rattle.ntfs_survey.specs.Surveying.{record_at}
use Rattle.ntfs_volume.specs.Located.{slots_from, slots_of}
use Rattle.ntfs_volume.specs.Opened.{Opened}
use Rattle.ntfs_volume.specs.Records.{raw_record}
use Rattle.ntfs_volume.specs.Scan.{HoldRecords, Scanning, initialised_count, taken_count}

if-yes : {A : Type 0} (b : Bool) (x y : A) → b ≡ true → (if b then x else y) ≡ x
if-yes b x y is = rw is refl

if-no : {A : Type 0} (b : Bool) (x y : A) → b ≡ false → (if b then x else y) ≡ y
if-no b x y is = rw is refl

-- ---- of records that a function gives

none-failing : {P : Type 0} (test : ℕ → Slot P → Bool) (slot : ℕ → Slot P) (from count : ℕ) → ((n : ℕ) → from ≤ n → n < from + count → test n (slot n) ≡ true)
    → first_not test from (slots_from slot from count) ≡ None
unfolding slots_from
none-failing test slot from zero all = refl
none-failing test slot from (suc count) all =
    if-yes (test from (slot from)) (first_not test (suc from) (slots_from slot (suc from) count)) (Some from) (all from (omega arith) (omega arith))
    ∙ none-failing test slot (suc from) count (λ n above below. all n (omega (arith, above)) (omega (arith, below)))

first-failing : {P : Type 0} (test : ℕ → Slot P → Bool) (slot : ℕ → Slot P) (from count found : ℕ) → from ≤ found → found < from + count → test found (slot found) ≡ false
    → ((n : ℕ) → from ≤ n → n < found → test n (slot n) ≡ true) → first_not test from (slots_from slot from count) ≡ Some found
unfolding slots_from
first-failing test slot from zero found above below fails before = absurd (omega (arith, above, below))
first-failing test slot from (suc count) found above below fails before =
    elim (cases_eq from found) [
      | inl same ↦
          if-no (test from (slot from)) (first_not test (suc from) (slots_from slot (suc from) count)) (Some from) (ap (λ n. test n (slot n)) same ∙ fails)
          ∙ ap Some same
      | inr other ↦
          if-yes (test from (slot from)) (first_not test (suc from) (slots_from slot (suc from) count)) (Some from) (before from (omega arith) (omega (arith, above, other)))
          ∙ first-failing test slot (suc from) count found (omega (arith, above, other)) (omega (arith, below)) fails (λ n from_n below_n. before n (omega (arith, from_n)) below_n)
    ]

-- ---- of the records of a volume

pub none-refused : (o : Opened) (f : ℕ → List ℕ) (answer : RecordTest) (next : ℕ) → initialised_count o.geometry o.map ≤ next → ((n : ℕ) → n < next → asked_at answer o f n ≡ true)
    → first_refused answer o f ≡ None
unfolding slots_of
none-refused o f answer next past all =
    none-failing (passes_asked answer) (record_at o f) 0 (initialised_count o.geometry o.map) (λ n above below. all n (omega (arith, below, past)))

pub first-refused : (o : Opened) (f : ℕ → List ℕ) (answer : RecordTest) (found next count : ℕ) → next + count ≤ initialised_count o.geometry o.map
    → ((n : ℕ) → n < next → asked_at answer o f n ≡ true) → FindsFailing (asked_at answer o f) next (next + count) (Some found)
    → first_refused answer o f ≡ Some found
unfolding slots_of
first-refused o f answer found next count there all is =
    first-failing (passes_asked answer) (record_at o f) 0 (initialised_count o.geometry o.map) found (omega arith) (omega (arith, is.below, there)) is.fails
    (λ n above below. elim (cases_lt n next) [
      | inl before ↦ all n before
      | inr from ↦ is.before n from below
    ])

-- so many more passed
pub more-passed : (o : Opened) (f : ℕ → List ℕ) (answer : RecordTest) (next count after : ℕ) → after ≡ next + count
    → ((n : ℕ) → n < next → asked_at answer o f n ≡ true) → FindsFailing (asked_at answer o f) next (next + count) None
    → (n : ℕ) → n < after → asked_at answer o f n ≡ true
more-passed o f answer next count after is all found n below = elim (cases_lt n next) [
  | inl before ↦ all n before
  | inr from ↦ found n from (omega (arith, below, is))
]

-- ---- of the records in a buffer

held-at : (index count size len : ℕ) → index < count → count * size ≤ len → index * size + size ≤ len
held-at index count size len lt held = let all = rows index count size lt in omega (arith, all, held)
  where
    rows : (i n m : ℕ) → i < n → i * m + m ≤ n * m
    rows i n m lt = grind arith

-- the record that was copied out of the buffer
pub copied-is : (o : Opened) (f : ℕ → List ℕ) (first count index size : ℕ) (raws copied : List ℕ) → size ≡ o.geometry.record_size → index < count → count * size ≤ length raws
    → copied ≡ take (index * size + size - index * size) (drop (index * size) raws) → HoldRecords o.geometry o.map f first count raws
    → raw_record o.geometry o.map f (first + index) ≡ Some copied
copied-is o f first count index size raws copied same lt held is holds =
    let long : index * size + size - index * size ≡ size = omega arith in
    sym (holds index lt)
    ∙ ap (λ k. raw_of k raws index) (sym same)
    ∙ raw_of-within size index raws (held-at index count size (length raws) lt held)
    ∙ ap Some (ap (λ k. take k (drop (index * size) raws)) (sym long) ∙ sym is)

-- the record at an index doesn't pass
pub found-at : (test : ℕ → Bool) (first index count : ℕ) (passed : Bool) → index < count → ((n : ℕ) → first ≤ n → n < first + index → test n ≡ true) → passed ≡ test (first + index) → passed ≡ false
    → IsFirstFailing test first (first + count) (first + index)
found-at test first index count passed lt before same fails = record {
  reached = omega arith;
  below = omega (arith, lt);
  fails = sym same ∙ fails;
  before = before;
}

-- and where it passes, one more does
pub passed-at : (test : ℕ → Bool) (first index : ℕ) (passed : Bool) → ((n : ℕ) → first ≤ n → n < first + index → test n ≡ true) → passed ≡ test (first + index) → passed ≡ true
    → (n : ℕ) → first ≤ n → n < first + (index + 1) → test n ≡ true
passed-at test first index passed before same passes n above below = elim (cases_lt n (first + index)) [
  | inl front ↦ before n above front
  | inr at ↦ let last : n ≡ first + index = omega (arith, below, at) in ap test last ∙ sym same ∙ passes
]

-- ---- a turn of the loop over fills

-- what was found in a buffer that a scan filled
pub found-filled : (test : ℕ → Bool) (next number count taken : ℕ) (result : Result (Option ℕ) CheckFault) → number ≡ next → count ≡ taken
    → SearchesFailing test number (number + count) result → SearchesFailing test next (next + taken) result
found-filled test next number count taken result number_is count_is is =
    let placed = subst (λ (k : ℕ). SearchesFailing test k (k + count) result) number_is is in
    subst (λ (k : ℕ). SearchesFailing test next (next + k) result) count_is placed

pub some-refused : (o : Opened) (f : ℕ → List ℕ) (answer : RecordTest) (found : Option ℕ) (next count : ℕ) → next + count ≤ initialised_count o.geometry o.map → is_some found ≡ true
    → ((n : ℕ) → n < next → asked_at answer o f n ≡ true) → FindsFailing (asked_at answer o f) next (next + count) found → found ≡ first_refused answer o f
some-refused o f answer None next count there some all is = absurd cc
some-refused o f answer (Some found) next count there some all is = sym (first-refused o f answer found next count there all is)

pub passed-more : (o : Opened) (f : ℕ → List ℕ) (answer : RecordTest) (found : Option ℕ) (next count after : ℕ) → is_some found ≡ false → after ≡ next + count
    → ((n : ℕ) → n < next → asked_at answer o f n ≡ true) → FindsFailing (asked_at answer o f) next (next + count) found → (n : ℕ) → n < after → asked_at answer o f n ≡ true
passed-more o f answer (Some found) next count after none is all found_is = absurd cc
passed-more o f answer None next count after none is all found_is = more-passed o f answer next count after is all found_is

room-some : (m size len : ℕ) → len ≡ suc m * size → size ≤ len
room-some m size len is = omega (arith, is)

room-least : (m size len : ℕ) → 0 < m → len ≡ m * size → 1 * size ≤ len
room-least zero size len some is = absurd (omega (arith, some))
room-least (suc m) size len some is = omega (arith, room-some m size len is)

count-some : (all next size len : ℕ) → 1024 ≤ size → size ≤ 4096 → len ≡ min all (2 ^ 20 / size) * size → next < all → 0 < min (len / size) (all - next)
count-some all next size len least most is lt =
    let fits : 1 * size ≤ 2 ^ 20 = omega (arith, most) in
    let many = le-div 1 (2 ^ 20) size (omega (arith, least)) fits in
    let room = le-div 1 len size (omega (arith, least)) (room-least (min all (2 ^ 20 / size)) size len (omega (arith, many, lt)) is) in
    omega (arith, room, lt)

abbrev taken_by : ℕ → Opened → ℕ → ℕ
taken_by room o next = min (room / o.geometry.record_size) (initialised_count o.geometry o.map - next)

pub scan-fits : (o : Opened) (s : Scanning) (room : ℕ) → s.table ≡ o → s.next ≤ initialised_count o.geometry o.map → s.next + taken_count s room ≤ initialised_count o.geometry o.map
scan-fits o s room is there =
    let count : taken_count s room ≡ taken_by room o s.next = ap (λ (t : Opened). taken_by room t s.next) is in
    omega (arith, count, there)

pub scan-some : (o : Opened) (s : Scanning) (room all size : ℕ) → s.table ≡ o → 1024 ≤ size → size ≤ 4096 → size ≡ o.geometry.record_size → all ≡ initialised_count o.geometry o.map
    → room ≡ min all (2 ^ 20 / size) * size → s.next < all → 0 < taken_count s room
scan-some o s room all size is least most size_is all_is room_is lt =
    let count : taken_count s room ≡ min (room / size) (all - s.next) =
    ap (λ (t : Opened). taken_by room t s.next) is ∙ ap (λ k. min (room / k) (initialised_count o.geometry o.map - s.next)) (sym size_is) ∙ ap (λ n. min (room / size) (n - s.next)) (sym all_is) in
    omega (arith, count, count-some all s.next size room least most room_is lt)
