-- What the words of `specs/Fixups` say at one byte, one stride.
use Rattle.std.proofs.Common.{◌≡◌, ◌≢◌, ◌≤◌, ◌<◌, ◌+◌, ◌-◌, ◌*◌, ◌/◌, ◌%◌, ℕ, zero, suc, Bool, true, false, not, List, get_or, slice_index, Some, None, refl, sym, ap, ◌∙◌, arith, inl, inr}
use Rattle.std.specs.List.{find, range_with_len}
use Rattle.std.proofs.lemmas.Bool.Decides.{nat_tests}
use Rattle.std.proofs.lemmas.Bool.{cases_eq, cases_Bool, not-true, not-false}
use Rattle.ntfs_fixup.specs.declared.header.Magic.{Magic}
use Rattle.ntfs_fixup.specs.declared.header.Magic.TheVariants.{File, Indx}
use Rattle.ntfs_base.specs.Bytes.{number_at}
use Rattle.ntfs_fixup.specs.Fixups.{array_offset, array_count, unfix_byte, agrees, first_torn, stride_count, last_word, sequence_number, has_good_array, least_offset, HasRoom, HasFront, KeepsFront, IsFirstTorn, AllAgree, has_magic}

-- the first number from a on that passes is found
pub find-range-some : (p : ℕ → Bool) (a n k : ℕ) → a ≤ k → k < a + n → ((j : ℕ) → a ≤ j → j < k → p j ≡ false)
    → p k ≡ true → find p (range_with_len a n) ≡ Some k
find-range-some p a zero k from within before here = absurd (omega arith)
find-range-some p a (suc n) k from within before here =
    elim (cases_eq a k) [
      | inl same ↦ (let holds : p a ≡ true = ap p same ∙ here in rw (holds, same) refl)
      | inr other ↦ (let fails : p a ≡ false = before a (omega arith) (omega arith) in
          rw fails (find-range-some p (a + 1) n k (omega arith) (omega arith) (λ j l h. before j (omega arith) h) here))
    ]

-- where no number passes, none is found
pub find-range-none : (p : ℕ → Bool) (a n : ℕ) → ((j : ℕ) → a ≤ j → j < a + n → p j ≡ false)
    → find p (range_with_len a n) ≡ None
find-range-none p a zero fails = refl
find-range-none p a (suc n) fails =
    let first : p a ≡ false = fails a (omega arith) (omega arith) in
    rw first (find-range-none p (a + 1) n (λ j l h. fails j (omega arith) (omega arith)))

-- a byte before a stride's last two stays
pub unfix_byte-inside : (block : List ℕ) (p : ℕ) → p % 512 < 510 → unfix_byte block p ≡ slice_index block p
unfolding unfix_byte
unfix_byte-inside block p inside = grind (arith, nat_tests)

-- a byte of a stride's last two is the array's
pub unfix_byte-end : (block : List ℕ) (p : ℕ) → 510 ≤ p % 512
    → unfix_byte block p ≡ slice_index block (array_offset block + 2 * (p / 512 + 1) + (p % 512 - 510))
unfolding unfix_byte
unfix_byte-end block p end = grind (arith, nat_tests)

-- the first byte of the last word of stride k
pub unfix_byte-low : (block : List ℕ) (k : ℕ)
    → unfix_byte block (512 * k + 510) ≡ slice_index block (array_offset block + 2 * (k + 1))
unfolding unfix_byte
unfix_byte-low block k =
    let rest : (512 * k + 510) % 512 ≡ 510 = omega arith in
    let stride : (512 * k + 510) / 512 ≡ k = omega arith in
    rw (rest, stride) (ap (λ p. get_or block p 0) (omega arith))

-- its second byte
pub unfix_byte-high : (block : List ℕ) (k : ℕ)
    → unfix_byte block (512 * k + 511) ≡ slice_index block (array_offset block + 2 * (k + 1) + 1)
unfolding unfix_byte
unfix_byte-high block k =
    let rest : (512 * k + 511) % 512 ≡ 511 = omega arith in
    let stride : (512 * k + 511) / 512 ≡ k = omega arith in
    rw (rest, stride) refl

-- what a good array is
pub record IsGoodArray (least : ℕ) (block : List ℕ) : Type 0 where
  pub counts : array_count block ≡ 1 + stride_count block
  pub even : array_offset block % 2 ≡ 0
  pub behind : least ≤ array_offset block
  pub room : array_offset block + 2 * array_count block ≤ 510

-- an array that passes is good
pub good_array : (magic : Magic) (block : List ℕ) → has_good_array magic block ≡ true
    → IsGoodArray (least_offset magic) block
unfolding has_good_array
good_array magic block good = record {
  counts = grind (arith, nat_tests);
  even = grind (arith, nat_tests);
  behind = grind (arith, nat_tests);
  room = grind (arith, nat_tests);
}

-- a good array has room
pub good_room : (magic : Magic) (block : List ℕ) → has_good_array magic block ≡ true → HasRoom block
unfolding least_offset
good_room magic block good =
    let so = good_array magic block good in
    let least : 0x28 ≤ least_offset magic =
    elim magic as (λ m. 0x28 ≤ least_offset m) [ File ↦ omega arith | Indx ↦ omega arith ] in
    let counts : array_count block ≡ 1 + stride_count block = so.counts in
    let ends : array_offset block + 2 * array_count block ≤ 510 = so.room in
    record { behind = omega (arith, so.behind); ends = omega arith }

-- a good array passes
pub has_good_array-good : (magic : Magic) (block : List ℕ) → IsGoodArray (least_offset magic) block
    → has_good_array magic block ≡ true
unfolding has_good_array
has_good_array-good magic block good =
    let counts : array_count block ≡ 1 + stride_count block = good.counts in
    let even : array_offset block % 2 ≡ 0 = good.even in
    let behind : least_offset magic ≤ array_offset block = good.behind in
    let room : array_offset block + 2 * array_count block ≤ 510 = good.room in
    grind (arith, nat_tests)

-- a stride that ends with the number
pub agrees-same : (block : List ℕ) (k : ℕ) → last_word block k ≡ sequence_number block → agrees block k ≡ true
unfolding agrees
agrees-same block k same = grind (arith, nat_tests)

-- a stride that ends with another word
pub agrees-other : (block : List ℕ) (k : ℕ) → last_word block k ≢ sequence_number block → agrees block k ≡ false
unfolding agrees
agrees-other block k other = grind (arith, nat_tests)

-- the first stride that doesn't agree is the first torn one
pub first_torn-some : (block : List ℕ) (k : ℕ) → k < stride_count block → ((j : ℕ) → j < k → agrees block j ≡ true)
    → agrees block k ≡ false → first_torn block ≡ Some k
unfolding first_torn
first_torn-some block k within before here =
    find-range-some (λ j. not (agrees block j)) 0 (stride_count block) k (omega arith) (omega arith)
    (λ j _ l. ap not (before j l)) (ap not here)

-- where all strides agree, none is torn
pub first_torn-none : (block : List ℕ) → ((j : ℕ) → j < stride_count block → agrees block j ≡ true)
    → first_torn block ≡ None
unfolding first_torn
first_torn-none block all =
    find-range-none (λ j. not (agrees block j)) 0 (stride_count block) (λ j _ l. ap not (all j (omega arith)))

-- a stride that passes ends with the number
pub agrees-true : (block : List ℕ) (k : ℕ) → agrees block k ≡ true → last_word block k ≡ sequence_number block
unfolding agrees
agrees-true block k passes = grind (arith, nat_tests)

-- a stride that doesn't pass ends with another word
pub agrees-false : (block : List ℕ) (k : ℕ) → agrees block k ≡ false → last_word block k ≢ sequence_number block
unfolding agrees
agrees-false block k fails = grind (arith, nat_tests)

-- what a search over numbers from a on has found
pub record IsFound (p : ℕ → Bool) (a n k : ℕ) : Type 0 where
  pub from : a ≤ k
  pub within : k < a + n
  pub here : p k ≡ true
  pub before : (j : ℕ) → a ≤ j → j < k → p j ≡ false

pub find-range-found : (p : ℕ → Bool) (a n k : ℕ) → find p (range_with_len a n) ≡ Some k → IsFound p a n k
find-range-found p a zero k is = cc
find-range-found p a (suc n) k is =
    elim (cases_Bool (p a)) [
      | inl passes ↦ (let first : Some a ≡ Some k = rw passes at is in let same : a ≡ k = cc in
          record {
            from = omega arith;
            within = omega arith;
            here = ap p (sym same) ∙ passes;
            before = λ j l h. absurd
                (omega arith);
          })
      | inr fails ↦ (let later : find p (range_with_len (a + 1) n) ≡ Some k = rw fails at is in
          let so = find-range-found p (a + 1) n k later in
          let from : a + 1 ≤ k = so.from in
          let within : k < a + 1 + n = so.within in
          record {
            from = omega arith;
            within = omega arith;
            here = so.here;
            before = λ j l h. elim (cases_eq a j) [
              | inl same ↦ ap p (sym same) ∙ fails
              | inr other ↦ so.before j (omega arith) h
            ];
          })
    ]

pub find-range-nowhere : (p : ℕ → Bool) (a n : ℕ) → find p (range_with_len a n) ≡ None → (j : ℕ) → a ≤ j → j < a + n
    → p j ≡ false
find-range-nowhere p a zero is j l h = absurd (omega arith)
find-range-nowhere p a (suc n) is j l h =
    elim (cases_Bool (p a)) [
      | inl passes ↦ (let first : Some a ≡ None = rw passes at is in cc)
      | inr fails ↦ (let later : find p (range_with_len (a + 1) n) ≡ None = rw fails at is in
          elim (cases_eq a j) [
            | inl same ↦ ap p (sym same) ∙ fails
            | inr other ↦ find-range-nowhere p (a + 1) n later j (omega arith) (omega arith)
          ])
    ]

-- the first torn stride is one
pub IsFirstTorn-first_torn : (block : List ℕ) (k : ℕ) → first_torn block ≡ Some k → IsFirstTorn block k
unfolding first_torn
IsFirstTorn-first_torn block k is =
    let so = find-range-found (λ j. not (agrees block j)) 0 (stride_count block) k is in
    let within : k < 0 + stride_count block = so.within in
    record {
      within = omega arith;
      differs = agrees-false block k (not-true _ so.here);
      before = λ j l. agrees-true block j (not-false _ (so.before j (omega arith) l));
    }

-- where none is torn, all agree
pub AllAgree-first_torn : (block : List ℕ) → first_torn block ≡ None → AllAgree block
unfolding first_torn
AllAgree-first_torn block is k within =
    agrees-true block k
    (not-false _
    (find-range-nowhere (λ j. not (agrees block j)) 0 (stride_count block) is k (omega arith) (omega arith)))

-- a first torn stride is the first torn one
pub first_torn-IsFirstTorn : (block : List ℕ) (k : ℕ) → IsFirstTorn block k → first_torn block ≡ Some k
first_torn-IsFirstTorn block k so =
    first_torn-some block k so.within (λ j l. agrees-same block j (so.before j l)) (agrees-other block k so.differs)

-- where all agree, none is torn
pub first_torn-AllAgree : (block : List ℕ) → AllAgree block → first_torn block ≡ None
first_torn-AllAgree block all = first_torn-none block (λ j within. agrees-same block j (all j within))

-- two places with the same bytes hold the same number
pub number_at-same : (n p q : ℕ) (a b : List ℕ) → ((i : ℕ) → i < n → get_or a (p + i) 0 ≡ get_or b (q + i) 0)
    → number_at n p a ≡ number_at n q b
unfolding number_at
number_at-same zero p q a b same = refl
number_at-same (suc n) p q a b same =
    let first : get_or a p 0 ≡ get_or b q 0 =
    ap (λ k. get_or a k 0) (omega arith) ∙ same 0 (omega arith) ∙ ap (λ k. get_or b k 0) (omega arith) in
    let rest = number_at-same n (suc p) (suc q) a b
    (λ i l. ap (λ k. get_or a k 0) (omega arith) ∙ same (i + 1) (omega arith) ∙ ap (λ k. get_or b k 0) (omega arith)) in
    rw (first, rest) refl

-- the offset and the count as numbers at their places
pub offset_number : (block : List ℕ) → array_offset block ≡ number_at 2 0x04 block
unfolding array_offset
offset_number block = refl

pub count_number : (block : List ℕ) → array_count block ≡ number_at 2 0x06 block
unfolding array_count
count_number block = refl

-- a number before the array stays
pub number-kept : (n place : ℕ) (old new : List ℕ) → KeepsFront old new → place + n ≤ array_offset old
    → number_at n place new ≡ number_at n place old
number-kept n place old new kept within =
    number_at-same n place place new old (λ i l. kept.front (place + i) (omega arith))

pub array_offset-kept : (old new : List ℕ) → KeepsFront old new → HasRoom old → array_offset new ≡ array_offset old
array_offset-kept old new kept room =
    let behind : 0x28 ≤ array_offset old = room.behind in
    offset_number new ∙ number-kept 2 0x04 old new kept (omega arith) ∙ sym (offset_number old)

pub array_count-kept : (old new : List ℕ) → KeepsFront old new → HasRoom old → array_count new ≡ array_count old
array_count-kept old new kept room =
    let behind : 0x28 ≤ array_offset old = room.behind in
    count_number new ∙ number-kept 2 0x06 old new kept (omega arith) ∙ sym (count_number old)

pub has_magic-kept : (magic : Magic) (old new : List ℕ) → KeepsFront old new → HasRoom old
    → has_magic magic new ≡ has_magic magic old
unfolding has_magic
has_magic-kept magic old new kept room =
    let behind : 0x28 ≤ array_offset old = room.behind in
    let same : number_at 4 0 new ≡ number_at 4 0 old = number-kept 4 0 old new kept (omega arith) in
    rw same refl

pub has_good_array-kept : (magic : Magic) (old new : List ℕ) → KeepsFront old new → HasRoom old
    → has_good_array magic new ≡ has_good_array magic old
unfolding has_good_array
has_good_array-kept magic old new kept room =
    let offset = array_offset-kept old new kept room in
    let count = array_count-kept old new kept room in
    let long = kept.long in
    rw (offset, count, long) refl

-- the front stays with its bytes
pub HasFront-kept : (magic : Magic) (old new : List ℕ) → KeepsFront old new → HasFront magic old → HasFront magic new
HasFront-kept magic old new kept front =
    let room = good_room magic old front.array in
    record {
      begins = has_magic-kept magic old new kept room ∙ front.begins;
      array = has_good_array-kept magic old new kept room ∙ front.array;
    }
