-- `refix_of` byte by byte, its number and its strides.
use Rattle.std.proofs.Common.{◌≡◌, ◌≤◌, ◌<◌, ◌+◌, ◌-◌, ◌*◌, ◌/◌, ◌%◌, ℕ, true, List, length, get_or, set, refl, sym, ap, ◌∙◌, arith, inl, inr, ◌⊎◌}
use Rattle.std.specs.Int.{byte_at}
use Rattle.std.proofs.lemmas.Bool.{cases_eq, cases_lt}
use Rattle.std.proofs.lemmas.Bool.Decides.{nat_tests}
use Rattle.std.proofs.lemmas.List.{get_or_past}
use Rattle.std.proofs.lemmas.List.FromFn.{length-map-range_with_len, get_or-map-range_with_len, fill_by_all}
use Rattle.ntfs_fixup.specs.declared.header.Magic.TheVariants.{Indx}
use Rattle.ntfs_fixup.specs.Fixups.{HasWholeStrides, HasRoom, IsOutsideArray, has_good_array, array_offset, array_count, stride_count, sequence_number, next_number, next_byte, last_byte, refix_byte, refix_of}
use Rattle.ntfs_fixup.proofs.FixupLemmas.{good_room, good_array}
use Rattle.ntfs_fixup.proofs.StepLemmas.{two-low, two-high, two-other}

-- ---- one byte

-- a stride's end
pub refix_byte-end : (block : List ℕ) (p : ℕ) → 510 ≤ p % 512 → refix_byte block p ≡ next_byte block (p % 512 - 510)
unfolding refix_byte
refix_byte-end block p end = grind (arith, nat_tests)

-- before the array
pub refix_byte-before : (block : List ℕ) (p : ℕ) → p % 512 < 510 → p < array_offset block
    → refix_byte block p ≡ get_or block p 0
unfolding refix_byte
refix_byte-before block p inside before = grind (arith, nat_tests)

-- the array's first word
pub refix_byte-number : (block : List ℕ) (p : ℕ) → p % 512 < 510 → array_offset block ≤ p → p < array_offset block + 2
    → refix_byte block p ≡ next_byte block (p - array_offset block)
unfolding refix_byte
refix_byte-number block p inside from within = grind (arith, nat_tests)

-- the array's further words
pub refix_byte-saved : (block : List ℕ) (p : ℕ) → p % 512 < 510 → array_offset block + 2 ≤ p
    → p < array_offset block + 2 * array_count block
    → refix_byte block p ≡ last_byte block (p - (array_offset block + 2))
unfolding refix_byte
refix_byte-saved block p inside from within = grind (arith, nat_tests)

-- behind the array
pub refix_byte-behind : (block : List ℕ) (p : ℕ) → p % 512 < 510 → array_offset block + 2 ≤ p
    → array_offset block + 2 * array_count block ≤ p
    → refix_byte block p ≡ get_or block p 0
unfolding refix_byte
refix_byte-behind block p inside from behind = grind (arith, nat_tests)

-- byte i of the last word of stride k
pub last_byte-at : (block : List ℕ) (k i : ℕ) → i < 2 → last_byte block (2 * k + i) ≡ get_or block (512 * k + 510 + i) 0
unfolding last_byte
last_byte-at block k i byte =
    let stride : (2 * k + i) / 2 ≡ k = omega arith in
    let rest : (2 * k + i) % 2 ≡ i = omega arith in
    rw (stride, rest) refl

-- ---- the refixed block

pub length-refix_of : (block : List ℕ) → length (refix_of block) ≡ length block
unfolding refix_of
length-refix_of block = length-map-range_with_len (refix_byte block) 0 (length block)

pub get_or-refix_of : (block : List ℕ) (p : ℕ) → p < length block → get_or (refix_of block) p 0 ≡ refix_byte block p
unfolding refix_of
get_or-refix_of block p within =
    get_or-map-range_with_len (refix_byte block) 0 (length block) p p 0 within (omega arith)

-- what is neither a stride's end nor in the array stays
pub others : (block : List ℕ) (p : ℕ) → HasRoom block → array_count block ≡ 1 + stride_count block → p % 512 < 510
    → IsOutsideArray block p → get_or (refix_of block) p 0 ≡ get_or block p 0
others block p room counts inside outside =
    elim (cases_lt p (length block)) [
      | inl within ↦ get_or-refix_of block p within ∙
          elim outside [
            | inl before ↦ refix_byte-before block p inside before
            | inr behind ↦ refix_byte-behind block p inside (omega arith) behind
          ]
      | inr past ↦ get_or_past (refix_of block) p 0 (omega (arith, length-refix_of block))
          ∙ sym (get_or_past block p 0 past)
    ]

-- ---- the three steps of the code

-- the words saved, the strides marked, the number put
pub record IsRefixedBy (number : ℕ) (old saved marked new : List ℕ) : Type 0 where
  pub long : length new ≡ length old
  pub far : length marked ≡ length old
  pub is_next : number ≡ next_number (sequence_number old)
  pub words : (k i : ℕ) → k < stride_count old → i < 2
      → get_or saved (array_offset old + 2 * (k + 1) + i) 0 ≡ get_or old (512 * k + 510 + i) 0
  pub before : (p : ℕ) → p < array_offset old + 2 → get_or saved p 0 ≡ get_or old p 0
  pub behind : (p : ℕ) → array_offset old + 2 * (stride_count old + 1) ≤ p → get_or saved p 0 ≡ get_or old p 0
  pub ends : (k i : ℕ) → k < stride_count saved → i < 2 → get_or marked (512 * k + 510 + i) 0 ≡ byte_at i number
  pub inner : (p : ℕ) → p % 512 < 510 → get_or marked p 0 ≡ get_or saved p 0
  pub last : new ≡ set (set marked (array_offset old) (byte_at 0 number)) (array_offset old + 1) (byte_at 1 number)
  pub even : length saved ≡ length old

-- a byte of the next number
pub next_byte-is : (block : List ℕ) (i number : ℕ) → number ≡ next_number (sequence_number block)
    → byte_at i number ≡ next_byte block i
unfolding next_byte
next_byte-is block i number is = ap (byte_at i) is

-- a stride's end after the steps
each-end : (number : ℕ) (old saved marked new : List ℕ) → HasWholeStrides old → HasRoom old
    → IsRefixedBy number old saved marked new
    → (p : ℕ) → p < length old → 510 ≤ p % 512 → get_or new p 0 ≡ refix_byte old p
each-end number old saved marked new whole room so p within end =
    let ends : array_offset old + 2 * (stride_count old + 1) ≤ 510 = room.ends in
    let even : length old % 512 ≡ 0 = whole.whole in
    let same : length saved ≡ length old = so.even in
    ap (λ b. get_or b p 0) so.last
    ∙ two-other marked (array_offset old) (byte_at 0 number) (byte_at 1 number) p (λ e. omega arith) (λ e. omega arith)
    ∙ ap (λ q. get_or marked q 0) (omega arith)
    ∙ so.ends (p / 512) (p % 512 - 510) (omega arith) (omega arith)
    ∙ next_byte-is old (p % 512 - 510) number so.is_next
    ∙ sym (refix_byte-end old p end)

-- a byte of the array's first word
each-number : (number : ℕ) (old saved marked new : List ℕ) → HasWholeStrides old → HasRoom old
    → IsRefixedBy number old saved marked new
    → (p : ℕ) → p % 512 < 510 → array_offset old ≤ p → p < array_offset old + 2 → get_or new p 0 ≡ refix_byte old p
each-number number old saved marked new whole room so p inside from within =
    let ends : array_offset old + 2 * (stride_count old + 1) ≤ 510 = room.ends in
    let least : 1024 ≤ length old = whole.least in
    let far : length marked ≡ length old = so.far in
    ap (λ b. get_or b p 0) so.last ∙
    elim (cases_eq p (array_offset old)) [
      | inl first ↦ rw first (two-low marked (array_offset old) (byte_at 0 number) (byte_at 1 number) (omega arith))
          ∙ next_byte-is old 0 number so.is_next ∙ ap (next_byte old) (omega arith)
      | inr other ↦ (let second : p ≡ array_offset old + 1 = omega arith in
          rw second (two-high marked (array_offset old) (byte_at 0 number) (byte_at 1 number) (omega arith))
          ∙ next_byte-is old 1 number so.is_next ∙ ap (next_byte old) (omega arith))
    ]
    ∙ sym (refix_byte-number old p inside from within)

-- any other byte
each-other : (number : ℕ) (old saved marked new : List ℕ) → HasRoom old → array_count old ≡ 1 + stride_count old
    → IsRefixedBy number old saved marked new
    → (p : ℕ) → p % 512 < 510 → (p < array_offset old) ⊎ (array_offset old + 2 ≤ p) → get_or new p 0 ≡ refix_byte old p
each-other number old saved marked new room counts so p inside apart =
    ap (λ b. get_or b p 0) so.last
    ∙ elim apart [
      | inl before ↦ two-other marked (array_offset old) (byte_at 0 number) (byte_at 1 number) p (λ e. omega arith)
          (λ e. omega arith)
          ∙ so.inner p inside ∙ so.before p (omega arith) ∙ sym (refix_byte-before old p inside before)
      | inr behind ↦ two-other marked (array_offset old) (byte_at 0 number) (byte_at 1 number) p (λ e. omega arith)
          (λ e. omega arith)
          ∙ so.inner p inside
          ∙ elim (cases_lt p (array_offset old + 2 * array_count old)) [
            | inl within ↦
                ap (λ q. get_or saved q 0) (omega arith)
                ∙ so.words ((p - (array_offset old + 2)) / 2) ((p - (array_offset old + 2)) % 2) (omega arith)
                (omega arith)
                ∙ sym
                (last_byte-at old ((p - (array_offset old + 2)) / 2) ((p - (array_offset old + 2)) % 2) (omega arith))
                ∙ ap (last_byte old) (omega arith)
                ∙ sym (refix_byte-saved old p inside behind within)
            | inr past ↦ so.behind p (omega arith) ∙ sym (refix_byte-behind old p inside behind past)
          ]
    ]

-- the three steps refix the block
pub refix_of-by_steps : (number : ℕ) (old saved marked new : List ℕ) → HasWholeStrides old
    → has_good_array Indx old ≡ true → IsRefixedBy number old saved marked new → new ≡ refix_of old
unfolding refix_of
refix_of-by_steps number old saved marked new whole array so =
    let room = good_room Indx old array in
    let counts = (good_array Indx old array).counts in
    fill_by_all (refix_byte old) new (length old) 0 so.long (λ p within.
    elim (cases_lt (p % 512) 510) [
      | inr end ↦ each-end number old saved marked new whole room so p within end
      | inl inside ↦ elim (cases_lt p (array_offset old)) [
        | inl before ↦ each-other number old saved marked new room counts so p inside (inl before)
        | inr from ↦ elim (cases_lt p (array_offset old + 2)) [
          | inl first ↦ each-number number old saved marked new whole room so p inside from first
          | inr behind ↦ each-other number old saved marked new room counts so p inside (inr behind)
        ]
      ]
    ])
