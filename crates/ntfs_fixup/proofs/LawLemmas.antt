-- What holds of a refixed block, and of one that is unfixed again.
use Rattle.std.proofs.Common.{◌≡◌, ◌≤◌, ◌<◌, ◌+◌, ◌-◌, ◌*◌, ◌/◌, ◌%◌, ℕ, suc, true, List, length, get_or, Ok, IsOkAnd, refl, sym, ap, ◌∙◌, arith, inl, inr}
use Rattle.std.specs.Int.{byte_at}
use Rattle.std.proofs.lemmas.Bool.{cases_lt}
use Rattle.std.proofs.lemmas.Bool.Decides.{nat_tests}
use Rattle.ntfs_base.specs.Bytes.{number_at}
use Rattle.ntfs_fixup.specs.declared.header.Magic.{Magic}
use Rattle.ntfs_fixup.specs.declared.header.Magic.TheVariants.{Indx}
use Rattle.ntfs_fixup.specs.Fixups.{HasWholeStrides, HasFront, KeepsFront, SameOutsideArray, AllAgree, least_offset, has_good_array, array_offset, array_count, stride_count, sequence_number, last_word, next_number, next_byte, last_byte, refix_of, unfix_byte, unfix_block, unfix_of}
use Rattle.ntfs_fixup.proofs.FixupLemmas.{good_room, good_array, array_offset-kept, HasFront-kept, unfix_byte-inside, unfix_byte-end, has_good_array-good}
use Rattle.ntfs_fixup.proofs.UnfixLemmas.{length-unfix_block, get_or-unfix_block, unfix_of-accepted}
use Rattle.ntfs_fixup.proofs.RefixLemmas.{get_or-refix_of, length-refix_of, refix_byte-end, refix_byte-number, refix_byte-saved, last_byte-at, others, next_byte-is}

-- the number after any is one of two bytes
next_number-lt : (n : ℕ) → next_number n < 65536
unfolding next_number
next_number-lt n = grind (arith, nat_tests)

-- a word whose bytes stand side by side
word_of_bytes : (p n : ℕ) (b : List ℕ) → n < 65536 → get_or b p 0 ≡ byte_at 0 n → get_or b (p + 1) 0 ≡ byte_at 1 n
    → number_at 2 p b ≡ n
unfolding number_at
word_of_bytes p n b small first second =
    let next : get_or b (suc p) 0 ≡ byte_at 1 n = ap (λ k. get_or b k 0) (omega arith) ∙ second in
    rw (first, next) (omega arith)

-- the bytes before the array stay
pub KeepsFront-refix_of : (block : List ℕ) → has_good_array Indx block ≡ true → KeepsFront block (refix_of block)
KeepsFront-refix_of block array =
    let room = good_room Indx block array in
    let ends : array_offset block + 2 * (stride_count block + 1) ≤ 510 = room.ends in
    record {
      long = length-refix_of block;
      front = λ p within. others block p room (good_array Indx block array).counts (omega arith) (inl within);
    }

-- the array's first word is the next number
pub sequence_number-refix_of : (block : List ℕ) → HasWholeStrides block → has_good_array Indx block ≡ true
    → sequence_number (refix_of block) ≡ next_number (sequence_number block)
unfolding sequence_number
sequence_number-refix_of block whole array =
    let offset : array_offset (refix_of block) ≡ array_offset block =
    array_offset-kept block (refix_of block) (KeepsFront-refix_of block array) (good_room Indx block array) in
    let room = good_room Indx block array in
    let ends : array_offset block + 2 * (stride_count block + 1) ≤ 510 = room.ends in
    let least : 1024 ≤ length block = whole.least in
    rw offset (word_of_bytes (array_offset block) _ (refix_of block) (next_number-lt _)
    (get_or-refix_of block (array_offset block) (omega arith)
    ∙ refix_byte-number block (array_offset block) (omega arith) (omega arith) (omega arith)
    ∙ ap (next_byte block) (omega arith) ∙ sym (next_byte-is block 0 _ refl))
    (get_or-refix_of block (array_offset block + 1) (omega arith)
    ∙ refix_byte-number block (array_offset block + 1) (omega arith) (omega arith) (omega arith)
    ∙ ap (next_byte block) (omega arith) ∙ sym (next_byte-is block 1 _ refl)))

-- each stride ends with it
pub last_word-refix_of : (block : List ℕ) (k : ℕ) → HasWholeStrides block → k < stride_count block
    → last_word (refix_of block) k ≡ next_number (sequence_number block)
unfolding last_word
last_word-refix_of block k whole within =
    let even : length block % 512 ≡ 0 = whole.whole in
    word_of_bytes (512 * k + 510) _ (refix_of block) (next_number-lt _)
    (get_or-refix_of block (512 * k + 510) (omega arith)
    ∙ refix_byte-end block (512 * k + 510) (omega arith)
    ∙ ap (next_byte block) (omega arith) ∙ sym (next_byte-is block 0 _ refl))
    (get_or-refix_of block (512 * k + 510 + 1) (omega arith)
    ∙ refix_byte-end block (512 * k + 510 + 1) (omega arith)
    ∙ ap (next_byte block) (omega arith) ∙ sym (next_byte-is block 1 _ refl))

-- so all strides agree
pub AllAgree-refix_of : (block : List ℕ) → HasWholeStrides block → has_good_array Indx block ≡ true
    → AllAgree (refix_of block)
AllAgree-refix_of block whole array k within =
    let long = length-refix_of block in
    last_word-refix_of block k whole (omega arith) ∙ sym (sequence_number-refix_of block whole array)

-- the magic and the array stay
pub HasFront-refix_of : (magic : Magic) (block : List ℕ) → has_good_array Indx block ≡ true → HasFront magic block
    → HasFront magic (refix_of block)
HasFront-refix_of magic block array front =
    HasFront-kept magic block (refix_of block) (KeepsFront-refix_of block array) front

-- a stride's end is back
back-end : (block : List ℕ) → HasWholeStrides block → has_good_array Indx block ≡ true → (p : ℕ) → p < length block
    → 510 ≤ p % 512
    → unfix_byte (refix_of block) p ≡ get_or block p 0
back-end block whole array p within end =
    let offset : array_offset (refix_of block) ≡ array_offset block =
    array_offset-kept block (refix_of block) (KeepsFront-refix_of block array) (good_room Indx block array) in
    let counts : array_count block ≡ 1 + stride_count block = (good_array Indx block array).counts in
    let room = good_room Indx block array in
    let ends : array_offset block + 2 * (stride_count block + 1) ≤ 510 = room.ends in
    let least : 1024 ≤ length block = whole.least in
    let even : length block % 512 ≡ 0 = whole.whole in
    unfix_byte-end (refix_of block) p end
    ∙ ap (λ o. get_or (refix_of block) (o + 2 * (p / 512 + 1) + (p % 512 - 510)) 0) offset
    ∙ get_or-refix_of block (array_offset block + 2 * (p / 512 + 1) + (p % 512 - 510)) (omega arith)
    ∙ refix_byte-saved block (array_offset block + 2 * (p / 512 + 1) + (p % 512 - 510)) (omega arith) (omega arith)
    (omega arith)
    ∙ ap (last_byte block) (omega arith)
    ∙ last_byte-at block (p / 512) (p % 512 - 510) (omega arith)
    ∙ ap (λ q. get_or block q 0) (omega arith)

-- the bytes outside the array are back
pub SameOutsideArray-refix_of : (block : List ℕ) → HasWholeStrides block → has_good_array Indx block ≡ true
    → SameOutsideArray block (unfix_block (refix_of block))
SameOutsideArray-refix_of block whole array = record {
  long = length-unfix_block (refix_of block) ∙ length-refix_of block;
  bytes = λ p within outside.
      get_or-unfix_block (refix_of block) p (omega (arith, length-refix_of block)) ∙
      elim (cases_lt (p % 512) 510) [
        | inl inside ↦ unfix_byte-inside (refix_of block) p inside
            ∙ others block p (good_room Indx block array) (good_array Indx block array).counts inside outside
        | inr end ↦ back-end block whole array p within end
      ];
}

-- an array that is good for a file record is good for an index block
pub has_good_array-any : (magic : Magic) (block : List ℕ) → has_good_array magic block ≡ true
    → has_good_array Indx block ≡ true
unfolding least_offset
has_good_array-any magic block good =
    let so = good_array magic block good in
    has_good_array-good Indx block
    (record { counts = so.counts; even = so.even; behind = (good_room magic block good).behind; room = so.room })

-- a refixed block of a good front is accepted
pub unfix_of-refix_of : (magic : Magic) (block : List ℕ) → HasWholeStrides block → HasFront magic block
    → unfix_of magic (refix_of block) ≡ Ok (unfix_block (refix_of block))
unfix_of-refix_of magic block whole front =
    let array = has_good_array-any magic block front.array in
    unfix_of-accepted magic (refix_of block) (HasFront-refix_of magic block array front)
    (AllAgree-refix_of block whole array)

-- and gives back what stood there
pub unfix_of-refix_of-back : (magic : Magic) (block : List ℕ) → HasWholeStrides block → HasFront magic block
    → IsOkAnd (unfix_of magic (refix_of block)) (SameOutsideArray block)
unfix_of-refix_of-back magic block whole front =
    rw (unfix_of-refix_of magic block whole front)
    (SameOutsideArray-refix_of block whole (has_good_array-any magic block front.array))
