-- Reading gives exactly what the relations say: the runs that are spelled, or the first wrong header and the runs before it.
use Rattle.std.proofs.Common.{◌≡◌, ◌≤◌, ◌+◌, ◌-◌, ◌^◌, ℕ, zero, suc, List, [], ◌∷◌, ◌++◌, length, drop, Bool, true, false, refl, sym, ap, subst, ◌∙◌, append_assoc, arith, length-append}
use Rattle.std.specs.Prelude.{Option, Some, None, Ok, Err, unwrap_or}
use Rattle.std.proofs.lemmas.List.{drop_at, length-drop}
use Rattle.ntfs_runs.specs.declared.run.Run.{Run}
use Rattle.ntfs_runs.specs.declared.front.Front.{Front}
use Rattle.ntfs_runs.specs.declared.front.Front.TheVariants.{Closing, Wrong, Pair}
use Rattle.ntfs_runs.specs.Spelling.{pair, PairsFrom, Spells, SpelledInFront, last_after, last_of, room_of, IsWrongHeader, IsWrongAfter}
use Rattle.ntfs_runs.specs.Reading.{front_at, Reading, with_run, reading_from, reading, items, items_left}
use Rattle.ntfs_runs.proofs.FrontLemmas.{HasPair, front-pair, front-closing, closing-front, pair-front}

-- the bytes of a pair before are passed
reading-skip : (skip last room place : ℕ) (bytes : List ℕ) → skip ≤ length bytes → reading_from skip last room place bytes ≡ reading_from 0 last room (place + skip) (drop skip bytes)
unfolding reading_from
reading-skip zero last room place bytes within = let same : place + 0 ≡ place = omega arith in rw same refl
reading-skip (suc skip) last room place [] within = absurd (omega arith)
reading-skip (suc skip) last room place (byte ∷ bytes) within =
    let same : suc place + skip ≡ place + suc skip = omega arith in
    rw (← same) (reading-skip skip last room (suc place) bytes (omega arith))

-- a pair is in front of what reading goes on to give
pub reading-pair : (last room place : ℕ) (bytes : List ℕ) (run : Run) (size : ℕ) → front_at last room bytes ≡ Pair run size
    → reading_from 0 last room place bytes ≡ with_run run (reading_from 0 (last_after last run.lcn) (room - run.length) (place + size) (drop size bytes))
unfolding reading_from
reading-pair last room place [] run size is = let found = front-pair last room [] run size is in absurd (omega (arith, ap length found.bytes-is))
reading-pair last room place (byte ∷ bytes) run size is =
    let found = front-pair last room (byte ∷ bytes) run size is in
    let len : suc (length bytes) ≡ size + length found.rest = ap length found.bytes-is ∙ length-append (pair found.count found.delta) found.rest ∙ ap (λ (n : ℕ). n + length found.rest) (sym found.size-is) in
    let some : 1 ≤ size = omega (arith, found.size-is) in
    let next : size ≡ suc (size - 1) = omega arith in
    let step : reading_from 0 last room place (byte ∷ bytes) ≡ with_run run (reading_from (size - 1) (last_after last run.lcn) (room - run.length) (suc place) bytes) = rw (is, reading_from) refl in
    let moved = reading-skip (size - 1) (last_after last run.lcn) (room - run.length) (suc place) bytes (omega arith) in
    let there : suc place + (size - 1) ≡ place + size = omega arith in
    let left : drop (size - 1) bytes ≡ drop size (byte ∷ bytes) = ap (λ (n : ℕ). drop n (byte ∷ bytes)) (sym next) in
    step ∙ ap (with_run run) (moved ∙ ap (λ (p : ℕ). reading_from 0 (last_after last run.lcn) (room - run.length) p (drop (size - 1) bytes)) there ∙ ap (λ (b : List ℕ). reading_from 0 (last_after last run.lcn) (room - run.length) (place + size) b) left)

abbrev pub ended : Bool → ℕ → Reading
ended is_right place = record { runs = []; is_right = is_right; place = place }

pub reading-closing : (last room place : ℕ) (bytes : List ℕ) → front_at last room bytes ≡ Closing → reading_from 0 last room place bytes ≡ ended true place
unfolding reading_from front_at
reading-closing last room place [] is = absurd cc
reading-closing last room place (byte ∷ bytes) is = rw (is, reading_from) refl

pub reading-wrong : (last room place : ℕ) (bytes : List ℕ) → front_at last room bytes ≡ Wrong → reading_from 0 last room place bytes ≡ ended false place
unfolding reading_from
reading-wrong last room place [] is = refl
reading-wrong last room place (byte ∷ bytes) is = rw (is, reading_from) refl

-- runs in front of what reading gave
abbrev pub with_runs : List Run → Reading → Reading
with_runs [] read = read
with_runs (run ∷ runs) read = with_run run (with_runs runs read)

-- whole pairs are read as their runs
pairs-read : (last room place : ℕ) (front rest : List ℕ) (runs : List Run) → PairsFrom last room front runs
    → reading_from 0 last room place (front ++ rest) ≡ with_runs runs (reading_from 0 (last_of last runs) (room_of room runs) (place + length front) rest)
unfolding PairsFrom
pairs-read last room place front rest [] is =
    let here : place + length front ≡ place = omega (arith, ap length is) in
    rw (here, is) refl
pairs-read last room place front rest (run ∷ runs) (count, delta, behind, front-is, is, others) =
    let regroup : front ++ rest ≡ pair count delta ++ (behind ++ rest) = ap (λ (b : List ℕ). b ++ rest) front-is ∙ append_assoc (pair count delta) behind rest in
    let size = length (pair count delta) in
    let first = reading-pair last room place (pair count delta ++ (behind ++ rest)) run size (pair-front last room count delta (behind ++ rest) run is) in
    let left : drop size (pair count delta ++ (behind ++ rest)) ≡ behind ++ rest = drop_at (pair count delta) (behind ++ rest) size refl in
    let next = pairs-read (last_after last run.lcn) (room - run.length) (place + size) behind rest runs others in
    let there : place + size + length behind ≡ place + length front = omega (arith, ap length front-is, length-append (pair count delta) behind) in
    ap (reading_from 0 last room place) regroup ∙ first
    ∙ ap (λ (b : List ℕ). with_run run (reading_from 0 (last_after last run.lcn) (room - run.length) (place + size) b)) left
    ∙ ap (with_run run) (next ∙ ap (λ (p : ℕ). with_runs runs (reading_from 0 (last_of (last_after last run.lcn) runs) (room_of (room - run.length) runs) p rest)) there)

-- how reading ended: at a closing 0 or at a wrong header
abbrev pub Ends : Bool → ℕ → ℕ → List ℕ → Type 0
Ends true last room rest = (more : List ℕ) × (rest ≡ 0 ∷ more)
Ends false last room rest = IsWrongHeader last room rest

-- what reading gave stands in the bytes
pub record IsReading (last room place : ℕ) (bytes : List ℕ) (read : Reading) : Type 0 where
  pub front : List ℕ
  pub rest : List ℕ
  pub bytes-is : bytes ≡ front ++ rest
  pub place-is : read.place ≡ place + length front
  pub pairs : PairsFrom last room front read.runs
  pub ends : Ends read.is_right (last_of last read.runs) (room_of room read.runs) rest

-- a header that is read as wrong is neither the closing 0 nor a pair's, and the other way round
pub wrong-is : (last room : ℕ) (bytes : List ℕ) → front_at last room bytes ≡ Wrong → IsWrongHeader last room bytes
unfolding IsWrongHeader
wrong-is last room bytes is = (
  (λ more e. let closing = closing-front last room more in let here = ap (front_at last room) e in cc),
  (λ run count delta more pair-is e. let reads = pair-front last room count delta more run pair-is in let here = ap (front_at last room) e in cc),
)

pub is-wrong : (last room : ℕ) (bytes : List ℕ) → IsWrongHeader last room bytes → front_at last room bytes ≡ Wrong
unfolding IsWrongHeader
is-wrong last room bytes wrong = of (front_at last room bytes) refl
  where
    of : (f : Front) → front_at last room bytes ≡ f → front_at last room bytes ≡ Wrong
    of Closing is = let found = front-closing last room bytes is in absurd (wrong.0 found.0 found.1)
    of Wrong is = is
    of (Pair run size) is = let found = front-pair last room bytes run size is in absurd (wrong.1 run found.count found.delta found.rest found.is found.bytes-is)

-- reading ends at once
read-closing : (last room place : ℕ) (bytes : List ℕ) → front_at last room bytes ≡ Closing → IsReading last room place bytes (reading_from 0 last room place bytes)
unfolding PairsFrom
read-closing last room place bytes is =
    rw (reading-closing last room place bytes is) (record { front = []; rest = bytes; bytes-is = refl; place-is = omega arith; pairs = refl; ends = front-closing last room bytes is })

read-wrong : (last room place : ℕ) (bytes : List ℕ) → front_at last room bytes ≡ Wrong → IsReading last room place bytes (reading_from 0 last room place bytes)
unfolding PairsFrom
read-wrong last room place bytes is =
    rw (reading-wrong last room place bytes is) (record { front = []; rest = bytes; bytes-is = refl; place-is = omega arith; pairs = refl; ends = wrong-is last room bytes is })

-- a pair in front of what reading gives
read-pair : (last room place : ℕ) (bytes : List ℕ) (run : Run) (size : ℕ) (read : Reading) → HasPair last room bytes run size
    → IsReading (last_after last run.lcn) (room - run.length) (place + size) (drop size bytes) read → IsReading last room place bytes (with_run run read)
unfolding PairsFrom
read-pair last room place bytes run size read found behind =
    let left : drop size bytes ≡ found.rest = ap (drop size) found.bytes-is ∙ drop_at (pair found.count found.delta) found.rest size (sym found.size-is) in
    let rest-is : found.rest ≡ behind.front ++ behind.rest = sym left ∙ behind.bytes-is in
    record {
      front = pair found.count found.delta ++ behind.front;
      rest = behind.rest;
      bytes-is = found.bytes-is ∙ ap (λ (b : List ℕ). pair found.count found.delta ++ b) rest-is ∙ sym (append_assoc (pair found.count found.delta) behind.front behind.rest);
      place-is = omega (arith, behind.place-is, found.size-is, length-append (pair found.count found.delta) behind.front);
      pairs = (found.count, found.delta, behind.front, refl, found.is, behind.pairs);
      ends = behind.ends;
    }

wrong-nothing : (last room : ℕ) → front_at last room [] ≡ Wrong
unfolding front_at
wrong-nothing last room = refl

-- reading always gives what stands in the bytes
pub reading-is : (n last room place : ℕ) (bytes : List ℕ) → length bytes ≤ n → IsReading last room place bytes (reading_from 0 last room place bytes)
reading-is zero last room place [] within = read-wrong last room place [] (wrong-nothing last room)
reading-is zero last room place (byte ∷ bytes) within = absurd (omega arith)
reading-is (suc n) last room place bytes within = of (front_at last room bytes) refl (reading-is n)
  where
    of : (f : Front) → front_at last room bytes ≡ f → ((last room place : ℕ) (bytes : List ℕ) → length bytes ≤ n → IsReading last room place bytes (reading_from 0 last room place bytes)) → IsReading last room place bytes (reading_from 0 last room place bytes)
    of Closing is others = read-closing last room place bytes is
    of Wrong is others = read-wrong last room place bytes is
    of (Pair run size) is others =
        let found = front-pair last room bytes run size is in
        let some : 1 ≤ size = omega (arith, found.size-is) in
        let behind = others (last_after last run.lcn) (room - run.length) (place + size) (drop size bytes) (omega (arith, length-drop size bytes)) in
        rw (reading-pair last room place bytes run size is) (read-pair last room place bytes run size (reading_from 0 (last_after last run.lcn) (room - run.length) (place + size) (drop size bytes)) found behind)

abbrev pub read_as : List Run → Bool → ℕ → Reading
read_as runs is_right place = record { runs = runs; is_right = is_right; place = place }

with_runs-ended : (runs : List Run) (is_right : Bool) (place : ℕ) → with_runs runs (ended is_right place) ≡ read_as runs is_right place
with_runs-ended [] is_right place = refl
with_runs-ended (run ∷ runs) is_right place = ap (with_run run) (with_runs-ended runs is_right place)

-- ---- the four laws

-- what is read to its closing 0 is spelled in front
pub right-is-spelled : (bytes : List ℕ) → (reading bytes).is_right ≡ true → SpelledInFront bytes (reading bytes).runs
unfolding reading SpelledInFront Spells
right-is-spelled bytes right =
    let is = reading-is (length bytes) 0 (2 ^ 48) 0 bytes (omega arith) in
    let closing = subst (λ (b : Bool). Ends b (last_of 0 (reading bytes).runs) (room_of (2 ^ 48) (reading bytes).runs) is.rest) right is.ends in
    (is.front ++ 0 ∷ [], closing.0, is.bytes-is ∙ ap (λ (b : List ℕ). is.front ++ b) closing.1 ∙ sym (append_assoc is.front (0 ∷ []) closing.0), (is.front, refl, is.pairs))

-- what is spelled in front is read, up to the 0 that closes its text
pub spelled-is-right : (text more : List ℕ) (runs : List Run) → Spells text runs → (place : ℕ) × (length text ≡ suc place) × (reading (text ++ more) ≡ read_as runs true place)
unfolding reading Spells
spelled-is-right text more runs (pairs, text-is, is) =
    let regroup : text ++ more ≡ pairs ++ (0 ∷ more) = ap (λ (b : List ℕ). b ++ more) text-is ∙ append_assoc pairs (0 ∷ []) more in
    let closing = reading-closing (last_of 0 runs) (room_of (2 ^ 48) runs) (0 + length pairs) (0 ∷ more) (closing-front (last_of 0 runs) (room_of (2 ^ 48) runs) more) in (
      0 + length pairs,
      omega (arith, ap length text-is, length-append pairs (0 ∷ [])),
      ap (reading_from 0 0 (2 ^ 48) 0) regroup ∙ pairs-read 0 (2 ^ 48) 0 pairs (0 ∷ more) runs is ∙ ap (with_runs runs) closing ∙ with_runs-ended runs true (0 + length pairs),
    )

-- where reading ends at a wrong header, that is the first one
pub wrong-is-first : (bytes : List ℕ) → (reading bytes).is_right ≡ false → IsWrongAfter bytes (reading bytes).runs (reading bytes).place
unfolding reading IsWrongAfter
wrong-is-first bytes wrong =
    let is = reading-is (length bytes) 0 (2 ^ 48) 0 bytes (omega arith) in
    let ends = subst (λ (b : Bool). Ends b (last_of 0 (reading bytes).runs) (room_of (2 ^ 48) (reading bytes).runs) is.rest) wrong is.ends in
    (is.front, is.rest, is.bytes-is, omega (arith, is.place-is), is.pairs, ends)

-- reading ends at the first wrong header
pub first-is-wrong : (bytes : List ℕ) (runs : List Run) (place : ℕ) → IsWrongAfter bytes runs place → reading bytes ≡ read_as runs false place
unfolding reading IsWrongAfter
first-is-wrong bytes runs place (front, rest, bytes-is, place-is, pairs, wrong) =
    let ends = reading-wrong (last_of 0 runs) (room_of (2 ^ 48) runs) (0 + length front) rest (is-wrong (last_of 0 runs) (room_of (2 ^ 48) runs) rest wrong) in
    let there : 0 + length front ≡ place = omega (arith, place-is) in
    ap (reading_from 0 0 (2 ^ 48) 0) bytes-is ∙ pairs-read 0 (2 ^ 48) 0 front rest runs pairs ∙ ap (with_runs runs) ends ∙ with_runs-ended runs false (0 + length front) ∙ ap (read_as runs false) there

-- ---- one step of an iterator

pub step-closing : (last room place : ℕ) (bytes : List ℕ) → front_at last room bytes ≡ Closing → items_left false last room place bytes ≡ []
step-closing last room place bytes is = ap items (reading-closing last room place bytes is)

pub step-wrong : (last room place : ℕ) (bytes : List ℕ) → front_at last room bytes ≡ Wrong → items_left false last room place bytes ≡ Err (record { place = place }) ∷ []
step-wrong last room place bytes is = ap items (reading-wrong last room place bytes is)

pub last_after-unwrap_or : (last : ℕ) (lcn : Option ℕ) → last_after last lcn ≡ unwrap_or lcn last
last_after-unwrap_or last None = refl
last_after-unwrap_or last (Some lcn) = refl

pub step-pair : (last room place : ℕ) (bytes : List ℕ) (run : Run) (size : ℕ) → front_at last room bytes ≡ Pair run size
    → items_left false last room place bytes ≡ Ok run ∷ items_left false (unwrap_or run.lcn last) (room - run.length) (place + size) (drop size bytes)
step-pair last room place bytes run size is =
    ap items (reading-pair last room place bytes run size is) ∙ ap (λ (n : ℕ). Ok run ∷ items_left false n (room - run.length) (place + size) (drop size bytes)) (last_after-unwrap_or last run.lcn)

-- what a step needs
pub front-fits : (last room : ℕ) (bytes : List ℕ) (run : Run) (size : ℕ) → front_at last room bytes ≡ Pair run size → (size ≤ length bytes) × (run.length ≤ room)
front-fits last room bytes run size is =
    let found = front-pair last room bytes run size is in
    (omega (arith, found.size-is, ap length found.bytes-is, length-append (pair found.count found.delta) found.rest), found.is.most)
