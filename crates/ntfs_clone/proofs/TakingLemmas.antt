-- Bytes that a source gives, one piece after the other.
use Rattle.std.proofs.Common.{◌≡◌, ◌≤◌, ◌+◌, ◌-◌, ℕ, Bool, true, false, List, [], ◌++◌, length, take, drop, refl, sym, ap, ◌∙◌, arith, if◌then◌else◌, IsTrue, length-append, append_assoc, min, ◌<◌}
use Rattle.std.proofs.lemmas.List.{take-append-drop, take-append-le, drop-take, take_all, drop_all, drop-drop, length-take, length-drop}
use Rattle.std.proofs.Math.Seq.{take-append-add}
use borrow.Rule.Slice.PartMut.{put_mid}
use Rattle.ntfs_base.proofs.BytesLemmas.{take-take}
use Rattle.ntfs_base.proofs.OverwriteLemmas.{piece-overwrite}
use Rattle.ntfs_base.specs.Bytes.{overwrite, piece_at}
use Rattle.ntfs_base.specs.Source.{SourceState, after_take}
use Rattle.ntfs_clone.specs.Taking.{HasGiven, to_come}

-- so many items, and then so many more
pub take-more : {X : Type 0} (n m : ℕ) (xs : List X) → take (n + m) xs ≡ take n xs ++ take m (drop n xs)
take-more n m xs = sym (take-append-drop n (take (n + m) xs)) ∙ rw (take-take n (n + m) xs (omega arith), drop-take n m xs) refl

-- a source that has given some bytes and then some more
pub after_take-more : (n m : ℕ) (s : SourceState) → after_take m (after_take n s) ≡ after_take (n + m) s
after_take-more n m s = ap (λ given. record s { given = given }) (both s.is_told s.given)
  where
    both : (told : Bool) (given : ℕ) → (if told then (if told then given + n else given) + m else (if told then given + n else given)) ≡ (if told then given + (n + m) else given)
    both true given = omega arith
    both false given = refl

pub after_take-none : (s : SourceState) → after_take 0 s ≡ s
after_take-none s = ap (λ given. record s { given = given }) (both s.is_told s.given)
  where
    both : (told : Bool) (given : ℕ) → (if told then given + 0 else given) ≡ given
    both true given = omega arith
    both false given = refl

pub after_take-given : (n : ℕ) (s : SourceState) → IsTrue s.is_told → (after_take n s).given ≡ s.given + n
after_take-given n s told = both s.is_told s.given told
  where
    both : (told : Bool) (given : ℕ) → IsTrue told → (if told then given + n else given) ≡ given + n
    both true given is = refl
    both false given is = absurd cc

-- a slice whose front has the next bytes, and then the ones behind them
pub fill-step : (bytes : List ℕ) (given count more : ℕ) (into part : List ℕ) → count ≤ length into → more ≤ length part
    → take count into ≡ take count (drop given bytes) → take more part ≡ take more (drop (given + count) bytes)
    → take (count + more) (put_mid count (length into - count) into part) ≡ take (count + more) (drop given bytes)
fill-step bytes given count more into part within room front next =
    let size : length (take count into) ≡ count = simp length-take (omega arith) in
    let rest = drop (length into - count) (drop count into) in
    let there : take (length (take count into) + more) (take count into ++ (part ++ rest)) ≡ take count into ++ take more (part ++ rest) = take-append-add (take count into) (part ++ rest) more in
    let behind : drop count (drop given bytes) ≡ drop (given + count) bytes = drop-drop count given bytes ∙ ap (λ n. drop n bytes) (omega arith) in
    ap (λ n. take (n + more) (take count into ++ (part ++ rest))) (sym size) ∙ there
    ∙ ap (λ xs. take count into ++ xs) (take-append-le more part rest room ∙ next)
    ∙ ap (λ xs. xs ++ take more (drop (given + count) bytes)) front
    ∙ ap (λ xs. take count (drop given bytes) ++ take more xs) (sym behind)
    ∙ sym (take-more count more (drop given bytes))

-- a slice whose front has all bytes that were left
pub fill-end : (bytes : List ℕ) (given count len : ℕ) (front : List ℕ) → count ≤ len → given + count ≡ length bytes
    → front ≡ take count (drop given bytes) → front ≡ take len (drop given bytes)
fill-end bytes given count len front within ends is =
    let size : length (drop given bytes) ≡ count = simp length-drop (omega arith) in
    is ∙ take_all count (drop given bytes) (omega arith) ∙ sym (take_all len (drop given bytes) (omega arith))

-- a slice keeps its length where a part of it up to its end is written
pub length-behind : (count : ℕ) (into part : List ℕ) → count ≤ length into
    → length part ≡ length (take (length into - count) (drop count into))
    → length (put_mid count (length into - count) into part) ≡ length into
length-behind count into part within same =
    let size : length (take (length into - count) (drop count into)) ≡ length into - count = simp (length-take, length-drop) (omega arith) in
    simp (length-append, length-take, length-drop) (omega (arith, same, size))

-- how many bytes came, where the slice's length was asked
pub fill-count : (n len : ℕ) (into : List ℕ) (rest : List ℕ) → n ≤ length into → length into ≡ len → take n into ≡ take len rest → n ≡ min len (length rest)
fill-count n len into rest within is same =
    let front : length (take n into) ≡ n = simp length-take (omega arith) in
    let here : length (take len rest) ≡ min len (length rest) = length-take len rest in
    sym front ∙ ap length same ∙ here

-- a source that has given bytes, and then further ones
pub given-then : (a b c : SourceState) → HasGiven a b → HasGiven b c → HasGiven a c
given-then a b c one other = record {
  count = one.count + other.count;
  given = other.given ∙ ap (after_take other.count) one.given ∙ after_take-more one.count other.count a;
}

-- how many bytes it has then still to give
pub length-to_come : (n : ℕ) (old new : SourceState) → IsTrue old.is_told → new ≡ after_take n old
    → length (to_come new) ≡ length (to_come old) - n
length-to_come n old new told is =
    let given : new.given ≡ old.given + n = ap (λ (s : SourceState). s.given) is ∙ after_take-given n old told in
    let bytes : length new.bytes ≡ length old.bytes = ap (λ (s : SourceState). length s.bytes) is in
    simp length-drop (omega (arith, given, bytes))

pub told-after : (n : ℕ) (old new : SourceState) → IsTrue old.is_told → new ≡ after_take n old → IsTrue new.is_told
told-after n old new told is = ap (λ (s : SourceState). s.is_told) is ∙ told

-- the bytes that it has then still to give
pub to_come-after : (n : ℕ) (old new : SourceState) → IsTrue old.is_told → new ≡ after_take n old
    → to_come new ≡ drop n (to_come old)
to_come-after n old new told is =
    let given : new.given ≡ old.given + n = ap (λ (s : SourceState). s.given) is ∙ after_take-given n old told in
    let behind : drop n (drop old.given old.bytes) ≡ drop (old.given + n) old.bytes = drop-drop n old.given old.bytes in
    ap (λ (s : SourceState). drop s.given s.bytes) is ∙ ap (λ n. drop n old.bytes) (after_take-given n old told) ∙ sym behind

-- ---- a buffer

-- the bytes that wait, without the first of them
pub waiting-behind : (start end count : ℕ) (bytes : List ℕ) → count ≤ min (end - start) (length bytes - start)
    → take (end - (start + count)) (drop (start + count) bytes) ≡ drop count (take (end - start) (drop start bytes))
waiting-behind start end count bytes within =
    let there : count + (end - (start + count)) ≡ end - start = omega arith in
    let less = drop-take count (end - (start + count)) (drop start bytes) in
    let same : drop count (drop start bytes) ≡ drop (start + count) bytes = drop-drop count start bytes in
    sym (ap (λ n. drop count (take n (drop start bytes))) (sym there) ∙ less ∙ ap (take (end - (start + count))) same)

-- a part of a slice that was moved to its front
pub moved-front : (start count : ℕ) (bytes moved : List ℕ) → start + count ≤ length bytes
    → moved ≡ overwrite 0 (piece_at start count bytes) bytes → take count moved ≡ take count (drop start bytes)
unfolding piece_at
moved-front start count bytes moved within is =
    let size : length (take count (drop start bytes)) ≡ count = simp (length-take, length-drop) (omega arith) in
    let there = piece-overwrite 0 (piece_at start count bytes) bytes (omega arith) in
    ap (take count) is ∙ ap (λ n. take n (overwrite 0 (take count (drop start bytes)) bytes)) (sym size) ∙ there

put-front : (count more : ℕ) (into part : List ℕ) → count ≤ length into → more ≤ length part
    → take (count + more) (put_mid count (length into - count) into part) ≡ take count into ++ take more part
put-front count more into part within room =
    let size : length (take count into) ≡ count = simp length-take (omega arith) in
    let rest = drop (length into - count) (drop count into) in
    let there : take (length (take count into) + more) (take count into ++ (part ++ rest)) ≡ take count into ++ take more (part ++ rest) = take-append-add (take count into) (part ++ rest) more in
    ap (λ n. take (n + more) (take count into ++ (part ++ rest))) (sym size) ∙ there
    ∙ ap (λ xs. take count into ++ xs) (take-append-le more part rest room)

-- what was moved, what was filled behind it, and what is left
pub refill-bytes : (count more : ℕ) (moved part old new front : List ℕ) → count ≤ length moved → take count moved ≡ front
    → length part ≡ length (take (length moved - count) (drop count moved))
    → more ≤ length (take (length moved - count) (drop count moved))
    → take more part ≡ take (length (take (length moved - count) (drop count moved))) old → new ≡ drop more old
    → take (count + more) (put_mid count (length moved - count) moved part) ++ new ≡ front ++ old
refill-bytes count more moved part old new front within begins size room is left =
    let many = fill-count more (length (take (length moved - count) (drop count moved))) part old (omega (arith, room, size)) size is in
    let first : take more part ≡ take more old = sym (take_all more (take more part) (simp length-take (omega arith))) ∙ ap (take more) is ∙ take-take more _ old (omega (arith, many)) in
    ap (λ xs. xs ++ new) (put-front count more moved part within (omega (arith, room, size)) ∙ ap (λ xs. xs ++ take more part) begins)
    ∙ append_assoc front (take more part) new
    ∙ ap (λ xs. front ++ (xs ++ new)) first ∙ ap (λ xs. front ++ (take more old ++ xs)) left
    ∙ ap (λ xs. front ++ xs) (take-append-drop more old)

-- a buffer that isn't full is at the end
pub refill-end : (count more : ℕ) (moved part old new : List ℕ) → count ≤ length moved → count + more < length moved
    → length part ≡ length (take (length moved - count) (drop count moved))
    → more ≤ length (take (length moved - count) (drop count moved))
    → take more part ≡ take (length (take (length moved - count) (drop count moved))) old → new ≡ drop more old → new ≡ []
refill-end count more moved part old new within less size room is left =
    let many = fill-count more (length (take (length moved - count) (drop count moved))) part old (omega (arith, room, size)) size is in
    let here : length (take (length moved - count) (drop count moved)) ≡ length moved - count = simp (length-take, length-drop) (omega arith) in
    left ∙ drop_all more old (omega (arith, many, here))

pub given-none : (s : SourceState) → HasGiven s s
given-none s = record { count = 0; given = sym (after_take-none s) }

pub told-kept : (old new : SourceState) → HasGiven old new → IsTrue old.is_told → IsTrue new.is_told
told-kept old new is told = told-after is.count old new told is.given
