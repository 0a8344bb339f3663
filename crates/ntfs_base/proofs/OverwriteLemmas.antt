-- What bytes are after a text was put at a place.
use Rattle.std.proofs.Common.{◌≡◌, ◌≤◌, ◌<◌, ◌+◌, ◌-◌, ◌^◌, ℕ, List, ◌++◌, length, take, drop, replicate, slice_index, refl, sym, ap, ◌∙◌, arith, length-append, append_assoc}
use Rattle.std.proofs.lemmas.List.{drop-drop, drop-take, length-take, length-take-le, length-drop, length-replicate, take-append-drop, take-append-le, drop-append-le, get_or-take, get_or-drop}
use Rattle.std.proofs.Math.ListN.{get_or-append}
use Rattle.std.proofs.Math.Seq.{take-append-add, drop-append-add, take-append_seam, drop-append_seam, get_or-append_right}
use lib.Seq.{paste}
use borrow.Rule.Slice.PartMut.{mid_of, put_mid}
use Rattle.byteorder.specs.Endian.{little_bytes}
use Rattle.byteorder.specs.Numbers.{length-bytes_low_first}
use Rattle.ntfs_base.specs.Bytes.{AreBytes, number_at, piece_at, overwrite}
use Rattle.ntfs_base.proofs.BytesLemmas.{take-take}
use Rattle.ntfs_base.proofs.PieceLemmas.{number-own, number-same, number-bytes, bytes-piece}

-- what a copy into a part of a slice leaves
pub put_mid-overwrite : (at : ℕ) (content bytes part : List ℕ) → at + length bytes ≤ length content → part ≡ bytes
    → put_mid at (at + length bytes - at) content part ≡ overwrite at bytes content
unfolding overwrite
put_mid-overwrite at content bytes part within same =
    let count : at + length bytes - at ≡ length bytes = omega arith in
    let behind = drop-drop (length bytes) at content in
    rw (same, count, behind) refl

-- what zeros in a part of a slice leave
pub put_mid-zeros : (at count : ℕ) (content part : List ℕ) → at + count ≤ length content
    → part ≡ replicate (length (mid_of at (at + count - at) content)) 0
    → put_mid at (at + count - at) content part ≡ overwrite at (replicate count 0) content
put_mid-zeros at count content part within same =
    let long : length (replicate {A = ℕ} count 0) ≡ count = length-replicate count 0 in
    let many : length (mid_of at (at + count - at) content) ≡ count =
    omega (arith, length-take (at + count - at) (drop at content), length-drop at content) in
    let put =
    put_mid-overwrite at content (replicate count 0) part (omega arith) (same ∙ ap (λ n. replicate n 0) many) in
    rw long at put

-- what a copy from a piece of a slice leaves
pub paste-overwrite : (from count to : ℕ) (content : List ℕ) → from + count ≤ length content
    → paste content to (drop from content) (from + count - from) ≡ overwrite to (piece_at from count content) content
unfolding overwrite piece_at
paste-overwrite from count to content within =
    let many : from + count - from ≡ count = omega arith in
    let long : length (take count (drop from content)) ≡ count =
    omega (arith, length-take count (drop from content), length-drop from content) in
    rw (many, long) (append_assoc (take to content) (take count (drop from content)) (drop (to + count) content))

-- a text within the bytes keeps their length
pub length-overwrite : (place : ℕ) (text bytes : List ℕ) → place + length text ≤ length bytes
    → length (overwrite place text bytes) ≡ length bytes
unfolding overwrite
length-overwrite place text bytes within =
    let front = length-take-le place bytes (omega arith) in
    let behind = length-drop (place + length text) bytes in
    simp (length-append, front, behind) (omega arith)

-- ---- the byte at an index

pub overwrite-before : (place : ℕ) (text bytes : List ℕ) (p : ℕ) → place ≤ length bytes → p < place
    → slice_index (overwrite place text bytes) p ≡ slice_index bytes p
unfolding overwrite
overwrite-before place text bytes p within before =
    let long = length-take-le place bytes within in
    get_or-append (take place bytes) (text ++ drop (place + length text) bytes) 0 p (omega arith)
    ∙ get_or-take place bytes p 0 before

pub overwrite-inside : (place : ℕ) (text bytes : List ℕ) (p : ℕ) → place ≤ length bytes → place ≤ p
    → p - place < length text → slice_index (overwrite place text bytes) p ≡ slice_index text (p - place)
unfolding overwrite
overwrite-inside place text bytes p within from within_text =
    let long = length-take-le place bytes within in
    get_or-append_right (take place bytes) (text ++ drop (place + length text) bytes) p 0 (omega arith)
    ∙ ap (λ k. slice_index (text ++ drop (place + length text) bytes) (p - k)) long
    ∙ get_or-append text (drop (place + length text) bytes) 0 (p - place) within_text

pub overwrite-behind : (place : ℕ) (text bytes : List ℕ) (p : ℕ) → place ≤ length bytes → place ≤ p
    → length text ≤ p - place → slice_index (overwrite place text bytes) p ≡ slice_index bytes p
unfolding overwrite
overwrite-behind place text bytes p within from past =
    let long = length-take-le place bytes within in
    let index : place + length text + (p - place - length text) ≡ p = omega arith in
    get_or-append_right (take place bytes) (text ++ drop (place + length text) bytes) p 0 (omega arith)
    ∙ ap (λ k. slice_index (text ++ drop (place + length text) bytes) (p - k)) long
    ∙ get_or-append_right text (drop (place + length text) bytes) (p - place) 0 past
    ∙ get_or-drop (place + length text) bytes (p - place - length text) 0
    ∙ ap (slice_index bytes) index

-- ---- fronts, rests and pieces

-- a text inside the left part
pub overwrite-left : (place : ℕ) (text front rest : List ℕ) → place + length text ≤ length front
    → overwrite place text (front ++ rest) ≡ overwrite place text front ++ rest
unfolding overwrite
overwrite-left place text front rest within =
    let before = take-append-le place front rest (omega arith) in
    let behind = drop-append-le (place + length text) front rest within in
    rw (before, behind) (ap (λ xs. take place front ++ xs) (sym (append_assoc text (drop (place + length text) front) rest)) ∙ sym (append_assoc (take place front) (text ++ drop (place + length text) front) rest))

-- a text inside the right part
pub overwrite-right : (place : ℕ) (text front rest : List ℕ)
    → overwrite (length front + place) text (front ++ rest) ≡ front ++ overwrite place text rest
unfolding overwrite
overwrite-right place text front rest =
    let before = take-append-add front rest place in
    let place_is : length front + place + length text ≡ length front + (place + length text) = omega arith in
    let behind = drop-append-add front rest (place + length text) in
    rw (before, place_is, behind) (append_assoc front (take place rest) (text ++ drop (place + length text) rest))

-- a text as long as what it stands over
pub overwrite-filled : (text front old rest : List ℕ) → length text ≡ length old
    → overwrite (length front) text (front ++ (old ++ rest)) ≡ front ++ (text ++ rest)
unfolding overwrite
overwrite-filled text front old rest long =
    let before = take-append_seam front (old ++ rest) in
    let behind = drop-append-add front (old ++ rest) (length text) in
    let rest_is = drop-append_seam old rest in
    rw (before, behind, long, rest_is) refl

-- the front before the text
pub take-overwrite : (n place : ℕ) (text bytes : List ℕ) → place ≤ length bytes → n ≤ place
    → take n (overwrite place text bytes) ≡ take n bytes
unfolding overwrite
take-overwrite n place text bytes within before =
    let long = length-take-le place bytes within in
    take-append-le n (take place bytes) (text ++ drop (place + length text) bytes) (omega arith)
    ∙ take-take n place bytes before

-- the rest behind the text
pub drop-overwrite : (n place : ℕ) (text bytes : List ℕ) → place ≤ length bytes → place + length text ≤ n
    → drop n (overwrite place text bytes) ≡ drop n bytes
unfolding overwrite
drop-overwrite n place text bytes within behind =
    let long = length-take-le place bytes within in
    let whole = drop-append-add (take place bytes) (text ++ drop (place + length text) bytes) (n - place) in
    let rest = drop-append-add text (drop (place + length text) bytes) (n - place - length text) in
    let there = drop-drop (n - place - length text) (place + length text) bytes in
    let sum : length (take place bytes) + (n - place) ≡ n = omega arith in
    let more : length text + (n - place - length text) ≡ n - place = omega arith in
    let last : place + length text + (n - place - length text) ≡ n = omega arith in
    rw sum at whole ∙ rw more at rest ∙ rw last at there

-- the text itself
pub piece-overwrite : (place : ℕ) (text bytes : List ℕ) → place ≤ length bytes
    → piece_at place (length text) (overwrite place text bytes) ≡ text
unfolding overwrite piece_at
piece-overwrite place text bytes within =
    let long = length-take-le place bytes within in
    let there = drop-append_seam (take place bytes) (text ++ drop (place + length text) bytes) in
    let begins : drop place (take place bytes ++ (text ++ drop (place + length text) bytes)) ≡ text ++ drop
    (place + length text) bytes =
    rw long at there in
    ap (take (length text)) begins ∙ take-append_seam text (drop (place + length text) bytes)

-- a piece that ends before the text
pub piece-before : (k n place : ℕ) (text bytes : List ℕ) → place ≤ length bytes → k + n ≤ place
    → piece_at k n (overwrite place text bytes) ≡ piece_at k n bytes
unfolding piece_at
piece-before k n place text bytes within before =
    let kept = take-overwrite (k + n) place text bytes within before in
    sym (drop-take k n (overwrite place text bytes)) ∙ ap (drop k) kept ∙ drop-take k n bytes

-- a piece that begins behind the text
pub piece-after : (k n place : ℕ) (text bytes : List ℕ) → place ≤ length bytes → place + length text ≤ k
    → piece_at k n (overwrite place text bytes) ≡ piece_at k n bytes
unfolding piece_at
piece-after k n place text bytes within behind = ap (take n) (drop-overwrite k place text bytes within behind)

-- a number that ends before the text, and one that begins behind it
pub number-before : (n k place : ℕ) (text bytes : List ℕ) → place ≤ length bytes → k + n ≤ place
    → number_at n k (overwrite place text bytes) ≡ number_at n k bytes
number-before n k place text bytes within before =
    number-same n k k (overwrite place text bytes) bytes (piece-before k n place text bytes within before)

pub number-after : (n k place : ℕ) (text bytes : List ℕ) → place ≤ length bytes → place + length text ≤ k
    → number_at n k (overwrite place text bytes) ≡ number_at n k bytes
number-after n k place text bytes within behind =
    number-same n k k (overwrite place text bytes) bytes (piece-after k n place text bytes within behind)

-- ---- two texts

-- only what stands before and behind a text plays a part
same-sides : (place : ℕ) (text bytes others : List ℕ) → take place bytes ≡ take place others
    → drop (place + length text) bytes ≡ drop (place + length text) others
    → overwrite place text bytes ≡ overwrite place text others
unfolding overwrite
same-sides place text bytes others before behind = rw (before, behind) refl

-- bytes in two parts, of which the second begins with the text
overwrite-parts : (place : ℕ) (text bytes : List ℕ)
    → overwrite place text bytes ≡ take place bytes ++ overwrite 0 text (drop place bytes)
unfolding overwrite
overwrite-parts place text bytes =
    let behind = drop-drop (length text) place bytes in
    let none : 0 + length text ≡ length text = omega arith in
    rw (none, behind) refl

-- a text behind a front of its length
overwrite-seam : (place : ℕ) (text front rest : List ℕ) → length front ≡ place
    → overwrite place text (front ++ rest) ≡ front ++ overwrite 0 text rest
overwrite-seam place text front rest long =
    ap (λ p. overwrite p text (front ++ rest)) (omega arith) ∙ overwrite-right 0 text front rest

-- two texts apart from each other can be put in either order
pub overwrite-swap : (a b : ℕ) (one other bytes : List ℕ) → a + length one ≤ b → b ≤ length bytes
    → overwrite a one (overwrite b other bytes) ≡ overwrite b other (overwrite a one bytes)
overwrite-swap a b one other bytes apart within =
    let front = take b bytes in
    let rest = drop b bytes in
    let long = length-take-le b bytes within in
    let fits : a + length one ≤ length front = omega arith in
    let left : overwrite a one (overwrite b other bytes) ≡ overwrite a one front ++ overwrite 0 other rest =
    ap (overwrite a one) (overwrite-parts b other bytes) ∙ overwrite-left a one front (overwrite 0 other rest) fits in
    let whole : overwrite a one bytes ≡ overwrite a one front ++ rest =
    ap (overwrite a one) (sym (take-append-drop b bytes))
    ∙ overwrite-left a one front rest fits in
    left
    ∙ sym (ap (overwrite b other) whole ∙ overwrite-seam b other (overwrite a one front) rest (length-overwrite a one front fits ∙ long))

-- a text and one right behind it are one text
pub overwrite-append : (place : ℕ) (text more bytes : List ℕ) → place ≤ length bytes
    → overwrite (place + length text) more (overwrite place text bytes) ≡ overwrite place (text ++ more) bytes
unfolding overwrite
overwrite-append place text more bytes within =
    let long = length-take-le place bytes within in
    let all = drop (place + length text) bytes in
    let front : length (take place bytes ++ text) ≡ place + length text =
    omega (arith, length-append (take place bytes) text) in
    let seam = overwrite-seam (place + length text) more (take place bytes ++ text) all front in
    let behind : drop (0 + length more) all ≡ drop (place + length (text ++ more)) bytes =
    drop-drop (0 + length more) (place + length text) bytes
    ∙ ap (λ n. drop n bytes) (omega (arith, length-append text more)) in
    ap (overwrite (place + length text) more) (sym (append_assoc (take place bytes) text all)) ∙ seam
    ∙ append_assoc (take place bytes) text (more ++ drop (0 + length more) all)
    ∙ ap (λ xs. take place bytes ++ xs)
    (sym (append_assoc text more (drop (0 + length more) all)) ∙ ap (λ xs. (text ++ more) ++ xs) behind)

-- of two texts of one length at one place the last stays
pub overwrite-twice : (place : ℕ) (one other bytes : List ℕ) → place ≤ length bytes → length one ≡ length other
    → overwrite place one (overwrite place other bytes) ≡ overwrite place one bytes
overwrite-twice place one other bytes within long =
    same-sides place one (overwrite place other bytes) bytes
    (take-overwrite place place other bytes within (omega arith))
    (drop-overwrite (place + length one) place other bytes within (omega arith))

-- what stands there already changes nothing
pub overwrite-same : (place : ℕ) (text bytes : List ℕ) → piece_at place (length text) bytes ≡ text
    → overwrite place text bytes ≡ bytes
unfolding overwrite piece_at
overwrite-same place text bytes is =
    let behind = drop-drop (length text) place bytes in
    let rest : text ++ drop (place + length text) bytes ≡ drop place bytes =
    ap (λ xs. text ++ xs) (sym behind) ∙ ap (λ xs. xs ++ drop (length text) (drop place bytes)) (sym is)
    ∙ take-append-drop (length text) (drop place bytes) in
    ap (λ xs. take place bytes ++ xs) rest ∙ take-append-drop place bytes

-- a number that stands there already changes nothing
pub overwrite-number : (n place : ℕ) (bytes : List ℕ) → AreBytes bytes → place + n ≤ length bytes
    → overwrite place (little_bytes n (number_at n place bytes)) bytes ≡ bytes
overwrite-number n place bytes are within =
    let long : length (little_bytes n (number_at n place bytes)) ≡ n =
    length-bytes_low_first 0 n (number_at n place bytes) in
    overwrite-same place (little_bytes n (number_at n place bytes)) bytes
    (ap (λ count. piece_at place count bytes) long ∙ sym (bytes-piece n place bytes are within))

-- a number that was put at a place is read there
pub number-overwrite : (n place x : ℕ) (bytes : List ℕ) → place ≤ length bytes → x < 256 ^ n
    → number_at n place (overwrite place (little_bytes n x) bytes) ≡ x
number-overwrite n place x bytes within fits =
    let long : length (little_bytes n x) ≡ n = length-bytes_low_first 0 n x in
    let there = piece-overwrite place (little_bytes n x) bytes within in
    let piece : piece_at place n (overwrite place (little_bytes n x) bytes) ≡ little_bytes n x = rw long at there in
    number-own n place (overwrite place (little_bytes n x) bytes) ∙ ap (number_at n 0) piece ∙ number-bytes n x fits
