-- Texts put over parts of bytes.
use Rattle.std.proofs.Common.{◌≡◌, ◌≤◌, ◌+◌, ℕ, List, ◌++◌, length, take, drop, refl, sym, ap, ◌∙◌, arith, length-append}
use Rattle.std.proofs.lemmas.List.{append-nil, take-append-drop, take-append-le, length-take-le}
use Rattle.std.proofs.Math.Seq.{take-append_seam, drop-length}
use Rattle.ntfs_base.specs.Bytes.{overwrite}
use Rattle.ntfs_base.proofs.BytesLemmas.{take-take}
use Rattle.ntfs_base.proofs.OverwriteLemmas.{length-overwrite, overwrite-left, overwrite-right}

-- the front of bytes with a text inside it
pub take-inside : (n place : ℕ) (text bytes : List ℕ) → place + length text ≤ n → n ≤ length bytes
    → take n (overwrite place text bytes) ≡ overwrite place text (take n bytes)
take-inside n place text bytes fits within =
    let long = length-take-le n bytes within in
    let inside : place + length text ≤ length (take n bytes) = omega arith in
    let whole : overwrite place text bytes ≡ overwrite place text (take n bytes) ++ drop n bytes =
    ap (overwrite place text) (sym (take-append-drop n bytes)) ∙ overwrite-left place text (take n bytes) (drop n bytes) inside in
    let length_is : length (overwrite place text (take n bytes)) ≡ n =
    length-overwrite place text (take n bytes) inside ∙ long in
    ap (take n) whole
    ∙ ap (λ k. take k (overwrite place text (take n bytes) ++ drop n bytes)) (sym length_is)
    ∙ take-append_seam (overwrite place text (take n bytes)) (drop n bytes)

-- a text inside the middle of three parts
pub overwrite-middle : (n k : ℕ) (text front middle rest : List ℕ) → length front ≡ n → k + length text ≤ length middle
    → overwrite (n + k) text (front ++ (middle ++ rest)) ≡ front ++ (overwrite k text middle ++ rest)
overwrite-middle n k text front middle rest long within =
    ap (λ p. overwrite (p + k) text (front ++ (middle ++ rest))) (sym long)
    ∙ overwrite-right k text front (middle ++ rest)
    ∙ ap (λ xs. front ++ xs) (overwrite-left k text middle rest within)

-- a text up to the end
pub overwrite-last : (place : ℕ) (text bytes : List ℕ) → place + length text ≡ length bytes
    → overwrite place text bytes ≡ take place bytes ++ text
unfolding overwrite
overwrite-last place text bytes ends =
    ap (λ xs. take place bytes ++ (text ++ xs)) (ap (λ n. drop n bytes) ends ∙ drop-length bytes)
    ∙ ap (λ xs. take place bytes ++ xs) (append-nil text)

-- a text behind a front takes the place of what stood there
pub overwrite-cut : (size : ℕ) (text bytes : List ℕ)
    → overwrite size text bytes ≡ take size bytes ++ (text ++ drop (size + length text) bytes)
unfolding overwrite
overwrite-cut size text bytes = refl

-- ---- the steps of an edit

-- an attribute between what stands before it and behind it in the bytes in use, and the bytes behind those; a text at
-- its offset ends where the new length does, and two fields stand before it
pub record IsRefilled (size k offset : ℕ) (used long field text front raw more rest : List ℕ) : Type 0 where
  pub header : 0x18 + length used ≤ length front
  pub length_inside : 4 + length long ≤ offset
  pub field_inside : k + length field ≤ offset
  pub offset_inside : offset ≤ length raw
  pub ends : offset + length text ≡ size
  pub room : size ≤ length raw + length rest

-- the new bytes of the attribute
abbrev pub refilled : ℕ → ℕ → List ℕ → List ℕ → List ℕ → List ℕ → List ℕ
refilled k offset long field text raw = overwrite k field (overwrite 4 long (take offset raw)) ++ text

-- what follows is shifted, and the fields and the text are put in
pub refill : (size k offset place : ℕ) (used long field text front raw more rest : List ℕ)
    → IsRefilled size k offset used long field text front raw more rest → length front ≡ place
    → overwrite (place + offset) text (overwrite (place + k) field (overwrite (place + 4) long (overwrite 0x18 used (overwrite (place + size) more (front ++ (raw ++ (more ++ rest)))))))
    ≡ overwrite 0x18 used front ++ (refilled k offset long field text raw ++ (more ++ drop (size + length more) (raw ++ (more ++ rest))))
refill size k offset place used long field text front raw more rest is at =
    let all = raw ++ (more ++ rest) in
    let last = more ++ drop (size + length more) (raw ++ (more ++ rest)) in
    let new_front = overwrite 0x18 used front in
    let base = take size (raw ++ (more ++ rest)) in
    let with_long = overwrite 4 long (take size (raw ++ (more ++ rest))) in
    let with_field = overwrite k field (overwrite 4 long (take size (raw ++ (more ++ rest)))) in
    let whole : length (raw ++ (more ++ rest)) ≡ length raw + (length more + length rest) =
    omega (arith, length-append raw (more ++ rest), length-append more rest) in
    let base_long : length (take size (raw ++ (more ++ rest))) ≡ size =
    length-take-le size (raw ++ (more ++ rest)) (omega (arith, is.room)) in
    let front_long : length (overwrite 0x18 used front) ≡ place = length-overwrite 0x18 used front is.header ∙ at in
    let in_long : 4 + length long ≤ length base = omega (arith, is.length_inside, is.ends) in
    let long_long : length with_long ≡ size = length-overwrite 4 long base in_long ∙ base_long in
    let in_field : k + length field ≤ length with_long = omega (arith, is.field_inside, is.ends) in
    let field_long : length with_field ≡ size = length-overwrite k field with_long in_field ∙ long_long in
    let shifted : overwrite (place + size) more (front ++ all) ≡ front ++ (base ++ last) =
    ap (λ p. overwrite (p + size) more (front ++ all)) (sym at)
    ∙ overwrite-right size more front all ∙ ap (λ xs. front ++ xs) (overwrite-cut size more all) in
    let told : overwrite 0x18 used (front ++ (base ++ last)) ≡ new_front ++ (base ++ last) =
    overwrite-left 0x18 used front (base ++ last) is.header in
    let one = overwrite-middle place 4 long new_front base last front_long in_long in
    let two = overwrite-middle place k field new_front with_long last front_long in_field in
    let in_text : offset + length text ≤ length with_field = omega (arith, is.ends) in
    let three = overwrite-middle place offset text new_front with_field last front_long in_text in
    let full : overwrite offset text with_field ≡ take offset with_field ++ text =
    overwrite-last offset text with_field (is.ends ∙ sym field_long) in
    let within : offset ≤ size = omega (arith, is.ends) in
    let start : take offset base ≡ take offset raw =
    take-take offset size all within ∙ take-append-le offset raw (more ++ rest) is.offset_inside in
    let fields : take offset with_field ≡ overwrite k field (overwrite 4 long (take offset raw)) =
    take-inside offset k field with_long is.field_inside (omega (arith, long_long))
    ∙ ap (overwrite k field) (take-inside offset 4 long base is.length_inside (omega (arith, base_long)) ∙ ap (overwrite 4 long) start) in
    ap (λ xs. overwrite (place + offset) text (overwrite (place + k) field (overwrite (place + 4) long (overwrite 0x18 used xs)))) shifted
    ∙ ap (λ xs. overwrite (place + offset) text (overwrite (place + k) field (overwrite (place + 4) long xs))) told
    ∙ ap (λ xs. overwrite (place + offset) text (overwrite (place + k) field xs)) one
    ∙ ap (overwrite (place + offset) text) two
    ∙ three
    ∙ ap (λ xs. new_front ++ (xs ++ last)) (full ∙ ap (λ xs. xs ++ text) fields)
