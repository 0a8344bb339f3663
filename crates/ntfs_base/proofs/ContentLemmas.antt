-- The bytes that writes leave.
use Rattle.std.proofs.Common.{◌≡◌, ◌≤◌, ◌<◌, ◌+◌, ◌-◌, ◌&&◌, ◌⊎◌, inl, inr, ℕ, zero, suc, Bool, true, false, cond, IsTrue, List, [], ◌∷◌, ◌++◌, length, take, map, replicate, slice_index, nat_le, nat_lt, refl, sym, ap, ◌∙◌, subst, arith}
use Rattle.std.specs.List.{range_with_len}
use Rattle.std.proofs.lemmas.List.{length-replicate, get_or-replicate}
use Rattle.std.proofs.lemmas.List.FromFn.{length-map-range_with_len, get_or-map-range_with_len}
use Rattle.std.proofs.lemmas.Bool.{leb-true, ltb-true}
use Rattle.std.proofs.lemmas.Bool.Decides.{nat_tests}
use Rattle.ntfs_base.specs.Bytes.{overwrite}
use Rattle.ntfs_base.specs.Image.{ImageState}
use Rattle.ntfs_base.specs.Writes.{Write, content_after, after_writes, has_byte, byte_from, IsApart, IsApartFrom, AreApart}
use Rattle.ntfs_base.proofs.OverwriteLemmas.{length-overwrite, overwrite-before, overwrite-inside, overwrite-behind}

-- lists with the same items
same-lists : (a b : List ℕ) → length a ≡ length b → ((i : ℕ) → i < length a → slice_index a i ≡ slice_index b i) → a ≡ b
same-lists [] [] long same = refl
same-lists [] (y ∷ ys) long same = absurd (omega arith)
same-lists (x ∷ xs) [] long same = absurd (omega arith)
same-lists (x ∷ xs) (y ∷ ys) long same =
    let first = same 0 (omega arith) in
    let rest = same-lists xs ys (omega arith) (λ (i : ℕ) (within : i < length xs). same (suc i) (omega arith)) in
    cc

overwrite-at : (w : Write) (content : List ℕ) (p : ℕ) → w.place ≤ length content
    → slice_index (overwrite w.place w.bytes content) p
    ≡ cond (has_byte w p) (slice_index w.bytes (p - w.place)) (slice_index content p)
overwrite-at w content p within = first (nat_le w.place p) refl
  where
    second : (t : Bool) → nat_lt (p - w.place) (length w.bytes) ≡ t → w.place ≤ p
        → slice_index (overwrite w.place w.bytes content) p
        ≡ cond t (slice_index w.bytes (p - w.place)) (slice_index content p)
    second true is from = overwrite-inside w.place w.bytes content p within from (ltb-true _ _ is)
    second false is from = overwrite-behind w.place w.bytes content p within from (grind (arith, nat_tests))

    first : (t : Bool) → nat_le w.place p ≡ t
        → slice_index (overwrite w.place w.bytes content) p
        ≡ cond (t && nat_lt (p - w.place) (length w.bytes)) (slice_index w.bytes (p - w.place))
        (slice_index content p)
    first true is = second (nat_lt (p - w.place) (length w.bytes)) refl (leb-true _ _ is)
    first false is = overwrite-before w.place w.bytes content p within (grind (arith, nat_tests))

-- all writes lie within so many bytes
abbrev pub AllInside : ℕ → List Write → Type 0
AllInside size [] = Unit {0}
AllInside size (w ∷ ws) = (w.place + length w.bytes ≤ size) × AllInside size ws

pub length-content_after : (ws : List Write) (content : List ℕ) (size : ℕ) → length content ≡ size → AllInside size ws
    → length (content_after ws content) ≡ size
length-content_after [] content size long within = long
length-content_after (w ∷ ws) content size long within =
    let here = within.0 in
    length-content_after ws (overwrite w.place w.bytes content) size
    (length-overwrite w.place w.bytes content (omega arith) ∙ long) within.1

pub content_after-at : (ws : List Write) (content : List ℕ) (size p : ℕ) → length content ≡ size → AllInside size ws
    → slice_index (content_after ws content) p ≡ byte_from ws p (slice_index content p)
content_after-at [] content size p long within = refl
content_after-at (w ∷ ws) content size p long within =
    let here = within.0 in
    content_after-at ws (overwrite w.place w.bytes content) size p
    (length-overwrite w.place w.bytes content (omega arith) ∙ long) within.1
    ∙ ap (byte_from ws p) (overwrite-at w content p (omega arith))

-- writes over zeros, by places
pub content_after-zeros : (ws : List Write) (size : ℕ) → AllInside size ws
    → content_after ws (replicate size 0) ≡ map (λ place. byte_from ws place 0) (range_with_len 0 size)
content_after-zeros ws size within =
    let long : length (replicate size 0) ≡ size = length-replicate size 0 in
    let made_long : length (content_after ws (replicate size 0)) ≡ size =
    length-content_after ws (replicate size 0) size long within in
    let mapped_long = length-map-range_with_len (λ place. byte_from ws place 0) 0 size in
    same-lists (content_after ws (replicate size 0)) (map (λ place. byte_from ws place 0) (range_with_len 0 size))
    (made_long ∙ sym mapped_long)
    (λ (i : ℕ) (below : i < length (content_after ws (replicate size 0))).
    let short : i < size = omega arith in
    content_after-at ws (replicate size 0) size i long within
    ∙ ap (byte_from ws i) (get_or-replicate size i 0 0 short)
    ∙ sym (get_or-map-range_with_len (λ place. byte_from ws place 0) 0 size i i 0 short (omega arith)))

pub inside-append : (size : ℕ) (front rest : List Write) → AllInside size front → AllInside size rest
    → AllInside size (front ++ rest)
inside-append size [] rest first then = then
inside-append size (w ∷ ws) rest first then = (first.0, inside-append size ws rest first.1 then)

pub inside-take : (size : ℕ) (ws : List Write) (k : ℕ) → AllInside size ws → AllInside size (take k ws)
inside-take size ws zero within = tt
inside-take size [] (suc k) within = tt
inside-take size (w ∷ ws) (suc k) within = (within.0, inside-take size ws k within.1)

told-content : (told : Bool) (ws : List Write) (content : List ℕ) → IsTrue told
    → cond told (content_after ws content) content ≡ content_after ws content
told-content true ws content is = refl
told-content false ws content is = absurd cc

-- what is told after the writes
pub told-content_after : (ws : List Write) (old new : ImageState) → new ≡ after_writes ws old → IsTrue old.is_told
    → new.content ≡ content_after ws old.content
unfolding after_writes
told-content_after ws old new is told = ap (λ state. state.content) is ∙ told-content old.is_told ws old.content told

-- ---- writes that lie apart

apart-byte : (v w : Write) (p : ℕ) → has_byte v p ≡ true → IsApart v w → has_byte w p ≡ false
apart-byte v w p has (inl before) = grind (arith, nat_tests)
apart-byte v w p has (inr behind) = grind (arith, nat_tests)

cond-false : (t : Bool) (x y : ℕ) → t ≡ false → cond t x y ≡ y
cond-false true x y is = absurd cc
cond-false false x y is = refl

-- writes that are apart from one that has a byte leave it
byte-stays : (v : Write) (ws : List Write) (p byte : ℕ) → has_byte v p ≡ true → IsApartFrom v ws
    → byte_from ws p byte ≡ byte
byte-stays v [] p byte has apart = refl
byte-stays v (w ∷ ws) p byte has apart =
    byte-stays v ws p _ has apart.1 ∙ cond-false (has_byte w p) _ byte (apart-byte v w p has apart.0)

apart-take : (v : Write) (ws : List Write) (k : ℕ) → IsApartFrom v ws → IsApartFrom v (take k ws)
apart-take v ws zero apart = tt
apart-take v [] (suc k) apart = tt
apart-take v (w ∷ ws) (suc k) apart = (apart.0, apart-take v ws k apart.1)

-- a front of the writes gives 0, or the byte that all give
abbrev pub NoneOrAll : List Write → List Write → ℕ → ℕ → Type 0
NoneOrAll front ws p byte = (byte_from front p byte ≡ 0) ⊎ (byte_from front p byte ≡ byte_from ws p byte)

front-step : (w : Write) (ws : List Write) (k p : ℕ) → IsApartFrom w ws → NoneOrAll (take k ws) ws p 0 → (t : Bool)
    → has_byte w p ≡ t → NoneOrAll (w ∷ take k ws) (w ∷ ws) p 0
front-step w ws k p apart rest true is =
    inr (byte-stays w (take k ws) p _ is (apart-take w ws k apart) ∙ sym (byte-stays w ws p _ is apart))
front-step w ws k p apart rest false is =
    subst (NoneOrAll (take k ws) ws p) (sym (cond-false (has_byte w p) (slice_index w.bytes (p - w.place)) 0 is)) rest

-- so it is where the writes lie apart
pub front-byte : (ws : List Write) (k p : ℕ) → AreApart ws → NoneOrAll (take k ws) ws p 0
front-byte ws zero p apart = inl refl
front-byte [] (suc k) p apart = inl refl
front-byte (w ∷ ws) (suc k) p apart = front-step w ws k p apart.0 (front-byte ws k p apart.1) (has_byte w p) refl
