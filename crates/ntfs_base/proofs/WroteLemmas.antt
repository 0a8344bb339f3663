-- What calls that write one after the other have written.
use Rattle.std.proofs.Common.{◌≡◌, ◌<◌, ◌+◌, ℕ, zero, suc, List, [], ◌∷◌, ◌++◌, length, take, drop, map, get_or, refl, sym, ap, ◌∙◌, Result, Ok, Err, arith, length-append, add-one}
use Rattle.std.proofs.lemmas.List.{take-append-le}
use Rattle.std.specs.Prelude.{IsErr}
use Rattle.ntfs_base.specs.Image.{ImageState}
use Rattle.ntfs_base.specs.Writes.{Write, after_writes, Wrote}
use Rattle.ntfs_base.proofs.WritesLemmas.{after_writes-append, after_writes-nil}

-- a call that failed before its first write
pub wrote-none : {T E : Type 0} (ws : List Write) (state : ImageState) (fault : E)
    → Wrote {T = T} ws state (Err fault) state
wrote-none ws state fault = record { whole = tt; part = (0, omega arith, sym (after_writes-nil state)) }

take-seam : {X : Type 0} (front rest : List X) (k : ℕ) → take (length front + k) (front ++ rest) ≡ front ++ take k rest
take-seam [] rest k = ap (λ n. take n rest) (omega arith)
take-seam (x ∷ xs) rest k =
    let next : length (x ∷ xs) + k ≡ suc (length xs + k) = omega arith in
    ap (λ n. take n (x ∷ xs ++ rest)) next ∙ ap (λ ys. x ∷ ys) (take-seam xs rest k)

-- the first writes were made, and then a call has made the rest or a front of it
pub wrote-then : {T E : Type 0} (front rest : List Write) (old mid new : ImageState) (result : Result T E)
    → mid ≡ after_writes front old → Wrote rest mid result new → Wrote (front ++ rest) old result new
wrote-then front rest old mid new (Ok x) before is = record {
  whole = is.whole ∙ ap (after_writes rest) before ∙ sym (after_writes-append front rest old);
  part = tt;
}
wrote-then front rest old mid new (Err e) before is =
    let k = is.part.0 in
    let within = is.part.1 in
    let longer = length-append front rest in
    record {
      whole = tt;
      part =
          (length front + k, omega arith, is.part.2 ∙ ap (after_writes (take k rest)) before ∙ sym (after_writes-append front (take k rest) old) ∙ ap (λ ws. after_writes ws old) (sym (take-seam front rest k)));
    }

-- a call that failed among the first writes has made none of the others
pub wrote-cut : {T E : Type 0} (front rest : List Write) (old new : ImageState) (fault : E)
    → Wrote {T = T} front old (Err fault) new → Wrote {T = T} (front ++ rest) old (Err fault) new
wrote-cut front rest old new fault is =
    let k = is.part.0 in
    let within = is.part.1 in
    let longer = length-append front rest in
    record {
      whole = tt;
      part = (k, omega arith, is.part.2 ∙ ap (λ ws. after_writes ws old) (sym (take-append-le k front rest within)));
    }

-- the writes of a list's items, around one of them
map-around : {X : Type 0} (f : X → Write) (xs : List X) (i : ℕ) (d x : X) → i < length xs → get_or xs i d ≡ x
    → map f xs ≡ map f (take i xs) ++ (f x ∷ map f (drop (suc i) xs))
map-around f [] i d x within is = absurd (omega arith)
map-around f (y ∷ ys) zero d x within is = ap (λ z. f z ∷ map f ys) is
map-around f (y ∷ ys) (suc i) d x within is = ap (λ ws. f y ∷ ws) (map-around f ys i d x (omega arith) is)

map-front : {X : Type 0} (f : X → Write) (xs : List X) (i : ℕ) (d x : X) → i < length xs → get_or xs i d ≡ x
    → map f (take (suc i) xs) ≡ map f (take i xs) ++ f x ∷ []
map-front f [] i d x within is = absurd (omega arith)
map-front f (y ∷ ys) zero d x within is = ap (λ z. f z ∷ []) is
map-front f (y ∷ ys) (suc i) d x within is = ap (λ ws. f y ∷ ws) (map-front f ys i d x (omega arith) is)

-- a loop's step that was done
pub each-done : {X : Type 0} (f : X → Write) (xs : List X) (i : ℕ) (d x : X) (old mid new : ImageState)
    → i < length xs → get_or xs i d ≡ x → mid ≡ after_writes (map f (take i xs)) old
    → new ≡ after_writes (f x ∷ []) mid → new ≡ after_writes (map f (take (i + 1) xs)) old
each-done f xs i d x old mid new within is before now =
    now ∙ ap (after_writes (f x ∷ [])) before ∙ sym (after_writes-append (map f (take i xs)) (f x ∷ []) old)
    ∙ ap (λ ws. after_writes ws old)
    (sym (map-front f xs i d x within is) ∙ ap (λ k. map f (take k xs)) (sym (add-one i)))

-- a loop's step that failed
pub each-cut : {X T E : Type 0} (f : X → Write) (xs : List X) (i : ℕ) (d x : X) (old mid new : ImageState) (fault : E)
    → i < length xs → get_or xs i d ≡ x → mid ≡ after_writes (map f (take i xs)) old
    → Wrote {T = T} (f x ∷ []) mid (Err fault) new → Wrote {T = T} (map f xs) old (Err fault) new
each-cut f xs i d x old mid new fault within is before step =
    let rest = map f (drop (suc i) xs) in
    let cut = wrote-cut (f x ∷ []) rest mid new fault step in
    let all = wrote-then (map f (take i xs)) (f x ∷ rest) old mid new (Err fault) before cut in
    rw (map-around f xs i d x within is) all

pub after_writes-size : (ws : List Write) (state : ImageState) → (after_writes ws state).size ≡ state.size
unfolding after_writes
after_writes-size ws state = refl

pub after_writes-told : (ws : List Write) (state : ImageState) → (after_writes ws state).is_told ≡ state.is_told
unfolding after_writes
after_writes-told ws state = refl

-- the same for a result that is some fault
pub wrote-as : {T E F : Type 0} (ws : List Write) (old new : ImageState) (fault : E) (result : Result T F)
    → IsErr result → Wrote {T = T} ws old (Err fault) new → Wrote ws old result new
wrote-as ws old new fault (Ok x) err is = absurd cc
wrote-as ws old new fault (Err e) err is = record { whole = tt; part = is.part }

pub wrote-none-as : {T E : Type 0} (ws : List Write) (state : ImageState) (result : Result T E) → IsErr result
    → Wrote ws state result state
wrote-none-as ws state (Ok x) err = absurd cc
wrote-none-as ws state (Err e) err = wrote-none ws state e
