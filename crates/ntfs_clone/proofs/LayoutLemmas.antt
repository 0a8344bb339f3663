-- The device with the bytes of commands in front and zeros behind.
use Rattle.std.proofs.Common.{◌≡◌, ◌≤◌, ◌+◌, ◌-◌, ℕ, zero, suc, Bool, true, false, List, ◌∷◌, ◌++◌, length, take, drop, replicate, refl, sym, ap, ◌∙◌, arith, min, nat_le, length-append, append_assoc}
use Rattle.std.proofs.lemmas.Bool.{leb-false, leb-true}
use Rattle.std.proofs.lemmas.List.{length-take, length-replicate, take-append-le, take_all, replicate-append-replicate, drop-replicate}
use Rattle.std.proofs.Math.Seq.{take-append-add, drop-append-add, take-append_seam}
use Rattle.ntfs_base.specs.Bytes.{overwrite}
use Rattle.ntfs_base.specs.Growth.{resize_of}

take-zeros : (n m : ℕ) → take n (replicate {A = ℕ} m 0) ≡ replicate (min n m) 0
take-zeros zero m = let none : min zero m ≡ 0 = omega arith in ap (λ k. replicate k 0) (sym none)
take-zeros (suc n) zero = let none : min (suc n) zero ≡ 0 = omega arith in ap (λ k. replicate k 0) (sym none)
take-zeros (suc n) (suc m) = let next : min (suc n) (suc m) ≡ suc (min n m) = omega arith in ap (λ xs. 0 ∷ xs) (take-zeros n m) ∙ ap (λ k. replicate k 0) (sym next)

-- bytes that fit, and zeros behind them
resize-fits : (d : ℕ) (xs : List ℕ) → length xs ≤ d → resize_of d xs ≡ xs ++ replicate (d - length xs) 0
unfolding resize_of
resize-fits d xs within = rw (take_all d xs within) refl

-- zeros at the end are those that stand behind anyway
pub resize-zeros : (d n : ℕ) (xs : List ℕ) → resize_of d (xs ++ replicate n 0) ≡ resize_of d xs
unfolding resize_of
resize-zeros d n xs = two (nat_le d (length xs)) refl
  where
    all : length (xs ++ replicate n 0) ≡ length xs + n
    all = simp (length-append, length-replicate) refl

    two : (b : Bool) → nat_le d (length xs) ≡ b → take d (xs ++ replicate n 0) ++ replicate (d - length (xs ++ replicate n 0)) 0 ≡ take d xs ++ replicate (d - length xs) 0
    two true is =
        let less = leb-true d (length xs) is in
        let e = all in
        let none : d - length (xs ++ replicate n 0) ≡ d - length xs = omega (arith, e) in
        rw (take-append-le d xs (replicate n 0) less, none) refl
    two false is =
        let less = leb-false d (length xs) is in
        let e = all in
        let split : length xs + (d - length xs) ≡ d = omega arith in
        let first : take d (xs ++ replicate n 0) ≡ xs ++ replicate (min (d - length xs) n) 0 =
        ap (λ k. take k (xs ++ replicate n 0)) (sym split) ∙ take-append-add xs (replicate n 0) (d - length xs) ∙ ap (λ ys. xs ++ ys) (take-zeros (d - length xs) n) in
        let count : min (d - length xs) n + (d - length (xs ++ replicate n 0)) ≡ d - length xs = omega (arith, e) in
        ap (λ ys. ys ++ replicate (d - length (xs ++ replicate n 0)) 0) first ∙ append_assoc xs _ _
        ∙ ap (λ ys. xs ++ ys) (replicate-append-replicate (min (d - length xs) n) (d - length (xs ++ replicate n 0)) 0 ∙ ap (λ k. replicate k 0) count)
        ∙ ap (λ ys. ys ++ replicate (d - length xs) 0) (sym (take_all d xs (omega arith)))

-- bytes that are written behind those in front
pub resize-behind : (d place : ℕ) (done row content : List ℕ) → length done ≡ place → place ≤ d → content ≡ resize_of d done
    → overwrite place (take (d - place) row) content ≡ resize_of d (done ++ row)
unfolding overwrite resize_of
resize-behind d place done row content size within is =
    let text = take (d - place) row in
    let zeros = replicate {A = ℕ} (d - place) 0 in
    let here : content ≡ done ++ zeros = is ∙ resize-fits d done (omega arith) ∙ ap (λ k. done ++ replicate (d - k) 0) size in
    let long : length text ≡ min (d - place) (length row) = length-take (d - place) row in
    let front : take place (done ++ zeros) ≡ done = ap (λ k. take k (done ++ zeros)) (sym size) ∙ take-append_seam done zeros in
    let behind : drop (place + length text) (done ++ zeros) ≡ replicate (d - place - length text) 0 =
    ap (λ k. drop (k + length text) (done ++ zeros)) (sym size) ∙ drop-append-add done zeros (length text) ∙ drop-replicate (length text) (d - place) 0 in
    let all = length-append done row in
    let count : d - place - length text ≡ d - length (done ++ row) = omega (arith, long, all, size) in
    let split : length done + (d - place) ≡ d = omega (arith, size) in
    let whole : take d (done ++ row) ≡ done ++ text = ap (λ k. take k (done ++ row)) (sym split) ∙ take-append-add done row (d - place) in
    ap (λ xs. take place xs ++ (text ++ drop (place + length text) xs)) here
    ∙ ap (λ xs. xs ++ (text ++ drop (place + length text) (done ++ zeros))) front
    ∙ ap (λ xs. done ++ (text ++ xs)) (behind ∙ ap (λ k. replicate k 0) count)
    ∙ sym (append_assoc done text _) ∙ ap (λ xs. xs ++ replicate (d - length (done ++ row)) 0) (sym whole)
