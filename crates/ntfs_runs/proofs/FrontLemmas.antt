-- What stands in front of the bytes is a pair exactly where the relation says so.
use Rattle.std.proofs.Common.{◌≡◌, ◌≤◌, ◌+◌, ◌*◌, ◌/◌, ◌%◌, ◌^◌, ◌+ℤ◌, ℕ, zero, suc, ℤ, pos, negsuc, List, [], ◌∷◌, ◌++◌, length, take, drop, Bool, true, false, cond, ◌&&◌, ◌⊎◌, inl, inr, Option, Some, None, refl, sym, ap, ◌∙◌, append_assoc, arith, length-append, eqb}
use Rattle.std.specs.Prelude.{option_map, nat_le}
use Rattle.std.proofs.lemmas.Bool.{eqb-true, leb-true, le-leb}
use Rattle.std.proofs.lemmas.Bool.Decides.{nat_tests}
use Rattle.std.proofs.lemmas.Option.{cond_some}
use Rattle.std.proofs.lemmas.List.{drop_at, take-append-drop, length-take, length-drop}
use Rattle.byteorder.specs.Endian.{twos_complement}
use Rattle.byteorder.specs.Numbers.{little_from-take, little_from-append}
use Rattle.ntfs_runs.specs.declared.run.Run.{Run}
use Rattle.ntfs_runs.specs.declared.front.Front.TheVariants.{Closing, Wrong, Pair}
use Rattle.ntfs_runs.specs.Number.{signed, between}
use Rattle.ntfs_runs.specs.Spelling.{pair, IsPair, IsPlace}
use Rattle.ntfs_runs.specs.Reading.{length_in, lcn_in, front_of, has_sizes, pair_in, front_at}
use Rattle.ntfs_runs.proofs.NumberLemmas.{between-pos}

-- which way a test went
pub chosen : {A : Type 0} (b : Bool) (x y z : A) → cond b x y ≡ z → ((b ≡ true) × (x ≡ z)) ⊎ ((b ≡ false) × (y ≡ z))
chosen true x y z e = inl (refl, e)
chosen false x y z e = inr (refl, e)

both : (a b : Bool) → (a && b) ≡ true → (a ≡ true) × (b ≡ true)
both true b e = (refl, e)
both false b e = absurd cc

-- only the first n bytes matter
signed-take : (n : ℕ) (bytes : List ℕ) → signed n (take n bytes) ≡ signed n bytes
unfolding signed
signed-take n bytes = ap (twos_complement n) (little_from-take 0 n n bytes (omega arith))

pub signed-append : (bytes more : List ℕ) → signed (length bytes) (bytes ++ more) ≡ signed (length bytes) bytes
unfolding signed
signed-append bytes more = ap (twos_complement (length bytes)) (little_from-append (length bytes) bytes more (omega arith))

between-some : (low high : ℕ) (z : ℤ) (n : ℕ) → between low high z ≡ Some n → (z ≡ pos n) × (low ≤ n) × (n ≤ high)
unfolding between
between-some low high (negsuc k) n e = absurd cc
between-some low high (pos k) n e =
    let found = cond_some (nat_le low k && nat_le k high) k n e in
    let tests = both (nat_le low k) (nat_le k high) found.0 in
    let same = found.1 in
    let from = leb-true low k tests.0 in
    let to = leb-true k high tests.1 in
    (ap pos same, omega arith, omega arith)

-- an LCN that a delta gives is a place, read from just these bytes
lcn_in-some : (last n : ℕ) (bytes : List ℕ) (lcn : Option ℕ) → n ≤ length bytes → lcn_in last n bytes ≡ Some lcn → IsPlace last (take n bytes) lcn
lcn_in-some last zero bytes None within e = refl
lcn_in-some last zero bytes (Some lcn) within e = absurd cc
lcn_in-some last (suc n) bytes lcn within e =
    of-some (between 0 (2 ^ 48) (pos last +ℤ signed (suc n) bytes)) refl lcn e
  where
    of-some : (o : Option ℕ) → between 0 (2 ^ 48) (pos last +ℤ signed (suc n) bytes) ≡ o → (lcn : Option ℕ) → option_map Some o ≡ Some lcn → IsPlace last (take (suc n) bytes) lcn
    of-some None is lcn e = absurd cc
    of-some (Some k) is None e = absurd cc
    of-some (Some k) is (Some lcn) e =
        let found = between-some 0 (2 ^ 48) (pos last +ℤ signed (suc n) bytes) k is in
        let same : k ≡ lcn = cc in
        let len : length (take (suc n) bytes) ≡ suc n = omega (arith, length-take (suc n) bytes) in
        let number : pos lcn ≡ pos last +ℤ signed (length (take (suc n) bytes)) (take (suc n) bytes) = rw (len, signed-take (suc n) bytes) (sym (found.0 ∙ ap pos same)) in
        (omega arith, number, omega arith)

-- a pair in front of the bytes, and the bytes behind it
pub record HasPair (last room : ℕ) (bytes : List ℕ) (run : Run) (size : ℕ) : Type 0 where
  pub count : List ℕ
  pub delta : List ℕ
  pub rest : List ℕ
  pub bytes-is : bytes ≡ pair count delta ++ rest
  pub size-is : size ≡ length (pair count delta)
  pub is : IsPair last room count delta run

abbrev made : ℕ → Option ℕ → Run
made count lcn = record { length = count; lcn = lcn }

front_of-pair : (size : ℕ) (count : Option ℕ) (lcn : Option (Option ℕ)) (run : Run) (n : ℕ) → front_of size count lcn ≡ Pair run n → (count ≡ Some run.length) × (lcn ≡ Some run.lcn) × (size ≡ n)
front_of-pair size (Some c) (Some l) run n e =
    let same : made c l ≡ run = cc in
    (ap (λ (r : Run). Some r.length) same, ap (λ (r : Run). Some r.lcn) same, cc)
front_of-pair size (Some c) None run n e = absurd cc
front_of-pair size None lcn run n e = absurd cc

-- the four tests of the sizes
pub record SizesAreRight (n m left : ℕ) : Type 0 where
  pub least : 1 ≤ n
  pub most : n ≤ 8
  pub delta : m ≤ 8
  pub within : n + m ≤ left

pub sizes-right : (n m left : ℕ) → has_sizes n m left ≡ true → SizesAreRight n m left
sizes-right n m left e =
    let a = both (nat_le 1 n && nat_le n 8 && nat_le m 8) (nat_le (n + m) left) e in
    let b = both (nat_le 1 n && nat_le n 8) (nat_le m 8) a.0 in
    let c = both (nat_le 1 n) (nat_le n 8) b.0 in
    record { least = leb-true 1 n c.0; most = leb-true n 8 c.1; delta = leb-true m 8 b.1; within = leb-true (n + m) left a.1 }

-- a pair that is read is one, and takes its size
pub pair_in-pair : (last room header : ℕ) (rest : List ℕ) (run : Run) (size : ℕ) → pair_in last room (header % 16) (header / 16) rest ≡ Pair run size → HasPair last room (header ∷ rest) run size
unfolding pair_in
pair_in-pair last room header rest run size e =
    of (header % 16) (header / 16) (omega arith) e
  where
    of : (n m : ℕ) → header ≡ n + 16 * m → pair_in last room n m rest ≡ Pair run size → HasPair last room (header ∷ rest) run size
    of n m parts e =
        elim (chosen (has_sizes n m (length rest)) (front_of (1 + n + m) (length_in room n rest) (lcn_in last m (drop n rest))) Wrong (Pair run size) e) [
          | inr (test, wrong) ↦ absurd cc
          | inl (test, gives) ↦
              let right = sizes-right n m (length rest) test in
              let found = front_of-pair (1 + n + m) (length_in room n rest) (lcn_in last m (drop n rest)) run size gives in
              let count-len : length (take n rest) ≡ n = omega (arith, length-take n rest, right.within) in
              let delta-len : length (take m (drop n rest)) ≡ m = omega (arith, length-take m (drop n rest), length-drop n rest, right.within) in
              let number = between-some 1 room (signed n rest) run.length found.0 in
              let place = lcn_in-some last m (drop n rest) run.lcn (omega (arith, length-drop n rest, right.within)) found.1 in
              record {
                count = take n rest;
                delta = take m (drop n rest);
                rest = drop m (drop n rest);
                bytes-is = rw (count-len, delta-len, ← parts) (ap (λ (bytes : List ℕ). header ∷ bytes) (sym (append_assoc (take n rest) (take m (drop n rest)) (drop m (drop n rest)) ∙ ap (λ (bytes : List ℕ). take n rest ++ bytes) (take-append-drop m (drop n rest)) ∙ take-append-drop n rest)));
                size-is = omega (arith, found.2, count-len, delta-len, length-append (take n rest) (take m (drop n rest)));
                is = record {
                  count_least = rw count-len right.least;
                  count_most = rw count-len right.most;
                  delta_most = rw delta-len right.delta;
                  number = rw (count-len, signed-take n rest) number.0;
                  least = number.1;
                  most = number.2;
                  place = place;
                };
              }
        ]

pub front-pair : (last room : ℕ) (bytes : List ℕ) (run : Run) (size : ℕ) → front_at last room bytes ≡ Pair run size → HasPair last room bytes run size
unfolding front_at
front-pair last room [] run size e = absurd cc
front-pair last room (header ∷ rest) run size e =
    elim (chosen (eqb header 0) Closing (pair_in last room (header % 16) (header / 16) rest) (Pair run size) e) [
      | inl (test, closing) ↦ absurd cc
      | inr (test, gives) ↦ pair_in-pair last room header rest run size gives
    ]

-- the closing 0 that is read is one
pub front-closing : (last room : ℕ) (bytes : List ℕ) → front_at last room bytes ≡ Closing → (more : List ℕ) × (bytes ≡ 0 ∷ more)
unfolding front_at pair_in
front-closing last room [] e = absurd cc
front-closing last room (header ∷ rest) e =
    elim (chosen (eqb header 0) Closing (pair_in last room (header % 16) (header / 16) rest) Closing e) [
      | inl (test, closing) ↦ (rest, ap (λ (h : ℕ). h ∷ rest) (eqb-true header 0 test))
      | inr (test, gives) ↦ absurd (not-closing (has_sizes (header % 16) (header / 16) (length rest)) (1 + header % 16 + header / 16) (length_in room (header % 16) rest) (lcn_in last (header / 16) (drop (header % 16) rest)) gives)
    ]
  where
    not-closing : (b : Bool) (size : ℕ) (count : Option ℕ) (lcn : Option (Option ℕ)) → cond b (front_of size count lcn) Wrong ≡ Closing → ⊥
    not-closing false size count lcn e = absurd cc
    not-closing true size (Some c) (Some l) e = absurd cc
    not-closing true size (Some c) None e = absurd cc
    not-closing true size None lcn e = absurd cc

-- a closing 0 is read as one
pub closing-front : (last room : ℕ) (more : List ℕ) → front_at last room (0 ∷ more) ≡ Closing
unfolding front_at
closing-front last room more = refl

-- a place is read from its bytes, whatever follows
lcn_in-place : (last : ℕ) (delta more : List ℕ) (lcn : Option ℕ) → IsPlace last delta lcn → lcn_in last (length delta) (delta ++ more) ≡ Some lcn
lcn_in-place last [] more None is = refl
lcn_in-place last (byte ∷ delta) more None is = absurd cc
lcn_in-place last [] more (Some lcn) is = absurd (omega (arith, is.0))
lcn_in-place last (byte ∷ delta) more (Some lcn) is =
    let len : length (byte ∷ delta) ≡ suc (length delta) = refl in
    ap (λ (z : ℤ). option_map Some (between 0 (2 ^ 48) (pos last +ℤ z))) (signed-append (byte ∷ delta) more)
    ∙ ap (λ (z : ℤ). option_map Some (between 0 (2 ^ 48) z)) (sym is.1)
    ∙ ap (option_map Some) (between-pos 0 (2 ^ 48) lcn (omega arith) is.2)

pub right-sizes : (n m left : ℕ) → SizesAreRight n m left → has_sizes n m left ≡ true
right-sizes n m left right = rw (le-leb 1 n right.least, le-leb n 8 right.most, le-leb m 8 right.delta, le-leb (n + m) left right.within) refl

pair_in-front : (last room : ℕ) (count delta more : List ℕ) (run : Run) → IsPair last room count delta run → pair_in last room (length count) (length delta) (count ++ (delta ++ more)) ≡ Pair run (1 + length count + length delta)
unfolding pair_in
pair_in-front last room count delta more run is =
    let n = length count in
    let m = length delta in
    let right : SizesAreRight n m (length (count ++ (delta ++ more))) = record { least = is.count_least; most = is.count_most; delta = is.delta_most; within = omega (arith, length-append count (delta ++ more), length-append delta more) } in
    let number : length_in room n (count ++ (delta ++ more)) ≡ Some run.length = ap (between 1 room) (signed-append count (delta ++ more) ∙ is.number) ∙ between-pos 1 room run.length is.least is.most in
    let place : lcn_in last m (drop n (count ++ (delta ++ more))) ≡ Some run.lcn = ap (lcn_in last m) (drop_at count (delta ++ more) n refl) ∙ lcn_in-place last delta more run.lcn is.place in
    rw (right-sizes n m (length (count ++ (delta ++ more))) right, number, place) refl

-- a pair is read as its run, whatever follows
pub pair-front : (last room : ℕ) (count delta more : List ℕ) (run : Run) → IsPair last room count delta run → front_at last room (pair count delta ++ more) ≡ Pair run (length (pair count delta))
unfolding front_at
pair-front last room count delta more run is =
    let n = length count in
    let m = length delta in
    let least = is.count_least in
    let most = is.count_most in
    let some : eqb (n + 16 * m) 0 ≡ false = grind (arith, nat_tests) in
    let low : (n + 16 * m) % 16 ≡ n = omega arith in
    let high : (n + 16 * m) / 16 ≡ m = omega arith in
    let size : 1 + n + m ≡ length (pair count delta) = omega (arith, length-append count delta) in
    rw (some, low, high, append_assoc count delta more) (pair_in-front last room count delta more run is ∙ ap (Pair run) size)
