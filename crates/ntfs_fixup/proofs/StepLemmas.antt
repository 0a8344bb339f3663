-- What one turn of each loop leaves: two bytes written side by side.
use Rattle.std.proofs.Common.{◌≡◌, ◌≢◌, ◌≤◌, ◌<◌, ◌+◌, ◌-◌, ◌*◌, ◌%◌, ℕ, zero, suc, List, length, get_or, set, take, drop, [], ◌∷◌, refl, sym, ap, ◌∙◌, arith, inl, inr}
use Rattle.std.proofs.lemmas.Bool.{cases_eq, cases_lt}
use Rattle.std.proofs.lemmas.List.{get_or-set_same, get_or-set_other, length-set, take_all, drop_all, append-nil}
use borrow.Rule.Slice.PartMut.{put_mid}
use Rattle.std.specs.Int.{byte_at}
use Rattle.ntfs_fixup.specs.Fixups.{array_offset, unfix_byte}
use Rattle.ntfs_fixup.proofs.FixupLemmas.{unfix_byte-inside, unfix_byte-low, unfix_byte-high}

-- the first byte of two
pub two-low : (b : List ℕ) (i x y : ℕ) → i + 1 < length b → get_or (set (set b i x) (i + 1) y) i 0 ≡ x
two-low b i x y fits =
    get_or-set_other (set b i x) (i + 1) i y 0 (λ e. omega arith) ∙ get_or-set_same b i x 0 (omega arith)

-- the second byte of two
pub two-high : (b : List ℕ) (i x y : ℕ) → i + 1 < length b → get_or (set (set b i x) (i + 1) y) (i + 1) 0 ≡ y
two-high b i x y fits = get_or-set_same (set b i x) (i + 1) y 0 (omega (arith, length-set b i x))

-- any other byte
pub two-other : (b : List ℕ) (i x y p : ℕ) → p ≢ i → p ≢ i + 1 → get_or (set (set b i x) (i + 1) y) p 0 ≡ get_or b p 0
two-other b i x y p first second = get_or-set_other (set b i x) (i + 1) p y 0 second ∙ get_or-set_other b i p x 0 first

-- a word that is written at the front of the bytes from a place on
pub word_put : (place k next x y : ℕ) (xs : List ℕ) → k ≡ length xs - place → next ≡ place + 1 → place + 2 ≤ length xs
    → put_mid place k xs (x ∷ y ∷ drop 2 (take k (drop place xs))) ≡ set (set xs place x) next y
word_put zero k next x y [] long second fits = absurd (omega arith)
word_put zero k next x y (a ∷ []) long second fits = absurd (omega arith)
word_put zero k next x y (a ∷ b ∷ rest) long second fits =
    let all : take k (a ∷ b ∷ rest) ≡ a ∷ b ∷ rest = take_all k (a ∷ b ∷ rest) (omega arith) in
    let none : drop k (a ∷ b ∷ rest) ≡ [] = drop_all k (a ∷ b ∷ rest) (omega arith) in
    let one : next ≡ 1 = omega arith in
    rw (all, none, one) (append-nil (x ∷ y ∷ rest))
word_put (suc place) k next x y [] long second fits = absurd (omega arith)
word_put (suc place) k next x y (a ∷ xs) long second fits =
    let on : next ≡ suc (place + 1) = omega arith in
    rw on (ap (λ rest. a ∷ rest) (word_put place k (place + 1) x y xs (omega arith) refl (omega arith)))

-- the bytes before stride k are unfixed, those from it on are old
pub record IsUnfixedTo (old b : List ℕ) (k : ℕ) : Type 0 where
  pub done : (p : ℕ) → p < 512 * k → get_or b p 0 ≡ unfix_byte old p
  pub left : (p : ℕ) → 512 * k ≤ p → get_or b p 0 ≡ get_or old p 0

-- the array, which lies before the first stride's end, is old
array_kept : (old b : List ℕ) (k p : ℕ) → IsUnfixedTo old b k → p < 510 → get_or b p 0 ≡ get_or old p 0
array_kept old b k p so within =
    elim (cases_lt p (512 * k)) [
      | inl before ↦ (let inside : p % 512 < 510 = omega arith in so.done p before ∙ unfix_byte-inside old p inside)
      | inr behind ↦ so.left p behind
    ]

-- stride k is restored
pub restored : (old b : List ℕ) (offset k x y : ℕ) → offset ≡ array_offset old → offset + 2 * (k + 1) + 2 ≤ 510
    → 512 * (k + 1) ≤ length b
    → x ≡ get_or b (offset + 2 * (k + 1)) 0 → y ≡ get_or b (offset + 2 * (k + 1) + 1) 0
    → IsUnfixedTo old b k → IsUnfixedTo old (set (set b (512 * k + 510) x) (512 * k + 510 + 1) y) (k + 1)
restored old b offset k x y array room long first second so =
    let low : x ≡ unfix_byte old (512 * k + 510) =
    first ∙ array_kept old b k _ so (omega arith) ∙ ap (λ o. get_or old (o + 2 * (k + 1)) 0) array
    ∙ sym (unfix_byte-low old k) in
    let high : y ≡ unfix_byte old (512 * k + 511) =
    second ∙ array_kept old b k _ so (omega arith) ∙ ap (λ o. get_or old (o + 2 * (k + 1) + 1) 0) array
    ∙ sym (unfix_byte-high old k) in
    record {
      done = λ p within.
          elim (cases_eq p (512 * k + 510)) [
            | inl here ↦ rw here (two-low b (512 * k + 510) x y (omega arith) ∙ low)
            | inr not_first ↦ elim (cases_eq p (512 * k + 510 + 1)) [
              | inl here ↦ rw here
                  (two-high b (512 * k + 510) x y (omega arith) ∙ high ∙ ap (unfix_byte old) (omega arith))
              | inr not_second ↦ two-other b (512 * k + 510) x y p not_first not_second ∙
                  elim (cases_lt p (512 * k)) [
                    | inl before ↦ so.done p before
                    | inr behind ↦
                        (let inside : p % 512 < 510 = omega arith in so.left p behind ∙ sym
                        (unfix_byte-inside old p inside))
                  ]
            ]
          ];
      left = λ p behind. two-other b (512 * k + 510) x y p (λ e. omega arith) (λ e. omega arith)
          ∙ so.left p (omega arith);
    }

-- the words before that of stride k are saved in the array, every other byte is old
pub record IsSavedTo (offset : ℕ) (old b : List ℕ) (k : ℕ) : Type 0 where
  pub done : (j i : ℕ) → j < k → i < 2 → get_or b (offset + 2 * (j + 1) + i) 0 ≡ get_or old (512 * j + 510 + i) 0
  pub before : (p : ℕ) → p < offset + 2 → get_or b p 0 ≡ get_or old p 0
  pub behind : (p : ℕ) → offset + 2 * (k + 1) ≤ p → get_or b p 0 ≡ get_or old p 0

-- the word of stride k is saved
pub saved : (old b : List ℕ) (offset k x y : ℕ) → offset + 2 * (k + 1) + 2 ≤ 510 → 510 ≤ length b
    → x ≡ get_or b (512 * k + 510) 0 → y ≡ get_or b (512 * k + 510 + 1) 0
    → IsSavedTo offset old b k → IsSavedTo offset old
    (set (set b (offset + 2 * (k + 1)) x) (offset + 2 * (k + 1) + 1) y) (k + 1)
saved old b offset k x y room long first second so =
    let low : x ≡ get_or old (512 * k + 510) 0 = first ∙ so.behind _ (omega arith) in
    let high : y ≡ get_or old (512 * k + 510 + 1) 0 = second ∙ so.behind _ (omega arith) in
    record {
      done = λ j i within byte.
          elim (cases_lt j k) [
            | inl earlier ↦ two-other b (offset + 2 * (k + 1)) x y (offset + 2 * (j + 1) + i) (λ e. omega arith)
                (λ e. omega arith) ∙ so.done j i earlier byte
            | inr later ↦ (let here : j ≡ k = omega arith in
                elim (cases_eq i 0) [
                  | inl zeroth ↦ (let place : offset + 2 * (j + 1) + i ≡ offset + 2 * (k + 1) = omega arith in
                      rw place
                      (two-low b (offset + 2 * (k + 1)) x y (omega arith) ∙ low ∙ ap (λ p. get_or old p 0)
                      (omega arith)))
                  | inr other ↦ (let place : offset + 2 * (j + 1) + i ≡ offset + 2 * (k + 1) + 1 = omega arith in
                      rw place
                      (two-high b (offset + 2 * (k + 1)) x y (omega arith) ∙ high ∙ ap (λ p. get_or old p 0)
                      (omega arith)))
                ])
          ];
      before = λ p within. two-other b (offset + 2 * (k + 1)) x y p (λ e. omega arith) (λ e. omega arith)
          ∙ so.before p within;
      behind = λ p within. two-other b (offset + 2 * (k + 1)) x y p (λ e. omega arith) (λ e. omega arith)
          ∙ so.behind p (omega arith);
    }

-- the strides before k end with the number, every byte that is no stride's end is old
pub record IsMarkedTo (number : ℕ) (old b : List ℕ) (k : ℕ) : Type 0 where
  pub done : (j i : ℕ) → j < k → i < 2 → get_or b (512 * j + 510 + i) 0 ≡ byte_at i number
  pub others : (p : ℕ) → p % 512 < 510 → get_or b p 0 ≡ get_or old p 0

-- stride k is marked
pub marked : (old b : List ℕ) (number k : ℕ) → 512 * (k + 1) ≤ length b → IsMarkedTo number old b k
    → IsMarkedTo number old (set (set b (512 * k + 510) (byte_at 0 number)) (512 * k + 510 + 1) (byte_at 1 number))
    (k + 1)
marked old b number k long so = record {
  done = λ j i within byte.
      elim (cases_lt j k) [
        | inl earlier ↦ two-other b (512 * k + 510) (byte_at 0 number) (byte_at 1 number) (512 * j + 510 + i)
            (λ e. omega arith) (λ e. omega arith) ∙ so.done j i earlier byte
        | inr later ↦ (let here : j ≡ k = omega arith in
            elim (cases_eq i 0) [
              | inl zeroth ↦ (let place : 512 * j + 510 + i ≡ 512 * k + 510 = omega arith in
                  rw place
                  (two-low b (512 * k + 510) (byte_at 0 number) (byte_at 1 number) (omega arith) ∙ ap
                  (λ n. byte_at n number) (sym zeroth)))
              | inr other ↦
                  (let place : 512 * j + 510 + i ≡ 512 * k + 510 + 1 = omega arith in let first : 1 ≡ i = omega arith in
                  rw place
                  (two-high b (512 * k + 510) (byte_at 0 number) (byte_at 1 number) (omega arith) ∙ ap
                  (λ n. byte_at n number) first))
            ])
      ];
  others = λ p inside. two-other b (512 * k + 510) (byte_at 0 number) (byte_at 1 number) p (λ e. omega arith)
      (λ e. omega arith) ∙ so.others p inside;
}
