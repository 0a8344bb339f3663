-- What bytes are after a number of four bytes and a field were put into their front, and a text behind it.
use Rattle.std.proofs.Common.{◌≡◌, ◌≤◌, ◌+◌, ℕ, List, ◌++◌, length, take, sym, ap, ◌∙◌, arith}
use Rattle.std.proofs.lemmas.List.{length-take-le}
use Rattle.ntfs_base.specs.Bytes.{piece_at, number_at, overwrite}
use Rattle.ntfs_base.proofs.BytesLemmas.{take-drop-take}
use Rattle.ntfs_base.proofs.PieceLemmas.{piece-front, piece-behind, number-same}
use Rattle.ntfs_base.proofs.OverwriteLemmas.{length-overwrite, piece-overwrite, piece-before, piece-after}
use Rattle.ntfs_edit.proofs.PutLemmas.{refilled}
use Rattle.ntfs_edit.proofs.PartsLemmas.{whole-piece}

-- the bytes of a list as it stands, but for those four, the field, and what stands from the offset on
pub record Refills (k offset : ℕ) (long field text old new : List ℕ) : Type 0 where
  pub low : (p n : ℕ) → p + n ≤ 4 → piece_at p n new ≡ piece_at p n old
  pub mid : (p n : ℕ) → 8 ≤ p → p + n ≤ k → piece_at p n new ≡ piece_at p n old
  pub high : (p n : ℕ) → k + length field ≤ p → p + n ≤ offset → piece_at p n new ≡ piece_at p n old
  pub long_is : piece_at 4 4 new ≡ long
  pub field_is : piece_at k (length field) new ≡ field
  pub text_is : piece_at offset (length text) new ≡ text

piece-take : (p n m : ℕ) (bytes : List ℕ) → p + n ≤ m → piece_at p n (take m bytes) ≡ piece_at p n bytes
unfolding piece_at
piece-take p n m bytes within = take-drop-take p n m bytes within

pub refills : (k offset : ℕ) (long field text old : List ℕ) → length long ≡ 4 → 8 ≤ k → k + length field ≤ offset
    → offset ≤ length old → Refills k offset long field text old (refilled k offset long field text old)
refills k offset long field text old four behind inside within =
    let front = take offset old in
    let front_long = length-take-le offset old within in
    let one = overwrite 4 long (take offset old) in
    let one_long = length-overwrite 4 long (take offset old) (omega arith) in
    let two = overwrite k field (overwrite 4 long (take offset old)) in
    let two_long = length-overwrite k field (overwrite 4 long (take offset old)) (omega arith) in
    let at : length (overwrite k field (overwrite 4 long (take offset old))) + 0 ≡ offset = omega arith in
    record {
      low = λ p n low. piece-front p n two text (omega arith)
          ∙ piece-before p n k field one (omega arith) (omega arith)
          ∙ piece-before p n 4 long front (omega arith) low ∙ piece-take p n offset old (omega arith);
      mid = λ p n from to. piece-front p n two text (omega arith)
          ∙ piece-before p n k field one (omega arith) to
          ∙ piece-after p n 4 long front (omega arith) (omega arith) ∙ piece-take p n offset old (omega arith);
      high = λ p n from to. piece-front p n two text (omega arith)
          ∙ piece-after p n k field one (omega arith) from
          ∙ piece-after p n 4 long front (omega arith) (omega arith) ∙ piece-take p n offset old to;
      long_is = piece-front 4 4 two text (omega arith) ∙ piece-before 4 4 k field one (omega arith) (omega arith)
          ∙ ap (λ n. piece_at 4 n one) (sym four) ∙ piece-overwrite 4 long front (omega arith);
      field_is = piece-front k (length field) two text (omega arith) ∙ piece-overwrite k field one (omega arith);
      text_is = ap (λ p. piece_at p (length text) (two ++ text)) (sym at) ∙ piece-behind 0 (length text) two text
          ∙ whole-piece text;
    }

-- the same of numbers
pub number-low : (k offset : ℕ) (long field text old new : List ℕ) (n p : ℕ) → Refills k offset long field text old new
    → p + n ≤ 4 → number_at n p new ≡ number_at n p old
number-low k offset long field text old new n p r low = number-same n p p new old (r.low p n low)

pub number-mid : (k offset : ℕ) (long field text old new : List ℕ) (n p : ℕ) → Refills k offset long field text old new
    → 8 ≤ p → p + n ≤ k → number_at n p new ≡ number_at n p old
number-mid k offset long field text old new n p r from to = number-same n p p new old (r.mid p n from to)

pub number-high : (k offset : ℕ) (long field text old new : List ℕ) (n p : ℕ) → Refills k offset long field text old new
    → k + length field ≤ p → p + n ≤ offset → number_at n p new ≡ number_at n p old
number-high k offset long field text old new n p r from to = number-same n p p new old (r.high p n from to)
