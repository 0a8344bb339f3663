-- 65,536 bytes are a whole number of clusters of any size that a volume can have.
use Rattle.std.proofs.Common.{◌≡◌, ◌≤◌, ◌*◌, ◌%◌, ◌==◌, ◌||◌, ℕ, Bool, true, refl, sym, subst, inl, inr, arith, ltb}
use Rattle.std.proofs.lemmas.Bool.{eqb-true, ltb-true, or_cases}
use Rattle.ntfs_boot.specs.Geometry.{IsGood, is_sector_count, is_sector_size}
use Rattle.ntfs_boot.specs.declared.geometry.Geometry.{Geometry}
use Rattle.ntfs_stream.specs.StreamBytes.{IsBuffer}

-- what holds of a number that is one of several
one_of : (P : ℕ → Type 0) (n k : ℕ) (rest : Bool) → (rest ≡ true → P n) → P k → (rest || (n == k)) ≡ true → P n
one_of P n k rest earlier here is = elim (or_cases rest (n == k) is) [
  | inl other ↦ earlier other
  | inr same ↦ subst P (sym (eqb-true n k same)) here
]

first_of : (P : ℕ → Type 0) (n k : ℕ) → P k → (n == k) ≡ true → P n
first_of P n k here is = subst P (sym (eqb-true n k is)) here

by_sector : (P : ℕ → Type 0) (s : ℕ) → P 512 → P 1024 → P 2048 → P 4096 → is_sector_size s ≡ true → P s
unfolding is_sector_size
by_sector P s a b c d =
    one_of P s 4096 _ (one_of P s 2048 _ (one_of P s 1024 _ (first_of P s 512 a) b) c) d

by_count : (P : ℕ → Type 0) (n : ℕ) → P 1 → P 2 → P 4 → P 8 → P 16 → P 32 → P 64 → P 128 → is_sector_count n ≡ true → P n
unfolding is_sector_count
by_count P n a b c d e f g h =
    one_of P n 128 _ (one_of P n 64 _ (one_of P n 32 _ (one_of P n 16 _
    (one_of P n 8 _ (one_of P n 4 _ (one_of P n 2 _ (first_of P n 1 a) b) c) d) e) f) g) h

-- it divides 65,536, or is more
abbrev fits : ℕ → Bool
fits c = (65536 % c == 0) || ltb 65536 c

fits_product : (s n : ℕ) → is_sector_size s ≡ true → is_sector_count n ≡ true → fits (s * n) ≡ true
fits_product s n sector count = by_sector (λ s. fits (s * n) ≡ true) s
    (by_count (λ n. fits (512 * n) ≡ true) n refl refl refl refl refl refl refl refl count)
    (by_count (λ n. fits (1024 * n) ≡ true) n refl refl refl refl refl refl refl refl count)
    (by_count (λ n. fits (2048 * n) ≡ true) n refl refl refl refl refl refl refl refl count)
    (by_count (λ n. fits (4096 * n) ≡ true) n refl refl refl refl refl refl refl refl count) sector

divides : (c : ℕ) → c ≤ 65536 → fits c ≡ true → 65536 % c ≡ 0
divides c most is = elim (or_cases (65536 % c == 0) (ltb 65536 c) is) [
  | inl whole ↦ eqb-true _ _ whole
  | inr more ↦ let above = ltb-true 65536 c more in absurd (omega arith)
]

pub is_buffer : (g : Geometry) (len : ℕ) → IsGood g → len ≡ 65536 → IsBuffer g.cluster len
is_buffer g len good is = subst (IsBuffer g.cluster) (sym is) (record {
  least = good.cluster.most;
  whole = divides g.cluster good.cluster.most (subst (λ c. fits c ≡ true) (sym good.cluster.product)
      (fits_product g.sector good.sectors_per_cluster good.cluster.sector_size good.cluster.sector_count));
})
