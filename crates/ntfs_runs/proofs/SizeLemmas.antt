-- The fewest bytes of a signed number hold it, and read back as it.
use Rattle.std.proofs.Common.{◌≡◌, ◌<◌, ◌≤◌, ◌-◌, ◌*◌, ◌%◌, ◌^◌, ℕ, zero, suc, ℤ, pos, negsuc, List, [], ◌++◌, length, Bool, true, false, cond, ltb, refl, sym, ap, ◌∙◌, arith, inl, inr, w64}
use Rattle.std.proofs.lemmas.Bool.{cases_lt, ltb-true, ltb-false, le-ltb, lt-ltb}
use Rattle.std.proofs.lemmas.Int.{ints}
use Rattle.std.proofs.lemmas.List.{append-nil}
use Rattle.std.proofs.Math.Nat.{mod-eq_of_lt, mod-lt, pow-le-pow_right, one-le-pow}
use Rattle.std.specs.Int.{cast_unsigned}
use Rattle.byteorder.specs.Endian.{twos_complement, low_bytes}
use Rattle.byteorder.specs.Numbers.{little_number-reads_back, length-bytes_low_first}
use Rattle.byteorder.proofs.Bytes.{pow256, sign_bit}
use Rattle.ntfs_runs.specs.Number.{signed, reach, size_for, bytes_of, shortest}

-- the lowest bytes of a negative number, at each size
negative : (n k : ℕ) → 1 ≤ n → n ≤ 8 → k < 2 ^ (8 * n - 1) → (2 ^ 64 - suc k) % 2 ^ (8 * n) ≡ 2 ^ (8 * n) - suc k
negative zero k low high h = absurd (omega arith)
negative (suc zero) k low high h = omega arith
negative (suc (suc zero)) k low high h = omega arith
negative (suc (suc (suc zero))) k low high h = omega arith
negative (suc (suc (suc (suc zero)))) k low high h = omega arith
negative (suc (suc (suc (suc (suc zero))))) k low high h = omega arith
negative (suc (suc (suc (suc (suc (suc zero)))))) k low high h = omega arith
negative (suc (suc (suc (suc (suc (suc (suc zero))))))) k low high h = omega arith
negative (suc (suc (suc (suc (suc (suc (suc (suc zero)))))))) k low high h = omega arith
negative (suc (suc (suc (suc (suc (suc (suc (suc (suc n))))))))) k low high h = absurd (omega arith)

-- the size of n bytes is twice the sign's border
pub twice : (n : ℕ) → 1 ≤ n → n ≤ 8 → 2 ^ (8 * n) ≡ 2 * 2 ^ (8 * n - 1)
twice n low high = sym (pow256 n) ∙ (sign_bit n low high).2

-- the two's complement of the lowest bytes
complement : (n : ℕ) (z : ℤ) → 1 ≤ n → n ≤ 8 → reach z < 2 ^ (8 * n - 1) → twos_complement n (low_bytes w64 n z) ≡ z
unfolding reach
complement n (pos k) low high h =
    let whole = twice n low high in
    let same : k % 2 ^ (8 * n) ≡ k = mod-eq_of_lt (omega arith) in
    rw (same, lt-ltb k (2 ^ (8 * n - 1)) h) refl
complement n (negsuc k) low high h =
    let whole = twice n low high in
    let same = negative n k low high h in
    rw (same, le-ltb (2 ^ (8 * n) - suc k) (2 ^ (8 * n - 1)) (omega arith)) (omega (arith, ints))

-- bytes that hold a number read back as it, whatever follows
pub signed-bytes_of : (n : ℕ) (z : ℤ) (more : List ℕ) → 1 ≤ n → n ≤ 8 → reach z < 2 ^ (8 * n - 1) → signed n (bytes_of n z ++ more) ≡ z
unfolding signed bytes_of
signed-bytes_of n z more low high h =
    let some = one-le-pow n 256 (omega arith) in
    let within : low_bytes w64 n z < 256 ^ n = rw (pow256 n) (mod-lt (cast_unsigned w64 z) (omega (arith, pow256 n, some))) in
    ap (twos_complement n) (little_number-reads_back n (low_bytes w64 n z) more within) ∙ complement n z low high h

pub length-bytes_of : (n : ℕ) (z : ℤ) → length (bytes_of n z) ≡ n
unfolding bytes_of
length-bytes_of n z = length-bytes_low_first 0 n (low_bytes w64 n z)

-- a test with what each side gives
either : (P : ℕ → Type 0) (a b x y : ℕ) → (a < b → P x) → (b ≤ a → P y) → P (cond (ltb a b) x y)
either P a b x y yes-side no-side = of (ltb a b) refl
  where
    of : (t : Bool) → ltb a b ≡ t → P (cond t x y)
    of true is = yes-side (ltb-true a b is)
    of false is = no-side (ltb-false a b is)

-- a size holds a reach
pub record Holds (m n : ℕ) : Type 0 where
  pub low : 1 ≤ n
  pub high : n ≤ 8
  pub fits : m < 2 ^ (8 * n - 1)

pub size_for-holds : (m : ℕ) → m < 2 ^ 63 → Holds m (size_for m)
unfolding size_for
size_for-holds m h =
    either (Holds m) m (2 ^ 7) _ _ (λ f. record { low = omega arith; high = omega arith; fits = f }) λ _.
    either (Holds m) m (2 ^ 15) _ _ (λ f. record { low = omega arith; high = omega arith; fits = f }) λ _.
    either (Holds m) m (2 ^ 23) _ _ (λ f. record { low = omega arith; high = omega arith; fits = f }) λ _.
    either (Holds m) m (2 ^ 31) _ _ (λ f. record { low = omega arith; high = omega arith; fits = f }) λ _.
    either (Holds m) m (2 ^ 39) _ _ (λ f. record { low = omega arith; high = omega arith; fits = f }) λ _.
    either (Holds m) m (2 ^ 47) _ _ (λ f. record { low = omega arith; high = omega arith; fits = f }) λ _.
    either (Holds m) m (2 ^ 55) _ _ (λ f. record { low = omega arith; high = omega arith; fits = f }) λ _.
    record { low = omega arith; high = omega arith; fits = h }

-- a size that doesn't hold a reach is below one that does
beyond : (i m n : ℕ) → 2 ^ (8 * i - 1) ≤ m → m < 2 ^ (8 * n - 1) → i < n
beyond i m n above within = elim (cases_lt i n) [
  | inl lt ↦ lt
  | inr le ↦ let most : 2 ^ (8 * n - 1) ≤ 2 ^ (8 * i - 1) = pow-le-pow_right {n = 2} (omega arith) {i = 8 * n - 1} {j = 8 * i - 1} (omega arith) in absurd (omega arith)
]

-- no smaller size holds a reach
pub size_for-least : (m n : ℕ) → Holds m n → size_for m ≤ n
unfolding size_for
size_for-least m n holds =
    either (λ s. s ≤ n) m (2 ^ 7) _ _ (λ f. holds.low) λ f1.
    either (λ s. s ≤ n) m (2 ^ 15) _ _ (λ f. omega (arith, beyond 1 m n f1 holds.fits)) λ f2.
    either (λ s. s ≤ n) m (2 ^ 23) _ _ (λ f. omega (arith, beyond 2 m n f2 holds.fits)) λ f3.
    either (λ s. s ≤ n) m (2 ^ 31) _ _ (λ f. omega (arith, beyond 3 m n f3 holds.fits)) λ f4.
    either (λ s. s ≤ n) m (2 ^ 39) _ _ (λ f. omega (arith, beyond 4 m n f4 holds.fits)) λ f5.
    either (λ s. s ≤ n) m (2 ^ 47) _ _ (λ f. omega (arith, beyond 5 m n f5 holds.fits)) λ f6.
    either (λ s. s ≤ n) m (2 ^ 55) _ _ (λ f. omega (arith, beyond 6 m n f6 holds.fits)) λ f7.
    omega (arith, beyond 7 m n f7 holds.fits)

-- the shortest bytes of a number read back as it
pub signed-shortest : (z : ℤ) → reach z < 2 ^ 63 → signed (length (shortest z)) (shortest z) ≡ z
unfolding shortest
signed-shortest z h =
    let holds = size_for-holds (reach z) h in
    let len = length-bytes_of (size_for (reach z)) z in
    rw len (ap (signed (size_for (reach z))) (sym (append-nil (bytes_of (size_for (reach z)) z))) ∙ signed-bytes_of (size_for (reach z)) z [] holds.low holds.high holds.fits)

pub length-shortest : (z : ℤ) → length (shortest z) ≡ size_for (reach z)
unfolding shortest
length-shortest z = length-bytes_of (size_for (reach z)) z
