-- How signed numbers are tested.
use Rattle.std.proofs.Common.{◌≡◌, ◌<◌, ◌≤◌, ◌^◌, ℕ, ℤ, pos, negsuc, ◌+ℤ◌, true, false, Option, Some, None, refl, ap, ◌∙◌, arith, inl, inr, w64}
use Rattle.std.specs.Int.{FitsUnsigned}
use Rattle.std.proofs.lemmas.Bool.{cases_lt, ltb-true, ltb-false, le-leb, lt-leb}
use Rattle.std.proofs.lemmas.Int.{ints}
use lib.Signed.{lt_z}
use lib.IntN.{nat_abs}
use Rattle.std.specs.Prelude.{zero, suc, List, option_map}
use Rattle.ntfs_runs.specs.Number.{signed, between}
use Rattle.ntfs_runs.specs.Reading.{lcn_in}

-- a number between the bounds
pub between-pos : (low high n : ℕ) → low ≤ n → n ≤ high → between low high (pos n) ≡ Some n
unfolding between
between-pos low high n from to = rw (le-leb low n from, le-leb n high to) refl

-- a number below or above them
pub between-low : (low high n : ℕ) → n < low → between low high (pos n) ≡ None
unfolding between
between-low low high n below = rw (lt-leb low n below) refl

pub between-high : (low high n : ℕ) → low ≤ n → high < n → between low high (pos n) ≡ None
unfolding between
between-high low high n from above = rw (le-leb low n from, lt-leb n high above) refl

-- a length below 1
pub length-low : (room : ℕ) (z : ℤ) → lt_z z (pos 1) ≡ true → between 1 room z ≡ None
unfolding between
length-low room (pos n) h = between-low 1 room n (ltb-true n 1 h)
length-low room (negsuc n) h = refl

-- a length that passes the room
pub length-high : (room : ℕ) (z : ℤ) → lt_z z (pos 1) ≡ false → room < nat_abs z → between 1 room z ≡ None
length-high room (pos n) h above = between-high 1 room n (ltb-false n 1 h) above
length-high room (negsuc n) h above = absurd cc

-- a length that is right
pub length-right : (room : ℕ) (z : ℤ) → lt_z z (pos 1) ≡ false → nat_abs z ≤ room → between 1 room z ≡ Some (nat_abs z)
length-right room (pos n) h within = between-pos 1 room n (ltb-false n 1 h) within
length-right room (negsuc n) h within = absurd cc

-- an LCN that no 64 bits hold
pub lcn-none : (most : ℕ) (z : ℤ) → most < 2 ^ 64 → (FitsUnsigned w64 z → ⊥) → between 0 most z ≡ None
unfolding between
lcn-none most (negsuc n) below h = refl
lcn-none most (pos n) below h =
    elim (cases_lt most n) [
      | inl above ↦ between-high 0 most n (omega arith) above
      | inr within ↦ absurd (h (omega (arith, ints), omega (arith, ints)))
    ]

-- an LCN that is there, too high or right
pub lcn-high : (most n : ℕ) (z : ℤ) → FitsUnsigned w64 z → nat_abs z ≡ n → most < n → between 0 most z ≡ None
lcn-high most n (pos k) fits is above = between-high 0 most k (omega arith) (omega (arith, is, above))
lcn-high most n (negsuc k) fits is above = absurd (omega (arith, ints, fits.0))

pub lcn-right : (most n : ℕ) (z : ℤ) → FitsUnsigned w64 z → nat_abs z ≡ n → n ≤ most → between 0 most z ≡ Some n
lcn-right most n (pos k) fits is within = between-pos 0 most k (omega arith) (omega (arith, is, within)) ∙ ap Some is
lcn-right most n (negsuc k) fits is within = absurd (omega (arith, ints, fits.0))

-- where there is a delta, it gives the LCN
pub lcn_in-of : (last n : ℕ) (bytes : List ℕ) (z : ℤ) (lcn : Option ℕ) → 0 < n → z ≡ signed n bytes → between 0 (2 ^ 48) (pos last +ℤ z) ≡ lcn → lcn_in last n bytes ≡ option_map Some lcn
lcn_in-of last zero bytes z lcn some is gives = absurd (omega arith)
lcn_in-of last (suc n) bytes z lcn some is gives = ap (option_map Some) (rw is at gives)
