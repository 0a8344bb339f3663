-- How numbers are spelled on a command line. Leading zeros are allowed. The rules are ours.
use Rattle.std.specs.Prelude.{◌&&◌, ◌^◌, ◌*◌, ◌==◌, ℕ, Bool, true, List, [], ◌∷◌, length, drop, take, codes, ◌-◌}
use Rattle.std.specs.Prelude.{Option, Some, None, option_and_then, nat_le, nat_lt, if◌then◌else◌, nat_eq}
use Rattle.std.specs.Char.{digit_value}
use Rattle.std.specs.List.{starts_with, ends_with, before_first, after_first}
use Rattle.std.specs.Str.Parse.{digits_value}

unfoldable pub all_digits : ℕ → List ℕ → Bool
all_digits radix [] = true
all_digits radix (c ∷ text) = nat_lt (digit_value c) radix && all_digits radix text

-- 1 to so many digits
unfoldable pub are_digits : ℕ → ℕ → List ℕ → Bool
are_digits radix most text = nat_lt 0 (length text) && (nat_le (length text) most && all_digits radix text)

-- the number that they spell, where it has 64 bits
unfoldable pub digits_of : ℕ → ℕ → List ℕ → Option ℕ
digits_of radix most text =
    if are_digits radix most text && nat_lt (digits_value radix text) (2 ^ 64)
    then Some (digits_value radix text) else None

-- a number: 1 to 20 decimal digits, or `0x` and 1 to 16 hexadecimal digits of either case, below 2^64
unfoldable pub number_of : List ℕ → Option ℕ
number_of text = if starts_with nat_eq text (codes "0x") then digits_of 16 16 (drop 2 text) else digits_of 10 20 text

-- a value that passes a test
abbrev pub only_if : {A : Type 0} → (A → Bool) → Option A → Option A
only_if test = option_and_then (λ value. if test value then Some value else None)

-- the type of an attribute: a number below 2^32
unfoldable pub kind_of : List ℕ → Option ℕ
kind_of text = only_if (λ number. nat_lt number (2 ^ 32)) (number_of text)

-- so many units: 1 to 20 decimal digits, at most 2^63 in all
unfoldable pub scaled : ℕ → List ℕ → Option ℕ
scaled unit text = option_and_then (λ count. if nat_le (count * unit) (2 ^ 63) then Some (count * unit) else None)
    (digits_of 10 20 text)

-- a text without its last byte
abbrev pub without_last : List ℕ → List ℕ
without_last text = take (length text - 1) text

-- a size in bytes: decimal digits, and then nothing, `k` (thousands), `M` (millions) or `G` (thousand millions)
unfoldable pub size_of : List ℕ → Option ℕ
size_of text =
    if ends_with nat_eq text (codes "k") then scaled 1000 (without_last text)
    else (if ends_with nat_eq text (codes "M") then scaled 1000000 (without_last text)
    else (if ends_with nat_eq text (codes "G") then scaled 1000000000 (without_last text)
    else scaled 1 text))

-- a number in decimal digits, as many as may be, below 2^64
unfoldable pub decimal_of : List ℕ → Option ℕ
decimal_of text = digits_of 10 (length text) text

-- the clusters from one to another, the second no less than the first
abbrev pub range_from : Option ℕ → Option ℕ → Option (ℕ × ℕ)
range_from (Some from) (Some to) = if nat_le from to then Some (from, to) else None
range_from _ _ = None

-- a range of clusters: a decimal number, a hyphen (45) and a decimal number; without a hyphen nothing stands behind it
unfoldable pub range_of : List ℕ → Option (ℕ × ℕ)
range_of text =
    range_from (decimal_of (before_first (λ c. c == 45) text)) (decimal_of (after_first (λ c. c == 45) text))
