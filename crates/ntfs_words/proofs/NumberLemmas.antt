-- What the parser of std reads of digits.
use Rattle.std.proofs.Common.{arith, ◌≡◌, ◌≢◌, ◌^◌, ◌<◌, ◌≤◌, ℕ, true, false, List, [], ◌∷◌, length, get_or, refl, ap, ◌∙◌, Result, Ok, Err, Option, Some, None}
use Rattle.std.proofs.lemmas.Bool.Decides.{nat_tests}
use Rattle.std.specs.Char.{digit_value}
use Rattle.std.specs.Result.{result_ok}
use Rattle.std.specs.Str.Parse.{AllDigits, IsNumeral, ParsesUnsigned, digits_value, without_leading_plus}
use Rattle.std.proofs.lemmas.Str.Parse.{without_leading_plus_none}
use Rattle.std.proofs.Math.ListN.{length-drop}
use Rattle.std.specs.Prelude.{codes, eqb, ◌==◌, ◌+◌}
use Rattle.std.proofs.Common.{sym}
use Rattle.std.specs.List.{after_first, before_first, ends_with, position_or_len}
use Rattle.ntfs_words.specs.Numbers.{all_digits, are_digits, decimal_of, digits_of, range_from, range_of, scaled, size_of}

pub all_digits_to : (radix : ℕ) (text : List ℕ) → all_digits radix text ≡ true → AllDigits radix text
unfolding all_digits
all_digits_to radix [] all = tt
all_digits_to radix (c ∷ text) all = (grind (arith, nat_tests, all), all_digits_to radix text (grind (arith, nat_tests, all)))

pub all_digits_from : (radix : ℕ) (text : List ℕ) → AllDigits radix text → all_digits radix text ≡ true
unfolding all_digits
all_digits_from radix [] all = refl
all_digits_from radix (c ∷ text) all = let more : all_digits radix text ≡ true = all_digits_from radix text all.1 in let first : digit_value c < radix = all.0 in grind (arith, nat_tests, more, first)

pub no_digits : (radix most : ℕ) (text : List ℕ) → length text ≡ 0 → None ≡ digits_of radix most text
unfolding digits_of are_digits
no_digits radix most text none = grind (arith, nat_tests)

pub too_many_digits : (radix most : ℕ) (text : List ℕ) → most < length text → None ≡ digits_of radix most text
unfolding digits_of are_digits
too_many_digits radix most text long = grind (arith, nat_tests)

sign_is_no_digit : (radix c : ℕ) (text : List ℕ) → radix ≤ 16 → c ≡ 43 → all_digits radix (c ∷ text) ≡ false
unfolding all_digits
sign_is_no_digit radix c text small sign = rw sign (grind (arith, nat_tests))

pub no_sign : (radix most : ℕ) (text : List ℕ) → radix ≤ 16 → get_or text 0 0 ≡ 43 → None ≡ digits_of radix most text
unfolding digits_of are_digits
no_sign radix most [] small sign = refl
no_sign radix most (c ∷ text) small sign = let not_all : all_digits radix (c ∷ text) ≡ false = sign_is_no_digit radix c text small sign in grind (arith, nat_tests, not_all)

are_read : (radix most : ℕ) (text : List ℕ) → IsNumeral radix text → length text ≤ most → digits_value radix text < 2 ^ 64 → Some (digits_value radix text) ≡ digits_of radix most text
unfolding digits_of are_digits
are_read radix most text numeral short fits = let all : all_digits radix text ≡ true = all_digits_from radix text numeral.1 in let some : 0 < length text = numeral.0 in grind (arith, nat_tests, all, some, short, fits)

are_numeral : (radix most : ℕ) (text : List ℕ) (n : ℕ) → digits_of radix most text ≡ Some n → IsNumeral radix text × (digits_value radix text < 2 ^ 64)
unfolding digits_of are_digits
are_numeral radix most text n is = ((grind (arith, nat_tests, is), all_digits_to radix text (grind (arith, nat_tests, is))), grind (arith, nat_tests, is))

none_is_read : (radix most : ℕ) (text : List ℕ) (o : Option ℕ) → digits_of radix most text ≡ o → (IsNumeral radix text × (digits_value radix text < 2 ^ 64) → ⊥) → None ≡ o
none_is_read radix most text None is wrong = refl
none_is_read radix most text (Some n) is wrong = absurd (wrong (are_numeral radix most text n is))

-- what was read is the number, where the text has no sign and isn't too long
pub digits_read : {E : Type 0} (radix most : ℕ) (text : List ℕ) (r : Result ℕ E) → ParsesUnsigned 64 radix text r → get_or text 0 0 ≢ 43 → length text ≤ most → result_ok r ≡ digits_of radix most text
digits_read radix most text (Ok x) parses unsigned short =
    let bare : without_leading_plus text ≡ text = without_leading_plus_none text unsigned in
    let read : (IsNumeral radix text × (digits_value radix text < 2 ^ 64)) × (x ≡ digits_value radix text) = rw bare at parses in
    ap Some read.1 ∙ are_read radix most text read.0.0 short read.0.1
digits_read radix most text (Err e) parses unsigned short =
    let bare : without_leading_plus text ≡ text = without_leading_plus_none text unsigned in
    let wrong : IsNumeral radix text × (digits_value radix text < 2 ^ 64) → ⊥ = rw bare at parses in
    none_is_read radix most text (digits_of radix most text) refl wrong

no_decimal : (bytes : List ℕ) → length bytes ≡ 0 → decimal_of bytes ≡ None
unfolding decimal_of
no_decimal bytes none = sym (no_digits 10 (length bytes) bytes none)

to_nothing : (from : Option ℕ) → range_from from None ≡ None
to_nothing None = refl
to_nothing (Some from) = refl

pub no_hyphen : (text : List ℕ) → position_or_len (λ c. c == 45) text ≡ length text → None ≡ range_of text
unfolding range_of
no_hyphen text is =
    let behind : length (after_first (λ c. c == 45) text) ≡ 0 = omega (arith, length-drop (position_or_len (λ c. c == 45) text + 1) text) in
    rw (no_decimal (after_first (λ c. c == 45) text) behind) (sym (to_nothing (decimal_of (before_first (λ c. c == 45) text))))

pub no_unit : (text : List ℕ) → false ≡ ends_with eqb text (codes "k") → false ≡ ends_with eqb text (codes "M") → false ≡ ends_with eqb text (codes "G") → scaled 1 text ≡ size_of text
unfolding size_of
no_unit text k m g = rw (← k, ← m, ← g) refl
