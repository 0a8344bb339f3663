-- That texts come back from their names, and names without a lone surrogate from their texts.
use Rattle.std.proofs.Common.{◌≡◌, ◌<◌, ◌≤◌, ◌+◌, ◌-◌, ◌*◌, ◌/◌, ◌%◌, ◌⊎◌, ℕ, suc, true, false, not, ◌&&◌, List, [], ◌∷◌, ◌++◌, length, map, flat_map, Some, inl, inr, subst, is_some, refl, sym, ap, ap₂, ◌∙◌, arith, get_or, le-leb, lt-ltb, le-ltb, true≢false, IsUtf8, chars, encode_utf8_all}
use Rattle.std.proofs.lemmas.Bool.{cases_lt, and_parts, or_parts}
use Rattle.std.proofs.lemmas.Str.{utf16_chars-nil, utf16_chars_lone, utf16_chars_pair, scalars-chars, chars-encodes, encodes-chars}
use Rattle.std.proofs.str.Utf16.{IsPair, one_unit, two_units, pair_units, lone_unit_char_low, lone_unit_char_high, lone_unit_char_surrogate}
use Rattle.std.proofs.Math.Utf8.{scalar, scalars, scalar_cases, low_scalar}
use Rattle.std.specs.Option.{unwrap_or}
use Rattle.std.specs.List.{list_any}
use Rattle.std.specs.Char.Escape.{encode_utf16}
use Rattle.std.specs.Char.Utf16.{utf16_chars, utf16_lossy_chars, has_unpaired_surrogate, lone_unit_char, surrogate_pair_char}
use Rattle.ntfs_base.specs.Bytes.{number_at, AreBytes}
use Rattle.ntfs_base.proofs.BytesLemmas.{number_at-bytes, number_at-lt}
use Rattle.ntfs_upcase.specs.Names.{units, unit_bytes, text_bytes, name_bytes}

-- ---- units as bytes

-- each number of the list is a unit
abbrev pub AreUnits : List ℕ → Type 0
AreUnits [] = Unit {0}
AreUnits (u ∷ us) = (u < 0x1_0000) × AreUnits us

pub AreUnits-append : (us vs : List ℕ) → AreUnits us → AreUnits vs → AreUnits (us ++ vs)
AreUnits-append [] vs first second = second
AreUnits-append (u ∷ us) vs first second = (first.0, AreUnits-append us vs first.1 second)

-- units are read as they were written
pub units-unit_bytes : (us : List ℕ) → AreUnits us → units (unit_bytes us) ≡ us
unfolding units unit_bytes
units-unit_bytes [] are = refl
units-unit_bytes (u ∷ us) are =
    ap₂ (λ v vs. v ∷ vs) (number_at-bytes 2 u [] (unit_bytes us) are.0) (units-unit_bytes us are.1)

-- and written as they were read
pub unit_bytes-units : (name : List ℕ) → AreBytes name → length name % 2 ≡ 0 → unit_bytes (units name) ≡ name
unfolding units unit_bytes number_at
unit_bytes-units [] are even = refl
unit_bytes-units (low ∷ []) are even = absurd (omega arith)
unit_bytes-units (low ∷ high ∷ rest) are even =
    let low_fits : low < 256 = are 0 in
    let high_fits : high < 256 = are 1 in
    let later : AreBytes rest = λ i. are (suc (suc i)) in
    let first : (low + 256 * (high + 256 * 0)) % 256 ≡ low = omega arith in
    let second : (low + 256 * (high + 256 * 0)) / 256 % 256 ≡ high = omega arith in
    ap₂ (λ l hs. l ∷ hs) first (ap₂ (λ h hs. h ∷ hs) second (unit_bytes-units rest later (omega arith)))

-- the units of bytes are below 65,536
pub AreUnits-units : (name : List ℕ) → AreBytes name → AreUnits (units name)
unfolding units
AreUnits-units [] are = tt
AreUnits-units (low ∷ []) are = tt
AreUnits-units (low ∷ high ∷ rest) are = (number_at-lt 2 0 (low ∷ high ∷ rest) are, AreUnits-units rest (λ i. are (suc (suc i))))

-- ---- characters as units

-- a character of one unit, where nothing that follows makes a pair of it
one_char : (c : ℕ) → c < 0x1_0000 → ¬ (0xD800 ≤ c × c < 0xDC00) → lone_unit_char c ≡ Some c → (rest : List ℕ) → utf16_chars (encode_utf16 c ++ rest) ≡ Some c ∷ utf16_chars rest
one_char c low apart is rest =
    ap (λ us. utf16_chars (us ++ rest)) (one_unit c low) ∙ utf16_chars_lone c rest (λ pair. apart (pair.0, pair.1)) ∙ ap (λ o. o ∷ utf16_chars rest) is

-- a character of two
two_chars : (c : ℕ) → 0x1_0000 ≤ c → c < 0x11_0000 → (rest : List ℕ) → utf16_chars (encode_utf16 c ++ rest) ≡ Some c ∷ utf16_chars rest
two_chars c from below rest =
    let high = 0xD800 + (c - 0x1_0000) / 0x400 in
    let low = 0xDC00 + (c - 0x1_0000) % 0x400 in
    let pair : IsPair high low = (omega arith, omega arith, omega arith, omega arith) in
    let made : surrogate_pair_char high low ≡ c = omega arith in
    ap (λ us. utf16_chars (us ++ rest)) (two_units c from) ∙ utf16_chars_pair high low rest pair ∙ ap (λ x. Some x ∷ utf16_chars rest) made

-- the units of a character spell it, whatever follows
char_spelled : (c : ℕ) → scalar c ≡ true → (rest : List ℕ) → utf16_chars (encode_utf16 c ++ rest) ≡ Some c ∷ utf16_chars rest
char_spelled c is rest =
    elim (scalar_cases c is) [
      | inl low ↦ one_char c (omega arith) (λ high. omega arith) (lone_unit_char_low c low) rest
      | inr far ↦ elim (cases_lt c 0x1_0000) [
        | inl below ↦ one_char c below (λ high. omega arith) (lone_unit_char_high c far.0) rest
        | inr from ↦ two_chars c from far.1 rest
      ]
    ]

-- and are units
char_units : (c : ℕ) → scalar c ≡ true → AreUnits (encode_utf16 c)
char_units c is =
    elim (cases_lt c 0x1_0000) [
      | inl below ↦ subst AreUnits (sym (one_unit c below)) (below, tt)
      | inr from ↦ elim (scalar_cases c is) [
        | inl low ↦ absurd (omega arith)
        | inr far ↦ subst AreUnits (sym (two_units c from)) (omega arith, (omega arith, tt))
      ]
    ]

-- the units of characters are units
AreUnits-chars : (cs : List ℕ) → scalars cs ≡ true → AreUnits (flat_map encode_utf16 cs)
AreUnits-chars [] are = tt
AreUnits-chars (c ∷ cs) are =
    let parts = and_parts (scalar c) (scalars cs) are in
    AreUnits-append (encode_utf16 c) (flat_map encode_utf16 cs) (char_units c parts.0) (AreUnits-chars cs parts.1)

-- the units of characters spell them
utf16_chars-spelled : (cs : List ℕ) → scalars cs ≡ true → utf16_chars (flat_map encode_utf16 cs) ≡ map Some cs
utf16_chars-spelled [] are = utf16_chars-nil
utf16_chars-spelled (c ∷ cs) are =
    let parts = and_parts (scalar c) (scalars cs) are in
    char_spelled c parts.0 (flat_map encode_utf16 cs) ∙ ap (λ os. Some c ∷ os) (utf16_chars-spelled cs parts.1)

lossy-Some : (cs : List ℕ) → map (λ o. unwrap_or o 0xFFFD) (map Some cs) ≡ cs
lossy-Some [] = refl
lossy-Some (c ∷ cs) = ap (λ xs. c ∷ xs) (lossy-Some cs)

-- every text comes back from its name
pub text_bytes-name_bytes : (text : List ℕ) → IsUtf8 text → text_bytes (name_bytes text) ≡ text
unfolding text_bytes name_bytes
text_bytes-name_bytes text is =
    let are = scalars-chars text is in
    let read = units-unit_bytes (flat_map encode_utf16 (chars text)) (AreUnits-chars (chars text) are) in
    let spelled = ap (map (λ o. unwrap_or o 0xFFFD)) (utf16_chars-spelled (chars text) are) ∙ lossy-Some (chars text) in
    ap encode_utf8_all (ap utf16_lossy_chars read ∙ spelled) ∙ encodes-chars text is

-- ---- units as characters

-- the characters of these units have the same units, if none is a lone surrogate
abbrev ComeBack : List ℕ → Type 0
ComeBack us = AreUnits us → has_unpaired_surrogate us ≡ false → (flat_map encode_utf16 (utf16_lossy_chars us) ≡ us) × (scalars (utf16_lossy_chars us) ≡ true)

-- a unit that is no surrogate is a character
lone_char : (u : ℕ) → u < 0x1_0000 → not (is_some (lone_unit_char u)) ≡ false → (lone_unit_char u ≡ Some u) × (scalar u ≡ true)
lone_char u fits paired =
    elim (cases_lt u 0xD800) [
      | inl low ↦ (lone_unit_char_low u low, low_scalar u low)
      | inr from ↦ elim (cases_lt u 0xE000) [
        | inl below ↦ absurd (true≢false (ap (λ o. not (is_some o)) (sym (lone_unit_char_surrogate u from below)) ∙ paired))
        | inr high ↦ (lone_unit_char_high u high, rw (le-ltb u 0xD800 from, le-leb 0xE000 u high, lt-ltb u 0x11_0000 (omega arith)) refl)
      ]
    ]

-- the units come back with one more in front, in no pair
lone_back : (u : ℕ) (us : List ℕ) → ¬ (IsPair u (get_or us 0 0)) → ComeBack us → ComeBack (u ∷ us)
lone_back u us apart later are paired =
    let first = utf16_chars_lone u us apart in
    let parts = or_parts (not (is_some (lone_unit_char u))) _ (ap (list_any (λ o. not (is_some o))) (sym first) ∙ paired) in
    let char = lone_char u are.0 parts.0 in
    let rest = later are.1 parts.1 in
    let lossy : utf16_lossy_chars (u ∷ us) ≡ u ∷ utf16_lossy_chars us =
    ap (map (λ o. unwrap_or o 0xFFFD)) (first ∙ ap (λ o. o ∷ utf16_chars us) char.0) in
    (ap (flat_map encode_utf16) lossy ∙ ap₂ (λ xs ys. xs ++ ys) (one_unit u are.0) rest.0, ap scalars lossy ∙ ap₂ (λ s t. s && t) char.1 rest.1)

-- and with a pair in front
pair_back : (u v : ℕ) (us : List ℕ) → IsPair u v → ComeBack us → ComeBack (u ∷ v ∷ us)
pair_back u v us pair later are paired =
    let first = utf16_chars_pair u v us pair in
    let rest = later are.1.1 (ap (list_any (λ o. not (is_some o))) (sym first) ∙ paired) in
    let made = surrogate_pair_char u v in
    let lossy : utf16_lossy_chars (u ∷ v ∷ us) ≡ made ∷ utf16_lossy_chars us = ap (map (λ o. unwrap_or o 0xFFFD)) first in
    let same : made ≡ 0x1_0000 + ((u - 0xD800) * 0x400 + (v - 0xDC00)) = omega arith in
    let spelled : encode_utf16 made ≡ u ∷ v ∷ [] = ap encode_utf16 same ∙ pair_units u v pair.0 pair.2 pair.3 in
    let far : scalar made ≡ true = rw (le-ltb made 0xD800 (omega arith), le-leb 0xE000 made (omega arith), lt-ltb made 0x11_0000 (omega arith)) refl in
    (ap (flat_map encode_utf16) lossy ∙ ap₂ (λ xs ys. xs ++ ys) spelled rest.0, ap scalars lossy ∙ ap₂ (λ s t. s && t) far rest.1)

-- whether two units are a pair
pair_or_not : (u v : ℕ) → IsPair u v ⊎ ¬ (IsPair u v)
pair_or_not u v =
    elim (cases_lt u 0xD800) [
      | inl low ↦ inr (λ pair. omega arith)
      | inr from ↦ elim (cases_lt u 0xDC00) [
        | inr past ↦ inr (λ pair. omega arith)
        | inl high ↦ elim (cases_lt v 0xDC00) [
          | inl under ↦ inr (λ pair. omega arith)
          | inr second ↦ elim (cases_lt v 0xE000) [
            | inl below ↦ inl (from, high, second, below)
            | inr over ↦ inr (λ pair. omega arith)
          ]
        ]
      ]
    ]

units_back : (us : List ℕ) → ComeBack us
unfolding utf16_chars
units_back [] = λ are paired. (refl, refl)
units_back (u ∷ []) = lone_back u [] (λ pair. omega arith) (units_back [])
units_back (u ∷ v ∷ us) =
    elim (pair_or_not u v) [ inl pair ↦ pair_back u v us pair (units_back us) | inr apart ↦ lone_back u (v ∷ us) apart (units_back (v ∷ us)) ]

-- every name with no lone surrogate comes back from its text
pub name_bytes-text_bytes : (name : List ℕ) → AreBytes name → length name % 2 ≡ 0 → has_unpaired_surrogate (units name) ≡ false → name_bytes (text_bytes name) ≡ name
unfolding text_bytes name_bytes
name_bytes-text_bytes name are even paired =
    let back = units_back (units name) (AreUnits-units name are) paired in
    let read = chars-encodes (utf16_lossy_chars (units name)) back.1 in
    ap unit_bytes (ap (flat_map encode_utf16) read ∙ back.0) ∙ unit_bytes-units name are even
