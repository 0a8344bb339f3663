-- Rule C11: the attributes of a file against its list, whatever the order of the records.
use Rattle.std.proofs.Common.{◌≡◌, ◌≤◌, ◌<◌, ◌+◌, ◌==◌, ◌&&◌, ◌||◌, inl, inr, ℕ, zero, suc, Bool, true, false, List, [], ◌∷◌, ◌++◌, length, map, nat_lt, refl, sym, ap, subst, ◌∙◌, arith, append_assoc, append-nil, length-append, if◌then◌else◌}
use Rattle.std.specs.Prelude.{filter, not}
use Rattle.std.specs.List.{list_all, list_any}
use Rattle.std.proofs.lemmas.Grind.{flat_map-append}
use Rattle.std.proofs.lemmas.Bool.{cases_eq}
use Rattle.std.proofs.lemmas.Bool.Decides.{nat_tests}
use Rattle.std.proofs.lemmas.List.Folds.{list_any-append}
use Rattle.ntfs_attrlist.specs.Entry.{Listed}
use Rattle.ntfs_check_files.specs.Extending.{extends, number_if, numbers_from}
use Rattle.ntfs_check_files.specs.Members.{all_name, all_named, members_in, members_read, told_member}
use Rattle.ntfs_check_records.specs.Reading.{is_readable}
use Rattle.ntfs_check_files.specs.declared.members.Attribute.{Attribute as Kept}
use Rattle.ntfs_record.specs.FileRecord.{Laid}
use Rattle.ntfs_record.specs.Slots.{Slot}
use Rattle.ntfs_rules.specs.Files.{Member, are_listed, count_of, is_base_for, is_no_base, is_same_member, member_at, members_at, members_from, names_base, names_member, without_list}
use Rattle.ntfs_survey.specs.Owned.{is_whole}
use Rattle.ntfs_volume.specs.Located.{Located, slot_at, slots_from}
use Rattle.ntfs_volume.specs.References.{has_base, matches, target, turn}

-- ---- lists whose elements come in another order

-- as many pass each test
abbrev pub Alike : {A : Type 0} → List A → List A → Type 0
Alike {A} xs ys = (p : A → Bool) → count_of p xs ≡ count_of p ys

abbrev one_if : Bool → ℕ
one_if b = if b then 1 else 0

count-cons : {A : Type 0} (p : A → Bool) (x : A) (xs : List A) → count_of p (x ∷ xs) ≡ one_if (p x) + count_of p xs
count-cons p x xs = go (p x)
  where
    go : (b : Bool) → length (if b then x ∷ filter p xs else filter p xs) ≡ one_if b + count_of p xs
    go true = let e : length (x ∷ filter p xs) ≡ 1 + count_of p xs = omega arith in e
    go false = let e : count_of p xs ≡ 0 + count_of p xs = omega arith in e

pub count-append : {A : Type 0} (p : A → Bool) (xs ys : List A) → count_of p (xs ++ ys) ≡ count_of p xs + count_of p ys
count-append p [] ys = let e : count_of p ys ≡ 0 + count_of p ys = omega arith in e
count-append p (x ∷ xs) ys =
    count-cons p x (xs ++ ys) ∙ ap (λ n. one_if (p x) + n) (count-append p xs ys)
    ∙ (let e : one_if (p x) + (count_of p xs + count_of p ys) ≡ one_if (p x) + count_of p xs + count_of p ys = omega arith in e)
    ∙ ap (λ n. n + count_of p ys) (sym (count-cons p x xs))

any-count : {A : Type 0} (p : A → Bool) (xs : List A) → list_any p xs ≡ nat_lt 0 (count_of p xs)
any-count p [] = refl
any-count p (x ∷ xs) = go (p x) (any-count p xs) ∙ ap (nat_lt 0) (sym (count-cons p x xs))
  where
    go : (b : Bool) → list_any p xs ≡ nat_lt 0 (count_of p xs) → (b || list_any p xs) ≡ nat_lt 0 (one_if b + count_of p xs)
    go true rest = grind (arith, nat_tests)
    go false rest = rest ∙ (let e : count_of p xs ≡ 0 + count_of p xs = omega arith in ap (nat_lt 0) e)

all-count : {A : Type 0} (p : A → Bool) (xs : List A) → list_all p xs ≡ (count_of (λ x. not (p x)) xs == 0)
all-count p [] = refl
all-count {A = A} p (x ∷ xs) = go (p x) (all-count p xs) ∙ ap (λ n. n == 0) (sym (count-cons (λ (x : A). not (p x)) x xs))
  where
    go : (b : Bool) → list_all p xs ≡ (count_of (λ (x : A). not (p x)) xs == 0) → (b && list_all p xs) ≡ (one_if (not b) + count_of (λ (x : A). not (p x)) xs == 0)
    go true rest = rest ∙ (let e : count_of (λ (x : A). not (p x)) xs ≡ 0 + count_of (λ (x : A). not (p x)) xs = omega arith in ap (λ n. n == 0) e)
    go false rest = grind (arith, nat_tests)

any-alike : {A : Type 0} (xs ys : List A) → Alike xs ys → (p : A → Bool) → list_any p xs ≡ list_any p ys
any-alike xs ys alike p = any-count p xs ∙ ap (nat_lt 0) (alike p) ∙ sym (any-count p ys)

all-alike : {A : Type 0} (xs ys : List A) → Alike xs ys → (p : A → Bool) → list_all p xs ≡ list_all p ys
all-alike {A = A} xs ys alike p = all-count p xs ∙ ap (λ n. n == 0) (alike (λ (x : A). not (p x))) ∙ sym (all-count p ys)

pub all-same : {A : Type 0} (p q : A → Bool) (xs : List A) → ((x : A) → p x ≡ q x) → list_all p xs ≡ list_all q xs
all-same p q [] same = refl
all-same p q (x ∷ xs) same = ap (λ b. b && list_all p xs) (same x) ∙ ap (λ b. q x && b) (all-same p q xs same)

pub listed-alike : (entries : List Listed) (xs ys : List Member) → Alike xs ys → are_listed entries xs ≡ are_listed entries ys
unfolding are_listed
listed-alike entries xs ys alike =
    ap (λ b. b && list_all (λ (m : Member). (count_of (names_member m) entries == 1) && (count_of (is_same_member m) xs == 1)) xs)
    (all-same (λ (entry : Listed). list_any (λ (m : Member). names_member m entry) xs) (λ (entry : Listed). list_any (λ (m : Member). names_member m entry) ys) entries
    (λ entry. any-alike xs ys alike (λ (m : Member). names_member m entry)))
    ∙ ap (λ b. list_all (λ (entry : Listed). list_any (λ (m : Member). names_member m entry) ys) entries && b)
    (all-same (λ (m : Member). (count_of (names_member m) entries == 1) && (count_of (is_same_member m) xs == 1)) (λ (m : Member). (count_of (names_member m) entries == 1) && (count_of (is_same_member m) ys == 1)) xs
    (λ m. ap (λ n. (count_of (names_member m) entries == 1) && (n == 1)) (alike (is_same_member m)))
    ∙ all-alike xs ys alike (λ (m : Member). (count_of (names_member m) entries == 1) && (count_of (is_same_member m) ys == 1)))

-- ---- through a map

any-map : {A B : Type 0} (f : A → B) (p : B → Bool) (xs : List A) → list_any p (map f xs) ≡ list_any (λ x. p (f x)) xs
any-map f p [] = refl
any-map f p (x ∷ xs) = ap (λ b. p (f x) || b) (any-map f p xs)

all-map : {A B : Type 0} (f : A → B) (p : B → Bool) (xs : List A) → list_all p (map f xs) ≡ list_all (λ x. p (f x)) xs
all-map f p [] = refl
all-map f p (x ∷ xs) = ap (λ b. p (f x) && b) (all-map f p xs)

count-map : {A B : Type 0} (f : A → B) (p : B → Bool) (xs : List A) → count_of p (map f xs) ≡ count_of (λ x. p (f x)) xs
count-map f p [] = refl
count-map {A = A} f p (x ∷ xs) =
    count-cons p (f x) (map f xs) ∙ ap (λ n. one_if (p (f x)) + n) (count-map f p xs) ∙ sym (count-cons (λ (x : A). p (f x)) x xs)

pub listed-kept : (entries : List Listed) (kept : List Kept) → are_listed entries (map told_member kept) ≡ (all_name entries kept && all_named entries kept)
unfolding are_listed
listed-kept entries kept =
    ap (λ b. b && list_all (λ (m : Member). (count_of (names_member m) entries == 1) && (count_of (is_same_member m) (map told_member kept) == 1)) (map told_member kept))
    (all-same (λ (entry : Listed). list_any (λ (m : Member). names_member m entry) (map told_member kept)) (λ (entry : Listed). list_any (λ (m : Kept). names_member (told_member m) entry) kept) entries
    (λ entry. any-map told_member (λ (m : Member). names_member m entry) kept))
    ∙ ap (λ b. all_name entries kept && b)
    (all-map told_member (λ (m : Member). (count_of (names_member m) entries == 1) && (count_of (is_same_member m) (map told_member kept) == 1)) kept
    ∙ all-same (λ (m : Kept). (count_of (names_member (told_member m)) entries == 1) && (count_of (is_same_member (told_member m)) (map told_member kept) == 1))
    (λ (m : Kept). (count_of (names_member (told_member m)) entries == 1) && (count_of (λ (other : Kept). is_same_member (told_member m) (told_member other)) kept == 1)) kept
    (λ m. ap (λ n. (count_of (names_member (told_member m)) entries == 1) && (n == 1)) (count-map told_member (is_same_member (told_member m)) kept)))

-- ---- the records that have a base record, by its number alone

same-number : (a b : ℕ) → (a == b) ≡ true → a ≡ b
same-number a b is = grind (arith, nat_tests)

abbrev turns : ℕ → ℕ → Bool
turns reference sequence = (turn reference == 0) || (turn reference == sequence)

by-tests : (a z t u snd baad bl bz tt : Bool) → (not baad && (not a || snd)) ≡ true → (t ≡ true → (not a || (z || (bl && (bz && (tt && u))))) ≡ true)
    → (a && (not z && (t && u))) ≡ ((a && snd) && (not z && t))
by-tests false z t u snd baad bl bz tt whole named = refl
by-tests true z t u false true bl bz tt whole named = absurd cc
by-tests true z t u false false bl bz tt whole named = absurd cc
by-tests true true t u true baad bl bz tt whole named = refl
by-tests true false false u true baad bl bz tt whole named = refl
by-tests true false true true true baad bl bz tt whole named = refl
by-tests true false true false true baad bl bz tt whole named = absurd (no bl bz tt (named refl))
  where
    no : (bl bz tt : Bool) → (bl && (bz && (tt && false))) ≡ true → ⊥
    no false bz tt is = cc
    no true false tt is = cc
    no true true false is = cc
    no true true true is = cc

pub base-by-number : {P : Type 0} (slots : List (Slot P)) (s : Slot P) (r : ℕ) → is_whole s ≡ true → (not s.is_live || ((s.head.base == 0) || names_base slots s.head.base)) ≡ true
    → (s.is_live && has_base s.head.base r (slot_at slots r).head.sequence) ≡ extends r s
unfolding has_base matches is_base_for
base-by-number slots s r whole named =
    let b = slot_at slots r in
    let base = s.head.base in
    by-tests s.is_live (base == 0) (target base == r) (turns base b.head.sequence) s.is_sound s.is_baad b.is_live (b.head.base == 0) (target base == target base) whole
    (λ same. subst (λ n. (not s.is_live || ((base == 0) || is_base_for base (slot_at slots n))) ≡ true) (same-number (target base) r same) named)

-- ---- records one after the other

slots-more : {P : Type 0} (slot : ℕ → Slot P) (first k : ℕ) → slots_from slot first (suc k) ≡ slots_from slot first k ++ slot (first + k) ∷ []
unfolding slots_from
slots-more slot first zero = let e : first ≡ first + 0 = omega arith in ap (λ n. slot n ∷ []) e
slots-more {P = P} slot first (suc k) =
    let e : suc first + k ≡ first + suc k = omega arith in
    ap (λ (rest : List (Slot P)). slot first ∷ rest) (slots-more slot (suc first) k ∙ ap (λ n. slots_from slot (suc first) k ++ slot n ∷ []) e)

pub slots-long : {P : Type 0} (slot : ℕ → Slot P) (first k : ℕ) → length (slots_from slot first k) ≡ k
unfolding slots_from
slots-long slot first zero = refl
slots-long slot first (suc k) = ap suc (slots-long slot (suc first) k)

members-append : {P : Type 0} (r sequence n : ℕ) (xs ys : List (Slot P)) → members_from r sequence n (xs ++ ys) ≡ members_from r sequence n xs ++ members_from r sequence (n + length xs) ys
unfolding members_from
members-append r sequence n [] ys = let e : n ≡ n + 0 = omega arith in ap (λ k. members_from r sequence k ys) e
members-append r sequence n (x ∷ xs) ys =
    let e : suc n + length xs ≡ n + suc (length xs) = omega arith in
    ap (λ them. members_at r sequence n x ++ them) (members-append r sequence (suc n) xs ys ∙ ap (λ k. members_from r sequence (suc n) xs ++ members_from r sequence k ys) e)
    ∙ sym (append_assoc (members_at r sequence n x) (members_from r sequence (suc n) xs) (members_from r sequence (n + suc (length xs)) ys))

one-from : {P : Type 0} (r sequence n : ℕ) (s : Slot P) → members_from r sequence n (s ∷ []) ≡ members_at r sequence n s
unfolding members_from
one-from r sequence n s = append-nil (members_at r sequence n s)

members-more : {P : Type 0} (r sequence : ℕ) (slot : ℕ → Slot P) (k : ℕ)
    → members_from r sequence 0 (slots_from slot 0 (suc k)) ≡ members_from r sequence 0 (slots_from slot 0 k) ++ members_at r sequence k (slot k)
members-more {P = P} r sequence slot k =
    let place : 0 + k ≡ k = omega arith in
    let at : 0 + length (slots_from slot 0 k) ≡ k = (let long = slots-long slot 0 k in omega (arith, long)) in
    ap (members_from r sequence 0) (slots-more slot 0 k)
    ∙ members-append r sequence 0 (slots_from slot 0 k) (slot (0 + k) ∷ [])
    ∙ ap (λ n. members_from r sequence 0 (slots_from slot 0 k) ++ members_from r sequence n (slot (0 + k) ∷ [])) at
    ∙ ap (λ n. members_from r sequence 0 (slots_from slot 0 k) ++ members_from r sequence k (slot n ∷ [])) place
    ∙ ap (λ them. members_from r sequence 0 (slots_from slot 0 k) ++ them) (one-from r sequence k (slot k))

numbers-more : {P : Type 0} (r : ℕ) (slot : ℕ → Slot P) (k : ℕ) → numbers_from r slot 0 (suc k) ≡ numbers_from r slot 0 k ++ number_if r k (slot k)
unfolding numbers_from
numbers-more r slot k = let place : 0 + k ≡ k = omega arith in ap (λ n. numbers_from r slot 0 k ++ number_if r n (slot n)) place

-- ---- the attributes of a file

abbrev Record : Type 0
Record = Slot (Located (Laid (List ℕ)))

abbrev pub own_of : ℕ → Record → List Member
own_of r s = map (member_at r s) (without_list s.attributes)

at-own : (r sequence k : ℕ) (s : Record) → k ≡ r → members_at r sequence k s ≡ own_of r s
unfolding members_at
at-own r sequence k s is = subst (λ n. members_at r sequence n s ≡ own_of n s) (sym is) here ∙ ap (λ n. own_of n s) is
  where
    same : (n : ℕ) → (n == n) ≡ true
    same n = grind (arith, nat_tests)

    here : members_at r sequence r s ≡ own_of r s
    here = rw (same r) refl

at-other : (slots : List Record) (r sequence k : ℕ) (s : Record) → (k == r) ≡ false → (s.is_live && has_base s.head.base r sequence) ≡ extends r s → slot_at slots k ≡ s
    → members_at r sequence k s ≡ members_in slots (number_if r k s)
unfolding members_at
at-other slots r sequence k s other same at =
    rw other (ap (λ b. if b then map (member_at k s) s.attributes else []) same ∙ go (extends r s) (is_readable s) refl (readable s))
  where
    readable : (s : Record) → extends r s ≡ true → is_readable s ≡ true
    readable s is = first (is_readable s) (not (s.head.base == 0) && (target s.head.base == r)) is
      where
        first : (a b : Bool) → (a && b) ≡ true → a ≡ true
        first true b is = refl
        first false b is = is

    go : (b c : Bool) → is_readable s ≡ c → (b ≡ true → is_readable s ≡ true) → (if b then map (member_at k s) s.attributes else []) ≡ members_in slots (if b then k ∷ [] else [])
    go true c is read =
        sym (ap (λ (x : Record). members_read k x ++ []) at ∙ append-nil (members_read k s) ∙ ap (λ b. if b then map (member_at k s) s.attributes else []) (read refl))
    go false c is read = refl

abbrev if_below : Bool → ℕ → ℕ
if_below b n = if b then n else 0

extends-none : (r : ℕ) (s : Record) → s.head.base ≡ 0 → extends r s ≡ false
extends-none r s is = go (is_readable s) (s.head.base == 0) (target s.head.base == r) (none s.head.base is)
  where
    none : (n : ℕ) → n ≡ 0 → (n == 0) ≡ true
    none n is = grind (arith, nat_tests)

    go : (a b c : Bool) → b ≡ true → (a && (not b && c)) ≡ false
    go true true c is = refl
    go false b c is = refl
    go true false c is = absurd cc

-- what is known of the records below a number
pub record Known (slots : List Record) (slot : ℕ → Record) (r sequence count : ℕ) : Type 0 where
  pub each : (i : ℕ) → i < count → ((slot i).is_live && has_base (slot i).head.base r sequence) ≡ extends r (slot i)
  pub at : (i : ℕ) → slot_at slots i ≡ slot i
  pub base : (slot r).head.base ≡ 0

below-more : (slots : List Record) (slot : ℕ → Record) (r sequence count k : ℕ) (p : Member → Bool) → Known slots slot r sequence count → k < count
    → count_of p (members_from r sequence 0 (slots_from slot 0 k)) ≡ if_below (nat_lt r k) (count_of p (own_of r (slot r))) + count_of p (members_in slots (numbers_from r slot 0 k))
    → count_of p (members_from r sequence 0 (slots_from slot 0 (suc k))) ≡ if_below (nat_lt r (suc k)) (count_of p (own_of r (slot r))) + count_of p (members_in slots (numbers_from r slot 0 (suc k)))
below-more slots slot r sequence count k p known below before =
    let left : count_of p (members_from r sequence 0 (slots_from slot 0 (suc k))) ≡ count_of p (members_from r sequence 0 (slots_from slot 0 k)) + count_of p (members_at r sequence k (slot k)) =
    ap (count_of p) (members-more r sequence slot k) ∙ count-append p (members_from r sequence 0 (slots_from slot 0 k)) (members_at r sequence k (slot k)) in
    let right : count_of p (members_in slots (numbers_from r slot 0 (suc k))) ≡ count_of p (members_in slots (numbers_from r slot 0 k)) + count_of p (members_in slots (number_if r k (slot k))) =
    ap (λ ns. count_of p (members_in slots ns)) (numbers-more r slot k)
    ∙ ap (count_of p) (flat_map-append (λ n. members_read n (slot_at slots n)) (numbers_from r slot 0 k) (number_if r k (slot k)))
    ∙ count-append p (members_in slots (numbers_from r slot 0 k)) (members_in slots (number_if r k (slot k))) in
    elim (cases_eq k r) [
      | inl is ↦
          let own : count_of p (members_at r sequence k (slot k)) ≡ count_of p (own_of r (slot r)) = ap (count_of p) (at-own r sequence k (slot k) is) ∙ ap (λ n. count_of p (own_of r (slot n))) is in
          let none : count_of p (members_in slots (number_if r k (slot k))) ≡ 0 = ap (λ b. count_of p (members_in slots (if b then k ∷ [] else []))) (extends-none r (slot k) (ap (λ n. (slot n).head.base) is ∙ known.base)) in
          let old : if_below (nat_lt r k) (count_of p (own_of r (slot r))) ≡ 0 = ap (λ b. if_below b (count_of p (own_of r (slot r)))) (not-below r k is) in
          let new : if_below (nat_lt r (suc k)) (count_of p (own_of r (slot r))) ≡ count_of p (own_of r (slot r)) = ap (λ b. if_below b (count_of p (own_of r (slot r)))) (is-below r k is) in
          omega (arith, left, right, own, none, old, new, before)
      | inr other ↦
          let same : count_of p (members_at r sequence k (slot k)) ≡ count_of p (members_in slots (number_if r k (slot k))) =
          ap (count_of p) (at-other slots r sequence k (slot k) (apart k r other) (known.each k below) (known.at k)) in
          let still : if_below (nat_lt r (suc k)) (count_of p (own_of r (slot r))) ≡ if_below (nat_lt r k) (count_of p (own_of r (slot r))) =
          ap (λ b. if_below b (count_of p (own_of r (slot r)))) (still-below r k other) in
          omega (arith, left, right, same, still, before)
    ]
  where
    not-below : (r k : ℕ) → k ≡ r → nat_lt r k ≡ false
    not-below r k is = grind (arith, nat_tests)

    is-below : (r k : ℕ) → k ≡ r → nat_lt r (suc k) ≡ true
    is-below r k is = grind (arith, nat_tests)

    apart : (k r : ℕ) → (k ≡ r → ⊥) → (k == r) ≡ false
    apart k r other = grind (arith, nat_tests)

    still-below : (r k : ℕ) → (k ≡ r → ⊥) → nat_lt r (suc k) ≡ nat_lt r k
    still-below r k other = grind (arith, nat_tests)

all-below : (slots : List Record) (slot : ℕ → Record) (r sequence count k : ℕ) (p : Member → Bool) → Known slots slot r sequence count → k ≤ count
    → count_of p (members_from r sequence 0 (slots_from slot 0 k)) ≡ if_below (nat_lt r k) (count_of p (own_of r (slot r))) + count_of p (members_in slots (numbers_from r slot 0 k))
unfolding slots_from members_from numbers_from
all-below slots slot r sequence count zero p known within =
    let none : nat_lt r 0 ≡ false = grind (arith, nat_tests) in
    let e : 0 ≡ 0 + 0 = omega arith in
    e ∙ ap (λ b. if_below b (count_of p (own_of r (slot r))) + 0) (sym none)
all-below slots slot r sequence count (suc k) p known within =
    below-more slots slot r sequence count k p known (omega (arith, within)) (all-below slots slot r sequence count k p known (omega (arith, within)))

pub file-alike : (slots : List Record) (slot : ℕ → Record) (r sequence count : ℕ) → Known slots slot r sequence count → r < count
    → Alike (members_from r sequence 0 (slots_from slot 0 count)) (own_of r (slot r) ++ members_in slots (numbers_from r slot 0 count))
file-alike slots slot r sequence count known below p =
    let within : count ≤ count = omega arith in
    all-below slots slot r sequence count count p known within
    ∙ ap (λ b. if_below b (count_of p (own_of r (slot r))) + count_of p (members_in slots (numbers_from r slot 0 count))) (is-below r count below)
    ∙ sym (count-append p (own_of r (slot r)) (members_in slots (numbers_from r slot 0 count)))
  where
    is-below : (r k : ℕ) → r < k → nat_lt r k ≡ true
    is-below r k lt = grind (arith, nat_tests)

-- ---- no record has it as base

any-none : (slot : ℕ → Record) (r : ℕ) (test : Record → Bool) → list_any test (slots_from slot 0 0) ≡ not (length (numbers_from r slot 0 0) == 0)
unfolding slots_from numbers_from
any-none slot r test = refl

any-below : (slots : List Record) (slot : ℕ → Record) (r sequence count k : ℕ) → Known slots slot r sequence count → k ≤ count
    → list_any (λ (s : Record). s.is_live && has_base s.head.base r sequence) (slots_from slot 0 k) ≡ not (length (numbers_from r slot 0 k) == 0)
any-below slots slot r sequence count zero known within = any-none slot r (λ (s : Record). s.is_live && has_base s.head.base r sequence)
any-below slots slot r sequence count (suc k) known within =
    let place : 0 + k ≡ k = omega arith in
    let test = λ (s : Record). s.is_live && has_base s.head.base r sequence in
    ap (list_any test) (slots-more slot 0 k ∙ ap (λ n. slots_from slot 0 k ++ slot n ∷ []) place)
    ∙ list_any-append test (slots_from slot 0 k) (slot k ∷ [])
    ∙ ap (λ b. list_any test (slots_from slot 0 k) || (b || false)) (known.each k (omega (arith, within)))
    ∙ ap (λ b. b || (extends r (slot k) || false)) (any-below slots slot r sequence count k known (omega (arith, within)))
    ∙ go (extends r (slot k)) (numbers_from r slot 0 k)
    ∙ ap (λ (ns : List ℕ). not (length ns == 0)) (sym (numbers-more r slot k))
  where
    go : (b : Bool) (ns : List ℕ) → (not (length ns == 0) || (b || false)) ≡ not (length (ns ++ (if b then k ∷ [] else [])) == 0)
    go true ns = (let long = length-append ns (k ∷ []) in some (length ns) (length (ns ++ k ∷ [])) (omega (arith, long)))
      where
        some : (n m : ℕ) → m ≡ n + 1 → (not (n == 0) || true) ≡ not (m == 0)
        some n m is = right (not (n == 0)) ∙ (let e : (m == 0) ≡ false = grind (arith, nat_tests) in sym (ap not e))
          where
            right : (b : Bool) → (b || true) ≡ true
            right true = refl
            right false = refl
    go false ns = right (not (length ns == 0)) ∙ ap (λ (xs : List ℕ). not (length xs == 0)) (sym (append-nil ns))
      where
        right : (b : Bool) → (b || (false || false)) ≡ b
        right true = refl
        right false = refl

pub no-base : (slots : List Record) (slot : ℕ → Record) (r sequence count : ℕ) → Known slots slot r sequence count → is_no_base (slots_from slot 0 count) r sequence ≡ (length (numbers_from r slot 0 count) == 0)
no-base slots slot r sequence count known =
    let within : count ≤ count = omega arith in
    ap not (any-below slots slot r sequence count count known within) ∙ twice (length (numbers_from r slot 0 count) == 0)
  where
    twice : (b : Bool) → not (not b) ≡ b
    twice true = refl
    twice false = refl
