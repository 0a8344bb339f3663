-- Two lists of which each element of one names one element of the other.
use Rattle.std.proofs.Common.{◌≡◌, ◌≤◌, ◌+◌, ◌||◌, ◌++◌, ◌⊎◌, inl, inr, zero, suc, Bool, true, false, List, [], ◌∷◌, length, map, refl, sym, ap, subst, ◌∙◌, arith, if◌then◌else◌}
use Rattle.std.specs.Prelude.{Contains, filter}
use Rattle.std.specs.List.{AllByRecursion, AllZip, list_all, list_any}
use Rattle.std.specs.List.Sorted.{IsPermutation}
use Rattle.std.proofs.lemmas.Bool.{cases_Bool}
use Rattle.std.proofs.lemmas.List.Sorted.{IsPermutation-cons, IsPermutation-middle, IsPermutation-refl, IsPermutation-sym, IsPermutation-trans}
use Rattle.ntfs_rules.specs.Files.{count_of}
use Rattle.ntfs_volume.proofs.AnswerLemmas.{and-left, and-right}

-- ---- elements

pub here : {A : Type 0} (x : A) (xs : List A) → Contains (x ∷ xs) x
here x xs = (0, omega arith, refl)

pub there : {A : Type 0} (x y : A) (xs : List A) → Contains xs y → Contains (x ∷ xs) y
there x y xs has = (suc has.0, omega (arith, has.1), has.2)

pub all-at : {A : Type 0} (P : A → Type 0) (xs : List A) (x : A) → AllByRecursion P xs → Contains xs x → P x
all-at P [] x all has = absurd (omega (arith, has.1))
all-at P (y ∷ xs) x all (zero, lt, is) = subst P is all.0
all-at P (y ∷ xs) x all (suc k, lt, is) = all-at P xs x all.1 (k, omega (arith, lt), is)

pub all-of : {A : Type 0} (P : A → Type 0) (xs : List A) → ((x : A) → Contains xs x → P x) → AllByRecursion P xs
all-of P [] all = tt
all-of P (x ∷ xs) all = (all x (here x xs), all-of P xs (λ y has. all y (there x y xs has)))

pub all-both : {A : Type 0} (P Q R : A → Type 0) → ((x : A) → P x → Q x → R x) → (xs : List A) → AllByRecursion P xs → AllByRecursion Q xs → AllByRecursion R xs
all-both P Q R f [] ps qs = tt
all-both P Q R f (x ∷ xs) ps qs = (f x ps.0 qs.0, all-both P Q R f xs ps.1 qs.1)

pub zip-both : {A B : Type 0} (P : A → Type 0) (R S : A → B → Type 0) → ((a : A) (b : B) → P a → R a b → S a b) → (xs : List A) (ys : List B) → AllByRecursion P xs → AllZip R xs ys → AllZip S xs ys
zip-both P R S f [] [] ps are = tt
zip-both P R S f [] (y ∷ ys) ps are = absurd are
zip-both P R S f (x ∷ xs) [] ps are = absurd are
zip-both P R S f (x ∷ xs) (y ∷ ys) ps are = (f x y ps.0 are.0, zip-both P R S f xs ys ps.1 are.1)

pub all-unmap : {A B : Type 0} (P : B → Type 0) (g : A → B) (xs : List A) → AllByRecursion P (map g xs) → AllByRecursion (λ x. P (g x)) xs
all-unmap P g [] all = tt
all-unmap P g (x ∷ xs) all = (all.0, all-unmap P g xs all.1)

pub all-tested : {A : Type 0} (test : A → Bool) (xs : List A) → list_all test xs ≡ true → AllByRecursion (λ x. test x ≡ true) xs
all-tested test [] is = tt
all-tested test (x ∷ xs) is = (and-left (test x) (list_all test xs) is, all-tested test xs (and-right (test x) (list_all test xs) is))

pub all-left : {A : Type 0} (P : A → Type 0) (xs ys : List A) → AllByRecursion P (xs ++ ys) → AllByRecursion P xs
all-left P [] ys all = tt
all-left P (x ∷ xs) ys all = (all.0, all-left P xs ys all.1)

pub all-right : {A : Type 0} (P : A → Type 0) (xs ys : List A) → AllByRecursion P (xs ++ ys) → AllByRecursion P ys
all-right P [] ys all = all
all-right P (x ∷ xs) ys all = all-right P xs ys all.1

all-append : {A : Type 0} (P : A → Type 0) (xs ys : List A) → AllByRecursion P xs → AllByRecursion P ys → AllByRecursion P (xs ++ ys)
all-append P [] ys one two = two
all-append P (x ∷ xs) ys one two = (one.0, all-append P xs ys one.1 two)

-- what holds of all holds of those that pass a test, which they do
kept-step : {A : Type 0} (P : A → Type 0) (test : A → Bool) (b : Bool) (x : A) (xs : List A) → test x ≡ b → P x → AllByRecursion (λ x. P x × (test x ≡ true)) xs
    → AllByRecursion (λ x. P x × (test x ≡ true)) (if b then x ∷ xs else xs)
kept-step P test true x xs is one all = ((one, is), all)
kept-step P test false x xs is one all = all

pub all-kept : {A : Type 0} (P : A → Type 0) (test : A → Bool) (xs : List A) → AllByRecursion P xs → AllByRecursion (λ x. P x × (test x ≡ true)) (filter test xs)
all-kept P test [] all = tt
all-kept P test (x ∷ xs) all = kept-step P test (test x) x (filter test xs) refl all.0 (all-kept P test xs all.1)

-- an element that passes is kept
kept-here : {A : Type 0} (b : Bool) (x y : A) (xs : List A) → b ≡ true → x ≡ y → Contains (if b then x ∷ xs else xs) y
kept-here true x y xs is same = (0, omega arith, same)
kept-here false x y xs is same = absurd cc

kept-there : {A : Type 0} (b : Bool) (x y : A) (xs : List A) → Contains xs y → Contains (if b then x ∷ xs else xs) y
kept-there true x y xs has = there x y xs has
kept-there false x y xs has = has

pub has-kept : {A : Type 0} (test : A → Bool) (xs : List A) (y : A) → Contains xs y → test y ≡ true → Contains (filter test xs) y
has-kept test [] y has is = absurd (omega (arith, has.1))
has-kept test (x ∷ xs) y (zero, lt, same) is = kept-here (test x) x y (filter test xs) (ap test same ∙ is) same
has-kept test (x ∷ xs) y (suc k, lt, same) is = kept-there (test x) x y (filter test xs) (has-kept test xs y (k, omega (arith, lt), same) is)

pub has-map : {A B : Type 0} (g : A → B) (xs : List A) (x : A) → Contains xs x → Contains (map g xs) (g x)
has-map g [] x has = absurd (omega (arith, has.1))
has-map g (y ∷ xs) x (zero, lt, same) = (0, omega arith, ap g same)
has-map g (y ∷ xs) x (suc k, lt, same) = there (g y) (g x) (map g xs) (has-map g xs x (k, omega (arith, lt), same))

any-step : {A : Type 0} (test : A → Bool) (b : Bool) (x : A) (xs : List A) → test x ≡ b → (b || list_any test xs) ≡ true → (list_any test xs ≡ true → (y : A) × Contains xs y × (test y ≡ true))
    → (y : A) × Contains (x ∷ xs) y × (test y ≡ true)
any-step test true x xs is any rest = (x, here x xs, is)
any-step test false x xs is any rest = let found = rest any in (found.0, there x found.0 xs found.1, found.2)

pub any-at : {A : Type 0} (test : A → Bool) (xs : List A) → list_any test xs ≡ true → (y : A) × Contains xs y × (test y ≡ true)
any-at test [] is = absurd cc
any-at test (x ∷ xs) is = any-step test (test x) x xs refl is (any-at test xs)

-- ---- counts

count-by : {A : Type 0} (test : A → Bool) (b : Bool) (x : A) (xs : List A) → test x ≡ b → count_of test (x ∷ xs) ≡ length (if b then x ∷ filter test xs else filter test xs)
count-by test b x xs is = ap (λ c. length (if c then x ∷ filter test xs else filter test xs)) is

pub count-yes : {A : Type 0} (test : A → Bool) (x : A) (xs : List A) → test x ≡ true → count_of test (x ∷ xs) ≡ 1 + count_of test xs
count-yes test x xs is = let counted = count-by test true x xs is in omega (arith, counted)

pub count-no : {A : Type 0} (test : A → Bool) (x : A) (xs : List A) → test x ≡ false → count_of test (x ∷ xs) ≡ count_of test xs
count-no test x xs is = count-by test false x xs is

count-append : {A : Type 0} (test : A → Bool) (xs ys : List A) → count_of test (xs ++ ys) ≡ count_of test xs + count_of test ys
count-append test [] ys = omega arith
count-append test (x ∷ xs) ys = elim (cases_Bool (test x)) [
  | inl is ↦ omega (arith, count-yes test x xs is, count-yes test x (xs ++ ys) is, count-append test xs ys)
  | inr is ↦ omega (arith, count-no test x xs is, count-no test x (xs ++ ys) is, count-append test xs ys)
]

-- what none is of
none-of : {A : Type 0} (test : A → Bool) (xs : List A) → count_of test xs ≡ 0 → AllByRecursion (λ x. test x ≡ false) xs
none-of test [] none = tt
none-of test (x ∷ xs) none = elim (cases_Bool (test x)) [
  | inl is ↦ absurd (omega (arith, none, count-yes test x xs is))
  | inr is ↦ (is, none-of test xs (let same = count-no test x xs is in omega (arith, none, same)))
]

-- what passes one test passes another
pub count-less : {A : Type 0} (test other : A → Bool) (xs : List A) → ((x : A) → test x ≡ true → other x ≡ true) → count_of test xs ≤ count_of other xs
count-less test other [] implies = omega arith
count-less test other (x ∷ xs) implies = elim (cases_Bool (test x)) [
  | inl is ↦ omega (arith, count-yes test x xs is, count-yes other x xs (implies x is), count-less test other xs implies)
  | inr is ↦ elim (cases_Bool (other x)) [
    | inl too ↦ omega (arith, count-no test x xs is, count-yes other x xs too, count-less test other xs implies)
    | inr not ↦ omega (arith, count-no test x xs is, count-no other x xs not, count-less test other xs implies)
  ]
]

pub count-some : {A : Type 0} (test : A → Bool) (xs : List A) (x : A) → Contains xs x → test x ≡ true → 1 ≤ count_of test xs
count-some test [] x has is = absurd (omega (arith, has.1))
count-some test (y ∷ xs) x (zero, lt, same) is = omega (arith, count-yes test y xs (ap test same ∙ is))
count-some test (y ∷ xs) x (suc k, lt, same) is = elim (cases_Bool (test y)) [
  | inl too ↦ omega (arith, count-yes test y xs too)
  | inr not ↦ omega (arith, count-no test y xs not, count-some test xs x (k, omega (arith, lt), same) is)
]

-- of those that pass a test that all pass which count, as many count
kept-count : {A : Type 0} (test keep : A → Bool) (b : Bool) (x : A) (xs : List A) → keep x ≡ b → (test x ≡ true → b ≡ true) → count_of test (filter keep xs) ≡ count_of test xs
    → count_of test (if b then x ∷ filter keep xs else filter keep xs) ≡ count_of test (x ∷ xs)
kept-count test keep true x xs is implies same = elim (cases_Bool (test x)) [
  | inl too ↦ omega (arith, count-yes test x xs too, count-yes test x (filter keep xs) too, same)
  | inr not ↦ omega (arith, count-no test x xs not, count-no test x (filter keep xs) not, same)
]
kept-count test keep false x xs is implies same = elim (cases_Bool (test x)) [
  | inl too ↦ let never = implies too in absurd cc
  | inr not ↦ same ∙ sym (count-no test x xs not)
]

pub count-kept : {A : Type 0} (test keep : A → Bool) (xs : List A) → ((x : A) → test x ≡ true → keep x ≡ true) → count_of test (filter keep xs) ≡ count_of test xs
count-kept test keep [] implies = refl
count-kept test keep (x ∷ xs) implies = kept-count test keep (keep x) x xs refl (implies x) (count-kept test keep xs implies)

pub count-map : {A B : Type 0} (test : B → Bool) (g : A → B) (xs : List A) → count_of test (map g xs) ≡ count_of (λ x. test (g x)) xs
count-map test g [] = refl
count-map test g (x ∷ xs) = elim (cases_Bool (test (g x))) [
  | inl is ↦ omega (arith, count-yes test (g x) (map g xs) is, count-yes (λ y. test (g y)) x xs is, count-map test g xs)
  | inr is ↦ omega (arith, count-no test (g x) (map g xs) is, count-no (λ y. test (g y)) x xs is, count-map test g xs)
]

-- ---- pairs

split-at : {A : Type 0} (xs : List A) (x : A) → Contains xs x → (front : List A) × (back : List A) × (xs ≡ front ++ (x ∷ back))
split-at [] x has = absurd (omega (arith, has.1))
split-at {A = A} (y ∷ xs) x (zero, lt, is) = ([], xs, ap (λ (z : A). z ∷ xs) is)
split-at {A = A} (y ∷ xs) x (suc k, lt, is) =
    let rest = split-at xs x (k, omega (arith, lt), is) in
    (y ∷ rest.0, rest.1, ap (λ (zs : List A). y ∷ zs) rest.2)

-- an element of a list with one in the middle is that one or another
other-at : {A : Type 0} (front back : List A) (x y : A) → Contains (front ++ (x ∷ back)) y → (x ≡ y) ⊎ Contains (front ++ back) y
other-at [] back x y (zero, lt, is) = inl is
other-at [] back x y (suc k, lt, is) = inr (k, omega (arith, lt), is)
other-at (z ∷ front) back x y (zero, lt, is) = inr (0, omega arith, is)
other-at (z ∷ front) back x y (suc k, lt, is) = elim (other-at front back x y (k, omega (arith, lt), is)) [
  | inl same ↦ inl same
  | inr has ↦ inr (there z y (front ++ back) has)
]

-- an element names one of the list
abbrev pub NamesIn : {A B : Type 0} → (A → B → Bool) → List B → A → B → Type 0
NamesIn names bs a b = (names a b ≡ true) × Contains bs b

-- an element is named once
abbrev pub IsNamedOnce : {A B : Type 0} → (A → B → Bool) → List A → B → Type 0
IsNamedOnce names ks b = count_of (λ a. names a b) ks ≡ 1

-- an element names one alone
abbrev pub NamesOne : {A B : Type 0} → (A → B → Bool) → List B → A → Type 0
NamesOne names bs a = count_of (names a) bs ≡ 1

named-less : {A B : Type 0} (names : A → B → Bool) (a : A) (ks : List A) (b : B) → names a b ≡ false → IsNamedOnce names (a ∷ ks) b → IsNamedOnce names ks b
named-less names a ks b not once = sym (count-no (λ a. names a b) a ks not) ∙ once

names-less : {A B : Type 0} (names : A → B → Bool) (front back : List B) (b : B) (a : A) → names a b ≡ false → NamesOne names (front ++ (b ∷ back)) a → NamesOne names (front ++ back) a
names-less names front back b a not one =
    omega (arith, one, count-append (names a) front (b ∷ back), count-append (names a) front back, count-no (names a) b back not)

other-named : {A B : Type 0} (names : A → B → Bool) (front back : List B) (b : B) (a : A) (other : B) → names a b ≡ false → NamesIn names (front ++ (b ∷ back)) a other → NamesIn names (front ++ back) a other
other-named names front back b a other not is = elim (other-at front back b other is.1) [
  | inl same ↦ let never : names a b ≡ names a other = ap (names a) same in let yes : names a other ≡ true = is.0 in absurd cc
  | inr has ↦ (is.0, has)
]

-- the first pair is left out
record IsRest {A B : Type 0} (names : A → B → Bool) (ks : List A) (bs found : List B) : Type 0 where
  pairs : AllZip (NamesIn names bs) ks found
  named : AllByRecursion (IsNamedOnce names ks) bs
  alone : AllByRecursion (NamesOne names bs) ks

rest-of : {A B : Type 0} (names : A → B → Bool) (a : A) (ks : List A) (b : B) (found front back : List B) → names a b ≡ true → AllZip (NamesIn names (front ++ (b ∷ back))) ks found
    → AllByRecursion (IsNamedOnce names (a ∷ ks)) (front ++ (b ∷ back)) → NamesOne names (front ++ (b ∷ back)) a → AllByRecursion (NamesOne names (front ++ (b ∷ back))) ks
    → IsRest names ks (front ++ back) found
rest-of {A = A} {B = B} names a ks b found front back is pairs named one alone =
    let once = (all-right (IsNamedOnce names (a ∷ ks)) front (b ∷ back) named).0 in
    let none = none-of (λ (c : A). names c b) ks (let more = count-yes (λ (c : A). names c b) a ks is in omega (arith, once, more)) in
    let sum = count-append (names a) front (b ∷ back) in
    let more = count-yes (names a) b back is in
    let no_front = none-of (names a) front (omega (arith, one, sum, more)) in
    let no_back = none-of (names a) back (omega (arith, one, sum, more)) in
    let not : B → Type 0 = λ c. names a c ≡ false in
    let less : (c : B) → not c → IsNamedOnce names (a ∷ ks) c → IsNamedOnce names ks c = named-less names a ks in
    record {
      pairs = zip-both (λ c. names c b ≡ false) (NamesIn names (front ++ (b ∷ back))) (NamesIn names (front ++ back)) (λ c d. other-named names front back b c d) ks found none pairs;
      named = all-append (IsNamedOnce names ks) front back
          (all-both not (IsNamedOnce names (a ∷ ks)) (IsNamedOnce names ks) less front no_front (all-left (IsNamedOnce names (a ∷ ks)) front (b ∷ back) named))
          (all-both not (IsNamedOnce names (a ∷ ks)) (IsNamedOnce names ks) less back no_back (all-right (IsNamedOnce names (a ∷ ks)) front (b ∷ back) named).1);
      alone = all-both (λ c. names c b ≡ false) (NamesOne names (front ++ (b ∷ back))) (NamesOne names (front ++ back)) (names-less names front back b) ks none alone;
    }

-- where each names one alone and each is named once, those that are named are all, in some order
pub permuted : {A B : Type 0} (names : A → B → Bool) (ks : List A) (bs found : List B) → AllZip (NamesIn names bs) ks found → AllByRecursion (IsNamedOnce names ks) bs → AllByRecursion (NamesOne names bs) ks
    → IsPermutation found bs
permuted names [] [] [] pairs named alone = IsPermutation-refl []
permuted names [] (b ∷ bs) [] pairs named alone = absurd (omega (arith, named.0))
permuted names [] bs (b ∷ found) pairs named alone = absurd pairs
permuted names (a ∷ ks) bs [] pairs named alone = absurd pairs
permuted {B = B} names (a ∷ ks) bs (b ∷ found) pairs named alone =
    let parts = split-at bs b pairs.0.1 in
    let front = parts.0 in
    let back = parts.1 in
    let rest = rest-of names a ks b found front back pairs.0.0
    (subst (λ (cs : List B). AllZip (NamesIn names cs) ks found) parts.2 pairs.1)
    (subst (λ (cs : List B). AllByRecursion (IsNamedOnce names (a ∷ ks)) cs) parts.2 named)
    (subst (λ (cs : List B). NamesOne names cs a) parts.2 alone.0)
    (subst (λ (cs : List B). AllByRecursion (NamesOne names cs) ks) parts.2 alone.1) in
    let more = permuted names ks (front ++ back) found rest.pairs rest.named rest.alone in
    subst (λ (cs : List B). IsPermutation (b ∷ found) cs) (sym parts.2)
    (IsPermutation-trans (b ∷ found) (b ∷ (front ++ back)) (front ++ (b ∷ back)) (IsPermutation-cons b found (front ++ back) more)
    (IsPermutation-sym (front ++ (b ∷ back)) (b ∷ (front ++ back)) (IsPermutation-middle front b back)))
