-- The entries of a list against the attributes of a file.
use Rattle.std.proofs.Common.{◌≡◌, ◌+◌, ◌==◌, ◌&&◌, ℕ, suc, Bool, true, false, List, [], ◌∷◌, length, Result, Ok, Err, sym, ap, ◌∙◌, arith, if◌then◌else◌}
use Rattle.std.specs.Prelude.{filter}
use Rattle.std.proofs.lemmas.Bool.Decides.{nat_tests}
use Rattle.ntfs_attrlist.specs.Entry.{Listed}
use Rattle.ntfs_attrlist.specs.declared.fault.BadEntry.{BadEntry}
use Rattle.ntfs_rules.specs.Files.{count_of}
use Rattle.ntfs_check_files.specs.Members.{all_name, names_kept}
use Rattle.ntfs_check_files.specs.declared.members.Attribute.{Attribute as Kept}
use Rattle.std.specs.List.{list_any}

abbrev pub once : Bool → ℕ
once found = if found then 1 else 0

count-pass : {A : Type 0} (test : A → Bool) (xs rest : List A) (x : A) → xs ≡ x ∷ rest → test x ≡ true → count_of test xs ≡ suc (count_of test rest)
count-pass test xs rest x is passes = ap (count_of test) is ∙ ap (λ b. length (if b then x ∷ filter test rest else filter test rest)) passes

count-fail : {A : Type 0} (test : A → Bool) (xs rest : List A) (x : A) → xs ≡ x ∷ rest → test x ≡ false → count_of test xs ≡ count_of test rest
count-fail test xs rest x is fails = ap (count_of test) is ∙ ap (λ b. length (if b then x ∷ filter test rest else filter test rest)) fails

two : (n m : ℕ) → 1 + suc n ≡ m → false ≡ (m == 1)
two n m is = grind (arith, nat_tests)

-- one more that passes, where one passed before
pub twice : {A : Type 0} (test : A → Bool) (xs rest : List A) (x : A) (found : Bool) (all : ℕ) → xs ≡ x ∷ rest → true ≡ test x → found ≡ true → once found + count_of test xs ≡ all → false ≡ (all == 1)
twice test xs rest x found all is passes seen same =
    two (count_of test rest) all (ap (λ n. 1 + n) (sym (count-pass test xs rest x is (sym passes))) ∙ ap (λ b. once b + count_of test xs) (sym seen) ∙ same)

-- and where none did
pub first-one : {A : Type 0} (test : A → Bool) (xs rest : List A) (x : A) (found : Bool) (all : ℕ) → xs ≡ x ∷ rest → true ≡ test x → found ≡ false → once found + count_of test xs ≡ all → 1 + count_of test rest ≡ all
first-one test xs rest x found all is passes none same =
    let here = count-pass test xs rest x is (sym passes) in
    let before : 0 + count_of test xs ≡ all = ap (λ b. once b + count_of test xs) (sym none) ∙ same in
    omega (arith, here, before)

-- one that doesn't
pub another : {A : Type 0} (test : A → Bool) (xs rest : List A) (x : A) (found : Bool) (all : ℕ) → xs ≡ x ∷ rest → false ≡ test x → once found + count_of test xs ≡ all → once found + count_of test rest ≡ all
another test xs rest x found all is fails same = ap (λ n. once found + n) (sym (count-fail test xs rest x is (sym fails))) ∙ same

pub no-more : {A : Type 0} (test : A → Bool) (xs : List A) (found : Bool) (all : ℕ) → xs ≡ [] → once found + count_of test xs ≡ all → found ≡ (all == 1)
no-more test xs true all none same = let one : 1 + 0 ≡ all = ap (λ xs. 1 + count_of test xs) (sym none) ∙ same in ones all one
  where
    ones : (n : ℕ) → 1 + 0 ≡ n → true ≡ (n == 1)
    ones n is = grind (arith, nat_tests)
no-more test xs false all none same = let zero_is : 0 + 0 ≡ all = ap (λ xs. 0 + count_of test xs) (sym none) ∙ same in zeros all zero_is
  where
    zeros : (n : ℕ) → 0 + 0 ≡ n → false ≡ (n == 1)
    zeros n is = grind (arith, nat_tests)

-- ---- entries that name an attribute

pub names-none : (xs rest : List Listed) (x : Listed) (kept : List Kept) (all : Bool) → xs ≡ x ∷ rest → list_any (names_kept x) kept ≡ false → all_name xs kept ≡ all → false ≡ all
names-none xs rest x kept all is none same = sym (ap (λ them. all_name them kept) is ∙ ap (λ b. b && all_name rest kept) none) ∙ same

pub names-more : (xs rest : List Listed) (x : Listed) (kept : List Kept) (all : Bool) → xs ≡ x ∷ rest → list_any (names_kept x) kept ≡ true → all_name xs kept ≡ all → all_name rest kept ≡ all
names-more xs rest x kept all is one same = sym (ap (λ them. all_name them kept) is ∙ ap (λ b. b && all_name rest kept) one) ∙ same

pub names-all : (xs : List Listed) (kept : List Kept) (all : Bool) → xs ≡ [] → all_name xs kept ≡ all → true ≡ all
names-all xs kept all is same = sym (ap (λ them. all_name them kept) is) ∙ same
