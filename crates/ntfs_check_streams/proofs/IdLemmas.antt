-- The types and names of the attributes of a file, by its list and by its base record.
use Rattle.std.proofs.Common.{◌≡◌, ◌+◌, ◌==◌, ◌&&◌, ◌||◌, ◌++◌, ℕ, suc, Bool, true, false, List, [], ◌∷◌, length, map, refl, sym, ap, subst, ◌∙◌, arith, if◌then◌else◌}
use Rattle.std.specs.Prelude.{Contains, filter, not}
use Rattle.std.specs.List.{AllByRecursion, list_all, list_any}
use Rattle.std.specs.Str.{bytes_eq}
use Rattle.std.proofs.lemmas.Bool.{eqb-true}
use Rattle.std.proofs.lemmas.Slice.Eq.{bytes_eq-Decides}
use Rattle.ntfs_attrlist.specs.Entry.{Listed}
use Rattle.ntfs_check_streams.proofs.SaidLemmas.{celled_attributes}
use Rattle.ntfs_record.specs.FileRecord.{Attribute, Head, Laid}
use Rattle.ntfs_record.specs.Slots.{Slot}
use Rattle.ntfs_record.specs.Views.{Placed, Shown, shown_placed}
use Rattle.ntfs_rules.proofs.MembersLemmas.{listed-parts}
use Rattle.ntfs_rules.proofs.PairingLemmas.{all-at, all-of, all-tested, any-at, has-map, here, there}
use Rattle.ntfs_rules.specs.Files.{Member, are_listed, count_of, ids_of, is_no_base, is_same_member, member_at, members_at, members_from, names_member, without_list}
use Rattle.ntfs_runs.specs.Cells.{Cells}
use Rattle.ntfs_volume.proofs.AnswerLemmas.{and-left, and-right}
use Rattle.ntfs_volume.specs.Gather.{Id, id_of, is_of, means}
use Rattle.ntfs_volume.specs.Listing.{is_list}
use Rattle.ntfs_volume.specs.Located.{Located, slot_at}
use Rattle.ntfs_volume.specs.References.{has_base, matches}

-- ---- tests along lists

pub same-truth : (a b : Bool) → (a ≡ true → b ≡ true) → (b ≡ true → a ≡ true) → a ≡ b
same-truth true b there back = sym (there refl)
same-truth false true there back = back refl
same-truth false false there back = refl

both : (a b : Bool) → a ≡ true → b ≡ true → (a && b) ≡ true
both true b first second = second
both false b first second = absurd cc

all-hold : {A : Type 0} (test : A → Bool) (xs : List A) → AllByRecursion (λ x. test x ≡ true) xs → list_all test xs ≡ true
all-hold test [] all = refl
all-hold test (x ∷ xs) all = both (test x) (list_all test xs) all.0 (all-hold test xs all.1)

pub all-append : {A : Type 0} (test : A → Bool) (xs ys : List A) → list_all test (xs ++ ys) ≡ (list_all test xs && list_all test ys)
all-append test [] ys = refl
all-append test (x ∷ xs) ys = step (test x) (all-append test xs ys)
  where
    step : (b : Bool) → list_all test (xs ++ ys) ≡ (list_all test xs && list_all test ys) → (b && list_all test (xs ++ ys)) ≡ ((b && list_all test xs) && list_all test ys)
    step true rest = rest
    step false rest = refl

map-append : {A B : Type 0} (g : A → B) (xs ys : List A) → map g (xs ++ ys) ≡ map g xs ++ map g ys
map-append g [] ys = refl
map-append g (x ∷ xs) ys = ap (λ rest. g x ∷ rest) (map-append g xs ys)

-- ---- the base record's own

pub own-all : (test : Id → Bool) (of : ℕ → List ℕ → Bool) → ((id : Id) → test id ≡ of id.kind id.name) → (n : ℕ) (h : Head) (ps : List Placed)
    → list_all test (map (λ (a : Attribute (Located (Laid (Cells ℕ)))). id_of a.face) (celled_attributes n h ps)) ≡ list_all (λ (s : Shown). of s.kind s.name) (map shown_placed ps)
own-all test of same n h [] = refl
own-all test of same n h (p ∷ ps) =
    ap (λ b. b && list_all test (map (λ (a : Attribute (Located (Laid (Cells ℕ)))). id_of a.face) (celled_attributes n h ps))) (same _)
    ∙ ap (λ b. of (shown_placed p).kind (shown_placed p).name && b) (own-all test of same n h ps)

ids-kept : {P : Type 0} (test : Id → Bool) (n : ℕ) (s : Slot P) (xs : List (Attribute P)) → list_all test (map (λ (m : Member). m.id) (map (member_at n s) xs)) ≡ list_all test (map (λ (a : Attribute P). id_of a.face) xs)
ids-kept test n s [] = refl
ids-kept test n s (x ∷ xs) = ap (λ b. test (id_of x.face) && b) (ids-kept test n s xs)

without-step : {P : Type 0} (test : Id → Bool) (n : ℕ) (s : Slot P) (a : Attribute P) (them : List (Attribute P)) (b : Bool) → test (id_of a.face) ≡ true → list_all test (map (λ (a : Attribute P). id_of a.face) them) ≡ true
    → list_all test (map (λ (m : Member). m.id) (map (member_at n s) (without_list them))) ≡ true
    → list_all test (map (λ (m : Member). m.id) (map (member_at n s) (if b then them else a ∷ without_list them))) ≡ true
without-step test n s a them true first rest without = ids-kept test n s them ∙ rest
without-step test n s a them false first rest without = both (test (id_of a.face)) (list_all test (map (λ (m : Member). m.id) (map (member_at n s) (without_list them)))) first without

without-all : {P : Type 0} (test : Id → Bool) (n : ℕ) (s : Slot P) (them : List (Attribute P)) → list_all test (map (λ (a : Attribute P). id_of a.face) them) ≡ true
    → list_all test (map (λ (m : Member). m.id) (map (member_at n s) (without_list them))) ≡ true
without-all test n s [] all = refl
without-all {P = P} test n s (a ∷ them) all =
    let first = and-left (test (id_of a.face)) (list_all test (map (λ (a : Attribute P). id_of a.face) them)) all in
    let rest = and-right (test (id_of a.face)) (list_all test (map (λ (a : Attribute P). id_of a.face) them)) all in
    without-step test n s a them (is_list a.face) first rest (without-all test n s them rest)

or-parts : (a b : Bool) → (a || b) ≡ false → (a ≡ false) × (b ≡ false)
or-parts true b is = absurd cc
or-parts false b is = (refl, is)

abbrev has_as_base : {P : Type 0} → ℕ → ℕ → Slot P → Bool
has_as_base r sequence s = s.is_live && has_base s.head.base r sequence

-- where no record has it as its base, all attributes of its file are its own
no-base-all : {P : Type 0} (test : Id → Bool) (r sequence n : ℕ) (t : Slot P) (slots : List (Slot P)) → ((i : ℕ) → n + i ≡ r → slot_at slots i ≡ t) → list_any (has_as_base r sequence) slots ≡ false
    → list_all test (map (λ (a : Attribute P). id_of a.face) t.attributes) ≡ true
    → list_all test (map (λ (m : Member). m.id) (members_from r sequence n slots)) ≡ true
unfolding members_from members_at slot_at
no-base-all test r sequence n t [] at none all = refl
no-base-all {P = P} test r sequence n t (s ∷ slots) at none all =
    let parts = or-parts (has_as_base r sequence s) (list_any (has_as_base r sequence) slots) none in
    let rest = no-base-all test r sequence (suc n) t slots (λ i is. at (suc i) (omega (arith, is))) parts.1 all in
    let front = step (n == r) (has_as_base r sequence s) refl parts.0 in
    ap (λ ids. list_all test ids) (map-append (λ (m : Member). m.id) (members_at r sequence n s) (members_from r sequence (suc n) slots))
    ∙ all-append test (map (λ (m : Member). m.id) (members_at r sequence n s)) (map (λ (m : Member). m.id) (members_from r sequence (suc n) slots))
    ∙ both (list_all test (map (λ (m : Member). m.id) (members_at r sequence n s))) (list_all test (map (λ (m : Member). m.id) (members_from r sequence (suc n) slots))) front rest
  where
    step : (own part : Bool) → (n == r) ≡ own → part ≡ false
        → list_all test (map (λ (m : Member). m.id) (if own then map (member_at n s) (without_list s.attributes) else (if part then map (member_at n s) s.attributes else []))) ≡ true
    step true part is no_part =
        let same : n ≡ r = eqb-true n r is in
        without-all test n s s.attributes
        (subst (λ (u : Slot P). list_all test (map (λ (a : Attribute P). id_of a.face) u.attributes) ≡ true) (sym (at 0 (omega (arith, same)))) all)
    step false part is no_part = rw no_part refl

not-none : (b : Bool) → not b ≡ true → b ≡ false
not-none true is = absurd cc
not-none false is = refl

-- without a list
pub ids-own : {P : Type 0} (test : Id → Bool) (r : ℕ) (t : Slot P) (slots : List (Slot P)) → slot_at slots r ≡ t → is_no_base slots r t.head.sequence ≡ true
    → list_all test (ids_of slots r t) ≡ list_all test (map (λ (a : Attribute P). id_of a.face) t.attributes)
unfolding ids_of
ids-own {P = P} test r t slots is none =
    let own = map (λ (a : Attribute P). id_of a.face) t.attributes in
    let others = map (λ (m : Member). m.id) (members_from r t.head.sequence 0 slots) in
    all-append test own others
    ∙ same-truth (list_all test own && list_all test others) (list_all test own) (λ holds. and-left (list_all test own) (list_all test others) holds)
    (λ holds. both (list_all test own) (list_all test others) holds
    (no-base-all test r t.head.sequence 0 t slots (λ i at. (let same : i ≡ r = omega (arith, at) in ap (slot_at slots) same ∙ is)) (not-none (list_any (has_as_base r t.head.sequence) slots) none) holds))

-- ---- with a list

named-same : (of : ℕ → List ℕ → Bool) (m : Member) (entry : Listed) → names_member m entry ≡ true → of m.id.kind m.id.name ≡ of entry.kind entry.name
unfolding names_member means is_of
named-same of m entry is =
    let meant = and-left (((m.id.kind == entry.kind) && bytes_eq m.id.name entry.name) && ((m.id.lowest == entry.lowest) && (m.id.instance == entry.instance))) (matches entry.reference m.number m.sequence) is in
    let typed = and-left ((m.id.kind == entry.kind) && bytes_eq m.id.name entry.name) ((m.id.lowest == entry.lowest) && (m.id.instance == entry.instance)) meant in
    let kind = eqb-true m.id.kind entry.kind (and-left (m.id.kind == entry.kind) (bytes_eq m.id.name entry.name) typed) in
    let name = (bytes_eq-Decides m.id.name entry.name).0 (and-right (m.id.kind == entry.kind) (bytes_eq m.id.name entry.name) typed) in
    ap (λ k. of k m.id.name) kind ∙ ap (λ n. of entry.kind n) name

count-has : {A : Type 0} (test : A → Bool) (xs : List A) → count_of test xs ≡ 1 → (y : A) × Contains xs y × (test y ≡ true)
count-has test [] is = absurd cc
count-has {A = A} test (x ∷ xs) is = step (test x) refl is (count-has test xs)
  where
    step : (b : Bool) → test x ≡ b → length (if b then x ∷ filter test xs else filter test xs) ≡ 1 → (count_of test xs ≡ 1 → (y : A) × Contains xs y × (test y ≡ true)) → (y : A) × Contains (x ∷ xs) y × (test y ≡ true)
    step true passes one rest = (x, here x xs, passes)
    step false fails one rest = let found = rest one in (found.0, there x found.0 xs found.1, found.2)

id-all : (test : Id → Bool) (ms : List Member) → AllByRecursion (λ (m : Member). test m.id ≡ true) ms → AllByRecursion (λ (id : Id). test id ≡ true) (map (λ (m : Member). m.id) ms)
id-all test [] all = tt
id-all test (m ∷ ms) all = (all.0, id-all test ms all.1)

pub listed-all : (test : Id → Bool) (of : ℕ → List ℕ → Bool) → ((id : Id) → test id ≡ of id.kind id.name) → (entries : List Listed) (members : List Member) → are_listed entries members ≡ true
    → list_all test (map (λ (m : Member). m.id) members) ≡ list_all (λ (entry : Listed). of entry.kind entry.name) entries
listed-all test of same entries members is =
    let are = listed-parts entries members is in
    let ids = map (λ (m : Member). m.id) members in
    same-truth (list_all test ids) (list_all (λ (entry : Listed). of entry.kind entry.name) entries)
    (λ holds.
    let each = all-tested test ids holds in
    all-hold (λ (entry : Listed). of entry.kind entry.name) entries
    (all-of (λ (entry : Listed). of entry.kind entry.name ≡ true) entries (λ entry has.
    let named = any-at (λ (m : Member). names_member m entry) members (all-at (λ (entry : Listed). list_any (λ (m : Member). names_member m entry) members ≡ true) entries entry are.each has) in
    let m = named.0 in
    sym (named-same of m entry named.2) ∙ sym (same m.id)
    ∙ all-at (λ (id : Id). test id ≡ true) ids m.id each (has-map (λ (m : Member). m.id) members m named.1))))
    (λ holds.
    let each = all-tested (λ (entry : Listed). of entry.kind entry.name) entries holds in
    all-hold test ids (id-all test members (all-of (λ (m : Member). test m.id ≡ true) members (λ m has.
    let once = all-at (λ (m : Member). ((count_of (names_member m) entries == 1) && (count_of (is_same_member m) members == 1)) ≡ true) members m are.once has in
    let named = count-has (names_member m) entries (eqb-true (count_of (names_member m) entries) 1 (and-left (count_of (names_member m) entries == 1) (count_of (is_same_member m) members == 1) once)) in
    let entry = named.0 in
    same m.id ∙ named-same of m entry named.2
    ∙ all-at (λ (entry : Listed). of entry.kind entry.name ≡ true) entries entry each named.1))))

pub ids-listed : {P : Type 0} (test : Id → Bool) (of : ℕ → List ℕ → Bool) → ((id : Id) → test id ≡ of id.kind id.name) → (r : ℕ) (t : Slot P) (slots : List (Slot P)) (entries : List Listed)
    → are_listed entries (members_from r t.head.sequence 0 slots) ≡ true
    → list_all test (ids_of slots r t) ≡ (list_all test (map (λ (a : Attribute P). id_of a.face) t.attributes) && list_all (λ (entry : Listed). of entry.kind entry.name) entries)
unfolding ids_of
ids-listed {P = P} test of same r t slots entries is =
    let own = map (λ (a : Attribute P). id_of a.face) t.attributes in
    let members = members_from r t.head.sequence 0 slots in
    all-append test own (map (λ (m : Member). m.id) members)
    ∙ ap (λ b. list_all test own && b) (listed-all test of same entries members is)
