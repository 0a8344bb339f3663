-- What the entries and the fault of a list tell of its bytes.
use Rattle.std.proofs.Common.{◌≡◌, ◌≤◌, ◌<◌, ◌+◌, ◌*◌, ℕ, zero, suc, List, [], ◌∷◌, ◌++◌, length, map, refl, sym, ap, subst, ◌∙◌, arith, inl, inr, length-append}
use Rattle.std.specs.Prelude.{◌↔◌, ◌⊎◌, Result, Ok, Err}
use Rattle.std.specs.List.{concat, All}
use Rattle.std.specs.Result.{ok_prefix, result_map_both}
use Rattle.std.proofs.lemmas.List.{length-map}
use Rattle.std.proofs.lemmas.List.Elements.{All-nil, All-cons, All-append, All-same}
use Rattle.ntfs_base.specs.Bytes.{AreBytes}
use Rattle.ntfs_attrlist.specs.declared.fault.BadEntry.{BadEntry}
use Rattle.ntfs_attrlist.specs.Entry.{Listed, listed_of}
use Rattle.ntfs_attrlist.specs.AttributeList.{AreRawEntries, AreEntries, BreaksAt}
use Rattle.ntfs_attrlist.specs.Reading.{list_items, all_or_first, list_entries, entries_and_fault, HasItemBounds}
use Rattle.ntfs_attrlist.proofs.EntryLemmas.{listed_of-bounds}
use Rattle.ntfs_attrlist.proofs.ItemsLemmas.{fault_at, whole_or_broken, entries-read, breaks-read}

-- ---- the items tell the entries and the fault

abbrev oks : List Listed → List (Result Listed BadEntry)
oks entries = map Ok entries

abbrev failed : BadEntry → Result Listed BadEntry
failed fault = Err fault

abbrev all_entries : List Listed → Result (List Listed) BadEntry
all_entries entries = Ok entries

abbrev no_entries : BadEntry → Result (List Listed) BadEntry
no_entries fault = Err fault

oks_same : (xs ys : List Listed) → oks xs ≡ oks ys → xs ≡ ys
oks_same [] [] e = refl
oks_same [] (y ∷ ys) e = absurd cc
oks_same (x ∷ xs) [] e = absurd cc
oks_same (x ∷ xs) (y ∷ ys) e =
    let head : x ≡ y = cc in
    let tail : oks xs ≡ oks ys = cc in
    let others = oks_same xs ys tail in
    cc

oks_end : (xs ys : List Listed) (place : ℕ) → oks xs ≡ entries_and_fault ys place → ⊥
oks_end [] [] place e = cc
oks_end [] (y ∷ ys) place e = cc
oks_end (x ∷ xs) [] place e = cc
oks_end (x ∷ xs) (y ∷ ys) place e =
    let tail : oks xs ≡ entries_and_fault ys place = cc in
    oks_end xs ys place tail

faults_same : (xs ys : List Listed) (a b : ℕ) → entries_and_fault xs a ≡ entries_and_fault ys b → (xs ≡ ys) × (a ≡ b)
faults_same [] [] a b e = (refl, of-fault (record { place = a }) (record { place = b }) e)
  where
    of-fault : (f g : BadEntry) → failed f ∷ [] ≡ failed g ∷ [] → f.place ≡ g.place
    of-fault f g e = let same : f ≡ g = cc in ap (λ (h : BadEntry). h.place) same
faults_same [] (y ∷ ys) a b e = absurd cc
faults_same (x ∷ xs) [] a b e = absurd cc
faults_same (x ∷ xs) (y ∷ ys) a b e =
    let head : x ≡ y = cc in
    let tail : entries_and_fault xs a ≡ entries_and_fault ys b = cc in
    let others = faults_same xs ys a b tail in
    let same = others.0 in
    (cc, others.1)

-- entries come without a fault exactly where the list is their bytes joined
pub items-found : (bytes : List ℕ) (entries : List Listed) → (list_items bytes ≡ map Ok entries) ↔ AreEntries bytes entries
items-found bytes entries = (to, entries-read bytes entries)
  where
    to : list_items bytes ≡ map Ok entries → AreEntries bytes entries
    to e =
        elim (whole_or_broken bytes) [
          | inl w ↦ subst (AreEntries bytes) (oks_same w.entries entries (sym (entries-read bytes w.entries w.are) ∙ e)) w.are
          | inr b ↦ absurd (oks_end entries b.entries b.place (sym e ∙ breaks-read bytes b.entries b.place b.breaks))
        ]

-- a fault comes behind entries exactly where the list breaks so
pub items-fault : (bytes : List ℕ) (entries : List Listed) (place : ℕ) → (list_items bytes ≡ entries_and_fault entries place) ↔ BreaksAt bytes entries place
items-fault bytes entries place = (to, breaks-read bytes entries place)
  where
    to : list_items bytes ≡ entries_and_fault entries place → BreaksAt bytes entries place
    to e =
        elim (whole_or_broken bytes) [
          | inl w ↦ absurd (oks_end w.entries entries place (sym (entries-read bytes w.entries w.are) ∙ e))
          | inr b ↦
              let same = faults_same b.entries entries b.place place (sym (breaks-read bytes b.entries b.place b.breaks) ∙ e) in
              subst (BreaksAt bytes entries) same.1 (subst (λ (es : List Listed). BreaksAt bytes es b.place) same.0 b.breaks)
        ]

-- ---- all entries, or the first fault

all_or_first-oks : (xs : List Listed) → all_or_first (oks xs) ≡ Ok xs
all_or_first-oks [] = refl
all_or_first-oks (x ∷ xs) = ap (result_map_both (λ (es : List Listed). x ∷ es) (λ (f : BadEntry). f)) (all_or_first-oks xs)

all_or_first-fault : (xs : List Listed) (place : ℕ) → all_or_first (entries_and_fault xs place) ≡ Err (record { place = place })
all_or_first-fault [] place = refl
all_or_first-fault (x ∷ xs) place = ap (result_map_both (λ (es : List Listed). x ∷ es) (λ (f : BadEntry). f)) (all_or_first-fault xs place)

pub list_entries-items : (bytes : List ℕ) → all_or_first (list_items bytes) ≡ list_entries bytes
unfolding list_entries
list_entries-items bytes = refl

pub list_entries-are : (bytes : List ℕ) (entries : List Listed) → AreEntries bytes entries → list_entries bytes ≡ Ok entries
list_entries-are bytes entries are = sym (list_entries-items bytes) ∙ ap all_or_first (entries-read bytes entries are) ∙ all_or_first-oks entries

pub list_entries-breaks : (bytes : List ℕ) (entries : List Listed) (place : ℕ) → BreaksAt bytes entries place → list_entries bytes ≡ Err (record { place = place })
list_entries-breaks bytes entries place breaks = sym (list_entries-items bytes) ∙ ap all_or_first (breaks-read bytes entries place breaks) ∙ all_or_first-fault entries place

ok_same : (xs ys : List Listed) → all_entries xs ≡ all_entries ys → xs ≡ ys
ok_same xs ys e = cc

ok_fault : (xs : List Listed) (f : BadEntry) → all_entries xs ≡ no_entries f → ⊥
ok_fault xs f e = cc

err_same : (f g : BadEntry) → no_entries f ≡ no_entries g → f.place ≡ g.place
err_same f g e = let same : f ≡ g = cc in ap (λ (h : BadEntry). h.place) same

pub list_entries-found : (bytes : List ℕ) (entries : List Listed) → (list_entries bytes ≡ Ok entries) ↔ AreEntries bytes entries
list_entries-found bytes entries = (to, list_entries-are bytes entries)
  where
    to : list_entries bytes ≡ Ok entries → AreEntries bytes entries
    to e =
        elim (whole_or_broken bytes) [
          | inl w ↦ subst (AreEntries bytes) (ok_same w.entries entries (sym (list_entries-are bytes w.entries w.are) ∙ e)) w.are
          | inr b ↦ absurd (ok_fault entries (record { place = b.place }) (sym e ∙ list_entries-breaks bytes b.entries b.place b.breaks))
        ]

pub list_entries-fault : (bytes : List ℕ) (place : ℕ) → (list_entries bytes ≡ Err (record { place = place })) ↔ ((entries : List Listed) × BreaksAt bytes entries place)
list_entries-fault bytes place = (to, λ (entries, breaks). list_entries-breaks bytes entries place breaks)
  where
    to : list_entries bytes ≡ Err (record { place = place }) → (entries : List Listed) × BreaksAt bytes entries place
    to e =
        elim (whole_or_broken bytes) [
          | inl w ↦ absurd (ok_fault w.entries (record { place = place }) (sym (list_entries-are bytes w.entries w.are) ∙ e))
          | inr b ↦ (b.entries, subst (BreaksAt bytes b.entries) (err_same (record { place = b.place }) (record { place = place }) (sym (list_entries-breaks bytes b.entries b.place b.breaks) ∙ e)) b.breaks)
        ]

-- ---- how many entries there are

raws-few : (raws : List (List ℕ)) → AreRawEntries raws → 26 * length raws ≤ length (concat raws)
raws-few [] are = omega arith
raws-few (raw ∷ raws) (is, are) = let rest = raws-few raws are in omega (arith, is.fields, length-append raw (concat raws))

pub entries-few : (bytes : List ℕ) (entries : List Listed) → AreEntries bytes entries → 26 * length entries ≤ length bytes
entries-few bytes entries are =
    omega (arith, raws-few are.raws are.each, ap length are.joined, ap length are.say, length-map are.raws listed_of)

pub breaks-few : (bytes : List ℕ) (entries : List Listed) (place : ℕ) → BreaksAt bytes entries place → (26 * length entries ≤ place) × (place < length bytes)
breaks-few bytes entries place breaks =
    let few = entries-few breaks.front entries breaks.before in
    let left = some_left breaks.rest breaks.more in
    let all = length-append breaks.front breaks.rest in
    (omega (arith, few, breaks.length_of_front), omega (arith, left, all, ap length breaks.joined, breaks.length_of_front))
  where
    some_left : (rest : List ℕ) → (rest ≡ [] → ⊥) → 0 < length rest
    some_left [] more = absurd (more refl)
    some_left (byte ∷ bytes) more = omega arith

length-oks : (xs : List Listed) → length (oks xs) ≡ length xs
length-oks [] = refl
length-oks (x ∷ xs) = ap (λ (n : ℕ). suc n) (length-oks xs)

ok_prefix-oks : (xs : List Listed) → ok_prefix (oks xs) ≡ xs
ok_prefix-oks [] = refl
ok_prefix-oks (x ∷ xs) = ap (λ (es : List Listed). x ∷ es) (ok_prefix-oks xs)

ok_prefix-fault : (xs : List Listed) (place : ℕ) → ok_prefix (entries_and_fault xs place) ≡ xs
ok_prefix-fault [] place = refl
ok_prefix-fault (x ∷ xs) place = ap (λ (es : List Listed). x ∷ es) (ok_prefix-fault xs place)

pub items-few : (bytes : List ℕ) → 26 * length (ok_prefix (list_items bytes)) ≤ length bytes
items-few bytes =
    elim (whole_or_broken bytes) [
      | inl w ↦
          let es = ap ok_prefix (entries-read bytes w.entries w.are) ∙ ok_prefix-oks w.entries in
          omega (arith, ap length es, entries-few bytes w.entries w.are)
      | inr b ↦
          let es = ap ok_prefix (breaks-read bytes b.entries b.place b.breaks) ∙ ok_prefix-fault b.entries b.place in
          let few = breaks-few bytes b.entries b.place b.breaks in
          omega (arith, ap length es, few.0, few.1)
    ]

pub items-count : (bytes : List ℕ) → 26 * length (list_items bytes) ≤ length bytes + 25
items-count bytes =
    elim (whole_or_broken bytes) [
      | inl w ↦
          omega (arith, ap length (entries-read bytes w.entries w.are), length-oks w.entries, entries-few bytes w.entries w.are)
      | inr b ↦
          let few = breaks-few bytes b.entries b.place b.breaks in
          omega
          (arith, ap length (breaks-read bytes b.entries b.place b.breaks), length-append (map Ok b.entries) (fault_at b.place ∷ []), length-oks b.entries, few.0, few.1)
    ]

-- ---- bounds

are_front : (front rest : List ℕ) → AreBytes (front ++ rest) → AreBytes front
are_front [] rest are i = omega arith
are_front (x ∷ xs) rest are zero = are 0
are_front (x ∷ xs) rest are (suc i) = are_front xs rest (λ j. are (suc j)) i

are_rest : (front rest : List ℕ) → AreBytes (front ++ rest) → AreBytes rest
are_rest [] rest are = are
are_rest (x ∷ xs) rest are = are_rest xs rest (λ j. are (suc j))

raws-bounds : (size : ℕ) (raws : List (List ℕ)) → length (concat raws) ≤ size → AreBytes (concat raws) → AreRawEntries raws → All (HasItemBounds size) (map Ok (map listed_of raws))
raws-bounds size [] within bytes are = All-nil (HasItemBounds size)
raws-bounds size (raw ∷ raws) within bytes (is, are) =
    let long = length-append raw (concat raws) in
    All-cons (HasItemBounds size) _ _ (listed_of-bounds size raw (omega arith) (are_front raw (concat raws) bytes) is)
    (raws-bounds size raws (omega arith) (are_rest raw (concat raws) bytes) are)

pub entries-bounds : (size : ℕ) (bytes : List ℕ) (entries : List Listed) → length bytes ≤ size → AreBytes bytes → AreEntries bytes entries → All (HasItemBounds size) (map Ok entries)
entries-bounds size bytes entries within are is =
    All-same (HasItemBounds size) _ _ (ap (map Ok) is.say) (raws-bounds size is.raws (omega (arith, ap length is.joined)) (subst AreBytes is.joined are) is.each)

pub items-bounds : (bytes : List ℕ) → AreBytes bytes → All (HasItemBounds (length bytes)) (list_items bytes)
items-bounds bytes are =
    elim (whole_or_broken bytes) [
      | inl w ↦ All-same (HasItemBounds (length bytes)) _ _ (entries-read bytes w.entries w.are) (entries-bounds (length bytes) bytes w.entries (omega arith) are w.are)
      | inr b ↦
          let front = are_front b.breaks.front b.breaks.rest (subst AreBytes b.breaks.joined are) in
          let inside = (breaks-few bytes b.entries b.place b.breaks).1 in
          All-same (HasItemBounds (length bytes)) _ _ (breaks-read bytes b.entries b.place b.breaks)
          (All-append (HasItemBounds (length bytes)) _ _ (entries-bounds (length bytes) b.breaks.front b.entries (omega (arith, b.breaks.length_of_front, inside)) front b.breaks.before)
          (All-cons (HasItemBounds (length bytes)) (fault_at b.place) [] inside (All-nil (HasItemBounds (length bytes)))))
    ]

-- ---- each list has one reading

pub one-entries : (bytes : List ℕ) (entries others : List Listed) → AreEntries bytes entries → AreEntries bytes others → entries ≡ others
one-entries bytes entries others are too = oks_same entries others (sym (entries-read bytes entries are) ∙ entries-read bytes others too)

pub one-break : (bytes : List ℕ) (entries others : List Listed) (place other : ℕ) → BreaksAt bytes entries place → BreaksAt bytes others other → (entries ≡ others) × (place ≡ other)
one-break bytes entries others place other breaks too =
    faults_same entries others place other (sym (breaks-read bytes entries place breaks) ∙ breaks-read bytes others other too)

pub never_both : (bytes : List ℕ) (entries others : List Listed) (place : ℕ) → AreEntries bytes entries → ¬ BreaksAt bytes others place
never_both bytes entries others place are breaks = oks_end entries others place (sym (entries-read bytes entries are) ∙ breaks-read bytes others place breaks)

pub one_or_other : (bytes : List ℕ) → ((entries : List Listed) × AreEntries bytes entries) ⊎ ((entries : List Listed) × (place : ℕ) × BreaksAt bytes entries place)
one_or_other bytes = elim (whole_or_broken bytes) [ inl w ↦ inl (w.entries, w.are) | inr b ↦ inr (b.entries, b.place, b.breaks) ]

-- entries that were put together come back
pub raws-read : (raws : List (List ℕ)) → AreRawEntries raws → list_entries (concat raws) ≡ Ok (map listed_of raws)
raws-read raws are = list_entries-are (concat raws) (map listed_of raws) (record { raws = raws; each = are; joined = refl; say = refl })
