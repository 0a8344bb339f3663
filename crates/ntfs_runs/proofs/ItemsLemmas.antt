-- What an iterator and a list of all runs tell of what reading gave.
use Rattle.std.proofs.Common.{◌≡◌, ◌≤◌, ◌+◌, ◌-◌, ◌^◌, ℕ, List, [], ◌∷◌, ◌++◌, Bool, true, false, cond, refl, sym, ap, subst, ◌∙◌, arith}
use Rattle.std.specs.Prelude.{◌↔◌, Option, Some, None, Result, Ok, Err, map, IfOk, IfSome}
use Rattle.std.proofs.Common.{inl, inr}
use Rattle.std.proofs.lemmas.List.{append-nil}
use Rattle.ntfs_runs.specs.declared.run.Run.{Run}
use Rattle.ntfs_runs.specs.declared.fault.BadPairs.{BadPairs}
use Rattle.ntfs_runs.specs.declared.fault.PairsFault.{PairsFault}
use Rattle.ntfs_runs.specs.declared.fault.PairsFault.TheVariants as faults
use Rattle.ntfs_runs.specs.Clusters.{FitFrom, AreSpellable, AreWithin}
use Rattle.ntfs_runs.specs.Spelling.{PairsFrom, Spells, SpelledInFront, IsPlace, IsWrongAfter, last_after}
use Rattle.ntfs_runs.specs.Reading.{Reading, reading, items, with_fault}
use Rattle.ntfs_runs.specs.Decoding.{IsUnlessNoMemory, GivesReading}
use Rattle.ntfs_runs.proofs.ReadingLemmas.{read_as, right-is-spelled, spelled-is-right, wrong-is-first, first-is-wrong}

abbrev ending : Bool → ℕ → List (Result Run BadPairs)
ending is_right place = cond is_right [] (Err (record { place = place }) ∷ [])

abbrev rights : List Run → List (Result Run BadPairs)
rights runs = map Ok runs

-- all items are runs: then there is no fault
all-right : (xs ys : List Run) (is_right : Bool) (place : ℕ) → rights xs ++ ending is_right place ≡ rights ys → (is_right ≡ true) × (xs ≡ ys)
all-right [] [] true place e = (refl, refl)
all-right [] [] false place e = absurd cc
all-right [] (y ∷ ys) true place e = absurd cc
all-right [] (y ∷ ys) false place e = absurd cc
all-right (x ∷ xs) [] is_right place e = absurd cc
all-right (x ∷ xs) (y ∷ ys) is_right place e =
    let head : x ≡ y = cc in
    let tail : rights xs ++ ending is_right place ≡ rights ys = cc in
    let others = all-right xs ys is_right place tail in
    let same = others.1 in
    (others.0, cc)

-- a fault among the items is the last one
one-fault : (xs ys : List Run) (is_right : Bool) (place : ℕ) (fault : BadPairs) (left : List (Result Run BadPairs)) → rights xs ++ ending is_right place ≡ rights ys ++ Err fault ∷ left
    → (is_right ≡ false) × (xs ≡ ys) × (place ≡ fault.place)
one-fault [] [] true place fault left e = absurd cc
one-fault [] [] false place fault left e =
    let place-is : ((λ (b : BadPairs). b.place) (record { place = place }) ≡ fault.place) = of-err (record { place = place }) fault left e in
    (refl, refl, place-is)
  where
    of-err : (a b : BadPairs) (left : List (Result Run BadPairs)) → Err a ∷ [] ≡ Err b ∷ left → a.place ≡ b.place
    of-err a b left e = let same : a ≡ b = cc in ap (λ (f : BadPairs). f.place) same
one-fault [] (y ∷ ys) true place fault left e = absurd cc
one-fault [] (y ∷ ys) false place fault left e = absurd cc
one-fault (x ∷ xs) [] is_right place fault left e = absurd cc
one-fault (x ∷ xs) (y ∷ ys) is_right place fault left e =
    let head : x ≡ y = cc in
    let tail : rights xs ++ ending is_right place ≡ rights ys ++ Err fault ∷ left = cc in
    let others = one-fault xs ys is_right place fault left tail in
    let same = others.1 in
    (others.0, cc, others.2)

-- runs come without a fault exactly where they are spelled in front
pub items-spelled : (bytes : List ℕ) (runs : List Run) → (items (reading bytes) ≡ rights runs) ↔ SpelledInFront bytes runs
unfolding SpelledInFront
items-spelled bytes runs = (to, from)
  where
    to : items (reading bytes) ≡ rights runs → SpelledInFront bytes runs
    to e =
        let right = all-right (reading bytes).runs runs (reading bytes).is_right (reading bytes).place e in
        subst (λ (r : List Run). SpelledInFront bytes r) right.1 (right-is-spelled bytes right.0)

    from : SpelledInFront bytes runs → items (reading bytes) ≡ rights runs
    from (text, more, bytes-is, spells) =
        let read = spelled-is-right text more runs spells in
        ap (λ (b : List ℕ). items (reading b)) bytes-is ∙ ap items read.2 ∙ append-nil (rights runs)

-- a fault comes behind runs exactly where the first wrong header stands behind their pairs
pub items-wrong : (bytes : List ℕ) (runs : List Run) (place : ℕ) → (items (reading bytes) ≡ with_fault runs place) ↔ IsWrongAfter bytes runs place
items-wrong bytes runs place = (to, from)
  where
    to : items (reading bytes) ≡ with_fault runs place → IsWrongAfter bytes runs place
    to e =
        let wrong = one-fault (reading bytes).runs runs (reading bytes).is_right (reading bytes).place (record { place = place }) [] e in
        subst (λ (p : ℕ). IsWrongAfter bytes runs p) wrong.2 (subst (λ (r : List Run). IsWrongAfter bytes r (reading bytes).place) wrong.1 (wrong-is-first bytes wrong.0))

    from : IsWrongAfter bytes runs place → items (reading bytes) ≡ with_fault runs place
    from is = ap items (first-is-wrong bytes runs place is)

-- ---- a list of all runs

-- all items were runs
pub gives-right : (runs : List Run) (read : Reading) → rights runs ++ [] ≡ items read → (read.is_right ≡ true) × (runs ≡ read.runs)
gives-right runs read e =
    let right = all-right read.runs runs read.is_right read.place (sym e ∙ append-nil (rights runs)) in
    (right.0, sym right.1)

-- an item was a fault
pub gives-fault : (runs : List Run) (fault : BadPairs) (left : List (Result Run BadPairs)) (read : Reading) → rights runs ++ Err fault ∷ left ≡ items read → (read.is_right ≡ false) × (fault.place ≡ read.place)
gives-fault runs fault left read e =
    let wrong = one-fault read.runs runs read.is_right read.place fault left (sym e) in
    (wrong.0, sym wrong.2)

pub gives-found : (bytes : List ℕ) (r : Result (List Run) PairsFault) → GivesReading r (reading bytes) → IfOk r (λ list. SpelledInFront bytes list)
gives-found bytes (Ok list) gives = subst (λ (l : List Run). SpelledInFront bytes l) (sym gives.1) (right-is-spelled bytes gives.0)
gives-found bytes (Err fault) gives = tt

-- an answer where reading gave this
of-reading : (r : Result (List Run) PairsFault) (runs : List Run) (place : ℕ) → GivesReading r (read_as runs true place) → IsUnlessNoMemory r (Ok runs)
of-reading (Ok list) runs place gives = inl (ap Ok gives.1)
of-reading (Err (faults.BadPairs at)) runs place gives = absurd cc
of-reading (Err faults.NoMemory) runs place gives = inr refl

of-fault : (r : Result (List Run) PairsFault) (runs : List Run) (place : ℕ) → GivesReading r (read_as runs false place) → IsUnlessNoMemory r (Err (faults.BadPairs place))
of-fault (Ok list) runs place gives = absurd cc
of-fault (Err (faults.BadPairs at)) runs place gives = let same = gives.1 in inl (ap (λ (p : ℕ). Err (faults.BadPairs p)) same)
of-fault (Err faults.NoMemory) runs place gives = inr refl

pub gives-only : (bytes : List ℕ) (r : Result (List Run) PairsFault) → GivesReading r (reading bytes) → (runs : List Run) → SpelledInFront bytes runs → IsUnlessNoMemory r (Ok runs)
unfolding SpelledInFront
gives-only bytes r gives runs (text, more, bytes-is, spells) =
    let read = spelled-is-right text more runs spells in
    of-reading r runs read.0 (subst (λ (x : Reading). GivesReading r x) (ap reading bytes-is ∙ read.2) gives)

pub gives-bad : (bytes : List ℕ) (r : Result (List Run) PairsFault) → GivesReading r (reading bytes) → (place : ℕ) → r ≡ Err (faults.BadPairs place) → (runs : List Run) × IsWrongAfter bytes runs place
gives-bad bytes r gives place is =
    let told : GivesReading (Err (faults.BadPairs place)) (reading bytes) = subst (λ (x : Result (List Run) PairsFault). GivesReading x (reading bytes)) is gives in
    ((reading bytes).runs, subst (λ (p : ℕ). IsWrongAfter bytes (reading bytes).runs p) (sym told.1) (wrong-is-first bytes told.0))

pub gives-first : (bytes : List ℕ) (r : Result (List Run) PairsFault) → GivesReading r (reading bytes) → (runs : List Run) (place : ℕ) → IsWrongAfter bytes runs place → IsUnlessNoMemory r (Err (faults.BadPairs place))
gives-first bytes r gives runs place is = of-fault r runs place (subst (λ (x : Reading). GivesReading r x) (first-is-wrong bytes runs place is) gives)

-- runs that are spelled can be spelled
place-fits : (last : ℕ) (delta : List ℕ) (lcn : Option ℕ) → IsPlace last delta lcn → IfSome lcn (λ l. l ≤ 2 ^ 48)
place-fits last delta None is = tt
place-fits last delta (Some lcn) is = is.2

pairs-fit : (last room : ℕ) (bytes : List ℕ) (runs : List Run) → PairsFrom last room bytes runs → FitFrom room runs
unfolding PairsFrom
pairs-fit last room bytes [] is = tt
pairs-fit last room bytes (run ∷ runs) (count, delta, rest, bytes-is, is, others) =
    (is.least, is.most, place-fits last delta run.lcn is.place, pairs-fit (last_after last run.lcn) (room - run.length) rest runs others)

pub spelled-fits : (bytes : List ℕ) (runs : List Run) → SpelledInFront bytes runs → AreSpellable runs
unfolding SpelledInFront Spells
spelled-fits bytes runs (text, more, bytes-is, (pairs, text-is, is)) = pairs-fit 0 (2 ^ 48) pairs runs is

-- runs that can be spelled stay below 2 ^ 64
some-within : (lcn : Option ℕ) (n : ℕ) → IfSome lcn (λ l. l ≤ 2 ^ 48) → n ≤ 2 ^ 48 → IfSome lcn (λ l. l + n ≤ 2 ^ 64)
some-within None n is most = tt
some-within (Some l) n is most = omega (arith, is)

pub fit-within : (room : ℕ) (runs : List Run) → room ≤ 2 ^ 48 → FitFrom room runs → AreWithin runs
fit-within room [] most fits = tt
fit-within room (run ∷ runs) most fits =
    (some-within run.lcn run.length fits.2 (omega (arith, fits.1)), fit-within (room - run.length) runs (omega arith) fits.3)

pub gives-spellable : (bytes : List ℕ) (r : Result (List Run) PairsFault) → GivesReading r (reading bytes) → IfOk r (λ list. AreSpellable list)
gives-spellable bytes (Ok list) gives = spelled-fits bytes list (gives-found bytes (Ok list) gives)
gives-spellable bytes (Err fault) gives = tt

pub gives-within : (bytes : List ℕ) (r : Result (List Run) PairsFault) → GivesReading r (reading bytes) → IfOk r (λ list. AreWithin list)
gives-within bytes (Ok list) gives = fit-within (2 ^ 48) list (omega arith) (gives-spellable bytes (Ok list) gives)
gives-within bytes (Err fault) gives = tt
