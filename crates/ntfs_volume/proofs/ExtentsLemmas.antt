-- Extents: what they are, by the base record's list or without one, and of what they are gathered.
use Rattle.std.proofs.Common.{◌≡◌, ◌==◌, ◌&&◌, ◌||◌, ◌⊎◌, ℕ, suc, List, [], ◌∷◌, map, refl, sym, ap, ◌∙◌, subst, arith, cond, inl, inr, Bool, true, false, Option, Some, None, Result, Ok, if◌then◌else◌}
use Rattle.std.specs.Prelude.{Contains, filter, find}
use Rattle.std.specs.List.{AllByRecursion, AllZip}
use Rattle.std.specs.Option.{ok_or}
use Rattle.std.specs.Str.{bytes_eq}
use Rattle.std.proofs.lemmas.Bool.{eq-eqb, eqb-true}
use Rattle.std.proofs.lemmas.List.Elements.{All-contains_itself, All-filter, filter_passes, recursion_from_All}
use Rattle.std.proofs.lemmas.Slice.Eq.{bytes_eq-Decides}
use Rattle.ntfs_attrlist.specs.Entry.{Listed}
use Rattle.ntfs_base.specs.Frames.{must, ◌>>=◌}
use Rattle.ntfs_record.specs.FileRecord.{Attribute, Laid}
use Rattle.ntfs_record.specs.Slots.{Slot}
use Rattle.ntfs_volume.specs.Gather.{Extent, Id, Lists, all_found, bad_list, bad_record, extent_at, extents, extents_in, found_in, id_of, is_member, is_of, listed_extents, lists, means, own_extents}
use Rattle.ntfs_volume.specs.Laws.{IsBase, IsMember, IsNamedBy, IsOf, SameRecords, gathered_from}
use Rattle.ntfs_volume.specs.Listing.{RecordListing}
use Rattle.ntfs_runs.specs.Cells.{Cells}
use Rattle.ntfs_volume.specs.Located.{Located, slot_at}
use Rattle.ntfs_volume.specs.Streams.{gather, part_of, stream_of}
use Rattle.ntfs_volume.specs.References.{belongs, has_base, matches, target}
use Rattle.ntfs_volume.specs.declared.fault.VolumeFault.{VolumeFault}
use Rattle.ntfs_volume.specs.declared.fault.VolumeFault.TheVariants as volume
use Rattle.ntfs_volume.proofs.AnswerLemmas.{and-left, and-right, bind-ok, must-parts, some-parts}

-- ---- of a base record

-- what is found in the file of record r, where this is a base record in use and sound
abbrev pub of_slot : {P : Type 0} → ℕ → Slot P → Result (List (Extent P)) VolumeFault → Result (List (Extent P)) VolumeFault
of_slot r base found = must base.is_live volume.Absent >>= (λ _. must base.is_sound (bad_record r) >>= (λ _. must (base.head.base == 0) volume.Absent >>= (λ _. found)))

base-parts : {P : Type 0} (listings : Lists) (slots : List (Slot P)) (r kind : ℕ) (name : List ℕ) (found : List (Extent P)) → extents listings slots r kind name ≡ Ok found
    → IsBase slots r × (extents_in r kind name (listings r) (slot_at slots r) slots ≡ Ok found)
unfolding extents
base-parts listings slots r kind name found is =
    let base = slot_at slots r in
    let inner = extents_in r kind name (listings r) base slots in
    let live = must-parts base.is_live volume.Absent (must base.is_sound (bad_record r) >>= (λ _. must (base.head.base == 0) volume.Absent >>= (λ _. inner))) found is in
    let sound = must-parts base.is_sound (bad_record r) (must (base.head.base == 0) volume.Absent >>= (λ _. inner)) found live.1 in
    let own = must-parts (base.head.base == 0) volume.Absent inner found sound.1 in
    (record { live = live.0; sound = sound.0; base = eqb-true base.head.base 0 own.0 }, own.1)

pub of-base : {P : Type 0} (listings : Lists) (slots : List (Slot P)) (r kind : ℕ) (name : List ℕ) (found : List (Extent P)) → extents listings slots r kind name ≡ Ok found → IsBase slots r
of-base listings slots r kind name found is = (base-parts listings slots r kind name found is).0

base-extents : {P : Type 0} (listings : Lists) (slots : List (Slot P)) (r kind : ℕ) (name : List ℕ) → IsBase slots r
    → extents listings slots r kind name ≡ extents_in r kind name (listings r) (slot_at slots r) slots
unfolding extents
base-extents listings slots r kind name is = rw (is.live, is.sound, eq-eqb (slot_at slots r).head.base 0 is.base) refl

-- ---- without a list

in-own : {P : Type 0} (r kind : ℕ) (name : List ℕ) (listing : RecordListing) (base : Slot P) (slots : List (Slot P)) → listing.is_there ≡ false
    → extents_in r kind name listing base slots ≡ Ok (own_extents r kind name base)
unfolding extents_in
in-own r kind name listing base slots none = rw none refl

pub of-own : {P : Type 0} (listings : Lists) (slots : List (Slot P)) (r kind : ℕ) (name : List ℕ) → IsBase slots r → (listings r).is_there ≡ false
    → extents listings slots r kind name ≡ Ok (map (extent_at r (slot_at slots r).head) (filter (λ (a : Attribute P). is_of kind name (id_of a.face)) (slot_at slots r).attributes))
unfolding own_extents
of-own listings slots r kind name is none = base-extents listings slots r kind name is ∙ in-own r kind name (listings r) (slot_at slots r) slots none

-- ---- with one

in-listed : {P : Type 0} (r kind : ℕ) (name : List ℕ) (listing : RecordListing) (base : Slot P) (slots : List (Slot P)) → listing.is_there ≡ true
    → extents_in r kind name listing base slots ≡ (must listing.is_good (bad_list r) >>= (λ _. all_found r base.head.sequence slots (filter (lists kind name) listing.entries)))
unfolding extents_in listed_extents
in-listed r kind name listing base slots there = rw there refl

-- the extent of an entry
entry-named : {P : Type 0} (slots : List (Slot P)) (r : ℕ) (entry : Listed) (e : Extent P)
    → found_in r (slot_at slots r).head.sequence entry (slot_at slots (target entry.reference)) ≡ Ok e → IsNamedBy slots r entry e
unfolding found_in
entry-named {P = P} slots r entry e is =
    let n = target entry.reference in
    let s = slot_at slots n in
    let first : Option (Attribute P) = find (λ (a : Attribute P). means entry (id_of a.face)) s.attributes in
    let give : Attribute P → Result (Extent P) VolumeFault = λ a. Ok (extent_at n s.head a) in
    let last = ok_or first (bad_list r) >>= give in
    let part = is_member r (slot_at slots r).head.sequence entry.reference s.head in
    let live = must-parts s.is_live (bad_list r) (must s.is_sound (bad_record n) >>= (λ _. must part (bad_list r) >>= (λ _. last))) e is in
    let sound = must-parts s.is_sound (bad_record n) (must part (bad_list r) >>= (λ _. last)) e live.1 in
    let own = must-parts part (bad_list r) last e sound.1 in
    let there = some-parts first (bad_list r) give e own.1 in
    let same : extent_at n s.head there.0 ≡ e = let give_is = there.2 in cc in
    subst (IsNamedBy slots r entry) same (record { number = refl; live = live.0; sound = sound.0; head = refl; part = own.0; first = there.1 })

-- what is named so is found
named-entry : {P : Type 0} (slots : List (Slot P)) (r : ℕ) (entry : Listed) (e : Extent P) → IsNamedBy slots r entry e
    → found_in r (slot_at slots r).head.sequence entry (slot_at slots (target entry.reference)) ≡ Ok e
unfolding found_in
named-entry {P = P} slots r entry e is =
    let sequence = (slot_at slots r).head.sequence in
    let there : found_in r sequence entry (slot_at slots e.number) ≡ Ok (extent_at (target entry.reference) (slot_at slots e.number).head e.attribute) =
    rw (is.live, is.sound, subst (λ h. is_member r sequence entry.reference h ≡ true) is.head is.part, is.first) refl in
    ap (λ n. found_in r sequence entry (slot_at slots n)) (sym is.number)
    ∙ there
    ∙ ap (λ (n : ℕ). Ok (extent_at n (slot_at slots e.number).head e.attribute)) (sym is.number)
    ∙ ap (λ h. Ok (extent_at e.number h e.attribute)) (sym is.head)

all-named : {P : Type 0} (slots : List (Slot P)) (r : ℕ) (entries : List Listed) (found : List (Extent P))
    → all_found r (slot_at slots r).head.sequence slots entries ≡ Ok found → AllZip (IsNamedBy slots r) entries found
unfolding all_found
all-named slots r [] [] is = tt
all-named slots r [] (e ∷ es) is = absurd cc
all-named {P = P} slots r (entry ∷ entries) found is =
    let sequence = (slot_at slots r).head.sequence in
    let give : Extent P → List (Extent P) → Result (List (Extent P)) VolumeFault = λ e es. Ok (e ∷ es) in
    let one = bind-ok (found_in r sequence entry (slot_at slots (target entry.reference))) (λ e. all_found r sequence slots entries >>= give e) found is in
    let more = bind-ok (all_found r sequence slots entries) (give one.0) found one.2 in
    let same : one.0 ∷ more.0 ≡ found = let give_is = more.2 in cc in
    subst (AllZip (IsNamedBy slots r) (entry ∷ entries)) same (entry-named slots r entry one.0 one.1, all-named slots r entries more.0 more.1)

named-all : {P : Type 0} (slots : List (Slot P)) (r : ℕ) (entries : List Listed) (found : List (Extent P)) → AllZip (IsNamedBy slots r) entries found
    → all_found r (slot_at slots r).head.sequence slots entries ≡ Ok found
unfolding all_found
named-all slots r [] [] are = refl
named-all slots r [] (e ∷ es) are = absurd are
named-all slots r (entry ∷ entries) [] are = absurd are
named-all slots r (entry ∷ entries) (e ∷ es) are = rw (named-entry slots r entry e are.0, named-all slots r entries es are.1) refl

pub of-listed : {P : Type 0} (listings : Lists) (slots : List (Slot P)) (r kind : ℕ) (name : List ℕ) (found : List (Extent P)) → (listings r).is_there ≡ true → extents listings slots r kind name ≡ Ok found
    → ((listings r).is_good ≡ true) × AllZip (IsNamedBy slots r) (filter (lists kind name) (listings r).entries) found
of-listed listings slots r kind name found there is =
    let entries = filter (lists kind name) (listings r).entries in
    let inner = sym (in-listed r kind name (listings r) (slot_at slots r) slots there) ∙ (base-parts listings slots r kind name found is).1 in
    let good = must-parts (listings r).is_good (bad_list r) (all_found r (slot_at slots r).head.sequence slots entries) found inner in
    (good.0, all-named slots r entries found good.1)

pub listed-only : {P : Type 0} (listings : Lists) (slots : List (Slot P)) (r kind : ℕ) (name : List ℕ) (found : List (Extent P)) → IsBase slots r → (listings r).is_there ≡ true → (listings r).is_good ≡ true
    → AllZip (IsNamedBy slots r) (filter (lists kind name) (listings r).entries) found → extents listings slots r kind name ≡ Ok found
listed-only listings slots r kind name found base there good are =
    base-extents listings slots r kind name base
    ∙ in-listed r kind name (listings r) (slot_at slots r) slots there
    ∙ rw (good, named-all slots r (filter (lists kind name) (listings r).entries) found are) refl

-- ---- members

none-found : {X : Type 0} (x : X) → ◌≡◌ {A = Option X} None (Some x) → ⊥
none-found x is = absurd cc

found-step : {X : Type 0} (p : X → Bool) (y : X) (ys : List X) (x : X) (b : Bool) → p y ≡ b → (find p ys ≡ Some x → Contains ys x × (p x ≡ true)) → cond b (Some y) (find p ys) ≡ Some x
    → Contains (y ∷ ys) x × (p x ≡ true)
found-step p y ys x true is rest here = let same : y ≡ x = cc in ((0, omega arith, same), subst (λ z. p z ≡ true) same is)
found-step p y ys x false is rest there = let found = rest there in let at = found.0 in ((suc at.0, omega (arith, at.1), at.2), found.1)

-- what is found is an element, and passes
find-of : {X : Type 0} (p : X → Bool) (xs : List X) (x : X) → find p xs ≡ Some x → Contains xs x × (p x ≡ true)
find-of p [] x is = absurd (none-found x is)
find-of p (y ∷ ys) x is = found-step p y ys x (p y) refl (find-of p ys x) is

or-split : (a b : Bool) (A : Type 0) → (a ≡ true → A) → (a || b) ≡ true → A ⊎ (b ≡ true)
or-split true b A one is = inl (one refl)
or-split false b A one is = inr is

entry-member : {P : Type 0} (slots : List (Slot P)) (r : ℕ) (entry : Listed) (e : Extent P) → IsNamedBy slots r entry e → IsMember slots r e
unfolding is_member
entry-member slots r entry e is =
    let n = target entry.reference in
    let sequence = (slot_at slots r).head.sequence in
    let belongs_is : belongs n e.head.base r sequence ≡ true = and-right (matches entry.reference n e.head.sequence) (belongs n e.head.base r sequence) is.part in
    record {
      live = is.live;
      sound = is.sound;
      head = is.head;
      attribute = (find-of (λ (a : Attribute _). means entry (id_of a.face)) (slot_at slots e.number).attributes e.attribute is.first).0;
      part = or-split (n == r) (has_base e.head.base r sequence) (e.number ≡ r) (λ same. is.number ∙ eqb-true n r same) belongs_is;
    }

zip-all : {A B : Type 0} (R : A → B → Type 0) (P : B → Type 0) → ((a : A) (b : B) → R a b → P b) → (xs : List A) (ys : List B) → AllZip R xs ys → AllByRecursion P ys
zip-all R P f [] [] are = tt
zip-all R P f [] (y ∷ ys) are = absurd are
zip-all R P f (x ∷ xs) [] are = absurd are
zip-all R P f (x ∷ xs) (y ∷ ys) are = (f x y are.0, zip-all R P f xs ys are.1)

all-map : {A B : Type 0} (P : B → Type 0) (f : A → B) (xs : List A) → AllByRecursion (λ x. P (f x)) xs → AllByRecursion P (map f xs)
all-map P f [] are = tt
all-map P f (x ∷ xs) are = (are.0, all-map P f xs are.1)

pub all-weaker : {A : Type 0} (P Q : A → Type 0) → ((x : A) → P x → Q x) → (xs : List A) → AllByRecursion P xs → AllByRecursion Q xs
all-weaker P Q f [] are = tt
all-weaker P Q f (x ∷ xs) are = (f x are.0, all-weaker P Q f xs are.1)

kept : {A : Type 0} (p : A → Bool) (xs : List A) → AllByRecursion (Contains xs) (filter p xs)
kept p xs = recursion_from_All (Contains xs) (filter p xs) (All-filter p (Contains xs) xs (All-contains_itself xs))

passes : {A : Type 0} (p : A → Bool) (xs : List A) → AllByRecursion (λ x. p x ≡ true) (filter p xs)
passes p xs = recursion_from_All (λ x. p x ≡ true) (filter p xs) (filter_passes p xs)

-- what holds of the extents with a list and of those without one holds of all extents
by-list : {P : Type 0} (listings : Lists) (slots : List (Slot P)) (r kind : ℕ) (name : List ℕ) (found : List (Extent P)) (Q : List (Extent P) → Type 0)
    → extents listings slots r kind name ≡ Ok found
    → (IsBase slots r → Q (own_extents r kind name (slot_at slots r)))
    → (AllZip (IsNamedBy slots r) (filter (lists kind name) (listings r).entries) found → Q found)
    → Q found
by-list {P = P} listings slots r kind name found Q is own listed = step (listings r).is_there refl
  where
    step : (b : Bool) → (listings r).is_there ≡ b → Q found
    step true there = listed (of-listed listings slots r kind name found there is).1
    step false none =
        let base = of-base listings slots r kind name found is in
        let whole : Ok (own_extents r kind name (slot_at slots r)) ≡ Ok found
        = sym (base-extents listings slots r kind name base ∙ in-own r kind name (listings r) (slot_at slots r) slots none) ∙ is in
        let same : own_extents r kind name (slot_at slots r) ≡ found = cc in
        subst Q same (own base)

own-member : {P : Type 0} (slots : List (Slot P)) (r : ℕ) (a : Attribute P) → IsBase slots r → Contains (slot_at slots r).attributes a → IsMember slots r (extent_at r (slot_at slots r).head a)
own-member slots r a is there = record { live = is.live; sound = is.sound; head = refl; attribute = there; part = inl refl }

own-members : {P : Type 0} (slots : List (Slot P)) (r kind : ℕ) (name : List ℕ) → IsBase slots r → AllByRecursion (IsMember slots r) (own_extents r kind name (slot_at slots r))
unfolding own_extents
own-members {P = P} slots r kind name is =
    let base = slot_at slots r in
    let test : Attribute P → Bool = λ a. is_of kind name (id_of a.face) in
    let at : Attribute P → Extent P = extent_at r base.head in
    all-map (IsMember slots r) at (filter test base.attributes)
    (all-weaker (Contains base.attributes) (λ a. IsMember slots r (at a)) (λ a there. own-member slots r a is there) (filter test base.attributes) (kept test base.attributes))

pub members : {P : Type 0} (listings : Lists) (slots : List (Slot P)) (r kind : ℕ) (name : List ℕ) (found : List (Extent P)) → extents listings slots r kind name ≡ Ok found → AllByRecursion (IsMember slots r) found
members listings slots r kind name found is =
    by-list listings slots r kind name found (AllByRecursion (IsMember slots r)) is (own-members slots r kind name)
    (zip-all (IsNamedBy slots r) (IsMember slots r) (entry-member slots r) (filter (lists kind name) (listings r).entries) found)

-- ---- type and name

same-name : (a b : List ℕ) → bytes_eq a b ≡ true → a ≡ b
same-name a b is = (bytes_eq-Decides a b).0 is

id-parts : (kind : ℕ) (name : List ℕ) (id : Id) → is_of kind name id ≡ true → (id.kind ≡ kind) × (id.name ≡ name)
unfolding is_of
id-parts kind name id is =
    (eqb-true id.kind kind (and-left (id.kind == kind) (bytes_eq id.name name) is), same-name id.name name (and-right (id.kind == kind) (bytes_eq id.name name) is))

entry-of : {P : Type 0} (slots : List (Slot P)) (r kind : ℕ) (name : List ℕ) (entry : Listed) (e : Extent P) → lists kind name entry ≡ true → IsNamedBy slots r entry e → IsOf kind name e
unfolding means
entry-of {P = P} slots r kind name entry e listed is =
    let id = id_of e.attribute.face in
    let meant = (find-of (λ (a : Attribute P). means entry (id_of a.face)) (slot_at slots e.number).attributes e.attribute is.first).1 in
    let same = id-parts entry.kind entry.name id (and-left (is_of entry.kind entry.name id) ((id.lowest == entry.lowest) && (id.instance == entry.instance)) meant) in
    record {
      kind_is = same.0 ∙ eqb-true entry.kind kind (and-left (entry.kind == kind) (bytes_eq entry.name name) listed);
      name_is = same.1 ∙ same-name entry.name name (and-right (entry.kind == kind) (bytes_eq entry.name name) listed);
    }

own-of : {P : Type 0} (r kind : ℕ) (name : List ℕ) (base : Slot P) → AllByRecursion (IsOf kind name) (own_extents r kind name base)
unfolding own_extents
own-of {P = P} r kind name base =
    let test : Attribute P → Bool = λ a. is_of kind name (id_of a.face) in
    let at : Attribute P → Extent P = extent_at r base.head in
    all-map (IsOf kind name) at (filter test base.attributes)
    (all-weaker (λ a. test a ≡ true) (λ a. IsOf kind name (at a))
    (λ a is. let parts = id-parts kind name (id_of a.face) is in record { kind_is = parts.0; name_is = parts.1 })
    (filter test base.attributes) (passes test base.attributes))

zip-both : {A B : Type 0} (R : A → B → Type 0) (P : A → Type 0) (Q : B → Type 0) → ((a : A) (b : B) → P a → R a b → Q b) → (xs : List A) (ys : List B) → AllByRecursion P xs → AllZip R xs ys → AllByRecursion Q ys
zip-both R P Q f [] [] ps are = tt
zip-both R P Q f [] (y ∷ ys) ps are = absurd are
zip-both R P Q f (x ∷ xs) [] ps are = absurd are
zip-both R P Q f (x ∷ xs) (y ∷ ys) ps are = (f x y ps.0 are.0, zip-both R P Q f xs ys ps.1 are.1)

pub of-type : {P : Type 0} (listings : Lists) (slots : List (Slot P)) (r kind : ℕ) (name : List ℕ) (found : List (Extent P)) → extents listings slots r kind name ≡ Ok found → AllByRecursion (IsOf kind name) found
of-type listings slots r kind name found is =
    by-list listings slots r kind name found (AllByRecursion (IsOf kind name)) is (λ base. own-of r kind name (slot_at slots r))
    (zip-both (IsNamedBy slots r) (λ entry. lists kind name entry ≡ true) (IsOf kind name) (entry-of slots r kind name) (filter (lists kind name) (listings r).entries) found (passes (lists kind name) (listings r).entries))

-- ---- of what is gathered

found-same : {P : Type 0} (r sequence : ℕ) (slots rest : List (Slot P)) (entries : List Listed) → SameRecords slots rest (map (λ (entry : Listed). target entry.reference) entries)
    → all_found r sequence slots entries ≡ all_found r sequence rest entries
unfolding all_found
found-same r sequence slots rest [] same = refl
found-same {P = P} r sequence slots rest (entry ∷ entries) same =
    ap (λ (s : Slot P). found_in r sequence entry s >>= (λ e. all_found r sequence slots entries >>= (λ es. Ok (e ∷ es)))) same.0
    ∙ ap (λ (all : Result (List (Extent P)) VolumeFault). found_in r sequence entry (slot_at rest (target entry.reference)) >>= (λ e. all >>= (λ es. Ok (e ∷ es)))) (found-same r sequence slots rest entries same.1)

in-same : {P : Type 0} (r kind : ℕ) (name : List ℕ) (listing : RecordListing) (base : Slot P) (slots rest : List (Slot P))
    → SameRecords slots rest (map (λ (entry : Listed). target entry.reference) (filter (lists kind name) listing.entries))
    → extents_in r kind name listing base slots ≡ extents_in r kind name listing base rest
unfolding extents_in listed_extents
in-same {P = P} r kind name listing base slots rest same =
    ap (λ (all : Result (List (Extent P)) VolumeFault). if listing.is_there then (must listing.is_good (bad_list r) >>= (λ _. all)) else Ok (own_extents r kind name base))
    (found-same r base.head.sequence slots rest (filter (lists kind name) listing.entries) same)

pub extents-same : {P : Type 0} (listings others : Lists) (slots rest : List (Slot P)) (r kind : ℕ) (name : List ℕ) → listings r ≡ others r
    → SameRecords slots rest (gathered_from r kind name (listings r)) → extents listings slots r kind name ≡ extents others rest r kind name
unfolding extents
extents-same {P = P} listings others slots rest r kind name list same =
    ap (of_slot r (slot_at slots r)) (in-same r kind name (listings r) (slot_at slots r) slots rest same.1)
    ∙ ap (λ (base : Slot P). of_slot r base (extents_in r kind name (listings r) base rest)) same.0
    ∙ ap (λ (listing : RecordListing). of_slot r (slot_at rest r) (extents_in r kind name listing (slot_at rest r) rest)) list

pub streams-same : {X : Type 0} (c : ℕ) (listings others : Lists) (slots rest : List (Slot (Located (Laid (Cells X))))) (r kind : ℕ) (name : List ℕ) → listings r ≡ others r
    → SameRecords slots rest (gathered_from r kind name (listings r)) → gather c listings slots r kind name ≡ gather c others rest r kind name
unfolding gather
streams-same c listings others slots rest r kind name list same = ap (λ found. found >>= (λ es. stream_of c r (map part_of es))) (extents-same listings others slots rest r kind name list same)
