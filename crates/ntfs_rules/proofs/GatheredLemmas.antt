-- What is gathered on a volume that breaks no rule, with a list or without one.
use Rattle.std.proofs.Common.{◌≡◌, ◌<◌, ◌+◌, ◌==◌, ◌&&◌, ◌||◌, ◌++◌, inl, inr, ℕ, zero, suc, Bool, true, false, cond, List, [], ◌∷◌, length, map, Option, Some, None, Result, Ok, Err, refl, sym, ap, subst, ◌∙◌, arith, if◌then◌else◌}
use Rattle.std.specs.Prelude.{Contains, filter, find, not}
use Rattle.std.specs.List.{AllByRecursion, AllZip, list_all, list_any}
use Rattle.std.specs.List.Sorted.{IsPermutation}
use Rattle.std.specs.Str.{bytes_eq}
use Rattle.std.proofs.lemmas.Bool.{cases_Bool, eq-eqb, eqb-true}
use Rattle.std.proofs.lemmas.Bool.Decides.{nat_tests}
use Rattle.std.proofs.lemmas.List.{append-nil}
use Rattle.std.proofs.lemmas.List.Elements.{Contains-append_left, Contains-append_right}
use Rattle.std.proofs.lemmas.List.Sorted.{IsPermutation-refl, length_permutation}
use Rattle.std.proofs.lemmas.Slice.Eq.{bytes_eq-Decides}
use Rattle.ntfs_attrlist.specs.Entry.{Listed}
use Rattle.ntfs_base.specs.Frames.{must, ◌>>=◌}
use Rattle.ntfs_base.specs.declared.refusal.Rule.TheVariants as rule
use Rattle.ntfs_record.proofs.SlotLemmas.{first_not-map}
use Rattle.ntfs_record.specs.FileRecord.{Attribute, Head, Laid}
use Rattle.ntfs_record.specs.Slots.{Slot, first_not, map_slot, map_slots, on_payload}
use Rattle.ntfs_rules.proofs.ClearLemmas.{c11-clear, c12-clear}
use Rattle.ntfs_rules.proofs.MembersLemmas.{AreListed, both, entries-one, extents-once, file-members, is_member_of, listed-parts, member-of, member_of, names_extent}
use Rattle.ntfs_rules.proofs.PairingLemmas.{NamesIn, all-at, all-kept, all-of, all-tested, all-unmap, has-kept, has-map, here, permuted, there, zip-both}
use Rattle.ntfs_rules.specs.Accepts.{fault_of}
use Rattle.ntfs_rules.specs.Files.{Member, are_listed, are_stream, are_stream_found, are_values, c11, c12, count_of, ids_of, is_in_stream, is_joined, is_listed, is_no_base, list_extents, member_at, members_at, members_from, names_member, without_list}
use Rattle.ntfs_rules.specs.Laws.{AreJoined, IsNoList, file_extents, file_extents_at, file_extents_from}
use Rattle.ntfs_rules.specs.Records.{first_bad, of_base}
use Rattle.ntfs_rules.specs.VolumeData.{Records, VolumeData, listings, numbers}
use Rattle.ntfs_runs.specs.Cells.{Cells}
use Rattle.ntfs_volume.proofs.AnswerLemmas.{and-left, and-right, bind-ok, must-parts}
use Rattle.ntfs_volume.proofs.ExtentsLemmas.{all-weaker, listed-only, of-listed, of-own}
use Rattle.ntfs_volume.specs.Gather.{Extent, Id, Lists, extent_at, extents, id_of, is_member, is_of, lists, means, own_extents}
use Rattle.ntfs_volume.specs.Laws.{IsBase, IsNamedBy, in_located}
use Rattle.ntfs_volume.specs.Listing.{RecordListing, is_list}
use Rattle.ntfs_base.specs.Bytes.{Cluster}
use Rattle.ntfs_volume.specs.Located.{Located, slot_at}
use Rattle.ntfs_volume.specs.References.{belongs, has_base, matches, target}
use Rattle.ntfs_volume.specs.StreamBytes.{have_room}
use Rattle.ntfs_volume.specs.Streams.{Gathered, Part, all_right, cells_in, gathered_at, join_from, part_of, runs_stream, stream_of, stream_of_runs, value_stream}
use Rattle.ntfs_volume.specs.declared.fault.VolumeFault.{VolumeFault}
use Rattle.ntfs_volume.specs.declared.fault.VolumeFault.TheVariants as volume

-- ---- with a list

found-step : {X : Type 0} (p : X → Bool) (y : X) (ys : List X) (x : X) (b : Bool) → p y ≡ b → (find p ys ≡ Some x → Contains ys x × (p x ≡ true)) → cond b (Some y) (find p ys) ≡ Some x
    → Contains (y ∷ ys) x × (p x ≡ true)
found-step p y ys x true is rest first = let same : y ≡ x = cc in ((0, omega arith, same), subst (λ z. p z ≡ true) same is)
found-step p y ys x false is rest later = let found = rest later in (there y x ys found.0, found.1)

-- what is found is an element, and passes
find-of : {X : Type 0} (p : X → Bool) (xs : List X) (x : X) → find p xs ≡ Some x → Contains xs x × (p x ≡ true)
find-of p [] x is = absurd cc
find-of p (y ∷ ys) x is = found-step p y ys x (p y) refl (find-of p ys x) is

has-from : {P : Type 0} (r sequence kind : ℕ) (name : List ℕ) (n i : ℕ) (slots : List (Slot P)) (e : Extent P) → (slot_at slots i).is_live ≡ true
    → Contains (file_extents_at r sequence kind name (n + i) (slot_at slots i)) e → Contains (file_extents_from r sequence kind name n slots) e
unfolding file_extents_from slot_at
has-from r sequence kind name n i [] e live has = absurd cc
has-from {P = P} r sequence kind name n zero (s ∷ slots) e live has =
    let same : n + 0 ≡ n = omega arith in
    Contains-append_left (file_extents_at r sequence kind name n s) (file_extents_from r sequence kind name (suc n) slots) e
    (subst (λ k. Contains (file_extents_at r sequence kind name k s) e) same has)
has-from {P = P} r sequence kind name n (suc i) (s ∷ slots) e live has =
    let same : n + suc i ≡ suc n + i = omega arith in
    Contains-append_right (file_extents_at r sequence kind name n s) (file_extents_from r sequence kind name (suc n) slots) e
    (has-from r sequence kind name (suc n) i slots e live (subst (λ k. Contains (file_extents_at r sequence kind name k (slot_at slots i)) e) same has))

has-if : {A : Type 0} (b : Bool) (xs : List A) (x : A) → b ≡ true → Contains xs x → Contains (if b then xs else []) x
has-if true xs x is has = has
has-if false xs x is has = absurd cc

-- an entry names its extent, as a member of the file
names-own : {P : Type 0} (slots : List (Slot P)) (r : ℕ) (entry : Listed) (e : Extent P) → IsNamedBy slots r entry e → names_extent entry e ≡ true
unfolding names_member is_member
names-own {P = P} slots r entry e is =
    let meant = (find-of (λ (a : Attribute P). means entry (id_of a.face)) (slot_at slots e.number).attributes e.attribute is.first).1 in
    let matched = and-left (matches entry.reference (target entry.reference) e.head.sequence) (belongs (target entry.reference) e.head.base r (slot_at slots r).head.sequence) is.part in
    both (means entry (id_of e.attribute.face)) (matches entry.reference e.number e.head.sequence) meant (ap (λ n. matches entry.reference n e.head.sequence) is.number ∙ matched)

-- the record of that extent is the base record, or has it as its base
is-part : {P : Type 0} (slots : List (Slot P)) (r : ℕ) (entry : Listed) (e : Extent P) → IsNamedBy slots r entry e
    → ((e.number == r) || ((slot_at slots e.number).is_live && has_base (slot_at slots e.number).head.base r (slot_at slots r).head.sequence)) ≡ true
unfolding is_member
is-part slots r entry e is =
    let sequence = (slot_at slots r).head.sequence in
    let part = and-right (matches entry.reference (target entry.reference) e.head.sequence) (belongs (target entry.reference) e.head.base r sequence) is.part in
    ap (λ live. (e.number == r) || (live && has_base (slot_at slots e.number).head.base r sequence)) is.live
    ∙ ap (λ (h : Head). (e.number == r) || has_base h.base r sequence) (sym is.head)
    ∙ ap (λ n. (n == r) || has_base e.head.base r sequence) is.number
    ∙ part

named-in : {P : Type 0} (slots : List (Slot P)) (r kind : ℕ) (name : List ℕ) (entry : Listed) (e : Extent P) → lists kind name entry ≡ true → IsNamedBy slots r entry e
    → NamesIn names_extent (file_extents r kind name slots) entry e
unfolding file_extents_at own_extents
named-in {P = P} slots r kind name entry e of is =
    let s = slot_at slots e.number in
    let sequence = (slot_at slots r).head.sequence in
    let test : Attribute P → Bool = λ a. is_of kind name (id_of a.face) in
    let names = names-own slots r entry e is in
    let attribute = (find-of (λ (a : Attribute P). means entry (id_of a.face)) s.attributes e.attribute is.first).0 in
    let own = has-map (extent_at e.number s.head) (filter test s.attributes) e.attribute (has-kept test s.attributes e.attribute attribute (member-of kind name (member_of e) entry of names)) in
    let same : extent_at e.number s.head e.attribute ≡ e = ap (λ (h : Head). extent_at e.number h e.attribute) (sym is.head) in
    let here : e.number ≡ 0 + e.number = omega arith in (
      names,
      has-from r sequence kind name 0 e.number slots e is.live
          (subst (λ n. Contains (file_extents_at r sequence kind name n s) e) here
          (has-if ((e.number == r) || (s.is_live && has_base s.head.base r sequence)) (own_extents e.number kind name s) e (is-part slots r entry e is)
          (subst (λ (x : Extent P). Contains (own_extents e.number kind name s) x) same own))),
    )

all-passed : {A : Type 0} (test : A → Bool) (xs : List A) → AllByRecursion (λ x. test x ≡ true) (filter test xs)
all-passed {A = A} test xs =
    all-weaker (λ (x : A). Unit {0} × (test x ≡ true)) (λ x. test x ≡ true) (λ x is. is.1) (filter test xs) (all-kept (λ (x : A). Unit {0}) test xs (all-of (λ (x : A). Unit {0}) xs (λ x has. tt)))

-- the extents that a list names are those that the base references tell, in some order
listed-permuted : {P : Type 0} (slots : List (Slot P)) (r kind : ℕ) (name : List ℕ) (entries : List Listed) (found : List (Extent P)) → IsNoList slots r kind name
    → AreListed entries (members_from r (slot_at slots r).head.sequence 0 slots) → AllZip (IsNamedBy slots r) (filter (lists kind name) entries) found → IsPermutation found (file_extents r kind name slots)
listed-permuted slots r kind name entries found none are named =
    let es = file_extents r kind name slots in
    let members = members_from r (slot_at slots r).head.sequence 0 slots in
    let same = file-members kind name r slots none in
    permuted names_extent (filter (lists kind name) entries) es found
    (zip-both (λ (entry : Listed). lists kind name entry ≡ true) (IsNamedBy slots r) (NamesIn names_extent es) (λ entry e. named-in slots r kind name entry e) (filter (lists kind name) entries) found (all-passed (lists kind name) entries) named)
    (extents-once kind name entries members es same are)
    (entries-one kind name entries members es same are)

-- ---- without one

or-parts : (a b : Bool) → (a || b) ≡ false → (a ≡ false) × (b ≡ false)
or-parts true b is = absurd cc
or-parts false b is = (refl, is)

other-number : (n r : ℕ) → (n ≡ r → ⊥) → (n == r) ≡ false
other-number n r other = grind (arith, nat_tests)

at-none : {P : Type 0} (own part : Bool) (xs : List (Extent P)) → own ≡ false → part ≡ false → ◌≡◌ {A = List (Extent P)} (if own || part then xs else []) []
at-none own part xs none without = rw (none, without) refl

at-own : {P : Type 0} (own part : Bool) (xs : List (Extent P)) → own ≡ true → ◌≡◌ {A = List (Extent P)} (if own || part then xs else []) xs
at-own own part xs is = rw is refl

-- a record has r as its base
abbrev has_as_base : {P : Type 0} → ℕ → ℕ → Slot P → Bool
has_as_base r sequence s = s.is_live && has_base s.head.base r sequence

own-after : {P : Type 0} (r sequence kind : ℕ) (name : List ℕ) (n : ℕ) (slots : List (Slot P)) → r < n → list_any (has_as_base r sequence) slots ≡ false
    → file_extents_from r sequence kind name n slots ≡ []
unfolding file_extents_from file_extents_at
own-after r sequence kind name n [] past none = refl
own-after {P = P} r sequence kind name n (s ∷ slots) past none =
    let parts = or-parts (has_as_base r sequence s) (list_any (has_as_base r sequence) slots) none in
    ap (λ (front : List (Extent P)). front ++ file_extents_from r sequence kind name (suc n) slots)
    (at-none (n == r) (has_as_base r sequence s) (own_extents n kind name s) (other-number n r (λ same. omega (arith, past, same))) parts.0)
    ∙ own-after r sequence kind name (suc n) slots (omega (arith, past)) parts.1

own-from : {P : Type 0} (r sequence kind : ℕ) (name : List ℕ) (n i : ℕ) (slots : List (Slot P)) → n + i ≡ r → list_any (has_as_base r sequence) slots ≡ false
    → file_extents_from r sequence kind name n slots ≡ own_extents r kind name (slot_at slots i)
unfolding file_extents_from file_extents_at slot_at own_extents
own-from r sequence kind name n i [] same none = refl
own-from {P = P} r sequence kind name n zero (s ∷ slots) same none =
    let parts = or-parts (has_as_base r sequence s) (list_any (has_as_base r sequence) slots) none in
    let here : n ≡ r = omega (arith, same) in
    ap (λ (front : List (Extent P)). front ++ file_extents_from r sequence kind name (suc n) slots) (at-own (n == r) (has_as_base r sequence s) (own_extents n kind name s) (eq-eqb n r here))
    ∙ ap (λ (back : List (Extent P)). own_extents n kind name s ++ back) (own-after r sequence kind name (suc n) slots (omega (arith, here)) parts.1)
    ∙ append-nil (own_extents n kind name s)
    ∙ ap (λ k. own_extents k kind name s) here
own-from {P = P} r sequence kind name n (suc i) (s ∷ slots) same none =
    let parts = or-parts (has_as_base r sequence s) (list_any (has_as_base r sequence) slots) none in
    ap (λ (front : List (Extent P)). front ++ file_extents_from r sequence kind name (suc n) slots)
    (at-none (n == r) (has_as_base r sequence s) (own_extents n kind name s) (other-number n r (λ equal. omega (arith, equal, same))) parts.0)
    ∙ own-from r sequence kind name (suc n) i slots (omega (arith, same)) parts.1

-- where no record has it as base, the extents are its own
own-alone : {P : Type 0} (slots : List (Slot P)) (r kind : ℕ) (name : List ℕ) → is_no_base slots r (slot_at slots r).head.sequence ≡ true → file_extents r kind name slots ≡ own_extents r kind name (slot_at slots r)
own-alone slots r kind name is =
    own-from r (slot_at slots r).head.sequence kind name 0 r slots (omega arith) (not-none (list_any (has_as_base r (slot_at slots r).head.sequence) slots) is)
  where
    not-none : (b : Bool) → not b ≡ true → b ≡ false
    not-none true nothing = absurd cc
    not-none false nothing = refl

-- ---- C11 and C12 of one record

passed-step : (b : Bool) (rest : Option ℕ) (n : ℕ) → (if b then rest else Some n) ≡ None → (b ≡ true) × (rest ≡ None)
passed-step true rest n is = (refl, is)
passed-step false rest n is = absurd cc

-- where no record fails a test, a record in use passes it
passed-at : {P : Type 0} (test : ℕ → Slot P → Bool) (n i : ℕ) (slots : List (Slot P)) → first_not test n slots ≡ None → (slot_at slots i).is_live ≡ true → test (n + i) (slot_at slots i) ≡ true
unfolding slot_at
passed-at test n i [] is live = absurd cc
passed-at test n zero (s ∷ slots) is live =
    let here : n + 0 ≡ n = omega arith in
    ap (λ k. test k s) here ∙ (passed-step (test n s) (first_not test (suc n) slots) n is).0
passed-at test n (suc i) (s ∷ slots) is live =
    let later : n + suc i ≡ suc n + i = omega arith in
    ap (λ k. test k (slot_at slots i)) later ∙ passed-at test (suc n) i slots (passed-step (test n s) (first_not test (suc n) slots) n is).1 live

base-tested : (live base holds : Bool) → live ≡ true → base ≡ true → (not live || (not base || holds)) ≡ true → holds ≡ true
base-tested true true holds is too tested = tested
base-tested true false holds is too tested = absurd cc
base-tested false base holds is too tested = absurd cc

-- a base record passes a test of base records
base-passed : {P : Type 0} (test : ℕ → Slot P → Bool) (slots : List (Slot P)) (r : ℕ) → first_bad (λ n s. of_base s (test n s)) slots ≡ None → IsBase slots r → test r (slot_at slots r) ≡ true
base-passed test slots r is base =
    let s = slot_at slots r in
    let here : 0 + r ≡ r = omega arith in
    base-tested s.is_live (s.head.base == 0) (test r s) base.live (eq-eqb s.head.base 0 base.base)
    (sym (ap (λ n. not s.is_live || (not (s.head.base == 0) || test n s)) here)
    ∙ passed-at (λ n (t : Slot _). not t.is_live || of_base t (test n t)) 0 r slots is base.live)

base-listed : {P : Type 0} (listings : Lists) (slots : List (Slot P)) (r : ℕ) → c11 listings slots ≡ None → IsBase slots r → is_listed (listings r) slots r (slot_at slots r).head.sequence ≡ true
unfolding c11
base-listed {P = P} listings slots r is base = base-passed (λ n (s : Slot P). is_listed (listings n) slots n s.head.sequence) slots r is base

base-streams : (c : ℕ) (listings : Lists) (slots : Records ℕ) (r : ℕ) → c12 c listings slots ≡ None → IsBase slots r
    → list_all (is_in_stream c listings slots r (slot_at slots r)) (ids_of slots r (slot_at slots r)) ≡ true
unfolding c12
base-streams c listings slots r is base =
    base-passed (λ n (s : Slot (Located (Laid (Cells ℕ)))). list_all (is_in_stream c listings slots n s) (ids_of slots n s)) slots r is base

-- ---- C11 looks at no payload

id-mapped : {P Q : Type 0} (g : P → Q) (m n : ℕ) (h : Head) (s : Slot P) (t : Slot Q) (them : List (Attribute P)) → t.head ≡ s.head → map (member_at n t) (map (on_payload g m h) them) ≡ map (member_at n s) them
id-mapped g m n h s t [] head = refl
id-mapped g m n h s t (a ∷ them) head =
    ap (λ (k : Head). record { number = n; sequence = k.sequence; id = id_of a.face } ∷ map (member_at n t) (map (on_payload g m h) them)) head
    ∙ ap (λ (rest : List Member). member_at n s a ∷ rest) (id-mapped g m n h s t them head)

list-step : {P Q : Type 0} (b : Bool) (g : P → Q) (m n : ℕ) (h : Head) (s : Slot P) (t : Slot Q) (a : Attribute P) (them : List (Attribute P)) → t.head ≡ s.head
    → map (member_at n t) (without_list (map (on_payload g m h) them)) ≡ map (member_at n s) (without_list them)
    → map (member_at n t) (if b then map (on_payload g m h) them else on_payload g m h a ∷ without_list (map (on_payload g m h) them)) ≡ map (member_at n s) (if b then them else a ∷ without_list them)
list-step true g m n h s t a them head same = id-mapped g m n h s t them head
list-step false g m n h s t a them head same =
    ap (λ (k : Head). record { number = n; sequence = k.sequence; id = id_of a.face } ∷ map (member_at n t) (without_list (map (on_payload g m h) them))) head
    ∙ ap (λ (rest : List Member). member_at n s a ∷ rest) same

list-mapped : {P Q : Type 0} (g : P → Q) (m n : ℕ) (h : Head) (s : Slot P) (t : Slot Q) (them : List (Attribute P)) → t.head ≡ s.head
    → map (member_at n t) (without_list (map (on_payload g m h) them)) ≡ map (member_at n s) (without_list them)
list-mapped g m n h s t [] head = refl
list-mapped g m n h s t (a ∷ them) head = list-step (is_list a.face) g m n h s t a them head (list-mapped g m n h s t them head)

members-mapped : {P Q : Type 0} (g : P → Q) (r sequence n m : ℕ) (slots : List (Slot P)) → members_from r sequence n (map_slots (on_payload g) m slots) ≡ members_from r sequence n slots
unfolding members_from members_at
members-mapped g r sequence n m [] = refl
members-mapped g r sequence n m (s ∷ slots) =
    let t = map_slot (on_payload g m) s in
    let part = s.is_live && has_base s.head.base r sequence in
    let rest = members_from r sequence (suc n) (map_slots (on_payload g) (suc m) slots) in
    ap (λ (own : List Member). (if n == r then own else (if part then map (member_at n t) t.attributes else [])) ++ rest) (list-mapped g m n s.head s t s.attributes refl)
    ∙ ap (λ (all : List Member). (if n == r then map (member_at n s) (without_list s.attributes) else (if part then all else [])) ++ rest) (id-mapped g m n s.head s t s.attributes refl)
    ∙ ap (λ (more : List Member). (if n == r then map (member_at n s) (without_list s.attributes) else (if part then map (member_at n s) s.attributes else [])) ++ more)
    (members-mapped g r sequence (suc n) (suc m) slots)

bases-mapped : {P Q : Type 0} (g : P → Q) (r sequence m : ℕ) (slots : List (Slot P)) → list_any (has_as_base r sequence) (map_slots (on_payload g) m slots) ≡ list_any (has_as_base r sequence) slots
bases-mapped g r sequence m [] = refl
bases-mapped g r sequence m (s ∷ slots) = ap (λ b. has_as_base r sequence s || b) (bases-mapped g r sequence (suc m) slots)

listed-mapped : {P Q : Type 0} (g : P → Q) (listing : RecordListing) (r sequence : ℕ) (slots : List (Slot P)) → is_listed listing (map_slots (on_payload g) 0 slots) r sequence ≡ is_listed listing slots r sequence
unfolding is_listed
listed-mapped g listing r sequence slots =
    ap (λ (members : List Member). if listing.is_there then listing.is_good && are_listed listing.entries members else not (list_any (has_as_base r sequence) (map_slots (on_payload g) 0 slots)))
    (members-mapped g r sequence 0 0 slots)
    ∙ ap (λ b. if listing.is_there then listing.is_good && are_listed listing.entries (members_from r sequence 0 slots) else not b) (bases-mapped g r sequence 0 slots)

c11-mapped : {P Q : Type 0} (g : P → Q) (listings : Lists) (slots : List (Slot P)) → c11 listings (map_slots (on_payload g) 0 slots) ≡ c11 listings slots
unfolding c11
c11-mapped {P = P} {Q = Q} g listings slots =
    first_not-map (on_payload g) (λ r (s : Slot P). not s.is_live || of_base s (is_listed (listings r) slots r s.head.sequence))
    (λ r (s : Slot Q). not s.is_live || of_base s (is_listed (listings r) (map_slots (on_payload g) 0 slots) r s.head.sequence)) 0 slots
    (λ r s. ap (λ b. not s.is_live || (not (s.head.base == 0) || b)) (listed-mapped g (listings r) r s.head.sequence slots))

c11-numbers : (v : VolumeData) → fault_of v ≡ None → c11 (listings v) (numbers v) ≡ None
c11-numbers v is = c11-mapped (in_located (λ place. place) (λ (k : Cluster). k.number)) (listings v) v.slots ∙ c11-clear v is

-- ---- C12 of one type and name

are-found : {X : Type 0} (c kind : ℕ) (lead : List (Extent (Located (Laid (Cells X))))) (r : Result (List (Extent (Located (Laid (Cells X))))) VolumeFault) → lead ≡ [] → are_stream_found c kind lead r ≡ true
    → (found : List (Extent (Located (Laid (Cells X))))) × (r ≡ Ok found) × (are_stream c kind (map part_of found) ≡ true)
are-found {X = X} c kind lead (Ok found) none is =
    (found, refl, subst (λ (front : List (Extent (Located (Laid (Cells X))))). are_stream c kind (map part_of (front ++ found)) ≡ true) none is)
are-found c kind lead (Err fault) none is = absurd cc

-- the type and name of an attribute of the file are those of a stream
id-streams : (c : ℕ) (listings : Lists) (slots : Records ℕ) (r kind : ℕ) (name : List ℕ) (id : Id) → list_all (is_in_stream c listings slots r (slot_at slots r)) (ids_of slots r (slot_at slots r)) ≡ true
    → Contains (ids_of slots r (slot_at slots r)) id → id.kind ≡ kind → id.name ≡ name → are_stream_found c kind (list_extents r kind name (slot_at slots r)) (extents listings slots r kind name) ≡ true
unfolding is_in_stream
id-streams c listings slots r kind name id all has kind_is name_is =
    let s = slot_at slots r in
    let is = all-at (λ (x : Id). is_in_stream c listings slots r s x ≡ true) (ids_of slots r s) id (all-tested (is_in_stream c listings slots r s) (ids_of slots r s) all) has in
    subst (λ k. are_stream_found c k (list_extents r k name s) (extents listings slots r k name) ≡ true) kind_is
    (subst (λ n. are_stream_found c id.kind (list_extents r id.kind n s) (extents listings slots r id.kind n) ≡ true) name_is is)

of-parts : (kind : ℕ) (name : List ℕ) (id : Id) → is_of kind name id ≡ true → (id.kind ≡ kind) × (id.name ≡ name)
unfolding is_of
of-parts kind name id is =
    (eqb-true id.kind kind (and-left (id.kind == kind) (bytes_eq id.name name) is), (bytes_eq-Decides id.name name).0 (and-right (id.kind == kind) (bytes_eq id.name name) is))

-- where the base references tell an extent, they are gathered and are a stream
stream-found : (v : VolumeData) (r kind : ℕ) (name : List ℕ) (e : Extent (Located (Laid (Cells ℕ)))) → fault_of v ≡ None → IsBase (numbers v) r → IsNoList (numbers v) r kind name
    → Contains (file_extents r kind name (numbers v)) e
    → (found : List (Extent (Located (Laid (Cells ℕ))))) × (extents (listings v) (numbers v) r kind name ≡ Ok found) × (are_stream v.geometry.cluster kind (map part_of found) ≡ true)
unfolding ids_of
stream-found v r kind name e clear base none has =
    let slots = numbers v in
    let s = slot_at slots r in
    let members = members_from r s.head.sequence 0 slots in
    let m = member_of e in
    let kept = subst (λ (ms : List Member). Contains ms m) (file-members kind name r slots none) (has-map member_of (file_extents r kind name slots) e has) in
    let is = all-at (λ (x : Member). Contains members x × (is_member_of kind name x ≡ true)) (filter (is_member_of kind name) members) m
    (all-kept (Contains members) (is_member_of kind name) members (all-of (Contains members) members (λ x among. among))) kept in
    let id = of-parts kind name m.id is.1 in
    let own = map (λ (a : Attribute (Located (Laid (Cells ℕ)))). id_of a.face) s.attributes in
    let id_among = Contains-append_right own (map (λ (x : Member). x.id) members) m.id (has-map (λ (x : Member). x.id) members m is.0) in
    are-found v.geometry.cluster kind (list_extents r kind name s) (extents (listings v) slots r kind name) none
    (id-streams v.geometry.cluster (listings v) slots r kind name m.id (base-streams v.geometry.cluster (listings v) slots r (c12-clear v clear) base) id_among id.0 id.1)

-- ---- what is gathered

listed-by : (listing : RecordListing) (slots : Records ℕ) (r sequence : ℕ) (b : Bool) → listing.is_there ≡ b → is_listed listing slots r sequence ≡ true
    → (if b then listing.is_good && are_listed listing.entries (members_from r sequence 0 slots) else is_no_base slots r sequence) ≡ true
unfolding is_listed
listed-by listing slots r sequence b there is =
    sym (ap (λ c. if c then listing.is_good && are_listed listing.entries (members_from r sequence 0 slots) else is_no_base slots r sequence) there) ∙ is

same-ok : {A : Type 0} (a b : A) (r : Result A VolumeFault) → r ≡ Ok a → r ≡ Ok b → a ≡ b
same-ok {A = A} a b r one two = let same : ◌≡◌ {A = Result A VolumeFault} (Ok a) (Ok b) = sym one ∙ two in cc

base-rule : (v : VolumeData) (r : ℕ) → fault_of v ≡ None → IsBase (numbers v) r → is_listed (listings v r) (numbers v) r (slot_at (numbers v) r).head.sequence ≡ true
base-rule v r clear base = base-listed (listings v) (numbers v) r (c11-numbers v clear) base

-- with a list: its entries are one to one with the attributes
list-listed : (v : VolumeData) (r : ℕ) → fault_of v ≡ None → IsBase (numbers v) r → (listings v r).is_there ≡ true
    → ((listings v r).is_good ≡ true) × AreListed (listings v r).entries (members_from r (slot_at (numbers v) r).head.sequence 0 (numbers v))
list-listed v r clear base there =
    let listing = listings v r in
    let sequence = (slot_at (numbers v) r).head.sequence in
    let members = members_from r sequence 0 (numbers v) in
    let is = listed-by listing (numbers v) r sequence true there (base-rule v r clear base) in
    (and-left listing.is_good (are_listed listing.entries members) is, listed-parts listing.entries members (and-right listing.is_good (are_listed listing.entries members) is))

-- without one: no record has it as base
own-listed : (v : VolumeData) (r kind : ℕ) (name : List ℕ) → fault_of v ≡ None → IsBase (numbers v) r → (listings v r).is_there ≡ false
    → file_extents r kind name (numbers v) ≡ own_extents r kind name (slot_at (numbers v) r)
own-listed v r kind name clear base without =
    own-alone (numbers v) r kind name (listed-by (listings v r) (numbers v) r (slot_at (numbers v) r).head.sequence false without (base-rule v r clear base))

own-gathered : (v : VolumeData) (r kind : ℕ) (name : List ℕ) → IsBase (numbers v) r → (listings v r).is_there ≡ false
    → extents (listings v) (numbers v) r kind name ≡ Ok (own_extents r kind name (slot_at (numbers v) r))
unfolding own_extents
own-gathered v r kind name base without = of-own (listings v) (numbers v) r kind name base without

-- those that are gathered are those that the base references tell
gathered-all : (v : VolumeData) (r kind : ℕ) (name : List ℕ) (found : List (Extent (Located (Laid (Cells ℕ))))) → fault_of v ≡ None → IsBase (numbers v) r → IsNoList (numbers v) r kind name
    → extents (listings v) (numbers v) r kind name ≡ Ok found → IsPermutation found (file_extents r kind name (numbers v))
gathered-all v r kind name found clear base none is = elim (cases_Bool (listings v r).is_there) [
  | inl listed ↦
      listed-permuted (numbers v) r kind name (listings v r).entries found none (list-listed v r clear base listed).1 (of-listed (listings v) (numbers v) r kind name found listed is).1
  | inr without ↦
      let own = own_extents r kind name (slot_at (numbers v) r) in
      let same = same-ok found own (extents (listings v) (numbers v) r kind name) is (own-gathered v r kind name base without) in
      subst (λ (es : List (Extent (Located (Laid (Cells ℕ))))). IsPermutation found es) (same ∙ sym (own-listed v r kind name clear base without)) (IsPermutation-refl found)
]

-- where the base references tell none, the list names none
none-listed : (v : VolumeData) (r kind : ℕ) (name : List ℕ) (entries : List Listed) → AllByRecursion (λ (entry : Listed). count_of (names_extent entry) (file_extents r kind name (numbers v)) ≡ 1) entries
    → file_extents r kind name (numbers v) ≡ [] → AllZip (IsNamedBy (numbers v) r) entries []
none-listed v r kind name [] one empty = tt
none-listed v r kind name (entry ∷ entries) one empty = absurd (omega (arith, one.0, ap (λ (es : List (Extent (Located (Laid (Cells ℕ))))). count_of (names_extent entry) es) empty))

none-found : (v : VolumeData) (r kind : ℕ) (name : List ℕ) → fault_of v ≡ None → IsBase (numbers v) r → IsNoList (numbers v) r kind name → file_extents r kind name (numbers v) ≡ []
    → (found : List (Extent (Located (Laid (Cells ℕ))))) × (extents (listings v) (numbers v) r kind name ≡ Ok found)
none-found v r kind name clear base none empty = elim (cases_Bool (listings v r).is_there) [
  | inl listed ↦
      let are = list-listed v r clear base listed in
      let members = members_from r (slot_at (numbers v) r).head.sequence 0 (numbers v) in
      let one = entries-one kind name (listings v r).entries members (file_extents r kind name (numbers v)) (file-members kind name r (numbers v) none) are.1 in
      ([], listed-only (listings v) (numbers v) r kind name [] base listed are.0 (none-listed v r kind name (filter (lists kind name) (listings v r).entries) one empty))
  | inr without ↦ (own_extents r kind name (slot_at (numbers v) r), own-gathered v r kind name base without)
]

some-found : (v : VolumeData) (r kind : ℕ) (name : List ℕ) (es : List (Extent (Located (Laid (Cells ℕ))))) → fault_of v ≡ None → IsBase (numbers v) r → IsNoList (numbers v) r kind name → file_extents r kind name (numbers v) ≡ es
    → (found : List (Extent (Located (Laid (Cells ℕ))))) × (extents (listings v) (numbers v) r kind name ≡ Ok found)
some-found v r kind name [] clear base none is = none-found v r kind name clear base none is
some-found v r kind name (e ∷ es) clear base none is =
    let has = subst (λ (them : List (Extent (Located (Laid (Cells ℕ))))). Contains them e) (sym is) (here e es) in
    let found = stream-found v r kind name e clear base none has in
    (found.0, found.1)

pub found-all : (v : VolumeData) (r kind : ℕ) (name : List ℕ) → fault_of v ≡ None → IsBase (numbers v) r → IsNoList (numbers v) r kind name
    → (found : List (Extent (Located (Laid (Cells ℕ))))) × (extents (listings v) (numbers v) r kind name ≡ Ok found) × IsPermutation found (file_extents r kind name (numbers v))
found-all v r kind name clear base none =
    let found = some-found v r kind name (file_extents r kind name (numbers v)) clear base none refl in
    (found.0, found.1, gathered-all v r kind name found.0 clear base none found.1)

-- ---- in the order of their VCNs

joined-parts : {X : Type 0} (c r : ℕ) (first : Part X) (ps : List (Part X)) (gathered : Gathered X) → stream_of_runs c r first ps ≡ Ok gathered → join_from 0 ps ≡ true
unfolding stream_of_runs
joined-parts {X = X} c r first ps gathered is =
    let test = join_from 0 ps && have_room c (length (cells_in ps)) first.size first.valid in
    let last : Result (Gathered X) VolumeFault = Ok (gathered_at first (length ps) (runs_stream first.flags first.size first.valid (cells_in ps))) in
    let all = bind-ok (all_right ps) (λ _. must test (volume.Damaged rule.C12 r) >>= (λ _. last)) gathered is in
    and-left (join_from 0 ps) (have_room c (length (cells_in ps)) first.size first.valid) (must-parts test (volume.Damaged rule.C12 r) last gathered all.2).0

runs-joined : {X : Type 0} (c r : ℕ) (first : Part X) (ps : List (Part X)) (result : Result (Gathered X) VolumeFault) → first.is_resident ≡ false → stream_of c r (first ∷ ps) ≡ result → is_joined result ≡ true → join_from 0 (first ∷ ps) ≡ true
unfolding stream_of
runs-joined c r first ps (Ok gathered) runs is joins =
    joined-parts c r first (first ∷ ps) gathered
    (sym (ap (λ b. if b then Ok (gathered_at first (length (first ∷ ps)) (value_stream first.flags first.value)) else stream_of_runs c r first (first ∷ ps)) runs) ∙ is)
runs-joined c r first ps (Err fault) runs is joins = absurd cc

abbrev Extents : Type 0
Extents = List (Extent (Located (Laid (Cells ℕ))))

value-joined : (kind : ℕ) (e : Extent (Located (Laid (Cells ℕ)))) (es : Extents) → e.attribute.face.is_resident ≡ true → are_values kind (map part_of es) ≡ true → AreJoined kind (e ∷ es)
unfolding are_values
value-joined kind e es resident is = elim (cases_Bool (kind == 0x30)) [
  | inl name ↦
      let all = all-tested (λ (p : Part ℕ). p.is_resident) (map part_of es)
      (sym (ap (λ b. if b then list_all (λ (p : Part ℕ). p.is_resident) (map part_of es) else length (map part_of es) == 0) name) ∙ is) in
      inl (inl (eqb-true kind 0x30 name), (resident, all-unmap (λ (p : Part ℕ). p.is_resident ≡ true) part_of es all))
  | inr other ↦
      alone e es resident (eqb-true (length (map part_of es)) 0
      (sym (ap (λ b. if b then list_all (λ (p : Part ℕ). p.is_resident) (map part_of es) else length (map part_of es) == 0) other) ∙ is))
]
  where
    alone : (e : Extent (Located (Laid (Cells ℕ)))) (es : Extents) → e.attribute.face.is_resident ≡ true → length (map part_of es) ≡ 0 → AreJoined kind (e ∷ es)
    alone e [] resident none = inl (inr refl, (resident, tt))
    alone e (x ∷ es) resident none = absurd (omega (arith, none))

extents-joined : (c kind : ℕ) (es : Extents) → are_stream c kind (map part_of es) ≡ true → AreJoined kind es
unfolding are_stream join_from
extents-joined c kind [] is = inr refl
extents-joined c kind (e ∷ es) is = elim (cases_Bool e.attribute.face.is_resident) [
  | inl resident ↦
      value-joined kind e es resident
      (sym (ap (λ b. if b then are_values kind (map part_of es) else is_joined (stream_of c 0 (map part_of (e ∷ es)))) resident) ∙ is)
  | inr runs ↦
      inr (runs-joined c 0 (part_of e) (map part_of es) (stream_of c 0 (map part_of (e ∷ es))) runs refl
      (sym (ap (λ b. if b then are_values kind (map part_of es) else is_joined (stream_of c 0 (map part_of (e ∷ es)))) runs) ∙ is))
]

-- what is gathered is a stream, where the base references tell any
told-joined : (v : VolumeData) (r kind : ℕ) (name : List ℕ) (found told : Extents) → fault_of v ≡ None → IsBase (numbers v) r → IsNoList (numbers v) r kind name
    → extents (listings v) (numbers v) r kind name ≡ Ok found → file_extents r kind name (numbers v) ≡ told → length told ≡ length found → AreJoined kind found
unfolding join_from
told-joined v r kind name [] told clear base none is same long = inr refl
told-joined v r kind name (e ∷ found) [] clear base none is same long = absurd (omega (arith, long))
told-joined v r kind name (e ∷ found) (x ∷ told) clear base none is same long =
    let has = subst (λ (them : Extents). Contains them x) (sym same) (here x told) in
    let stream = stream-found v r kind name x clear base none has in
    let one = same-ok stream.0 (e ∷ found) (extents (listings v) (numbers v) r kind name) stream.1 is in
    subst (λ (es : Extents). AreJoined kind es) one (extents-joined v.geometry.cluster kind stream.0 stream.2)

pub found-joined : (v : VolumeData) (r kind : ℕ) (name : List ℕ) (found : Extents) → fault_of v ≡ None → IsBase (numbers v) r → IsNoList (numbers v) r kind name
    → extents (listings v) (numbers v) r kind name ≡ Ok found → AreJoined kind found
found-joined v r kind name found clear base none is =
    let es = file_extents r kind name (numbers v) in
    told-joined v r kind name found es clear base none is refl (length_permutation found es (gathered-all v r kind name found clear base none is))
