-- What an attribute list tells of a file, and what the base references tell, on a volume that breaks no rule.
use Rattle.std.proofs.Common.{◌≡◌, ◌+◌, ◌==◌, ◌&&◌, ◌||◌, ◌++◌, ℕ, suc, Bool, true, false, List, [], ◌∷◌, map, Some, refl, sym, ap, subst, ◌∙◌, arith, if◌then◌else◌}
use Rattle.std.specs.Prelude.{filter, find}
use Rattle.std.specs.List.{AllByRecursion, list_all, list_any}
use Rattle.std.specs.Str.{bytes_eq}
use Rattle.std.proofs.lemmas.Bool.{eq-eqb, eqb-true}
use Rattle.std.proofs.lemmas.List.{map-append}
use Rattle.std.proofs.lemmas.List.Elements.{filter-append}
use Rattle.std.proofs.lemmas.Slice.Eq.{bytes_eq-Decides}
use Rattle.ntfs_attrlist.specs.Entry.{Listed}
use Rattle.ntfs_record.specs.FileRecord.{Attribute, Head}
use Rattle.ntfs_record.specs.Slots.{Slot}
use Rattle.ntfs_rules.proofs.PairingLemmas.{all-at, all-kept, all-of, all-tested, all-unmap, any-at, count-kept, count-less, count-map, count-some}
use Rattle.ntfs_rules.specs.Files.{Member, are_listed, count_of, is_same_member, lead_of, list_extents, member_at, members_at, members_from, names_member, without_list}
use Rattle.ntfs_rules.specs.Laws.{IsNoList, file_extents, file_extents_at, file_extents_from}
use Rattle.ntfs_volume.proofs.AnswerLemmas.{and-left, and-right}
use Rattle.ntfs_volume.specs.Gather.{Extent, extent_at, id_of, is_of, lists, means, own_extents}
use Rattle.ntfs_volume.specs.Listing.{is_list}
use Rattle.ntfs_volume.specs.Located.{slot_at}
use Rattle.ntfs_volume.specs.References.{has_base, matches, target}

-- ---- extents as attributes of a file

abbrev pub member_of : {P : Type 0} → Extent P → Member
member_of e = record { number = e.number; sequence = e.head.sequence; id = id_of e.attribute.face }

-- an attribute of the file is of this type and name
abbrev pub is_member_of : ℕ → List ℕ → Member → Bool
is_member_of kind name m = is_of kind name m.id

kept-same : {P : Type 0} (b : Bool) (n : ℕ) (h : Head) (s : Slot P) (a : Attribute P) (them : List (Attribute P)) (rest : List Member) → h ≡ s.head → map member_of (map (extent_at n h) them) ≡ rest
    → map member_of (map (extent_at n h) (if b then a ∷ them else them)) ≡ (if b then member_at n s a ∷ rest else rest)
kept-same true n h s a them rest head same =
    ap (λ (k : Head). record { number = n; sequence = k.sequence; id = id_of a.face } ∷ map member_of (map (extent_at n h) them)) head
    ∙ ap (λ (ms : List Member). member_at n s a ∷ ms) same
kept-same false n h s a them rest head same = same

own-members : {P : Type 0} (kind : ℕ) (name : List ℕ) (n : ℕ) (s : Slot P) (them : List (Attribute P))
    → map member_of (map (extent_at n s.head) (filter (λ (a : Attribute P). is_of kind name (id_of a.face)) them)) ≡ filter (is_member_of kind name) (map (member_at n s) them)
own-members kind name n s [] = refl
own-members {P = P} kind name n s (a ∷ them) =
    kept-same (is_of kind name (id_of a.face)) n s.head s a (filter (λ (a : Attribute P). is_of kind name (id_of a.face)) them) (filter (is_member_of kind name) (map (member_at n s) them)) refl
    (own-members kind name n s them)

-- the list isn't among those of another type or name
lead-other : {P : Type 0} (b : Bool) (e : Extent P) → ◌≡◌ {A = List (Extent P)} (if b then e ∷ [] else []) [] → b ≡ false
lead-other true e is = absurd cc
lead-other false e is = refl

without-step : {P : Type 0} (b : Bool) (kind : ℕ) (name : List ℕ) (r n : ℕ) (s : Slot P) (a : Attribute P) (them : List (Attribute P))
    → lead_of r kind name s (if b then Some a else find (λ (a : Attribute P). is_list a.face) them) ≡ []
    → (lead_of r kind name s (find (λ (a : Attribute P). is_list a.face) them) ≡ [] → filter (is_member_of kind name) (map (member_at n s) (without_list them)) ≡ filter (is_member_of kind name) (map (member_at n s) them))
    → filter (is_member_of kind name) (map (member_at n s) (if b then them else a ∷ without_list them)) ≡ filter (is_member_of kind name) (map (member_at n s) (a ∷ them))
without-step true kind name r n s a them none rest =
    let other = lead-other (is_of kind name (id_of a.face)) (extent_at r s.head a) none in
    let all = filter (is_member_of kind name) (map (member_at n s) them) in
    sym (ap (λ b. if b then member_at n s a ∷ all else all) other)
without-step false kind name r n s a them none rest =
    ap (λ (all : List Member). if is_of kind name (id_of a.face) then member_at n s a ∷ all else all) (rest none)

without-same : {P : Type 0} (kind : ℕ) (name : List ℕ) (r n : ℕ) (s : Slot P) (them : List (Attribute P)) → lead_of r kind name s (find (λ (a : Attribute P). is_list a.face) them) ≡ []
    → filter (is_member_of kind name) (map (member_at n s) (without_list them)) ≡ filter (is_member_of kind name) (map (member_at n s) them)
without-same kind name r n s [] none = refl
without-same kind name r n s (a ∷ them) none = without-step (is_list a.face) kind name r n s a them none (without-same kind name r n s them)

at-by : {P : Type 0} (own part : Bool) (kind : ℕ) (name : List ℕ) (r sequence n : ℕ) (s : Slot P) → (own ≡ true → list_extents r kind name s ≡ [])
    → map member_of (if own || part then own_extents n kind name s else [])
    ≡ filter (is_member_of kind name) (if own then map (member_at n s) (without_list s.attributes) else (if part then map (member_at n s) s.attributes else []))
unfolding own_extents list_extents
at-by true part kind name r sequence n s none = own-members kind name n s s.attributes ∙ sym (without-same kind name r n s s.attributes (none refl))
at-by false true kind name r sequence n s none = own-members kind name n s s.attributes
at-by false false kind name r sequence n s none = refl

at-members : {P : Type 0} (kind : ℕ) (name : List ℕ) (r sequence n : ℕ) (s : Slot P) → (n ≡ r → list_extents r kind name s ≡ [])
    → map member_of (file_extents_at r sequence kind name n s) ≡ filter (is_member_of kind name) (members_at r sequence n s)
unfolding file_extents_at members_at
at-members kind name r sequence n s none = at-by (n == r) (s.is_live && has_base s.head.base r sequence) kind name r sequence n s (λ same. none (eqb-true n r same))

-- of this type and name, the extents by the base references are the attributes that the rules look at
from-members : {P : Type 0} (kind : ℕ) (name : List ℕ) (r sequence n : ℕ) (slots : List (Slot P)) → ((i : ℕ) → n + i ≡ r → list_extents r kind name (slot_at slots i) ≡ [])
    → map member_of (file_extents_from r sequence kind name n slots) ≡ filter (is_member_of kind name) (members_from r sequence n slots)
unfolding file_extents_from members_from slot_at
from-members kind name r sequence n [] none = refl
from-members kind name r sequence n (s ∷ slots) none =
    let rest = file_extents_from r sequence kind name (suc n) slots in
    let more = members_from r sequence (suc n) slots in
    map-append member_of (file_extents_at r sequence kind name n s) rest
    ∙ ap (λ (front : List Member). front ++ map member_of rest) (at-members kind name r sequence n s (λ same. none 0 (omega (arith, same))))
    ∙ ap (λ (back : List Member). filter (is_member_of kind name) (members_at r sequence n s) ++ back)
    (from-members kind name r sequence (suc n) slots (λ i same. none (suc i) (omega (arith, same))))
    ∙ sym (filter-append (is_member_of kind name) (members_at r sequence n s) more)

pub file-members : {P : Type 0} (kind : ℕ) (name : List ℕ) (r : ℕ) (slots : List (Slot P)) → IsNoList slots r kind name
    → map member_of (file_extents r kind name slots) ≡ filter (is_member_of kind name) (members_from r (slot_at slots r).head.sequence 0 slots)
file-members kind name r slots none =
    from-members kind name r (slot_at slots r).head.sequence 0 slots
    (λ i same. let here : r ≡ i = omega (arith, same) in subst (λ j. list_extents r kind name (slot_at slots j) ≡ []) here none)

-- ---- entries and attributes

same-text : (a b : List ℕ) → bytes_eq a b ≡ true → a ≡ b
same-text a b is = (bytes_eq-Decides a b).0 is

text-same : (a b : List ℕ) → a ≡ b → bytes_eq a b ≡ true
text-same a b is = (bytes_eq-Decides a b).1 is

pub both : (a b : Bool) → a ≡ true → b ≡ true → (a && b) ≡ true
both true b one two = two
both false b one two = absurd cc

-- what an entry says of the attribute that it names
record IsNamed (m : Member) (entry : Listed) : Type 0 where
  number : m.number ≡ target entry.reference
  kind : m.id.kind ≡ entry.kind
  name : m.id.name ≡ entry.name
  lowest : m.id.lowest ≡ entry.lowest
  instance : m.id.instance ≡ entry.instance

named-parts : (m : Member) (entry : Listed) → names_member m entry ≡ true → IsNamed m entry
unfolding names_member means is_of matches
named-parts m entry is =
    let id = m.id in
    let ids = (id.lowest == entry.lowest) && (id.instance == entry.instance) in
    let of = (id.kind == entry.kind) && bytes_eq id.name entry.name in
    let meant = and-left (of && ids) (matches entry.reference m.number m.sequence) is in
    let there = and-right (of && ids) (matches entry.reference m.number m.sequence) is in
    let kinds = and-left of ids meant in
    let places = and-right of ids meant in
    record {
      number = sym (eqb-true (target entry.reference) m.number (and-left (target entry.reference == m.number) _ there));
      kind = eqb-true id.kind entry.kind (and-left (id.kind == entry.kind) (bytes_eq id.name entry.name) kinds);
      name = same-text id.name entry.name (and-right (id.kind == entry.kind) (bytes_eq id.name entry.name) kinds);
      lowest = eqb-true id.lowest entry.lowest (and-left (id.lowest == entry.lowest) (id.instance == entry.instance) places);
      instance = eqb-true id.instance entry.instance (and-right (id.lowest == entry.lowest) (id.instance == entry.instance) places);
    }

-- attributes that one entry names are the same
named-same : (entry : Listed) (m n : Member) → names_member m entry ≡ true → names_member n entry ≡ true → is_same_member m n ≡ true
unfolding is_same_member
named-same entry m n one two =
    let a = named-parts m entry one in
    let b = named-parts n entry two in
    both (m.number == n.number) _ (eq-eqb m.number n.number (a.number ∙ sym b.number))
    (both (m.id.kind == n.id.kind) _ (eq-eqb m.id.kind n.id.kind (a.kind ∙ sym b.kind))
    (both (bytes_eq m.id.name n.id.name) _ (text-same m.id.name n.id.name (a.name ∙ sym b.name))
    (both (m.id.lowest == n.id.lowest) (m.id.instance == n.id.instance) (eq-eqb m.id.lowest n.id.lowest (a.lowest ∙ sym b.lowest)) (eq-eqb m.id.instance n.id.instance (a.instance ∙ sym b.instance)))))

-- an entry and the attribute that it names are of one type and name
entry-of : (kind : ℕ) (name : List ℕ) (m : Member) (entry : Listed) → is_member_of kind name m ≡ true → names_member m entry ≡ true → lists kind name entry ≡ true
unfolding is_of
entry-of kind name m entry of is =
    let a = named-parts m entry is in
    both (entry.kind == kind) (bytes_eq entry.name name)
    (eq-eqb entry.kind kind (sym a.kind ∙ eqb-true m.id.kind kind (and-left (m.id.kind == kind) (bytes_eq m.id.name name) of)))
    (text-same entry.name name (sym a.name ∙ same-text m.id.name name (and-right (m.id.kind == kind) (bytes_eq m.id.name name) of)))

pub member-of : (kind : ℕ) (name : List ℕ) (m : Member) (entry : Listed) → lists kind name entry ≡ true → names_member m entry ≡ true → is_member_of kind name m ≡ true
unfolding is_of
member-of kind name m entry of is =
    let a = named-parts m entry is in
    both (m.id.kind == kind) (bytes_eq m.id.name name)
    (eq-eqb m.id.kind kind (a.kind ∙ eqb-true entry.kind kind (and-left (entry.kind == kind) (bytes_eq entry.name name) of)))
    (text-same m.id.name name (a.name ∙ same-text entry.name name (and-right (entry.kind == kind) (bytes_eq entry.name name) of)))

-- ---- one to one, for all types and names

-- what C11 says of entries and attributes
pub record AreListed (entries : List Listed) (members : List Member) : Type 0 where
  pub each : AllByRecursion (λ (entry : Listed). list_any (λ (m : Member). names_member m entry) members ≡ true) entries
  pub once : AllByRecursion (λ (m : Member). ((count_of (names_member m) entries == 1) && (count_of (is_same_member m) members == 1)) ≡ true) members

pub listed-parts : (entries : List Listed) (members : List Member) → are_listed entries members ≡ true → AreListed entries members
unfolding are_listed
listed-parts entries members is =
    let each = λ (entry : Listed). list_any (λ (m : Member). names_member m entry) members in
    let once = λ (m : Member). (count_of (names_member m) entries == 1) && (count_of (is_same_member m) members == 1) in
    record {
      each = all-tested each entries (and-left (list_all each entries) (list_all once members) is);
      once = all-tested once members (and-right (list_all each entries) (list_all once members) is);
    }

-- an entry names one attribute alone
entry-one : (entries : List Listed) (members : List Member) (entry : Listed) → AreListed entries members → list_any (λ (m : Member). names_member m entry) members ≡ true
    → count_of (λ (m : Member). names_member m entry) members ≡ 1
entry-one entries members entry are is =
    let test = λ (m : Member). names_member m entry in
    let found = any-at test members is in
    let m = found.0 in
    let counts = all-at (λ (m : Member). ((count_of (names_member m) entries == 1) && (count_of (is_same_member m) members == 1)) ≡ true) members m are.once found.1 in
    let alone = eqb-true (count_of (is_same_member m) members) 1 (and-right (count_of (names_member m) entries == 1) (count_of (is_same_member m) members == 1) counts) in
    let least = count-some test members m found.1 found.2 in
    let most = count-less test (is_same_member m) members (λ n named. named-same entry m n found.2 named) in
    omega (arith, alone, least, most)

-- ---- one to one, for one type and name

abbrev pub names_extent : {P : Type 0} → Listed → Extent P → Bool
names_extent entry e = names_member (member_of e) entry

pub extents-once : {P : Type 0} (kind : ℕ) (name : List ℕ) (entries : List Listed) (members : List Member) (es : List (Extent P)) → map member_of es ≡ filter (is_member_of kind name) members → AreListed entries members
    → AllByRecursion (λ (e : Extent P). count_of (λ (entry : Listed). names_extent entry e) (filter (lists kind name) entries) ≡ 1) es
extents-once {P = P} kind name entries members es same are =
    let listed = filter (lists kind name) entries in
    let test = λ (m : Member). ((count_of (names_member m) entries == 1) && (count_of (is_same_member m) members == 1)) ≡ true in
    let IsOnce = λ (m : Member). count_of (names_member m) listed ≡ 1 in
    let kept = all-kept test (is_member_of kind name) members are.once in
    let all = all-of IsOnce (filter (is_member_of kind name) members) (λ m has.
    let is = all-at (λ (m : Member). test m × (is_member_of kind name m ≡ true)) (filter (is_member_of kind name) members) m kept has in
    count-kept (names_member m) (lists kind name) entries (λ entry named. entry-of kind name m entry is.1 named)
    ∙ eqb-true (count_of (names_member m) entries) 1 (and-left (count_of (names_member m) entries == 1) (count_of (is_same_member m) members == 1) is.0)) in
    all-unmap IsOnce member_of es (subst (λ (ms : List Member). AllByRecursion IsOnce ms) (sym same) all)

pub entries-one : {P : Type 0} (kind : ℕ) (name : List ℕ) (entries : List Listed) (members : List Member) (es : List (Extent P)) → map member_of es ≡ filter (is_member_of kind name) members → AreListed entries members
    → AllByRecursion (λ (entry : Listed). count_of (names_extent entry) es ≡ 1) (filter (lists kind name) entries)
entries-one {P = P} kind name entries members es same are =
    let each = λ (entry : Listed). list_any (λ (m : Member). names_member m entry) members ≡ true in
    let kept = all-kept each (lists kind name) entries are.each in
    all-of (λ (entry : Listed). count_of (names_extent entry) es ≡ 1) (filter (lists kind name) entries) (λ entry has.
    let is = all-at (λ (entry : Listed). each entry × (lists kind name entry ≡ true)) (filter (lists kind name) entries) entry kept has in
    let test = λ (m : Member). names_member m entry in
    sym (count-map test member_of es)
    ∙ ap (count_of test) same
    ∙ count-kept test (is_member_of kind name) members (λ m named. member-of kind name m entry is.1 named)
    ∙ entry-one entries members entry are is.0)
