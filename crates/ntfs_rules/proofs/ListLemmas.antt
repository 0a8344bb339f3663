-- Records with fixed numbers, and whether they have an attribute list.
use Rattle.std.proofs.Common.{◌≡◌, ◌≤◌, ◌<◌, ◌+◌, ◌*◌, ◌==◌, ◌||◌, inl, inr, ℕ, zero, suc, Bool, true, false, List, [], ◌∷◌, length, take, map, nat_le, Option, Some, None, Result, Ok, Err, refl, sym, ap, subst, ◌∙◌, arith, if◌then◌else◌}
use Rattle.std.specs.Option.{ok_or}
use Rattle.std.specs.Prelude.{find, is_some}
use Rattle.std.specs.List.{list_any}
use Rattle.std.proofs.lemmas.Bool.{cases_lt}
use Rattle.std.proofs.lemmas.Bool.Decides.{nat_tests}
use Rattle.std.proofs.lemmas.List.{length-take}
use Rattle.std.proofs.Math.Nat.{div-lt_iff_lt-mul}
use Rattle.ntfs_base.specs.Bytes.{raw_of, stream}
use Rattle.ntfs_rules.specs.Outcome.{cut_of}
use Rattle.ntfs_volume.specs.Fault.{volume_origin}
use Rattle.ntfs_attrlist.specs.Entry.{Listed}
use Rattle.ntfs_attrlist.specs.declared.fault.BadEntry.{BadEntry}
use Rattle.ntfs_base.specs.Frames.{IsSettled, must, refused_as, ◌>>=◌}
use Rattle.ntfs_boot.specs.declared.geometry.Geometry.{Geometry}
use Rattle.ntfs_rules.specs.Content.{has_list_attribute}
use Rattle.ntfs_fixup.specs.Fixups.{unfix_of}
use Rattle.ntfs_fixup.specs.declared.header.Magic.TheVariants.{File}
use Rattle.ntfs_fixup.specs.declared.unfixing.FixFault.{FixFault}
use Rattle.ntfs_record.specs.FileRecord.{Attribute, FileRecord, Laid}
use Rattle.ntfs_record.specs.Parsing.{parse_of}
use Rattle.ntfs_record.specs.Slots.{Slot, begins_baad, is_in_use, record_in, tells_own}
use Rattle.ntfs_record.specs.Views.{Placed, Shown, shown_placed}
use Rattle.ntfs_record.specs.declared.fault.RecordFault.{RecordFault}
use Rattle.ntfs_runs.specs.Cells.{Cells}
use Rattle.ntfs_volume.specs.Listing.{filled_attributes, bytes_of_list, is_list, listing_in, listing_of, listing_of_bytes, listing_of_entries}
use Rattle.ntfs_attrlist.specs.Reading.{list_entries}
use Rattle.ntfs_volume.specs.Located.{Located, idle, live_located, located_attributes, located_of, located_slot, slot_at, slots_from, slots_of, sound_located, unlocated, unsound_located}
use Rattle.ntfs_volume.specs.MftMap.{Map}
use Rattle.ntfs_volume.specs.Records.{raw_record, read_of, unfixed_record, unsound}
use Rattle.ntfs_volume.specs.Scan.{initialised_count}
use Rattle.ntfs_volume.specs.Streams.{lists_of}
use Rattle.ntfs_volume.specs.declared.fault.VolumeFault.{VolumeFault}
use Rattle.ntfs_volume.specs.declared.fault.VolumeFault.TheVariants as volume

-- ---- the slot of a number

slot-from : {P : Type 0} (slot : ℕ → Slot P) (first count n : ℕ) → n < count → slot_at (slots_from slot first count) n ≡ slot (first + n)
unfolding slot_at slots_from
slot-from slot first zero n below = absurd (omega (arith, below))
slot-from slot first (suc count) zero below = let same : first ≡ first + 0 = omega arith in ap slot same
slot-from slot first (suc count) (suc n) below = let same : suc first + n ≡ first + suc n = omega arith in slot-from slot (suc first) count n (omega (arith, below)) ∙ ap slot same

slot-past : {P : Type 0} (slot : ℕ → Slot P) (first count n : ℕ) → count ≤ n → slot_at (slots_from slot first count) n ≡ idle false
unfolding slot_at slots_from
slot-past slot first zero n past = refl
slot-past slot first (suc count) zero past = absurd (omega (arith, past))
slot-past slot first (suc count) (suc n) past = slot-past slot (suc first) count n (omega (arith, past))

none-idle : (n : ℕ) (raw : Option (List ℕ)) → raw ≡ None → idle false ≡ located_slot n raw
unfolding located_slot
none-idle n raw none = sym (ap (located_slot n) none)

slot-of : (g : Geometry) (table : Map) (f : ℕ → List ℕ) (n : ℕ) → (initialised_count g table ≤ n → raw_record g table f n ≡ None) → slot_at (slots_of g table f) n ≡ located_slot n (raw_record g table f n)
unfolding slots_of
slot-of g table f n past = elim (cases_lt n (initialised_count g table)) [
  | inl below ↦ let same : 0 + n ≡ n = omega arith in slot-from (λ n. located_slot n (raw_record g table f n)) 0 (initialised_count g table) n below ∙ ap (λ k. located_slot k (raw_record g table f k)) same
  | inr above ↦ slot-past (λ n. located_slot n (raw_record g table f n)) 0 (initialised_count g table) n above ∙ none-idle n (raw_record g table f n) (past above)
]

-- ---- what a record says that was read, or wasn't

-- the attributes of the slot by what reading it gives
abbrev Says : Slot (Located (Laid (List ℕ))) → Result (List ℕ) VolumeFault → Type 0
Says slot (Ok block) = (said : FileRecord) → parse_of block ≡ Ok said → slot.attributes ≡ located_attributes said
Says slot (Err fault) = slot.attributes ≡ []

said-own : (n : ℕ) (block : List ℕ) (said : FileRecord) (own : Bool) → parse_of block ≡ Ok said
    → Says (if own then sound_located said else unsound_located) (must own (unsound n) >>= (λ _. Ok block))
said-own n block said true is = λ other other_is. let same : said ≡ other = cc in ap located_attributes same
said-own n block said false is = refl

said-parsed : (n : ℕ) (raw block : List ℕ) (p : Result FileRecord RecordFault) → parse_of block ≡ p → unfix_of File raw ≡ Ok block
    → Says (live_located n (record_in raw)) (refused_as (λ _. unsound n) p >>= (λ said. must (tells_own n said.layout.number) (unsound n) >>= (λ _. Ok block)))
unfolding record_in
said-parsed n raw block (Ok said) is whole = rw (whole, is) (said-own n block said (tells_own n said.layout.number) is)
said-parsed n raw block (Err fault) is whole = rw (whole, is) refl

said-fixed : (n : ℕ) (raw : List ℕ) (u : Result (List ℕ) FixFault) → unfix_of File raw ≡ u
    → Says (live_located n (record_in raw)) (refused_as (λ _. unsound n) u >>= (λ block. refused_as (λ _. unsound n) (parse_of block) >>= (λ said. must (tells_own n said.layout.number) (unsound n) >>= (λ _. Ok block))))
unfolding record_in
said-fixed n raw (Ok block) is = said-parsed n raw block (parse_of block) refl is
said-fixed n raw (Err fault) is = rw is refl

said-used : (n : ℕ) (raw : List ℕ) (live : Bool)
    → Says (if live then live_located n (record_in raw) else idle (begins_baad raw))
    (must live volume.Absent >>= (λ _. refused_as (λ _. unsound n) (unfix_of File raw) >>= (λ block. refused_as (λ _. unsound n) (parse_of block) >>= (λ said. must (tells_own n said.layout.number) (unsound n) >>= (λ _. Ok block)))))
said-used n raw true = said-fixed n raw (unfix_of File raw) refl
said-used n raw false = refl

said-raw : (n : ℕ) (raw : Option (List ℕ)) → Says (located_slot n raw) (ok_or raw volume.Absent >>= unfixed_record n)
unfolding located_slot unfixed_record
said-raw n None = refl
said-raw n (Some raw) = said-used n raw (is_in_use raw)

says : (g : Geometry) (table : Map) (f : ℕ → List ℕ) (n : ℕ) → Says (located_slot n (raw_record g table f n)) (read_of g table f n)
unfolding read_of
says g table f n = said-raw n (raw_record g table f n)

-- ---- the list

there-bytes : (bytes : Option (List ℕ)) → (listing_of_bytes bytes).is_there ≡ true
there-bytes None = refl
there-bytes (Some bytes) = go (list_entries bytes)
  where
    go : (entries : Result (List Listed) BadEntry) → (listing_of_entries entries).is_there ≡ true
    go (Ok entries) = refl
    go (Err fault) = refl

there-of : (c : ℕ) (found : Option (Attribute (Laid (Cells (List ℕ))))) (attributes : List (Attribute (Laid (Cells (List ℕ))))) → (listing_of c found attributes).is_there ≡ is_some found
there-of c None attributes = refl
there-of c (Some a) attributes = there-bytes (bytes_of_list c a attributes)

found-any : {A : Type 0} (test : A → Bool) (xs : List A) → is_some (find test xs) ≡ list_any test xs
found-any test [] = refl
found-any {A = A} test (x ∷ xs) = go (test x) (found-any test xs)
  where
    go : (b : Bool) → is_some (find test xs) ≡ list_any test xs → is_some (if b then Some x else find test xs) ≡ (b || list_any test xs)
    go true rest = refl
    go false rest = rest

any-filled : (n : ℕ) (f : ℕ → List ℕ) (placed : List Placed) → list_any (λ (a : Attribute (Laid (Cells (List ℕ)))). is_list a.face) (filled_attributes n f (map unlocated (map located_of placed)))
    ≡ list_any (λ (s : Shown). s.kind == 0x20) (map shown_placed placed)
any-filled n f [] = refl
any-filled n f (p ∷ placed) = ap (λ b. ((shown_placed p).kind == 0x20) || b) (any-filled n f placed)

there-in : (c : ℕ) (attributes : List (Attribute (Laid (Cells (List ℕ))))) → (listing_in c attributes).is_there ≡ list_any (λ (a : Attribute (Laid (Cells (List ℕ)))). is_list a.face) attributes
unfolding listing_in
there-in c attributes = there-of c (find (λ (a : Attribute (Laid (Cells (List ℕ)))). is_list a.face) attributes) attributes ∙ found-any (λ (a : Attribute (Laid (Cells (List ℕ)))). is_list a.face) attributes

there-none : (g : Geometry) (f : ℕ → List ℕ) (slots : List (Slot (Located (Laid (List ℕ))))) (r : ℕ) → (slot_at slots r).attributes ≡ [] → (lists_of g f slots r).is_there ≡ false
there-none g f slots r none =
    ap (λ (attributes : List (Attribute (Located (Laid (List ℕ))))). (listing_in g.cluster (filled_attributes g.clusters f (map unlocated attributes))).is_there) none ∙ there-in g.cluster []

there-said : (g : Geometry) (f : ℕ → List ℕ) (slots : List (Slot (Located (Laid (List ℕ))))) (r : ℕ) (said : FileRecord) → (slot_at slots r).attributes ≡ located_attributes said
    → (lists_of g f slots r).is_there ≡ has_list_attribute said
there-said g f slots r said is =
    ap (λ (attributes : List (Attribute (Located (Laid (List ℕ))))). (listing_in g.cluster (filled_attributes g.clusters f (map unlocated attributes))).is_there) is
    ∙ there-in g.cluster _ ∙ any-filled g.clusters f _

-- ---- of a record that was read

answered : (slot : Slot (Located (Laid (List ℕ)))) (a b : Result (List ℕ) VolumeFault) → a ≡ b → Says slot a → Says slot b
answered slot a b same = subst (λ (r : Result (List ℕ) VolumeFault). Says slot r) same

pub no-list : (g : Geometry) (table : Map) (f : ℕ → List ℕ) (n : ℕ) (fault : VolumeFault) → (initialised_count g table ≤ n → raw_record g table f n ≡ None) → read_of g table f n ≡ Err fault
    → false ≡ (lists_of g f (slots_of g table f) n).is_there
no-list g table f n fault past is =
    let none : (located_slot n (raw_record g table f n)).attributes ≡ [] = answered (located_slot n (raw_record g table f n)) (read_of g table f n) (Err fault) is (says g table f n) in
    sym (there-none g f (slots_of g table f) n (ap (λ (s : Slot (Located (Laid (List ℕ)))). s.attributes) (slot-of g table f n past) ∙ none))

pub list-is : (g : Geometry) (table : Map) (f : ℕ → List ℕ) (n : ℕ) (block : List ℕ) (said : FileRecord) → (initialised_count g table ≤ n → raw_record g table f n ≡ None) → read_of g table f n ≡ Ok block → parse_of block ≡ Ok said
    → has_list_attribute said ≡ (lists_of g f (slots_of g table f) n).is_there
list-is g table f n block said past is parsed =
    let all : (located_slot n (raw_record g table f n)).attributes ≡ located_attributes said = answered (located_slot n (raw_record g table f n)) (read_of g table f n) (Ok block) is (says g table f n) said parsed in
    sym (there-said g f (slots_of g table f) n said (ap (λ (s : Slot (Located (Laid (List ℕ)))). s.attributes) (slot-of g table f n past) ∙ all))

-- ---- records past the end

pub raw-past : (g : Geometry) (table : Map) (f : ℕ → List ℕ) (n : ℕ) → 0 < g.record_size → initialised_count g table ≤ n → raw_record g table f n ≡ None
unfolding raw_record raw_of
raw-past g table f n some past =
    let all = take table.valid (stream f table.clusters) in
    let most : length all ≤ table.valid = omega (arith, length-take table.valid (stream f table.clusters)) in
    let end : table.valid < (n + 1) * g.record_size = (div-lt_iff_lt-mul some).0 (omega (arith, past)) in
    let row : (n + 1) * g.record_size ≡ n * g.record_size + g.record_size = omega arith in
    if-past (nat_le (n * g.record_size + g.record_size) (length all)) _ (no-room (n * g.record_size + g.record_size) (length all) (omega (arith, most, end, row)))
  where
    no-room : (a b : ℕ) → b < a → nat_le a b ≡ false
    no-room a b lt = grind (arith, nat_tests)

    if-past : (b : Bool) (x : Option (List ℕ)) → b ≡ false → (if b then x else None) ≡ None
    if-past b x is = rw is refl

-- a refusal that says something of the volume
pub uncut : (fault : VolumeFault) → cut_of fault ≡ None → IsSettled (volume_origin fault)
uncut volume.NotNtfs none = tt
uncut (volume.BadGeometry field value) none = tt
uncut (volume.ImageShort len need) none = tt
uncut (volume.Damaged broken number) none = tt
uncut volume.Absent none = tt
uncut volume.NoAttribute none = tt
uncut volume.ReadFault none = absurd cc
uncut volume.WriteFault none = absurd cc
uncut volume.NoMemory none = absurd cc

pub clash : {A E : Type 0} (r : Result A E) (x : A) (fault : E) → r ≡ Ok x → r ≡ Err fault → ⊥
clash r x fault given refused = absurd cc

-- ---- a list among the attributes

abbrev pub shows_list : Shown → Bool
shows_list s = s.kind == 0x20

pub list-found : (shown rest : List Shown) (x : Shown) (answer : Bool) → list_any shows_list shown ≡ answer → shown ≡ x ∷ rest → x.kind ≡ 0x20 → true ≡ answer
list-found shown rest x answer same first is =
    sym (ap (λ b. b || list_any shows_list rest) (is-it x.kind is)) ∙ sym (ap (list_any shows_list) first) ∙ same
  where
    is-it : (n : ℕ) → n ≡ 0x20 → (n == 0x20) ≡ true
    is-it n is = grind (arith, nat_tests)

pub list-passed : (shown rest : List Shown) (x : Shown) (answer : Bool) → list_any shows_list shown ≡ answer → shown ≡ x ∷ rest → (x.kind ≡ 0x20 → ⊥) → list_any shows_list rest ≡ answer
list-passed shown rest x answer same first other =
    sym (ap (λ b. b || list_any shows_list rest) (is-not x.kind other)) ∙ sym (ap (list_any shows_list) first) ∙ same
  where
    is-not : (n : ℕ) → (n ≡ 0x20 → ⊥) → (n == 0x20) ≡ false
    is-not n is = grind (arith, nat_tests)

pub list-none : (shown : List Shown) (answer : Bool) → list_any shows_list shown ≡ answer → shown ≡ [] → false ≡ answer
list-none shown answer same none = sym (ap (list_any shows_list) none) ∙ same
