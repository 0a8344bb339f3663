-- Rule C11 of one record.
use Rattle.std.proofs.Common.{◌≡◌, ◌<◌, ◌+◌, ◌==◌, ◌&&◌, ◌||◌, ◌++◌, inl, inr, ℕ, Bool, true, false, List, [], ◌∷◌, length, map, Option, Some, None, refl, sym, ap, ◌∙◌, arith, if◌then◌else◌}
use Rattle.std.specs.Prelude.{not}
use Rattle.std.proofs.lemmas.Bool.{cases_lt}
use Rattle.std.proofs.lemmas.Bool.Decides.{nat_tests}
use Rattle.ntfs_boot.specs.declared.geometry.Geometry.{Geometry}
use Rattle.ntfs_check_files.proofs.ListedLemmas.{Known, base-by-number, file-alike, listed-alike, no-base, own_of, slots-long}
use Rattle.ntfs_check_files.proofs.MemberLemmas.{own-said}
use Rattle.ntfs_check_records.proofs.RecordLemmas.{each-passes, record-at, whole-at}
use Rattle.ntfs_check_records.specs.Reading.{records_of}
use Rattle.ntfs_check_files.specs.Asked.{PresumesLists}
use Rattle.ntfs_check_files.specs.Extending.{extending, numbers_from}
use Rattle.ntfs_check_files.specs.Members.{matches_listing, members_in, members_said}
use Rattle.ntfs_check_files.specs.declared.extensions.Extensions.{Extensions}
use Rattle.ntfs_record.specs.Attribute.{attribute_of}
use Rattle.ntfs_record.specs.FileRecord.{Attribute, FileRecord, Laid}
use Rattle.ntfs_record.specs.Slots.{Slot}
use Rattle.ntfs_record.specs.Views.{placed_from}
use Rattle.ntfs_rules.proofs.ListLemmas.{raw-past}
use Rattle.ntfs_rules.specs.Files.{Member, are_listed, c10, is_listed, is_no_base, members_from, names_base}
use Rattle.ntfs_rules.specs.Records.{c4}
use Rattle.ntfs_survey.specs.Owned.{is_whole}
use Rattle.ntfs_survey.specs.Surveying.{record_at}
use Rattle.ntfs_volume.specs.Gathering.{file_lists}
use Rattle.ntfs_volume.specs.Listing.{RecordListing, filled_attributes, listing_in}
use Rattle.ntfs_volume.specs.Located.{Located, located_of, located_slot, slot_at, slots_of, sound_located, unlocated}
use Rattle.ntfs_volume.specs.Opened.{Opened}
use Rattle.ntfs_volume.specs.Records.{raw_record}
use Rattle.ntfs_volume.specs.References.{has_base}
use Rattle.ntfs_volume.specs.Scan.{initialised_count}
use Rattle.ntfs_volume.specs.Streams.{lists_of}

-- ---- what a record says of its list

placed-unlocated : (place : ℕ) (raws : List (List ℕ)) → map unlocated (map located_of (placed_from place raws)) ≡ map attribute_of raws
placed-unlocated place [] = refl
placed-unlocated place (raw ∷ raws) = ap (λ (rest : List (Attribute (Laid (List ℕ)))). attribute_of raw ∷ rest) (placed-unlocated (place + length raw) raws)

pub lists-file : (g : Geometry) (f : ℕ → List ℕ) (slots : List (Slot (Located (Laid (List ℕ))))) (r : ℕ) (file : FileRecord) → slot_at slots r ≡ sound_located file
    → lists_of g f slots r ≡ file_lists g f file
lists-file g f slots r file is =
    ap (λ (s : Slot (Located (Laid (List ℕ)))). listing_in g.cluster (filled_attributes g.clusters f (map unlocated s.attributes))) is
    ∙ ap (λ (attributes : List (Attribute (Laid (List ℕ)))). listing_in g.cluster (filled_attributes g.clusters f attributes)) (placed-unlocated file.layout.first_attribute file.raws)

-- ---- a base record

abbrev Record : Type 0
Record = Slot (Located (Laid (List ℕ)))

matches-by : (slots : List Record) (r sequence : ℕ) (said : FileRecord) (numbers : List ℕ) (listing : RecordListing)
    → ((entries : _) → are_listed entries (members_from r sequence 0 slots) ≡ are_listed entries (members_said true r said ++ members_in slots numbers))
    → is_no_base slots r sequence ≡ (length numbers == 0)
    → is_listed listing slots r sequence ≡ matches_listing slots r said numbers listing
unfolding is_listed matches_listing
matches-by slots r sequence said numbers listing same none =
    ap (λ b. if listing.is_there then listing.is_good && b else is_no_base slots r sequence) (same listing.entries)
    ∙ ap (λ b. if listing.is_there then listing.is_good && are_listed listing.entries (members_said true r said ++ members_in slots numbers) else b) none

passes-base : {P : Type 0} (slots : List (Slot P)) (r : ℕ) → c10 slots ≡ None → r < length slots
    → (not (slot_at slots r).is_live || (((slot_at slots r).head.base == 0) || names_base slots (slot_at slots r).head.base)) ≡ true
unfolding c10
passes-base {P = P} slots r none below = each-passes (λ r (s : Slot P). not s.is_live || ((s.head.base == 0) || names_base slots s.head.base)) 0 r slots none below

known-of : (o : Opened) (f : ℕ → List ℕ) (r : ℕ) (said : FileRecord) → 0 < o.geometry.record_size → c4 (records_of o f) ≡ None → c10 (records_of o f) ≡ None → record_at o f r ≡ sound_located said
    → said.head.base ≡ 0 → Known (records_of o f) (record_at o f) r said.head.sequence (initialised_count o.geometry o.map)
unfolding slots_of
known-of o f r said some whole bases is base = record {
  each = λ i below.
      let at = record-at o f i some in
      let long = slots-long (record_at o f) 0 (initialised_count o.geometry o.map) in
      let kept : is_whole (record_at o f i) ≡ true = ap (λ (s : Record). is_whole s) (sym at) ∙ whole-at (records_of o f) i whole in
      let named : (not (record_at o f i).is_live || (((record_at o f i).head.base == 0) || names_base (records_of o f) (record_at o f i).head.base)) ≡ true =
      ap (λ (s : Record). not s.is_live || ((s.head.base == 0) || names_base (records_of o f) s.head.base)) (sym at) ∙ passes-base (records_of o f) i bases (omega (arith, below, long)) in
      ap (λ (s : Record). (record_at o f i).is_live && has_base (record_at o f i).head.base r s.head.sequence) (sym (record-at o f r some ∙ is))
      ∙ base-by-number (records_of o f) (record_at o f i) r kept named;
  at = λ i. record-at o f i some;
  base = ap (λ (s : Record). s.head.base) is ∙ base;
}

file-listed : (o : Opened) (f : ℕ → List ℕ) (r : ℕ) (said : FileRecord) (extensions : Extensions) → 0 < o.geometry.record_size → PresumesLists o f extensions → record_at o f r ≡ sound_located said
    → said.head.base ≡ 0 → r < initialised_count o.geometry o.map
    → is_listed (lists_of o.geometry f (records_of o f) r) (records_of o f) r said.head.sequence ≡ matches_listing (records_of o f) r said (extending extensions r) (file_lists o.geometry f said)
unfolding slots_of
file-listed o f r said extensions some presumed is base below =
    let slots = records_of o f in
    let count = initialised_count o.geometry o.map in
    let known = known-of o f r said some presumed.whole presumed.bases is base in
    let numbers = presumed.all r in
    ap (λ (listing : RecordListing). is_listed listing slots r said.head.sequence) (lists-file o.geometry f slots r said (record-at o f r some ∙ is))
    ∙ matches-by slots r said.head.sequence said (extending extensions r) (file_lists o.geometry f said)
    (λ entries. listed-alike entries (members_from r said.head.sequence 0 slots) (own_of r (record_at o f r) ++ members_in slots (numbers_from r (record_at o f) 0 count)) (file-alike slots (record_at o f) r said.head.sequence count known below)
    ∙ ap (λ (them : List Member). are_listed entries (them ++ members_in slots (numbers_from r (record_at o f) 0 count))) (ap (own_of r) is ∙ sym (own-said r said))
    ∙ ap (λ (ns : List ℕ). are_listed entries (members_said true r said ++ members_in slots ns)) (sym numbers))
    (no-base slots (record_at o f) r said.head.sequence count known ∙ ap (λ (ns : List ℕ). length ns == 0) (sym numbers))

below-count : (o : Opened) (f : ℕ → List ℕ) (r : ℕ) (raw : List ℕ) → 0 < o.geometry.record_size → raw_record o.geometry o.map f r ≡ Some raw → r < initialised_count o.geometry o.map
below-count o f r raw some held = elim (cases_lt r (initialised_count o.geometry o.map)) [
  | inl below ↦ below
  | inr past ↦ (let none = raw-past o.geometry o.map f r some past in absurd (clash (raw_record o.geometry o.map f r) none held))
]
  where
    clash : (x : Option (List ℕ)) → x ≡ None → x ≡ Some raw → ⊥
    clash x none some = cc

or-same : (b c d : Bool) → (b ≡ true → c ≡ d) → (not b || c) ≡ (not b || d)
or-same true c d same = same refl
or-same false c d same = refl

is-zero : (n : ℕ) → (n == 0) ≡ true → n ≡ 0
is-zero n is = grind (arith, nat_tests)

pub listed-answer : (o : Opened) (f : ℕ → List ℕ) (r : ℕ) (raw : List ℕ) (said : FileRecord) (extensions : Extensions) → 0 < o.geometry.record_size → PresumesLists o f extensions
    → raw_record o.geometry o.map f r ≡ Some raw → located_slot r (Some raw) ≡ sound_located said
    → (not (said.head.base == 0) || matches_listing (records_of o f) r said (extending extensions r) (file_lists o.geometry f said))
    ≡ (not (said.head.base == 0) || is_listed (lists_of o.geometry f (records_of o f) r) (records_of o f) r said.head.sequence)
listed-answer o f r raw said extensions some presumed held is =
    or-same (said.head.base == 0) (matches_listing (records_of o f) r said (extending extensions r) (file_lists o.geometry f said))
    (is_listed (lists_of o.geometry f (records_of o f) r) (records_of o f) r said.head.sequence)
    (λ base. sym (file-listed o f r said extensions some presumed (ap (located_slot r) held ∙ is) (is-zero said.head.base base) (below-count o f r raw some held)))
