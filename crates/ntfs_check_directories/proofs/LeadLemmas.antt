-- The record to which a reference leads, and the name of an entry in it.
use Rattle.std.proofs.Common.{◌≡◌, ◌<◌, ◌+◌, ◌==◌, ◌&&◌, ℕ, Bool, true, false, List, [], ◌∷◌, length, map, Option, None, Result, Ok, Err, refl, sym, ap, subst, ◌∙◌, inl, inr}
use Rattle.std.proofs.lemmas.Bool.{and_parts}
use Rattle.std.specs.Prelude.{IfOk}
use Rattle.ntfs_attrlist.specs.Entry.{Listed}
use Rattle.ntfs_base.specs.Bytes.{cluster_at}
use Rattle.ntfs_base.specs.Frames.{must, ◌>>=◌}
use Rattle.ntfs_boot.specs.declared.geometry.Geometry.{Geometry}
use Rattle.ntfs_check_directories.proofs.AskedLemmas.{slot-refused}
use Rattle.ntfs_check_directories.proofs.NameLemmas.{found-faulty}
use Rattle.ntfs_check_directories.specs.Names.{all_lead, have_sought, leads_at, records_in, shown_by}
use Rattle.ntfs_check_directories.specs.declared.name.Sought.{Sought}
use Rattle.ntfs_directory.specs.Directory.{DirectoryWalk, only_refused}
use Rattle.ntfs_directory.specs.State.{entry_before, whole}
use Rattle.ntfs_index.specs.Node.{IndexEntry}
use Rattle.ntfs_record.specs.Attribute.{attribute_of}
use Rattle.ntfs_record.specs.FileRecord.{Attribute, FileRecord, Laid}
use Rattle.ntfs_record.specs.Parsing.{parse_of}
use Rattle.ntfs_record.specs.Slots.{Slot}
use Rattle.ntfs_record.specs.Views.{placed_from}
use Rattle.ntfs_rules.specs.Directories.{file_name_kind, have_name, leads_to_name}
use Rattle.ntfs_rules.specs.Files.{is_base_for, names_base}
use Rattle.ntfs_rules.specs.declared.fault.CheckFault.{CheckFault}
use Rattle.ntfs_volume.proofs.GatherLemmas.{IsFaulty, slot-said}
use Rattle.ntfs_volume.specs.Gather.{Extent, bad_record, extents, extents_in, found_in}
use Rattle.ntfs_volume.specs.Gathering.{file_lists}
use Rattle.ntfs_volume.specs.Listing.{filled_attributes, listing_in}
use Rattle.ntfs_volume.specs.Located.{Located, located_of, slot_at, sound_located, unlocated}
use Rattle.ntfs_volume.specs.Opened.{Opened}
use Rattle.ntfs_volume.specs.Records.{read_of}
use Rattle.ntfs_volume.specs.References.{matches, target}
use Rattle.ntfs_volume.specs.Streams.{lists_of}
use Rattle.ntfs_volume.specs.declared.fault.VolumeFault.{VolumeFault}
use Rattle.ntfs_volume.specs.declared.fault.VolumeFault.TheVariants as volume

-- an answer in other words
pub given-as : (result : Result Bool CheckFault) (a b : Bool) → a ≡ b → IfOk result (λ is. is ≡ a) → IfOk result (λ is. is ≡ b)
given-as (Ok is) a b same given = given ∙ same
given-as (Err fault) a b same given = tt

-- ---- the record of an entry of a list

pub read-faulty : (o : Opened) (content : List ℕ) (sought : Sought) (r sequence n : ℕ) (entry : Listed) (fault : VolumeFault) → n ≡ target entry.reference → 0 < o.geometry.record_size
    → read_of o.geometry o.map (cluster_at content o.geometry.cluster) n ≡ Err fault → None ≡ shown_by sought (found_in r sequence entry (slot_at (records_in o content) (target entry.reference)))
read-faulty o content sought r sequence n entry fault is some read =
    found-faulty sought r sequence n entry (slot_at (records_in o content) (target entry.reference)) fault
    (subst (λ (k : ℕ). IsFaulty n (slot_at (records_in o content) k) fault) is (slot-refused o content n fault some read))

pub read-given : (o : Opened) (content : List ℕ) (sought : Sought) (r sequence n : ℕ) (entry : Listed) (block : List ℕ) (file : FileRecord) (found : Option Bool) → n ≡ target entry.reference → 0 < o.geometry.record_size
    → read_of o.geometry o.map (cluster_at content o.geometry.cluster) n ≡ Ok block → parse_of block ≡ Ok file → found ≡ shown_by sought (found_in r sequence entry (sound_located file))
    → found ≡ shown_by sought (found_in r sequence entry (slot_at (records_in o content) (target entry.reference)))
read-given o content sought r sequence n entry block file found is some read parsed same =
    same
    ∙ ap (λ (slot : Slot (Located (Laid (List ℕ)))). shown_by sought (found_in r sequence entry slot))
    (sym (slot-said o.geometry o.map (cluster_at content o.geometry.cluster) n block file some read parsed) ∙ ap (slot_at (records_in o content)) is)

-- ---- what a record that was read says of its list

placed-unlocated : (place : ℕ) (raws : List (List ℕ)) → map unlocated (map located_of (placed_from place raws)) ≡ map attribute_of raws
placed-unlocated place [] = refl
placed-unlocated place (raw ∷ raws) = ap (λ (rest : List (Attribute (Laid (List ℕ)))). attribute_of raw ∷ rest) (placed-unlocated (place + length raw) raws)

lists-file : (g : Geometry) (f : ℕ → List ℕ) (slots : List (Slot (Located (Laid (List ℕ))))) (r : ℕ) (file : FileRecord) → slot_at slots r ≡ sound_located file → lists_of g f slots r ≡ file_lists g f file
lists-file g f slots r file is =
    ap (λ (s : Slot (Located (Laid (List ℕ)))). listing_in g.cluster (filled_attributes g.clusters f (map unlocated s.attributes))) is
    ∙ ap (λ attributes. listing_in g.cluster (filled_attributes g.clusters f attributes)) (placed-unlocated file.layout.first_attribute file.raws)

-- ---- the record of a reference

abbrev leads_by : Opened → List ℕ → Sought → ℕ → Slot (Located (Laid (List ℕ))) → Bool
leads_by o content sought reference s =
    let r = target reference in
    is_base_for reference s
    && have_sought false sought (must s.is_live volume.Absent >>= (λ _. must s.is_sound (bad_record r) >>= (λ _. must (s.head.base == 0) volume.Absent
    >>= (λ _. extents_in r file_name_kind [] (lists_of o.geometry (cluster_at content o.geometry.cluster) (records_in o content) r) s (records_in o content)))))

by-slot : (o : Opened) (content : List ℕ) (sought : Sought) (reference : ℕ) (s : Slot (Located (Laid (List ℕ)))) → slot_at (records_in o content) (target reference) ≡ s
    → leads_at o content sought reference ≡ leads_by o content sought reference s
unfolding leads_at extents
by-slot o content sought reference s is = ap (leads_by o content sought reference) is

and-none : (b : Bool) → (b && false) ≡ false
and-none true = refl
and-none false = refl

faulty-leads : (o : Opened) (content : List ℕ) (sought : Sought) (reference n : ℕ) (s : Slot (Located (Laid (List ℕ)))) (fault : VolumeFault) → IsFaulty n s fault → leads_by o content sought reference s ≡ false
unfolding is_base_for
faulty-leads o content sought reference n s fault (inl absent) = rw absent.1 refl
faulty-leads o content sought reference n s fault (inr wrong) = rw (wrong.1.0, wrong.1.1) (and-none ((s.head.base == 0) && matches reference (target reference) s.head.sequence))

pub leads-refused : (o : Opened) (content : List ℕ) (sought : Sought) (reference n : ℕ) (fault : VolumeFault) → n ≡ target reference → 0 < o.geometry.record_size
    → read_of o.geometry o.map (cluster_at content o.geometry.cluster) n ≡ Err fault → false ≡ leads_at o content sought reference
leads-refused o content sought reference n fault is some read =
    sym (by-slot o content sought reference (slot_at (records_in o content) (target reference)) refl
    ∙ faulty-leads o content sought reference n (slot_at (records_in o content) (target reference)) fault
    (subst (λ (k : ℕ). IsFaulty n (slot_at (records_in o content) k) fault) is (slot-refused o content n fault some read)))

said-slot : (o : Opened) (content : List ℕ) (reference n : ℕ) (block : List ℕ) (file : FileRecord) → n ≡ target reference → 0 < o.geometry.record_size
    → read_of o.geometry o.map (cluster_at content o.geometry.cluster) n ≡ Ok block → parse_of block ≡ Ok file → slot_at (records_in o content) (target reference) ≡ sound_located file
said-slot o content reference n block file is some read parsed =
    ap (slot_at (records_in o content)) (sym is) ∙ slot-said o.geometry o.map (cluster_at content o.geometry.cluster) n block file some read parsed

pub leads-other : (o : Opened) (content : List ℕ) (sought : Sought) (reference n : ℕ) (block : List ℕ) (file : FileRecord) → n ≡ target reference → 0 < o.geometry.record_size
    → read_of o.geometry o.map (cluster_at content o.geometry.cluster) n ≡ Ok block → parse_of block ≡ Ok file → is_base_for reference (sound_located file) ≡ false → false ≡ leads_at o content sought reference
leads-other o content sought reference n block file is some read parsed other =
    sym (by-slot o content sought reference (sound_located file) (said-slot o content reference n block file is some read parsed)
    ∙ rw other refl)

base-is : (reference : ℕ) (file : FileRecord) → is_base_for reference (sound_located file) ≡ true → (file.head.base == 0) ≡ true
unfolding is_base_for
base-is reference file is = (and_parts (file.head.base == 0) (matches reference (target reference) file.head.sequence) is).0

pub leads-given : (o : Opened) (content : List ℕ) (sought : Sought) (reference n : ℕ) (block : List ℕ) (file : FileRecord) (result : Result Bool CheckFault) → n ≡ target reference → 0 < o.geometry.record_size
    → read_of o.geometry o.map (cluster_at content o.geometry.cluster) n ≡ Ok block → parse_of block ≡ Ok file → is_base_for reference (sound_located file) ≡ true
    → IfOk result (λ is. is ≡ have_sought false sought (extents_in n file_name_kind [] (file_lists o.geometry (cluster_at content o.geometry.cluster) file) (sound_located file) (records_in o content)))
    → IfOk result (λ is. is ≡ leads_at o content sought reference)
leads-given o content sought reference n block file result is some read parsed base given =
    let f = cluster_at content o.geometry.cluster in
    let slots = records_in o content in
    let slot = said-slot o content reference n block file is some read parsed in
    let first = base-is reference file base in
    given-as result _ _
    (ap (λ (k : ℕ). have_sought false sought (extents_in k file_name_kind [] (file_lists o.geometry f file) (sound_located file) slots)) is
    ∙ ap (λ listing. have_sought false sought (extents_in (target reference) file_name_kind [] listing (sound_located file) slots)) (sym (lists-file o.geometry f slots (target reference) file slot))
    ∙ sym (by-slot o content sought reference (sound_located file) slot ∙ rw (base, first) refl))
    given

-- ---- the entries of a walk

have-same : {P : Type 0} (sought : Sought) (found : Result (List (Extent P)) VolumeFault) → have_name sought.directory sought.sequence sought.key.now found ≡ have_sought false sought found
have-same sought (Ok found) = refl
have-same sought (Err fault) = refl

leads-same : (o : Opened) (content : List ℕ) (sought : Sought) (entry : IndexEntry) → entry.key ≡ sought.key.now
    → leads_to_name (lists_of o.geometry (cluster_at content o.geometry.cluster) (records_in o content)) (records_in o content) sought.directory sought.sequence entry ≡ leads_at o content sought entry.reference
unfolding leads_to_name leads_at
leads-same o content sought entry key =
    let found = extents (lists_of o.geometry (cluster_at content o.geometry.cluster) (records_in o content)) (records_in o content) (target entry.reference) file_name_kind [] in
    ap (λ (k : List ℕ). names_base (records_in o content) entry.reference && have_name sought.directory sought.sequence k found) key
    ∙ ap (λ b. names_base (records_in o content) entry.reference && b) (have-same sought found)

module _ (o : Opened) (content : List ℕ) (d sequence : ℕ) where
  pub lead-end : true ≡ all_lead o content d sequence whole
  unfolding all_lead
  lead-end = refl

  pub lead-fault : (fault : VolumeFault) → true ≡ all_lead o content d sequence (only_refused fault)
  unfolding all_lead
  lead-fault fault = refl

  lead-first : (sought : Sought) (entry : IndexEntry) (walk : DirectoryWalk) → sought.directory ≡ d → sought.sequence ≡ sequence → entry.key ≡ sought.key.now
      → all_lead o content d sequence (entry_before entry walk) ≡ (leads_at o content sought entry.reference && all_lead o content d sequence walk)
  unfolding all_lead
  lead-first sought entry walk number_is sequence_is key =
      let leads : ℕ → ℕ → Bool = λ n q. leads_to_name (lists_of o.geometry (cluster_at content o.geometry.cluster) (records_in o content)) (records_in o content) n q entry in
      ap (λ b. b && all_lead o content d sequence walk)
      (ap (λ (n : ℕ). leads n sequence) (sym number_is) ∙ ap (leads sought.directory) (sym sequence_is) ∙ leads-same o content sought entry key)

  pub lead-refused : (sought : Sought) (entry : IndexEntry) (walk : DirectoryWalk) (leads : Bool) → sought.directory ≡ d → sought.sequence ≡ sequence → entry.key ≡ sought.key.now
      → leads ≡ leads_at o content sought entry.reference → leads ≡ false → false ≡ all_lead o content d sequence (entry_before entry walk)
  lead-refused sought entry walk leads number_is sequence_is key is other =
      sym (lead-first sought entry walk number_is sequence_is key ∙ ap (λ b. b && all_lead o content d sequence walk) (sym is ∙ other))

  pub lead-taken : (sought : Sought) (entry : IndexEntry) (walk : DirectoryWalk) (leads : Bool) → sought.directory ≡ d → sought.sequence ≡ sequence → entry.key ≡ sought.key.now
      → leads ≡ leads_at o content sought entry.reference → leads ≡ true → all_lead o content d sequence (entry_before entry walk) ≡ all_lead o content d sequence walk
  lead-taken sought entry walk leads number_is sequence_is key is holds =
      lead-first sought entry walk number_is sequence_is key ∙ ap (λ b. b && all_lead o content d sequence walk) (sym is ∙ holds)
