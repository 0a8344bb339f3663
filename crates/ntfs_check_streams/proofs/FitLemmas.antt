-- What each attribute of a volume keeps: it doesn't end before it begins, and its cells are those of its VCNs.
use Rattle.std.proofs.Common.{◌≡◌, ◌≤◌, ◌+◌, ◌++◌, ℕ, zero, suc, Bool, true, false, List, [], ◌∷◌, length, map, Option, Some, None, Result, Ok, Err, refl, sym, subst, ◌∙◌, arith, if◌then◌else◌}
use Rattle.std.specs.Prelude.{find}
use Rattle.std.specs.List.{AllByRecursion}
use Rattle.ntfs_check_streams.proofs.JoinLemmas.{AreFit, CellExtent, IsFit}
use Rattle.ntfs_check_streams.specs.Asked.{KeepsEleven, clusters_read, lists_in}
use Rattle.ntfs_fixup.specs.Fixups.{unfix_of}
use Rattle.ntfs_fixup.specs.declared.header.Magic.TheVariants.{File}
use Rattle.ntfs_fixup.specs.declared.unfixing.FixFault.{FixFault}
use Rattle.ntfs_record.proofs.RawLemmas.{all_raws, raw-lies}
use Rattle.ntfs_record.proofs.RecordLemmas.{found_lem}
use Rattle.ntfs_record.proofs.StandsLemmas.{raw-is}
use Rattle.ntfs_record.specs.Attribute.{IsRaw, attribute_of}
use Rattle.ntfs_record.specs.Face.{Face}
use Rattle.ntfs_record.specs.FileRecord.{Attribute, FileRecord, Head, Laid}
use Rattle.ntfs_record.specs.Layout.{in_use_of}
use Rattle.ntfs_record.specs.Parsing.{parse_of}
use Rattle.ntfs_record.specs.Slots.{Slot, begins_baad, first_not, if_parsed, if_unfixed, is_in_use, map_slots, record_in, tells_own}
use Rattle.ntfs_record.specs.Views.{placed_from}
use Rattle.ntfs_record.specs.declared.fault.RecordFault.{RecordFault}
use Rattle.ntfs_rules.proofs.DataLemmas.{c7-is}
use Rattle.ntfs_rules.proofs.PairingLemmas.{all-at, all-both, all-tested}
use Rattle.ntfs_rules.specs.Files.{lead_of, list_extents}
use Rattle.ntfs_rules.specs.VolumeData.{volume_data}
use Rattle.ntfs_runs.specs.Cells.{Cells}
use Rattle.ntfs_survey.proofs.OwnedLemmas.{celled}
use Rattle.ntfs_survey.specs.Owned.{has_cells, have_cells}
use Rattle.ntfs_volume.proofs.ExtentsLemmas.{all-weaker, members}
use Rattle.ntfs_volume.specs.Gather.{extent_at, extents, id_of, is_of}
use Rattle.ntfs_volume.specs.Laws.{IsMember}
use Rattle.ntfs_volume.specs.Listing.{is_list}
use Rattle.ntfs_volume.specs.Located.{Located, idle, live_located, located_of, located_slot, slot_at, slots_from, slots_of, sound_located, unsound_located, with_cells}
use Rattle.ntfs_volume.specs.Opened.{Opened}
use Rattle.ntfs_volume.specs.Records.{raw_record}

-- ---- it doesn't end before it begins

abbrev Spans : Face → Type 0
Spans face = face.lowest ≤ face.next

raw-spans : (raw : List ℕ) → IsRaw raw → Spans (attribute_of raw).face
raw-spans raw is = (raw-lies raw is).next

placed-spans : (place : ℕ) (raws : List (List ℕ)) → AllByRecursion (λ raw. Spans (attribute_of raw).face) raws
    → AllByRecursion (λ (a : Attribute (Located (Laid (List ℕ)))). Spans a.face) (map located_of (placed_from place raws))
placed-spans place [] all = tt
placed-spans place (raw ∷ raws) all = (all.0, placed-spans (place + length raw) raws all.1)

abbrev HaveSpans : {P : Type 0} → Slot P → Type 0
HaveSpans {P} s = AllByRecursion (λ (a : Attribute P). Spans a.face) s.attributes

own-spans : (own : Bool) (file : FileRecord) → HaveSpans (sound_located file) → HaveSpans (if own then sound_located file else unsound_located)
own-spans true file all = all
own-spans false file all = tt

file-spans : (bytes : List ℕ) (said : Result FileRecord RecordFault) → said ≡ parse_of bytes → (n : ℕ) → HaveSpans (live_located n (if_parsed said))
file-spans bytes (Err fault) is n = tt
file-spans bytes (Ok file) is n =
    let found = found_lem bytes (Ok file) is in
    let within : in_use_of bytes ≤ length bytes = omega (arith, found.header.in_use, found.header.allocated) in
    let all = all_raws (λ raw. Spans (attribute_of raw).face) (in_use_of bytes) bytes _ file.raws found.attributes.last
    (λ p sound kind. raw-spans _ (raw-is (in_use_of bytes) p bytes within sound kind)) found.attributes.follow in
    own-spans (tells_own n file.layout.number) file (placed-spans file.layout.first_attribute file.raws all)

block-spans : (block : Result (List ℕ) FixFault) (n : ℕ) → HaveSpans (live_located n (if_unfixed block))
block-spans (Err fault) n = tt
block-spans (Ok block) n = file-spans block (parse_of block) refl n

slot-by : (live : Bool) (n : ℕ) (raw : List ℕ) → HaveSpans (if live then live_located n (record_in raw) else idle (begins_baad raw))
unfolding record_in
slot-by true n raw = block-spans (unfix_of File raw) n
slot-by false n raw = tt

slot-spans : (n : ℕ) (raw : Option (List ℕ)) → HaveSpans (located_slot n raw)
unfolding located_slot
slot-spans n None = tt
slot-spans n (Some raw) = slot-by (is_in_use raw) n raw

celled-spans : (n r : ℕ) (h : Head) (them : List (Attribute (Located (Laid (List ℕ))))) → AllByRecursion (λ (a : Attribute (Located (Laid (List ℕ)))). Spans a.face) them
    → AllByRecursion (λ (a : Attribute (Located (Laid (Cells ℕ)))). Spans a.face) (map (celled n r h) them)
celled-spans n r h [] all = tt
celled-spans n r h (a ∷ them) all = (all.0, celled-spans n r h them all.1)

slots-spans : (n r k count i : ℕ) (slot : ℕ → Slot (Located (Laid (List ℕ)))) → ((j : ℕ) → HaveSpans (slot j)) → HaveSpans (slot_at (map_slots (celled n) r (slots_from slot k count)) i)
unfolding slots_from slot_at
slots-spans n r k zero i slot all = tt
slots-spans n r k (suc count) zero slot all = celled-spans n r (slot k).head (slot k).attributes (all k)
slots-spans n r k (suc count) (suc i) slot all = slots-spans n (suc r) (suc k) count i slot all

volume-spans : (o : Opened) (f : ℕ → List ℕ) (i : ℕ) → HaveSpans (slot_at (clusters_read o f) i)
unfolding with_cells slots_of
volume-spans o f i =
    slots-spans o.geometry.clusters 0 0 _ i (λ n. located_slot n (raw_record o.geometry o.map f n)) (λ n. slot-spans n (raw_record o.geometry o.map f n))

-- ---- its cells

passed-step : (b : Bool) (rest : Option ℕ) (n : ℕ) → (if b then rest else Some n) ≡ None → (b ≡ true) × (rest ≡ None)
passed-step true rest n is = (refl, is)
passed-step false rest n is = absurd cc

cells-each : (n i : ℕ) (slots : List (Slot (Located (Laid (Cells ℕ))))) → first_not (λ r s. have_cells s) n slots ≡ None → have_cells (slot_at slots i) ≡ true
unfolding slot_at
cells-each n i [] none = refl
cells-each n zero (s ∷ slots) none = (passed-step (have_cells s) (first_not (λ r s. have_cells s) (suc n) slots) n none).0
cells-each n (suc i) (s ∷ slots) none = cells-each (suc n) i slots (passed-step (have_cells s) (first_not (λ r s. have_cells s) (suc n) slots) n none).1

abbrev AreFitIn : Slot (Located (Laid (Cells ℕ))) → Type 0
AreFitIn s = AllByRecursion IsFit s.attributes

pub slot-fit : (o : Opened) (f : ℕ → List ℕ) (i : ℕ) → KeepsEleven (volume_data o f) → AreFitIn (slot_at (clusters_read o f) i)
slot-fit o f i keeps =
    let slots = clusters_read o f in
    all-both (λ (a : Attribute (Located (Laid (Cells ℕ)))). has_cells a ≡ true) (λ a. Spans a.face) IsFit (λ a cells spans. record { right = cells; spans = spans }) (slot_at slots i).attributes
    (all-tested has_cells (slot_at slots i).attributes (cells-each 0 i slots (sym (c7-is o f) ∙ keeps.cells))) (volume-spans o f i)

-- ---- extents

fit-found : (o : Opened) (f : ℕ → List ℕ) (r kind : ℕ) (name : List ℕ) (found : List CellExtent) → KeepsEleven (volume_data o f) → extents (lists_in o f) (clusters_read o f) r kind name ≡ Ok found → AreFit found
fit-found o f r kind name found keeps is =
    all-weaker (IsMember (clusters_read o f) r) (λ (e : CellExtent). IsFit e.attribute)
    (λ e member. all-at IsFit (slot_at (clusters_read o f) e.number).attributes e.attribute (slot-fit o f e.number keeps) member.attribute)
    found (members (lists_in o f) (clusters_read o f) r kind name found is)

found-step : {A : Type 0} (P : A → Type 0) (b : Bool) (x y : A) (rest : Option A) → P x → (rest ≡ Some y → P y) → (if b then Some x else rest) ≡ Some y → P y
found-step P true x y rest px later is = let same : x ≡ y = cc in subst P same px
found-step P false x y rest px later is = later is

find-all : {A : Type 0} (P : A → Type 0) (test : A → Bool) (xs : List A) (y : A) → AllByRecursion P xs → find test xs ≡ Some y → P y
find-all P test [] y all is = absurd cc
find-all P test (x ∷ xs) y all is = found-step P (test x) x y (find test xs) all.0 (find-all P test xs y all.1) is

lead-if : (b : Bool) (e : CellExtent) → IsFit e.attribute → AreFit (if b then e ∷ [] else [])
lead-if true e fit = (fit, tt)
lead-if false e fit = tt

lead-by : (r kind : ℕ) (name : List ℕ) (s : Slot (Located (Laid (Cells ℕ)))) (lead : Option (Attribute (Located (Laid (Cells ℕ))))) → ((a : Attribute (Located (Laid (Cells ℕ)))) → lead ≡ Some a → IsFit a)
    → AreFit (lead_of r kind name s lead)
lead-by r kind name s None fit = tt
lead-by r kind name s (Some a) fit = lead-if (is_of kind name (id_of a.face)) (extent_at r s.head a) (fit a refl)

lead-fit : (r kind : ℕ) (name : List ℕ) (s : Slot (Located (Laid (Cells ℕ)))) → AreFitIn s → AreFit (list_extents r kind name s)
unfolding list_extents
lead-fit r kind name s fit =
    lead-by r kind name s (find (λ (a : Attribute (Located (Laid (Cells ℕ)))). is_list a.face) s.attributes)
    (λ a is. find-all IsFit (λ (a : Attribute (Located (Laid (Cells ℕ)))). is_list a.face) s.attributes a fit is)

fit-append : (xs ys : List CellExtent) → AreFit xs → AreFit ys → AreFit (xs ++ ys)
fit-append [] ys front back = back
fit-append (x ∷ xs) ys front back = (front.0, fit-append xs ys front.1 back)

pub all-fit : (o : Opened) (f : ℕ → List ℕ) (r kind : ℕ) (name : List ℕ) (s : Slot (Located (Laid (Cells ℕ)))) → KeepsEleven (volume_data o f) → slot_at (clusters_read o f) r ≡ s
    → (es : List CellExtent) → extents (lists_in o f) (clusters_read o f) r kind name ≡ Ok es → AreFit (list_extents r kind name s ++ es)
all-fit o f r kind name s keeps is es found =
    fit-append (list_extents r kind name s) es (lead-fit r kind name s (subst AreFitIn is (slot-fit o f r keeps))) (fit-found o f r kind name es keeps found)
