-- Gathering a record that was read, or can't be.
use Rattle.std.proofs.Common.{◌≡◌, ◌<◌, ◌+◌, ◌==◌, ℕ, Bool, true, false, List, [], ◌∷◌, length, map, Result, Ok, Err, refl, sym, ap, ◌∙◌, inl, inr}
use Rattle.std.proofs.Common.{arith}
use Rattle.std.proofs.lemmas.Bool.Decides.{nat_tests}
use Rattle.ntfs_base.specs.Frames.{must, ◌>>=◌}
use Rattle.ntfs_boot.specs.declared.geometry.Geometry.{Geometry}
use Rattle.ntfs_record.specs.Attribute.{attribute_of}
use Rattle.ntfs_record.specs.FileRecord.{Attribute, FileRecord, Laid}
use Rattle.ntfs_record.specs.Parsing.{parse_of}
use Rattle.ntfs_record.specs.Slots.{Slot}
use Rattle.ntfs_record.specs.Views.{placed_from}
use Rattle.ntfs_runs.specs.Cells.{Cells}
use Rattle.ntfs_volume.specs.Gather.{Extent, bad_record, extents, extents_in}
use Rattle.ntfs_volume.specs.Gathering.{cell_slot, file_lists, stream_in_file}
use Rattle.ntfs_volume.specs.Listing.{RecordListing, filled_attributes, listing_in}
use Rattle.ntfs_volume.specs.Located.{Located, located_of, slot_at, slots_of, sound_located, unlocated, with_cells}
use Rattle.ntfs_volume.specs.MftMap.{Map}
use Rattle.ntfs_volume.specs.Records.{read_of}
use Rattle.ntfs_volume.specs.Streams.{Gathered, gather, gather_of, lists_of, part_of, stream_of}
use Rattle.ntfs_volume.specs.declared.fault.VolumeFault.{VolumeFault}
use Rattle.ntfs_volume.specs.declared.fault.VolumeFault.TheVariants as volume
use Rattle.ntfs_volume.proofs.GatherLemmas.{IsFaulty, slot-faulty, slot-read, slot-said}

-- places are forgotten
placed-unlocated : (place : ℕ) (raws : List (List ℕ)) → map unlocated (map located_of (placed_from place raws)) ≡ map attribute_of raws
placed-unlocated place [] = refl
placed-unlocated place (raw ∷ raws) = ap (λ (rest : List (Attribute (Laid (List ℕ)))). attribute_of raw ∷ rest) (placed-unlocated (place + length raw) raws)

-- what a slot that says this says of its list
lists-file : (g : Geometry) (f : ℕ → List ℕ) (slots : List (Slot (Located (Laid (List ℕ))))) (r : ℕ) (file : FileRecord) → slot_at slots r ≡ sound_located file
    → lists_of g f slots r ≡ file_lists g f file
lists-file g f slots r file is =
    ap (λ (s : Slot (Located (Laid (List ℕ)))). listing_in g.cluster (filled_attributes g.clusters f (map unlocated s.attributes))) is
    ∙ ap (λ attributes. listing_in g.cluster (filled_attributes g.clusters f attributes)) (placed-unlocated file.layout.first_attribute file.raws)

abbrev bad : ℕ → VolumeFault
bad r = bad_record r

abbrev base_stream : ℕ → ℕ → ℕ → List ℕ → RecordListing → List (Slot (Located (Laid (Cells ℕ)))) → Slot (Located (Laid (Cells ℕ))) → Result (Gathered ℕ) VolumeFault
base_stream c r kind name listing slots slot =
    (must slot.is_live volume.Absent >>= (λ _. must slot.is_sound (bad r) >>= (λ _. must (slot.head.base == 0) volume.Absent >>= (λ _. extents_in r kind name listing slot slots)))) >>= (λ found. stream_of c r (map part_of found))

own-step : (base : Bool) (found : Result (List (Extent (Located (Laid (Cells ℕ))))) VolumeFault) (c r : ℕ) → base ≡ true
    → ((must base volume.Absent >>= (λ _. found)) >>= (λ found. stream_of c r (map part_of found))) ≡ (found >>= (λ found. stream_of c r (map part_of found)))
own-step true found c r is = refl
own-step false found c r is = absurd cc

other-step : (base : Bool) (found : Result (List (Extent (Located (Laid (Cells ℕ))))) VolumeFault) (c r : ℕ) → base ≡ false
    → ((must base volume.Absent >>= (λ _. found)) >>= (λ found. stream_of c r (map part_of found))) ≡ Err volume.Absent
other-step false found c r is = refl
other-step true found c r is = absurd cc

by-slot : (g : Geometry) (m : Map) (f : ℕ → List ℕ) (r kind : ℕ) (name : List ℕ) (slot : Slot (Located (Laid (Cells ℕ)))) → slot_at (with_cells g.clusters (slots_of g m f)) r ≡ slot
    → gather_of g m f r kind name ≡ base_stream g.cluster r kind name (lists_of g f (slots_of g m f) r) (with_cells g.clusters (slots_of g m f)) slot
unfolding gather_of gather extents
by-slot g m f r kind name slot is =
    ap (base_stream g.cluster r kind name (lists_of g f (slots_of g m f) r) (with_cells g.clusters (slots_of g m f))) is

-- a base record that was read
pub gather-file : (g : Geometry) (m : Map) (f : ℕ → List ℕ) (r kind : ℕ) (name b : List ℕ) (file : FileRecord) → 0 < g.record_size → read_of g m f r ≡ Ok b → parse_of b ≡ Ok file
    → (file.head.base == 0) ≡ true
    → gather_of g m f r kind name ≡ stream_in_file g.cluster r kind name (file_lists g f file) (cell_slot g.clusters file) (with_cells g.clusters (slots_of g m f))
unfolding stream_in_file
gather-file g m f r kind name b file some read is base =
    by-slot g m f r kind name (cell_slot g.clusters file) (slot-read g m f r b file some read is)
    ∙ own-step (file.head.base == 0) (extents_in r kind name (lists_of g f (slots_of g m f) r) (cell_slot g.clusters file) (with_cells g.clusters (slots_of g m f))) g.cluster r base
    ∙ ap (λ listing. extents_in r kind name listing (cell_slot g.clusters file) (with_cells g.clusters (slots_of g m f)) >>= (λ found. stream_of g.cluster r (map part_of found))) (lists-file g f (slots_of g m f) r file (slot-said g m f r b file some read is))

-- one that has a base
pub gather-extension : (g : Geometry) (m : Map) (f : ℕ → List ℕ) (r kind : ℕ) (name b : List ℕ) (file : FileRecord) → 0 < g.record_size → read_of g m f r ≡ Ok b → parse_of b ≡ Ok file
    → (file.head.base == 0) ≡ false → gather_of g m f r kind name ≡ Err volume.Absent
gather-extension g m f r kind name b file some read is base =
    by-slot g m f r kind name (cell_slot g.clusters file) (slot-read g m f r b file some read is)
    ∙ other-step (file.head.base == 0) (extents_in r kind name (lists_of g f (slots_of g m f) r) (cell_slot g.clusters file) (with_cells g.clusters (slots_of g m f))) g.cluster r base

faulty-stream : (c r kind : ℕ) (name : List ℕ) (listing : RecordListing) (slots : List (Slot (Located (Laid (Cells ℕ))))) (slot : Slot (Located (Laid (Cells ℕ)))) (fault : VolumeFault) → IsFaulty r slot fault
    → base_stream c r kind name listing slots slot ≡ Err fault
faulty-stream c r kind name listing slots slot fault (inl absent) = rw absent.1 (ap Err (sym absent.0))
faulty-stream c r kind name listing slots slot fault (inr wrong) = rw (wrong.1.0, wrong.1.1) (ap Err (sym wrong.0))

-- one that can't be read
pub gather-faulty : (g : Geometry) (m : Map) (f : ℕ → List ℕ) (r kind : ℕ) (name : List ℕ) (fault : VolumeFault) → 0 < g.record_size → read_of g m f r ≡ Err fault
    → gather_of g m f r kind name ≡ Err fault
gather-faulty g m f r kind name fault some read =
    by-slot g m f r kind name (slot_at (with_cells g.clusters (slots_of g m f)) r) refl
    ∙ faulty-stream g.cluster r kind name (lists_of g f (slots_of g m f) r) (with_cells g.clusters (slots_of g m f)) (slot_at (with_cells g.clusters (slots_of g m f)) r) fault (slot-faulty g m f r fault some read)

pub not-base : (a b : ℕ) → a ≡ b → (a ≡ 0 → ⊥) → (b == 0) ≡ false
not-base a b same other = grind (arith, nat_tests)

pub is-base : (a b : ℕ) → a ≡ b → a ≡ 0 → (b == 0) ≡ true
is-base a b same zero_is = grind (arith, nat_tests)
