-- Rule C12 of one type and name of a base record, as the code asks it.
use Rattle.std.proofs.Common.{◌≡◌, ◌+◌, ◌==◌, ℕ, Bool, true, false, List, [], ◌∷◌, length, map, Option, Some, None, Result, Ok, Err, refl, ap, ◌∙◌, if◌then◌else◌}
use Rattle.std.specs.Prelude.{filter, find}
use Rattle.std.specs.Result.{result_map_both}
use Rattle.ntfs_boot.specs.declared.geometry.Geometry.{Geometry}
use Rattle.ntfs_check_streams.proofs.FitLemmas.{all-fit}
use Rattle.ntfs_check_streams.proofs.JoinLemmas.{CellExtent, found-joined}
use Rattle.ntfs_check_records.specs.Reading.{records_of}
use Rattle.ntfs_check_streams.specs.Asked.{KeepsEleven, celled, clusters_read, lists_in}
use Rattle.ntfs_check_streams.specs.Join.{are_joined, is_stream, join, join_all, join_lead, join_shown, face_span, spans_of}
use Rattle.ntfs_check_streams.specs.Said.{is_listed_stream, lead_in, shown_in}
use Rattle.ntfs_check_streams.specs.declared.join.Joined.{Joined}
use Rattle.ntfs_check_streams.specs.declared.join.Joined.TheVariants as joined
use Rattle.ntfs_record.specs.Attribute.{attribute_of}
use Rattle.ntfs_record.specs.FileRecord.{Attribute, FileRecord, Head, Laid}
use Rattle.ntfs_record.specs.Slots.{Slot, map_laid, on_payload}
use Rattle.ntfs_record.specs.Views.{Placed, Shown, placed_from, placed_of, shown_placed}
use Rattle.ntfs_rules.specs.Files.{is_in_stream, lead_of, list_extents}
use Rattle.ntfs_rules.specs.VolumeData.{volume_data}
use Rattle.ntfs_runs.specs.Cells.{Cells, cells_below}
use Rattle.ntfs_volume.proofs.GatherLemmas.{is-there, listing-told, ListingTold}
use Rattle.ntfs_volume.proofs.MappedLemmas.{extents-mapped}
use Rattle.ntfs_volume.specs.Gather.{Extent, Id, Lists, extent_at, extents, extents_in, id_of, is_of, listed_extents, mapped, own_extents}
use Rattle.ntfs_volume.specs.Gathering.{file_lists, shown_id}
use Rattle.ntfs_volume.specs.Listing.{RecordListing, filled_attributes, is_list, listing_in}
use Rattle.ntfs_volume.specs.ListViews.{list_bytes_of}
use Rattle.ntfs_volume.specs.Located.{Located, located_of, map_located, slot_at, sound_located, unlocated, with_cells}
use Rattle.ntfs_volume.specs.Opened.{Opened}
use Rattle.ntfs_volume.specs.Streams.{lists_of}
use Rattle.ntfs_volume.specs.Views.{is_wanted, told}
use Rattle.ntfs_volume.specs.declared.fault.VolumeFault.{VolumeFault}
use Rattle.ntfs_volume.specs.declared.wanted.Wanted.TheVariants as wanted

abbrev pub Record : Type 0
Record = Slot (Located (Laid (List ℕ)))

-- ---- what a record says of its list

placed-unlocated : (place : ℕ) (raws : List (List ℕ)) → map unlocated (map located_of (placed_from place raws)) ≡ map attribute_of raws
placed-unlocated place [] = refl
placed-unlocated place (raw ∷ raws) = ap (λ (rest : List (Attribute (Laid (List ℕ)))). attribute_of raw ∷ rest) (placed-unlocated (place + length raw) raws)

pub lists-file : (g : Geometry) (f : ℕ → List ℕ) (slots : List Record) (r : ℕ) (file : FileRecord) → slot_at slots r ≡ sound_located file
    → lists_of g f slots r ≡ file_lists g f file
lists-file g f slots r file is =
    ap (λ (s : Record). listing_in g.cluster (filled_attributes g.clusters f (map unlocated s.attributes))) is
    ∙ ap (λ (attributes : List (Attribute (Laid (List ℕ)))). listing_in g.cluster (filled_attributes g.clusters f attributes)) (placed-unlocated file.layout.first_attribute file.raws)

-- ---- the list in front

abbrev pub celled_attributes : ℕ → Head → List Placed → List (Attribute (Located (Laid (Cells ℕ))))
celled_attributes n h ps = map (on_payload (map_located (map_laid (cells_below n))) 0 h) (map located_of ps)

lead-if : (c kind : ℕ) (b : Bool) (e : CellExtent) → join_all kind joined.Nothing (spans_of (if b then e ∷ [] else [])) ≡ (if b then join kind joined.Nothing (face_span e.attribute.face) else joined.Nothing)
unfolding join_all
lead-if c kind true e = refl
lead-if c kind false e = refl

lead-same : (n r kind : ℕ) (name : List ℕ) (s : Slot (Located (Laid (Cells ℕ)))) (h : Head) (place : ℕ) (raws : List (List ℕ))
    → join_all kind joined.Nothing (spans_of (lead_of r kind name s (find (λ (a : Attribute (Located (Laid (Cells ℕ)))). is_list a.face) (celled_attributes n h (placed_from place raws)))))
    ≡ join_lead kind name (find (is_wanted wanted.List) (map told (map attribute_of raws)))
unfolding join_all
lead-same n r kind name s h place [] = refl
lead-same n r kind name s h place (raw ∷ raws) = step ((attribute_of raw).face.kind == 0x20) (lead-same n r kind name s h (place + length raw) raws)
  where
    a : Attribute (Located (Laid (Cells ℕ)))
    a = on_payload (map_located (map_laid (cells_below n))) 0 h (located_of (record { place = place; raw = raw }))

    rest : Option (Attribute (Located (Laid (Cells ℕ))))
    rest = find (λ (a : Attribute (Located (Laid (Cells ℕ)))). is_list a.face) (celled_attributes n h (placed_from (place + length raw) raws))

    others : Option Shown
    others = find (is_wanted wanted.List) (map told (map attribute_of raws))

    step : (b : Bool) → join_all kind joined.Nothing (spans_of (lead_of r kind name s rest)) ≡ join_lead kind name others
        → join_all kind joined.Nothing (spans_of (lead_of r kind name s (if b then Some a else rest))) ≡ join_lead kind name (if b then Some (told (attribute_of raw)) else others)
    step true same = lead-if 0 kind (is_of kind name (id_of a.face)) (extent_at r s.head a)
    step false same = same

lead-joined : (n r kind : ℕ) (name : List ℕ) (file : FileRecord) → join_all kind joined.Nothing (spans_of (list_extents r kind name (celled n (sound_located file)))) ≡ join_lead kind name (lead_in file)
unfolding list_extents
lead-joined n r kind name file = lead-same n r kind name (celled n (sound_located file)) file.head file.layout.first_attribute file.raws

-- ---- extents without cells

spans-mapped : (n : ℕ) (es : List (Extent (Located (Laid (List ℕ))))) → spans_of (map (mapped (on_payload (map_located (map_laid (cells_below n))))) es) ≡ spans_of es
spans-mapped n [] = refl
spans-mapped n (e ∷ es) = ap (λ ss. face_span e.attribute.face ∷ ss) (spans-mapped n es)

joined-mapped : (n c kind : ℕ) (before : Joined) (found : Result (List (Extent (Located (Laid (List ℕ))))) VolumeFault)
    → are_joined c kind before (result_map_both (map (mapped (on_payload (map_located (map_laid (cells_below n)))))) (λ fault. fault) found) ≡ are_joined c kind before found
joined-mapped n c kind before (Ok es) = ap (λ ss. is_stream c (join_all kind before ss)) (spans-mapped n es)
joined-mapped n c kind before (Err fault) = refl

cells-joined : (n c r kind : ℕ) (name : List ℕ) (before : Joined) (listings : Lists) (slots : List Record)
    → are_joined c kind before (extents listings (with_cells n slots) r kind name) ≡ are_joined c kind before (extents listings slots r kind name)
unfolding with_cells
cells-joined n c r kind name before listings slots =
    ap (are_joined c kind before) (extents-mapped (on_payload (map_located (map_laid (cells_below n)))) listings slots r kind name (λ r h a. refl))
    ∙ joined-mapped n c kind before (extents listings slots r kind name)

base-extents : (listings : Lists) (slots : List Record) (r kind : ℕ) (name : List ℕ) (file : FileRecord) → slot_at slots r ≡ sound_located file → (file.head.base == 0) ≡ true
    → extents listings slots r kind name ≡ extents_in r kind name (listings r) (sound_located file) slots
unfolding extents
base-extents listings slots r kind name file is base = rw (is, base) refl

-- ---- one type and name

-- those of a base record, as it says them
abbrev pub are_said : ℕ → ℕ → FileRecord → RecordListing → List Record → ℕ → List ℕ → Bool
are_said c r file listing slots kind name = are_joined c kind (join_lead kind name (lead_in file)) (extents_in r kind name listing (sound_located file) slots)

pub stream-said : (o : Opened) (f : ℕ → List ℕ) (r : ℕ) (file : FileRecord) (id : Id) → KeepsEleven (volume_data o f) → slot_at (records_of o f) r ≡ sound_located file
    → slot_at (clusters_read o f) r ≡ celled o.geometry.clusters (sound_located file) → (file.head.base == 0) ≡ true
    → is_in_stream o.geometry.cluster (lists_in o f) (clusters_read o f) r (celled o.geometry.clusters (sound_located file)) id
    ≡ are_said o.geometry.cluster r file (file_lists o.geometry f file) (records_of o f) id.kind id.name
unfolding is_in_stream
stream-said o f r file id keeps is with_is base =
    let c = o.geometry.cluster in
    let s = celled o.geometry.clusters (sound_located file) in
    found-joined c id.kind (list_extents r id.kind id.name s) (extents (lists_in o f) (clusters_read o f) r id.kind id.name) (all-fit o f r id.kind id.name s keeps with_is)
    ∙ ap (λ (before : Joined). are_joined c id.kind before (extents (lists_in o f) (clusters_read o f) r id.kind id.name)) (lead-joined o.geometry.clusters r id.kind id.name file)
    ∙ cells-joined o.geometry.clusters c r id.kind id.name (join_lead id.kind id.name (lead_in file)) (lists_in o f) (records_of o f)
    ∙ ap (are_joined c id.kind (join_lead id.kind id.name (lead_in file))) (base-extents (lists_in o f) (records_of o f) r id.kind id.name file is base)
    ∙ ap (λ listing. are_joined c id.kind (join_lead id.kind id.name (lead_in file)) (extents_in r id.kind id.name listing (sound_located file) (records_of o f))) (lists-file o.geometry f (records_of o f) r file is)

-- ---- with a list, and without one

pub said-listed : (c r : ℕ) (file : FileRecord) (listing : RecordListing) (slots : List Record) (kind : ℕ) (name : List ℕ) → listing.is_there ≡ true → listing.is_good ≡ true
    → are_said c r file listing slots kind name ≡ is_listed_stream c r file.head.sequence slots listing.entries (lead_in file) kind name
unfolding extents_in listed_extents is_listed_stream
said-listed c r file listing slots kind name there good = rw (there, good) refl

own-same : (c kind : ℕ) (name : List ℕ) (r : ℕ) (h : Head) (before : Joined) (ps : List Placed)
    → join_all kind before (spans_of (map (extent_at r h) (filter (λ (a : Attribute (Located (Laid (List ℕ)))). is_of kind name (id_of a.face)) (map located_of ps)))) ≡ join_shown kind name before (map shown_placed ps)
unfolding join_all join_shown
own-same c kind name r h before [] = refl
own-same c kind name r h before (p ∷ ps) = step (is_of kind name (shown_id (shown_placed p))) (own-same c kind name r h (join kind before (face_span (located_of p).face)) ps) (own-same c kind name r h before ps)
  where
    rest : List (Attribute (Located (Laid (List ℕ))))
    rest = filter (λ (a : Attribute (Located (Laid (List ℕ)))). is_of kind name (id_of a.face)) (map located_of ps)

    step : (b : Bool) → join_all kind (join kind before (face_span (located_of p).face)) (spans_of (map (extent_at r h) rest)) ≡ join_shown kind name (join kind before (face_span (located_of p).face)) (map shown_placed ps)
        → join_all kind before (spans_of (map (extent_at r h) rest)) ≡ join_shown kind name before (map shown_placed ps)
        → join_all kind before (spans_of (map (extent_at r h) (if b then located_of p ∷ rest else rest)))
        ≡ join_shown kind name (if b then join kind before (face_span (located_of p).face) else before) (map shown_placed ps)
    step true more same = more
    step false more same = same

no-lead : (o : Option Shown) (g : Geometry) (f : ℕ → List ℕ) (file : FileRecord) → ListingTold g f file o → (file_lists g f file).is_there ≡ false → o ≡ None
no-lead None g f file listing none = refl
no-lead (Some s) g f file listing none =
    let there : (file_lists g f file).is_there ≡ true = ap (λ (l : RecordListing). l.is_there) listing.2 ∙ is-there (list_bytes_of g f listing.0 file) in
    absurd (clash (file_lists g f file).is_there there none)
  where
    clash : (b : Bool) → b ≡ true → b ≡ false → ⊥
    clash b yes_ no_ = cc

said-own-by : (c r : ℕ) (file : FileRecord) (listing : RecordListing) (slots : List Record) (kind : ℕ) (name : List ℕ) (lead : Option Shown) → lead ≡ None → listing.is_there ≡ false
    → are_joined c kind (join_lead kind name lead) (extents_in r kind name listing (sound_located file) slots) ≡ is_stream c (join_shown kind name joined.Nothing (shown_in file))
unfolding extents_in own_extents
said-own-by c r file listing slots kind name lead none without =
    rw (none, without) (ap (is_stream c) (own-same c kind name r file.head joined.Nothing (placed_of file)))

pub said-own : (g : Geometry) (f : ℕ → List ℕ) (r : ℕ) (file : FileRecord) (slots : List Record) (kind : ℕ) (name : List ℕ) → (file_lists g f file).is_there ≡ false
    → are_said g.cluster r file (file_lists g f file) slots kind name ≡ is_stream g.cluster (join_shown kind name joined.Nothing (shown_in file))
said-own g f r file slots kind name without =
    said-own-by g.cluster r file (file_lists g f file) slots kind name (lead_in file) (no-lead (lead_in file) g f file (listing-told g f file (lead_in file) refl) without) without
