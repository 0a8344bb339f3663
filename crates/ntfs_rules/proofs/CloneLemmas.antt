-- An image with the same bytes in all owned clusters is the same volume.
use Rattle.std.proofs.Common.{◌≡◌, ◌≤◌, ◌<◌, ◌+◌, ◌*◌, ◌/◌, ◌++◌, ℕ, zero, suc, Bool, true, false, List, [], ◌∷◌, length, map, take, drop, Option, Some, None, Result, Ok, Err, refl, sym, ap, subst, ◌∙◌, arith, if◌then◌else◌, nat_le}
use Rattle.std.specs.Prelude.{find}
use Rattle.std.specs.List.{AllByRecursion, flat_map}
use Rattle.std.specs.Str.{bytes_eq}
use Rattle.std.proofs.lemmas.Bool.{le-leb, leb-true}
use Rattle.std.proofs.lemmas.Bool.Decides.{nat_tests}
use Rattle.std.proofs.lemmas.Nat.{mul-le}
use Rattle.ntfs_base.specs.Bytes.{Cluster, cluster_at, fill_cluster}
use Rattle.ntfs_base.specs.Checks.{first_wrong}
use Rattle.ntfs_base.specs.Frames.{must, refused_as, ◌>>=◌}
use Rattle.ntfs_base.proofs.BytesLemmas.{length-cluster_at}
use Rattle.ntfs_boot.proofs.GeometryLemmas.{sector_geometry-take}
use Rattle.ntfs_boot.specs.BootSector.{fields_of, oem_id_of, ntfs_id}
use Rattle.ntfs_boot.specs.Geometry.{boot_geometry, bytes_of_clusters, checks, cluster_count, geometry_in, geometry_of, image_fault, is_cluster_count, is_sector_count, is_sector_size, refusal_or, sector_geometry, volume_geometry}
use Rattle.ntfs_boot.specs.declared.geometry.BootFault.{BootFault}
use Rattle.ntfs_boot.specs.declared.geometry.BootFault.TheVariants as boot_error
use Rattle.ntfs_boot.specs.declared.geometry.Geometry.{Geometry}
use Rattle.ntfs_boot.specs.declared.volume.ImageFault.{ImageFault}
use Rattle.ntfs_boot.specs.declared.volume.ImageFault.TheVariants as image_error
use Rattle.ntfs_directory.specs.UpCase.{data_kind}
use Rattle.ntfs_record.specs.FileRecord.{Attribute, FileRecord, Head, Laid, attributes_of}
use Rattle.ntfs_record.specs.Attribute.{attribute_of}
use Rattle.ntfs_record.specs.Slots.{Slot, begins_baad, is_in_use, map_slot, map_slots, on_payload, record_in, tells_own}
use Rattle.ntfs_record.specs.Views.{placed_from}
use Rattle.ntfs_rules.proofs.ClearLemmas.{all-hold}
use Rattle.ntfs_rules.proofs.CountLemmas.{each-claim, each-cluster}
use Rattle.ntfs_rules.proofs.DataLemmas.{numbers-are}
use Rattle.ntfs_rules.proofs.PairingLemmas.{all-left, all-right}
use Rattle.ntfs_rules.proofs.OwnedLemmas.{BeginsTable, boot-owned, celled_slots, claims-are, claims-below, head-owned, table-begins_head, table-begun, table-owned}
use Rattle.ntfs_rules.specs.Accepts.{claims_in, fault_of}
use Rattle.ntfs_rules.specs.Clusters.{times}
use Rattle.ntfs_rules.specs.Laws.{HasOwner, HoldsOwned, IsWhole, data_in}
use Rattle.ntfs_rules.specs.VolumeData.{Records, VolumeData, listings, numbers, volume_data}
use Rattle.ntfs_runs.specs.Cells.{Cells, cells_below, map_cells}
use Rattle.ntfs_survey.proofs.AgreeLemmas.{agree-volume}
use Rattle.ntfs_survey.proofs.OwnedLemmas.{celled}
use Rattle.ntfs_survey.proofs.StreamLemmas.{volume-none}
use Rattle.ntfs_survey.specs.Laws.{HasNoCells, HaveNoCells}
use Rattle.ntfs_survey.specs.Owned.{Claim, attribute_claims, cell_claims, each_attribute, owned}
use Rattle.ntfs_volume.proofs.AnswerLemmas.{bind-ok, must-parts}
use Rattle.ntfs_volume.specs.Fault.{volume_fault}
use Rattle.ntfs_volume.proofs.ExtentsLemmas.{all-weaker, of-base}
use Rattle.ntfs_volume.proofs.ToldLemmas.{head-same, opened-agree, raw-within}
use Rattle.ntfs_volume.specs.Laws.{AgreeAt, HaveLength, IsBase, clusters_of_list, clusters_of_listing, head_bytes, in_located, in_slots, list_clusters}
use Rattle.ntfs_volume.specs.Listing.{is_list}
use Rattle.ntfs_volume.specs.Located.{Located, idle, live_located, located_attributes, located_of, located_slot, slot_at, slots_from, slots_of, sound_located, unlocated, unsound_located, with_cells}
use Rattle.ntfs_volume.specs.MftMap.{Map, head_clusters, live_record, mft_map}
use Rattle.ntfs_volume.specs.Opened.{Opened, opened_of}
use Rattle.ntfs_volume.specs.Records.{raw_record}
use Rattle.ntfs_volume.specs.StreamBytes.{clusters_in}
use Rattle.ntfs_volume.specs.Streams.{Gathered, gather, part_of, stream_of}
use Rattle.ntfs_volume.specs.Gather.{extents}
use Rattle.ntfs_volume.specs.declared.fault.VolumeFault.{VolumeFault}

-- ---- lists

pub agree-all : (f h : ℕ → List ℕ) (ks : List ℕ) → AllByRecursion (λ k. f k ≡ h k) ks → AgreeAt f h ks
agree-all f h [] all = tt
agree-all f h (k ∷ ks) all = (all.0, agree-all f h ks all.1)

pub agree-both : (f h : ℕ → List ℕ) (ks ls : List ℕ) → AgreeAt f h ks → AgreeAt f h ls → AgreeAt f h (ks ++ ls)
agree-both f h [] ls one two = two
agree-both f h (k ∷ ks) ls one two = (one.0, agree-both f h ks ls one.1 two)

-- ---- the cells

-- two images have the same bytes in the cluster of a claim
abbrev pub SameClaim : (ℕ → List ℕ) → (ℕ → List ℕ) → Claim ℕ → Type 0
SameClaim f h claim = f claim.cluster ≡ h claim.cluster

cells-fill : (f h : ℕ → List ℕ) (r place vcn : ℕ) (cells : List (Option ℕ)) → AllByRecursion (SameClaim f h) (cell_claims r place vcn cells)
    → map_cells (fill_cluster f) cells ≡ map_cells (fill_cluster h) cells
unfolding cell_claims
cells-fill f h r place vcn [] all = refl
cells-fill f h r place vcn (None ∷ cells) all = ap (λ (rest : List (Option Cluster)). None ∷ rest) (cells-fill f h r place (suc vcn) cells all)
cells-fill f h r place vcn (Some k ∷ cells) all =
    ap (λ (bytes : List ℕ). Some (record { number = k; bytes = bytes }) ∷ map_cells (fill_cluster f) cells) all.0
    ∙ ap (λ (rest : List (Option Cluster)). Some (fill_cluster h k) ∷ rest) (cells-fill f h r place (suc vcn) cells all.1)

fill-by : (resident : Bool) (f h : ℕ → List ℕ) (r place vcn : ℕ) (cells : List (Option ℕ)) → (resident ≡ true → cells ≡ [])
    → AllByRecursion (SameClaim f h) (if resident then [] else cell_claims r place vcn cells) → map_cells (fill_cluster f) cells ≡ map_cells (fill_cluster h) cells
fill-by true f h r place vcn cells none all = ap (map_cells (fill_cluster f)) (none refl) ∙ sym (ap (map_cells (fill_cluster h)) (none refl))
fill-by false f h r place vcn cells none all = cells-fill f h r place vcn cells all

abbrev filled : (ℕ → List ℕ) → ℕ → Head → Attribute (Located (Laid (Cells ℕ))) → Attribute (Located (Laid (Cells Cluster)))
filled f = on_payload (in_located (λ place. place) (fill_cluster f))

attribute-fill : (f h : ℕ → List ℕ) (r : ℕ) (head : Head) (a : Attribute (Located (Laid (Cells ℕ)))) → HasNoCells a → AllByRecursion (SameClaim f h) (attribute_claims r a)
    → filled f r head a ≡ filled h r head a
unfolding attribute_claims
attribute-fill f h r head a none all =
    ap (λ (cells : List (Option Cluster)). record {
      face = a.face;
      payload = record {
        place = a.payload.place;
        payload = record { spot = a.payload.payload.spot; runs = record { is_right = a.payload.payload.runs.is_right; cells = cells } };
      };
    }) (fill-by a.face.is_resident f h r a.payload.place a.face.lowest a.payload.payload.runs.cells none all)

attributes-fill : (f h : ℕ → List ℕ) (r : ℕ) (head : Head) (them : List (Attribute (Located (Laid (Cells ℕ))))) → AllByRecursion HasNoCells them
    → AllByRecursion (SameClaim f h) (flat_map (attribute_claims r) them) → map (filled f r head) them ≡ map (filled h r head) them
attributes-fill f h r head [] none all = refl
attributes-fill f h r head (a ∷ them) none all =
    ap (λ (x : Attribute (Located (Laid (Cells Cluster)))). x ∷ map (filled f r head) them)
    (attribute-fill f h r head a none.0 (all-left (SameClaim f h) (attribute_claims r a) (flat_map (attribute_claims r) them) all))
    ∙ ap (λ (rest : List (Attribute (Located (Laid (Cells Cluster))))). filled h r head a ∷ rest)
    (attributes-fill f h r head them none.1 (all-right (SameClaim f h) (attribute_claims r a) (flat_map (attribute_claims r) them) all))

with_own : {P : Type 0} → Slot (Located (Laid (Cells ℕ))) → List (Attribute P) → Slot P
with_own s attributes = record { is_live = s.is_live; is_sound = s.is_sound; is_baad = s.is_baad; head = s.head; attributes = attributes }

slots-fill : (f h : ℕ → List ℕ) (r : ℕ) (slots : Records ℕ) → HaveNoCells slots → AllByRecursion (SameClaim f h) (each_attribute attribute_claims r slots)
    → map_slots (filled f) r slots ≡ map_slots (filled h) r slots
unfolding each_attribute with_own
slots-fill f h r [] none all = refl
slots-fill f h r (s ∷ slots) none all =
    let front = flat_map (attribute_claims r) s.attributes in
    let rest = each_attribute attribute_claims (suc r) slots in
    ap (λ (attributes : List (Attribute (Located (Laid (Cells Cluster))))). with_own s attributes ∷ map_slots (filled f) (suc r) slots)
    (attributes-fill f h r s.head s.attributes none.0 (all-left (SameClaim f h) front rest all))
    ∙ ap (λ (them : Records Cluster). with_own s (map (filled h r s.head) s.attributes) ∷ them)
    (slots-fill f h (suc r) slots none.1 (all-right (SameClaim f h) front rest all))

-- ---- the volume as finite data

table-fill : (f h : ℕ → List ℕ) (ks : List ℕ) → AgreeAt f h ks → map (fill_cluster f) ks ≡ map (fill_cluster h) ks
table-fill f h [] are = refl
table-fill f h (k ∷ ks) are =
    ap (λ (bytes : List ℕ). record { number = k; bytes = bytes } ∷ map (fill_cluster f) ks) are.0
    ∙ ap (λ (rest : List Cluster). fill_cluster h k ∷ rest) (table-fill f h ks are.1)

data_by : Opened → List Cluster → Records Cluster → VolumeData
data_by o table slots = record { geometry = o.geometry; table = table; size = o.map.size; valid = o.map.valid; slots = slots }

data-agree : (o : Opened) (f h : ℕ → List ℕ) → AgreeAt f h o.map.clusters → AllByRecursion (SameClaim f h) (owned (celled_slots o f)) → volume_data o f ≡ volume_data o h
unfolding volume_data data_by
data-agree o f h table claims =
    let n = o.geometry.clusters in
    let cells = λ (k : ℕ → List ℕ). slots_of o.geometry o.map k in
    ap (λ (t : List Cluster). data_by o t (in_slots (λ place. place) (fill_cluster f) (with_cells n (cells f)))) (table-fill f h o.map.clusters table)
    ∙ ap (data_by o (map (fill_cluster h) o.map.clusters)) (slots-fill f h 0 (with_cells n (cells f)) (volume-none o.geometry o.map f) claims)
    ∙ ap (λ (slots : List (Slot (Located (Laid (List ℕ))))). data_by o (map (fill_cluster h) o.map.clusters) (in_slots (λ place. place) (fill_cluster h) (with_cells n slots)))
    (agree-volume o.geometry o.map f h table)

-- ---- the list of record 0

clusters-claimed : (P : ℕ → Type 0) (r place vcn : ℕ) (cells : List (Option ℕ)) → AllByRecursion (λ (c : Claim ℕ). P c.cluster) (cell_claims r place vcn cells) → AllByRecursion P (clusters_in cells)
unfolding cell_claims clusters_in
clusters-claimed P r place vcn [] all = tt
clusters-claimed P r place vcn (None ∷ cells) all = clusters-claimed P r place (suc vcn) cells all
clusters-claimed P r place vcn (Some k ∷ cells) all = (all.0, clusters-claimed P r place (suc vcn) cells all.1)

list-by : (resident : Bool) (P : ℕ → Type 0) (r place vcn : ℕ) (cells : List (Option ℕ)) → AllByRecursion (λ (c : Claim ℕ). P c.cluster) (if resident then [] else cell_claims r place vcn cells)
    → AllByRecursion P (if resident then [] else clusters_in cells)
list-by true P r place vcn cells all = tt
list-by false P r place vcn cells all = clusters-claimed P r place vcn cells all

found-by : (b : Bool) (P : ℕ → Type 0) (n : ℕ) (a : Attribute (Laid (List ℕ))) (rest : Option (Attribute (Laid (List ℕ)))) → AllByRecursion P (clusters_of_list n (Some a))
    → AllByRecursion P (clusters_of_list n rest) → AllByRecursion P (clusters_of_list n (if b then Some a else rest))
found-by true P n a rest one all = one
found-by false P n a rest one all = all

list-claimed : (P : ℕ → Type 0) (n r : ℕ) (h : Head) (them : List (Attribute (Located (Laid (List ℕ))))) → AllByRecursion (λ (c : Claim ℕ). P c.cluster) (flat_map (attribute_claims r) (map (celled n r h) them))
    → AllByRecursion P (list_clusters n (map unlocated them))
unfolding attribute_claims
list-claimed P n r h [] all = tt
list-claimed P n r h (a ∷ them) all =
    let is = λ (c : Claim ℕ). P c.cluster in
    let front = attribute_claims r (celled n r h a) in
    let rest = flat_map (attribute_claims r) (map (celled n r h) them) in
    found-by (is_list a.face) P n (unlocated a) (find (λ (b : Attribute (Laid (List ℕ))). is_list b.face) (map unlocated them))
    (list-by a.face.is_resident P r a.payload.place a.face.lowest (cells_below n a.payload.payload.runs).cells (all-left is front rest all))
    (list-claimed P n r h them (all-right is front rest all))

first-claims : (P : Claim ℕ → Type 0) (slots : Records ℕ) → AllByRecursion P (owned slots) → AllByRecursion P (flat_map (attribute_claims 0) (slot_at slots 0).attributes)
unfolding each_attribute slot_at
first-claims P [] all = tt
first-claims P (s ∷ slots) all = all-left P (flat_map (attribute_claims 0) s.attributes) (each_attribute attribute_claims 1 slots) all

-- ---- record 0

first-mapped : {P Q : Type 0} (f : ℕ → Head → Attribute P → Attribute Q) (slots : List (Slot P)) → slot_at (map_slots f 0 slots) 0 ≡ map_slot (f 0) (slot_at slots 0)
unfolding slot_at
first-mapped f [] = refl
first-mapped f (s ∷ slots) = refl

first-from : {P : Type 0} (slot : ℕ → Slot P) (count : ℕ) → (slot_at (slots_from slot 0 count) 0).is_live ≡ true → slot_at (slots_from slot 0 count) 0 ≡ slot 0
unfolding slot_at slots_from
first-from slot zero live = absurd cc
first-from slot (suc count) live = refl

-- a sound record in use says what stands in it
record SaysOf (raw : Option (List ℕ)) (slot : Slot (Located (Laid (List ℕ)))) : Type 0 where
  bytes : List ℕ
  file : FileRecord
  stands : raw ≡ Some bytes
  live : live_record bytes ≡ Some file
  says : slot ≡ sound_located file

own-says : (own : Bool) (file : FileRecord) → (if own then sound_located file else unsound_located).is_sound ≡ true → (if own then sound_located file else unsound_located) ≡ sound_located file
own-says true file sound = refl
own-says false file sound = absurd cc

said-says : (n : ℕ) (said : Option FileRecord) → (live_located n said).is_sound ≡ true → (file : FileRecord) × (said ≡ Some file) × (live_located n said ≡ sound_located file)
said-says n None sound = absurd cc
said-says n (Some file) sound = (file, refl, own-says (tells_own n file.layout.number) file sound)

used-says : (used baad : Bool) (n : ℕ) (said : Option FileRecord) → (if used then live_located n said else idle baad).is_live ≡ true → (if used then live_located n said else idle baad).is_sound ≡ true
    → (file : FileRecord) × ((if used then said else None) ≡ Some file) × ((if used then live_located n said else idle baad) ≡ sound_located file)
used-says true baad n said live sound = said-says n said sound
used-says false baad n said live sound = absurd cc

raw-says : (n : ℕ) (raw : Option (List ℕ)) → (located_slot n raw).is_live ≡ true → (located_slot n raw).is_sound ≡ true → SaysOf raw (located_slot n raw)
unfolding located_slot live_record
raw-says n None live sound = absurd cc
raw-says n (Some bytes) live sound =
    let parts = used-says (is_in_use bytes) (begins_baad bytes) n (record_in bytes) live sound in
    record { bytes = bytes; file = parts.0; stands = refl; live = parts.1; says = parts.2 }

gathered-base : (c r kind : ℕ) (name : List ℕ) (v : VolumeData) (s : Gathered ℕ) → gather c (listings v) (numbers v) r kind name ≡ Ok s → IsBase (numbers v) r
unfolding gather
gathered-base c r kind name v s is =
    let found = bind-ok (extents (listings v) (numbers v) r kind name) (λ es. stream_of c r (map part_of es)) s is in
    of-base (listings v) (numbers v) r kind name found.0 found.1

table-base : (o : Opened) (f : ℕ → List ℕ) → BeginsTable o f → IsBase (celled_slots o f) 0
table-base o f begun =
    subst (λ (slots : Records ℕ). IsBase slots 0) (numbers-are o f)
    (gathered-base (volume_data o f).geometry.cluster 0 data_kind [] (volume_data o f) begun.stream begun.gathered)

-- what record 0 says, by its slot with the numbers of its clusters
record SaysFirst (o : Opened) (f : ℕ → List ℕ) : Type 0 where
  bytes : List ℕ
  file : FileRecord
  stands : raw_record o.geometry o.map f 0 ≡ Some bytes
  live : live_record bytes ≡ Some file
  says : slot_at (celled_slots o f) 0 ≡ map_slot (celled o.geometry.clusters 0) (sound_located file)

first-by : (g : Geometry) (m : Map) (f : ℕ → List ℕ) → (slot_at (slots_of g m f) 0).is_live ≡ true → (slot_at (slots_of g m f) 0).is_sound ≡ true → SaysOf (raw_record g m f 0) (slot_at (slots_of g m f) 0)
unfolding slots_of
first-by g m f live sound =
    let slot = λ (n : ℕ). located_slot n (raw_record g m f n) in
    let same = first-from slot (m.valid / g.record_size) live in
    subst (λ (s : Slot (Located (Laid (List ℕ)))). SaysOf (raw_record g m f 0) s) (sym same)
    (raw-says 0 (raw_record g m f 0)
    (subst (λ (s : Slot (Located (Laid (List ℕ)))). s.is_live ≡ true) same live)
    (subst (λ (s : Slot (Located (Laid (List ℕ)))). s.is_sound ≡ true) same sound))

first-says : (o : Opened) (f : ℕ → List ℕ) → BeginsTable o f → SaysFirst o f
unfolding with_cells
first-says o f begun =
    let base = table-base o f begun in
    let same = first-mapped (celled o.geometry.clusters) (slots_of o.geometry o.map f) in
    let says = first-by o.geometry o.map f
    (subst (λ (s : Slot (Located (Laid (Cells ℕ)))). s.is_live ≡ true) same base.live)
    (subst (λ (s : Slot (Located (Laid (Cells ℕ)))). s.is_sound ≡ true) same base.sound) in
    record {
      bytes = says.bytes;
      file = says.file;
      stands = says.stands;
      live = says.live;
      says = same ∙ ap (map_slot (celled o.geometry.clusters 0)) says.says;
    }

plain-from : (place : ℕ) (raws : List (List ℕ)) → map unlocated (map located_of (placed_from place raws)) ≡ map attribute_of raws
plain-from place [] = refl
plain-from place (raw ∷ raws) = ap (λ (rest : List (Attribute (Laid (List ℕ)))). attribute_of raw ∷ rest) (plain-from (place + length raw) raws)

file-listed : (P : ℕ → Type 0) (n : ℕ) (file : FileRecord) (slot : Slot (Located (Laid (Cells ℕ)))) → slot ≡ map_slot (celled n 0) (sound_located file)
    → AllByRecursion (λ (c : Claim ℕ). P c.cluster) (flat_map (attribute_claims 0) slot.attributes) → AllByRecursion P (list_clusters n (attributes_of file))
file-listed P n file slot is all =
    let is_of = λ (c : Claim ℕ). P c.cluster in
    subst (λ (them : List (Attribute (Laid (List ℕ)))). AllByRecursion P (list_clusters n them)) (plain-from file.layout.first_attribute file.raws)
    (list-claimed P n 0 file.head (located_attributes file)
    (subst (λ (s : Slot (Located (Laid (Cells ℕ)))). AllByRecursion is_of (flat_map (attribute_claims 0) s.attributes)) is all))

-- ---- clusters of the image

inside : (n c k : ℕ) → k < n → k * c + c ≤ n * c
inside n c k below = let all = mul-le (k + 1) c n c (omega (arith, below)) (omega arith) in let one : (k + 1) * c ≡ k * c + c = omega arith in omega (arith, all, one)

long-clusters : (image : List ℕ) (n c : ℕ) (ks : List ℕ) → n * c ≤ length image → AllByRecursion (λ k. k < n) ks → HaveLength (cluster_at image c) c ks
long-clusters image n c [] long all = tt
long-clusters image n c (k ∷ ks) long all =
    (length-cluster_at image c k (let within = inside n c k all.0 in omega (arith, within, long)), long-clusters image n c ks long all.1)

-- ---- the boot sector

if-ok : {A E : Type 0} (b : Bool) (r : Result A E) (e : E) (x : A) → (if b then r else Err e) ≡ Ok x → r ≡ Ok x
if-ok true r e x is = is
if-ok false r e x is = absurd cc

or-ok : (o : Option BootFault) (g other : Geometry) → refusal_or o g ≡ Ok other → (o ≡ None) × (g ≡ other)
or-ok None g other is = (refl, let same : g ≡ other = cc in same)
or-ok (Some fault) g other is = absurd cc

least-sector : (n : ℕ) → is_sector_size n ≡ true → 512 ≤ n
unfolding is_sector_size
least-sector n is = grind (arith, nat_tests)

least-count : (n : ℕ) → is_sector_count n ≡ true → 1 ≤ n
unfolding is_sector_count
least-count n is = grind (arith, nat_tests)

least-clusters : (n : ℕ) → is_cluster_count n ≡ true → 1 ≤ n
unfolding is_cluster_count
least-clusters n is = grind (arith, nat_tests)

boot-least : (bytes : List ℕ) (g : Geometry) → boot_geometry (fields_of bytes) ≡ Ok g → (512 ≤ g.cluster) × (1 ≤ g.clusters)
unfolding boot_geometry
boot-least bytes g is =
    let b = fields_of bytes in
    let parts = or-ok (first_wrong (checks b)) (geometry_of b) g is in
    let all = all-hold (checks b) parts.0 in
    let sector = least-sector b.bytes_per_sector all.0 in
    let count = least-count b.sectors_per_cluster all.1.0 in
    let size = mul-le 512 1 b.bytes_per_sector b.sectors_per_cluster sector count in
    let clusters = least-clusters (cluster_count b) all.1.1.1.1.1.0 in
    subst (λ (g : Geometry). (512 ≤ g.cluster) × (1 ≤ g.clusters)) parts.1 (omega (arith, size), clusters)

sector-least : (bytes : List ℕ) (g : Geometry) → sector_geometry bytes ≡ Ok g → (512 ≤ g.cluster) × (1 ≤ g.clusters)
unfolding sector_geometry
sector-least bytes g is = boot-least bytes g (if-ok (bytes_eq (oem_id_of bytes) ntfs_id) (boot_geometry (fields_of bytes)) boot_error.NotNtfs g is)

refused-ok : {A E F : Type 0} (over : E → F) (r : Result A E) (x : A) → refused_as over r ≡ Ok x → r ≡ Ok x
refused-ok over (Ok y) x is = cc
refused-ok over (Err e) x is = absurd cc

volume-parts : (image : List ℕ) (g : Geometry) → volume_geometry image ≡ Ok g → (sector_geometry image ≡ Ok g) × (bytes_of_clusters g ≤ length image)
unfolding volume_geometry
volume-parts image g is =
    let len = length image in
    let end : Geometry → Result Geometry ImageFault = λ h. Ok h in
    let one = must-parts (nat_le 512 len) (image_error.ImageShort len 512) (geometry_in len image) g is in
    let two = bind-ok (refused_as image_fault (sector_geometry image)) (λ h. must (nat_le (bytes_of_clusters h) len) (image_error.ImageShort len (bytes_of_clusters h)) >>= (λ _. end h)) g one.1 in
    let three = must-parts (nat_le (bytes_of_clusters two.0) len) (image_error.ImageShort len (bytes_of_clusters two.0)) (end two.0) g two.2 in
    let same : two.0 ≡ g = let given = three.1 in cc in
    (refused-ok image_fault (sector_geometry image) two.0 two.1 ∙ ap Ok same, subst (λ (h : Geometry). bytes_of_clusters h ≤ len) same (leb-true (bytes_of_clusters two.0) len three.0))

volume-from : (image : List ℕ) (g : Geometry) → sector_geometry image ≡ Ok g → 512 ≤ length image → bytes_of_clusters g ≤ length image → volume_geometry image ≡ Ok g
unfolding volume_geometry
volume-from image g is long room = rw (le-leb 512 (length image) long, is, le-leb (bytes_of_clusters g) (length image) room) refl

front-cluster : (image : List ℕ) (c : ℕ) → cluster_at image c 0 ≡ take c image
unfolding cluster_at
front-cluster image c = let none : 0 * c ≡ 0 = omega arith in ap (λ n. take c (drop n image)) none

sector-same : (image other : List ℕ) (c : ℕ) → 512 ≤ c → cluster_at other c 0 ≡ cluster_at image c 0 → sector_geometry other ≡ sector_geometry image
sector-same image other c long same =
    sym (sector_geometry-take c other long)
    ∙ ap sector_geometry (sym (front-cluster other c) ∙ same ∙ front-cluster image c)
    ∙ sector_geometry-take c image long

opened-geometry : (image : List ℕ) (o : Opened) → opened_of image ≡ Ok o → volume_geometry image ≡ Ok o.geometry
unfolding opened_of
opened-geometry image o is =
    let end : Geometry → Map → Result Opened VolumeFault = λ g table. Ok (record { geometry = g; map = table }) in
    let g = bind-ok (refused_as volume_fault (volume_geometry image)) (λ g. mft_map g (cluster_at image g.cluster) >>= end g) o is in
    let table = bind-ok (mft_map g.0 (cluster_at image g.0.cluster)) (end g.0) o g.2 in
    let same : ◌≡◌ {A = Opened} (record { geometry = g.0; map = table.0 }) o = let end_is = table.2 in cc in
    subst (λ (p : Opened). volume_geometry image ≡ Ok p.geometry) same (refused-ok volume_fault (volume_geometry image) g.0 g.1)

-- an image with room for the clusters, and the same boot sector, has the same geometry
geometry-same : (image other : List ℕ) (g : Geometry) → volume_geometry image ≡ Ok g → bytes_of_clusters g ≤ length other → cluster_at other g.cluster 0 ≡ cluster_at image g.cluster 0
    → volume_geometry other ≡ Ok g
geometry-same image other g is room same =
    let parts = volume-parts image g is in
    let least = sector-least image g parts.0 in
    let all = mul-le 1 512 g.clusters g.cluster least.1 least.0 in
    volume-from other g (sector-same image other g.cluster least.0 same ∙ parts.0) (omega (arith, all, room)) room

-- ---- the law

-- an image and another one that holds its owned clusters
record AreAlike (image other : List ℕ) (o : Opened) : Type 0 where
  claims : AllByRecursion (SameClaim (cluster_at image o.geometry.cluster) (cluster_at other o.geometry.cluster)) (owned (celled_slots o (cluster_at image o.geometry.cluster)))
  head : AgreeAt (cluster_at image o.geometry.cluster) (cluster_at other o.geometry.cluster) (head_clusters o.geometry)
  table : AgreeAt (cluster_at image o.geometry.cluster) (cluster_at other o.geometry.cluster) o.map.clusters
  boot : cluster_at other o.geometry.cluster 0 ≡ cluster_at image o.geometry.cluster 0

once-agree : (f h : ℕ → List ℕ) (v : VolumeData) (ks : List ℕ) → ((k : ℕ) → HasOwner v k → h k ≡ f k) → AllByRecursion (λ k. times k (claims_in v) ≡ 1) ks → AgreeAt f h ks
once-agree f h v ks same all =
    agree-all f h ks (all-weaker (λ k. times k (claims_in v) ≡ 1) (λ k. f k ≡ h k) (λ k one. sym (same k (omega (arith, one)))) ks all)

alike : (image other : List ℕ) (o : Opened) → IsWhole image o → HoldsOwned image other o → AreAlike image other o
alike image other o is holds =
    let f = cluster_at image o.geometry.cluster in
    let h = cluster_at other o.geometry.cluster in
    let v = volume_data o f in
    record {
      claims = subst (λ (claims : List (Claim ℕ)). AllByRecursion (SameClaim f h) claims) (claims-are o f)
          (each-claim (λ k. f k ≡ h k) (claims_in v) (λ k some. sym (holds.same k some)));
      head = once-agree f h v (head_clusters o.geometry) holds.same (head-owned o f is.whole);
      table = once-agree f h v o.map.clusters holds.same (table-owned o f is.whole);
      boot = holds.same 0 (let one = boot-owned o f is.whole in omega (arith, one));
    }

-- the record 0 at the boot sector's cluster is the one of the map
head-says : (image : List ℕ) (o : Opened) → IsWhole image o → (says : SaysFirst o (cluster_at image o.geometry.cluster))
    → says.bytes ≡ head_bytes o.geometry (cluster_at image o.geometry.cluster)
head-says image o is says =
    let g = o.geometry in
    let f = cluster_at image g.cluster in
    let geometry = volume-parts image g (opened-geometry image o is.opened) in
    let least = sector-least image g geometry.0 in
    let begins = table-begins_head image o f is.opened is.whole in
    let below = all-weaker (λ k. times k (claims_in (volume_data o f)) ≡ 1) (λ k. k < g.clusters)
    (λ k one. each-cluster (λ j. j < g.clusters) (claims_in (volume_data o f)) k (claims-below o f is.whole) (omega (arith, one)))
    (head_clusters g) (head-owned o f is.whole) in
    let within = (raw-within g o.map f 0 says.bytes says.stands).0 in
    let none : 0 * g.record_size ≡ 0 = omega arith in
    let same = head-same g f o.map begins.0 begins.1 (omega (arith, least.0)) (long-clusters image g.clusters g.cluster (head_clusters g) geometry.1 below) (omega (arith, within, none)) in
    some-same says.bytes (head_bytes g f) (sym says.stands ∙ same)
  where
    some-same : (a b : List ℕ) → ◌≡◌ {A = Option (List ℕ)} (Some a) (Some b) → a ≡ b
    some-same a b is = cc

listed-agree : (image other : List ℕ) (o : Opened) → IsWhole image o → AreAlike image other o
    → AgreeAt (cluster_at image o.geometry.cluster) (cluster_at other o.geometry.cluster) (clusters_of_listing o.geometry.clusters (live_record (head_bytes o.geometry (cluster_at image o.geometry.cluster))))
listed-agree image other o is are =
    let f = cluster_at image o.geometry.cluster in
    let h = cluster_at other o.geometry.cluster in
    let n = o.geometry.clusters in
    let says = first-says o f (table-begun o f is.whole) in
    let live = ap live_record (sym (head-says image o is says)) ∙ says.live in
    let all = file-listed (λ k. f k ≡ h k) n says.file (slot_at (celled_slots o f) 0) says.says (first-claims (SameClaim f h) (celled_slots o f) are.claims) in
    subst (λ (said : Option FileRecord). AgreeAt f h (clusters_of_listing n said)) (sym live) (agree-all f h (list_clusters n (attributes_of says.file)) all)

pub same-opened : (image other : List ℕ) (o : Opened) → IsWhole image o → HoldsOwned image other o → opened_of other ≡ Ok o
same-opened image other o is holds =
    let g = o.geometry in
    let f = cluster_at image g.cluster in
    let h = cluster_at other g.cluster in
    let are = alike image other o is holds in
    let listed = clusters_of_listing g.clusters (live_record (head_bytes g f)) in
    opened-agree image other o is.opened (geometry-same image other g (opened-geometry image o is.opened) holds.room are.boot)
    (agree-both f h (head_clusters g) (listed ++ o.map.clusters) are.head
    (agree-both f h listed o.map.clusters (listed-agree image other o is are) are.table))

pub same-data : (image other : List ℕ) (o : Opened) → IsWhole image o → HoldsOwned image other o → data_in other o ≡ data_in image o
same-data image other o is holds =
    let are = alike image other o is holds in
    sym (data-agree o (cluster_at image o.geometry.cluster) (cluster_at other o.geometry.cluster) are.table are.claims)

pub same-whole : (image other : List ℕ) (o : Opened) → IsWhole image o → HoldsOwned image other o → IsWhole other o
same-whole image other o is holds = record {
  opened = same-opened image other o is holds;
  whole = ap fault_of (same-data image other o is holds) ∙ is.whole;
}
