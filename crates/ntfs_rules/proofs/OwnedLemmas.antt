-- Which clusters are owned on a volume that breaks no rule.
use Rattle.std.proofs.Common.{◌≡◌, ◌≤◌, ◌<◌, ◌+◌, ◌-◌, ◌*◌, ◌/◌, ◌==◌, ◌&&◌, ◌||◌, ◌++◌, ℕ, zero, suc, Bool, true, false, List, [], ◌∷◌, length, map, Option, Some, None, Result, Ok, refl, sym, ap, subst, ◌∙◌, arith, if◌then◌else◌, nat_le, nat_lt, ◌^◌}
use Rattle.std.specs.Prelude.{find}
use Rattle.std.specs.List.{AllByRecursion, flat_map, list_all}
use Rattle.std.proofs.lemmas.Bool.{leb-true}
use Rattle.std.proofs.lemmas.Nat.{mul-le}
use Rattle.std.proofs.Math.Nat.{div-lt_iff_lt-mul, div-mul-le_self, div-zero}
use Rattle.ntfs_base.specs.Bytes.{Cluster, cluster_at, clusters_for, fill_cluster}
use Rattle.ntfs_base.specs.Frames.{refused_as, ◌>>=◌}
use Rattle.ntfs_boot.specs.Geometry.{volume_geometry}
use Rattle.ntfs_boot.specs.declared.geometry.Geometry.{Geometry}
use Rattle.ntfs_directory.specs.UpCase.{data_kind}
use Rattle.ntfs_record.specs.FileRecord.{Attribute, FileRecord, Head, Laid, attributes_of}
use Rattle.ntfs_record.specs.Slots.{Slot, first_not, map_slots}
use Rattle.ntfs_rules.proofs.ClearLemmas.{c7-clear, c8-clear, passed, row_0-clear, row_7-clear}
use Rattle.ntfs_rules.proofs.CountLemmas.{begins-all, begins-both, cell-below, counted, single}
use Rattle.ntfs_rules.proofs.DataLemmas.{c7-is, numbers-are}
use Rattle.ntfs_rules.specs.Accepts.{claims_in, fault_of}
use Rattle.ntfs_rules.specs.Clusters.{times}
use Rattle.ntfs_rules.specs.FixedRecords.{begin_with, has_no_list, is_solid, passes, row_0, row_7}
use Rattle.ntfs_rules.specs.VolumeData.{Records, listings, numbers, stream_in, volume_data}
use Rattle.ntfs_runs.specs.Cells.{are_cells, cells_below, cells_of}
use Rattle.ntfs_runs.specs.Clusters.{row}
use Rattle.ntfs_survey.proofs.ClaimLemmas.{all-append, all-cells, all-runs}
use Rattle.ntfs_survey.proofs.OwnedLemmas.{celled}
use Rattle.ntfs_survey.proofs.StreamLemmas.{cells-owned, volume-none}
use Rattle.ntfs_survey.specs.Laws.{HaveNoCells, IsOwned}
use Rattle.ntfs_survey.specs.Owned.{Claim, attribute_claims, cell_claims, each_attribute, has_cells, have_cells, owned}
use Rattle.ntfs_volume.proofs.AnswerLemmas.{and-left, and-right, bind-ok, must-parts, some-parts}
use Rattle.ntfs_volume.proofs.ExtentsLemmas.{all-weaker}
use Rattle.ntfs_volume.proofs.StreamLemmas.{cells-of}
use Rattle.ntfs_volume.specs.Fault.{volume_fault}
use Rattle.ntfs_volume.specs.Located.{Located, slots_of, with_cells}
use Rattle.ntfs_volume.specs.MftMap.{Map, all_clusters, begins_table, head_clusters, is_record_count, is_table, live_record, map_in, map_of, map_of_record, mft_map, no_map, table_clusters}
use Rattle.ntfs_volume.specs.Laws.{head_bytes}
use Rattle.ntfs_volume.specs.Opened.{Opened, opened_of}
use Rattle.ntfs_volume.specs.StreamBytes.{clusters_in}
use Rattle.ntfs_volume.specs.Streams.{Gathered}
use Rattle.ntfs_volume.specs.declared.fault.VolumeFault.{VolumeFault}

-- ---- the records, with their clusters' numbers

-- those of an opened volume
abbrev pub celled_slots : Opened → (ℕ → List ℕ) → Records ℕ
celled_slots o f = with_cells o.geometry.clusters (slots_of o.geometry o.map f)

pub claims-are : (o : Opened) (f : ℕ → List ℕ) → claims_in (volume_data o f) ≡ owned (celled_slots o f)
claims-are o f = ap (λ (slots : Records ℕ). owned slots) (numbers-are o f)

no-cells : (o : Opened) (f : ℕ → List ℕ) → HaveNoCells (numbers (volume_data o f))
no-cells o f = subst (λ (slots : Records ℕ). HaveNoCells slots) (sym (numbers-are o f)) (volume-none o.geometry o.map f)

-- the cells of a stream are holes or owned
gathered-owned : (o : Opened) (f : ℕ → List ℕ) (r kind : ℕ) (name : List ℕ) (s : Gathered ℕ) → stream_in (volume_data o f) r kind name ≡ Ok s
    → AllByRecursion (IsOwned (numbers (volume_data o f))) s.stream.cells
gathered-owned o f r kind name s is =
    let v = volume_data o f in
    cells-owned (numbers v) r kind name s.stream.cells (no-cells o f) (cells-of v.geometry.cluster (listings v) (numbers v) r kind name s is)

owned-counts : (slots : Records ℕ) (k : ℕ) → IsOwned slots (Some k) → 1 ≤ times k (owned slots)
owned-counts slots k is = counted k (owned slots) is.0 is.1 is.2

-- ---- once

pub owned-single : (o : Opened) (f : ℕ → List ℕ) (k : ℕ) → fault_of (volume_data o f) ≡ None → times k (claims_in (volume_data o f)) ≤ 1
owned-single o f k is = single k (claims_in (volume_data o f)) (c8-clear (volume_data o f) is)

owned-once : (o : Opened) (f : ℕ → List ℕ) (k : ℕ) → fault_of (volume_data o f) ≡ None → IsOwned (numbers (volume_data o f)) (Some k) → times k (claims_in (volume_data o f)) ≡ 1
owned-once o f k clear is =
    let least = owned-counts (numbers (volume_data o f)) k is in
    let most = owned-single o f k clear in
    omega (arith, least, most)

-- ---- on the volume

abbrev pub LiesOn : ℕ → Claim ℕ → Type 0
LiesOn n claim = claim.cluster < n

right-cells : (resident right are long : Bool) → (resident || ((right && are) && long)) ≡ true → resident ≡ false → are ≡ true
right-cells true right are long is runs = absurd cc
right-cells false right are long is runs = and-right right are (and-left (right && are) long is)

attribute-below : (n r : ℕ) (h : Head) (a : Attribute (Located (Laid (List ℕ)))) → has_cells (celled n r h a) ≡ true → AllByRecursion (LiesOn n) (attribute_claims r (celled n r h a))
unfolding attribute_claims cells_below
attribute-below n r h a is =
    let cells = (cells_of a.payload.payload.runs).cells in
    all-runs (LiesOn n) a.face.is_resident (cell_claims r a.payload.place a.face.lowest cells) (λ runs.
    let are = right-cells a.face.is_resident (cells_of a.payload.payload.runs).is_right (are_cells true n cells) (length cells == a.face.next - a.face.lowest) is runs in
    all-cells (LiesOn n) r a.payload.place a.face.lowest cells (λ i k at. cell-below n i k cells are at))

attributes-below : (n r : ℕ) (h : Head) (them : List (Attribute (Located (Laid (List ℕ))))) → list_all has_cells (map (celled n r h) them) ≡ true
    → AllByRecursion (LiesOn n) (flat_map (attribute_claims r) (map (celled n r h) them))
attributes-below n r h [] is = tt
attributes-below n r h (a ∷ them) is =
    all-append (LiesOn n) (attribute_claims r (celled n r h a)) (flat_map (attribute_claims r) (map (celled n r h) them))
    (attribute-below n r h a (and-left (has_cells (celled n r h a)) (list_all has_cells (map (celled n r h) them)) is))
    (attributes-below n r h them (and-right (has_cells (celled n r h a)) (list_all has_cells (map (celled n r h) them)) is))

not-parts : (b : Bool) (rest : Option ℕ) (n : ℕ) → (if b then rest else Some n) ≡ None → (b ≡ true) × (rest ≡ None)
not-parts true rest n is = (refl, is)
not-parts false rest n is = absurd cc

slots-below : (n r : ℕ) (slots : List (Slot (Located (Laid (List ℕ))))) → first_not (λ i s. have_cells s) r (map_slots (celled n) r slots) ≡ None
    → AllByRecursion (LiesOn n) (each_attribute attribute_claims r (map_slots (celled n) r slots))
unfolding each_attribute
slots-below n r [] is = tt
slots-below n r (s ∷ slots) is =
    let parts = not-parts (list_all has_cells (map (celled n r s.head) s.attributes)) (first_not (λ i (t : Slot (Located (Laid _))). have_cells t) (suc r) (map_slots (celled n) (suc r) slots)) r is in
    all-append (LiesOn n) (flat_map (attribute_claims r) (map (celled n r s.head) s.attributes)) (each_attribute attribute_claims (suc r) (map_slots (celled n) (suc r) slots))
    (attributes-below n r s.head s.attributes parts.0) (slots-below n (suc r) slots parts.1)

volume-below : (o : Opened) (f : ℕ → List ℕ) → fault_of (volume_data o f) ≡ None → AllByRecursion (LiesOn o.geometry.clusters) (owned (celled_slots o f))
unfolding with_cells
volume-below o f is = slots-below o.geometry.clusters 0 (slots_of o.geometry o.map f) (sym (c7-is o f) ∙ c7-clear (volume_data o f) is)

pub claims-below : (o : Opened) (f : ℕ → List ℕ) → fault_of (volume_data o f) ≡ None → AllByRecursion (LiesOn o.geometry.clusters) (claims_in (volume_data o f))
claims-below o f is = subst (λ (claims : List (Claim ℕ)). AllByRecursion (LiesOn o.geometry.clusters) claims) (sym (claims-are o f)) (volume-below o f is)

-- ---- $MFT

table-numbers : (f : ℕ → List ℕ) (ks : List ℕ) → map (λ (k : Cluster). k.number) (map (fill_cluster f) ks) ≡ ks
table-numbers f [] = refl
table-numbers f (k ∷ ks) = ap (λ rest. k ∷ rest) (table-numbers f ks)

-- the stream of record 0 begins with the clusters of the map, and with those from the boot sector's on
pub record BeginsTable (o : Opened) (f : ℕ → List ℕ) : Type 0 where
  pub stream : Gathered ℕ
  pub gathered : stream_in (volume_data o f) 0 data_kind [] ≡ Ok stream
  pub head : begin_with (head_clusters o.geometry) stream.stream.cells ≡ true
  pub table : begin_with o.map.clusters stream.stream.cells ≡ true

pub table-begun : (o : Opened) (f : ℕ → List ℕ) → fault_of (volume_data o f) ≡ None → BeginsTable o f
unfolding volume_data row_0
table-begun o f is =
    let them = map (λ (k : Cluster). k.number) (map (fill_cluster f) o.map.clusters) in
    let test = λ (s : Gathered ℕ). (s.stream.flags == 0) && (begin_with (head_clusters o.geometry) s.stream.cells && begin_with them s.stream.cells) in
    let parts = passed test (stream_in (volume_data o f) 0 data_kind []) (row_0-clear (volume_data o f) is) in
    let cells = parts.0.stream.cells in
    let both = and-right (parts.0.stream.flags == 0) (begin_with (head_clusters o.geometry) cells && begin_with them cells) parts.2 in
    record {
      stream = parts.0;
      gathered = parts.1;
      head = and-left (begin_with (head_clusters o.geometry) cells) (begin_with them cells) both;
      table = ap (λ ks. begin_with ks cells) (sym (table-numbers f o.map.clusters)) ∙ and-right (begin_with (head_clusters o.geometry) cells) (begin_with them cells) both;
    }

begun-owned : (o : Opened) (f : ℕ → List ℕ) (ks : List ℕ) (begun : BeginsTable o f) → fault_of (volume_data o f) ≡ None → begin_with ks begun.stream.stream.cells ≡ true
    → AllByRecursion (λ k. times k (claims_in (volume_data o f)) ≡ 1) ks
begun-owned o f ks begun clear is =
    all-weaker (λ k. IsOwned (numbers (volume_data o f)) (Some k)) (λ k. times k (claims_in (volume_data o f)) ≡ 1) (λ k owned. owned-once o f k clear owned) ks
    (begins-all (IsOwned (numbers (volume_data o f))) ks begun.stream.stream.cells is (gathered-owned o f 0 data_kind [] begun.stream begun.gathered))

pub table-owned : (o : Opened) (f : ℕ → List ℕ) → fault_of (volume_data o f) ≡ None → AllByRecursion (λ k. times k (claims_in (volume_data o f)) ≡ 1) o.map.clusters
table-owned o f is = let begun = table-begun o f is in begun-owned o f o.map.clusters begun is begun.table

pub head-owned : (o : Opened) (f : ℕ → List ℕ) → fault_of (volume_data o f) ≡ None → AllByRecursion (λ k. times k (claims_in (volume_data o f)) ≡ 1) (head_clusters o.geometry)
head-owned o f is = let begun = table-begun o f is in begun-owned o f (head_clusters o.geometry) begun is begun.head

-- ---- the boot sector

boot-cells : (o : Opened) (f : ℕ → List ℕ) → fault_of (volume_data o f) ≡ None
    → (s : Gathered ℕ) × (stream_in (volume_data o f) 7 data_kind [] ≡ Ok s) × (begin_with (0 ∷ []) s.stream.cells ≡ true)
unfolding row_7
boot-cells o f is =
    let v = volume_data o f in
    let test = λ (s : Gathered ℕ). is_solid v.geometry.clusters s.stream && begin_with (0 ∷ []) s.stream.cells in
    let found = stream_in v 7 data_kind [] in
    let parts = passed test found (and-right (has_no_list (listings v) 7) (passes test found) (row_7-clear v is)) in
    (parts.0, parts.1, and-right (is_solid v.geometry.clusters parts.0.stream) (begin_with (0 ∷ []) parts.0.stream.cells) parts.2)

pub boot-owned : (o : Opened) (f : ℕ → List ℕ) → fault_of (volume_data o f) ≡ None → times 0 (claims_in (volume_data o f)) ≡ 1
boot-owned o f is =
    let parts = boot-cells o f is in
    let all = begins-all (IsOwned (numbers (volume_data o f))) (0 ∷ []) parts.0.stream.cells parts.2 (gathered-owned o f 7 data_kind [] parts.0 parts.1) in
    owned-once o f 0 is all.0

-- ---- the length of the map

map-fits : (g : Geometry) (clusters : List ℕ) (size valid : ℕ) (table : Map) → map_of g clusters size valid ≡ Ok table → is_table g (length table.clusters) table.size table.valid ≡ true
unfolding map_of
map-fits g clusters size valid table is =
    let last : Result Map VolumeFault = Ok (record { clusters = clusters; size = size; valid = valid }) in
    let parts = must-parts (is_table g (length clusters) size valid) (no_map 0) last table is in
    let same : ◌≡◌ {A = Map} (record { clusters = clusters; size = size; valid = valid }) table = let given = parts.1 in cc in
    subst (λ (t : Map). is_table g (length t.clusters) t.size t.valid ≡ true) same parts.0

record-fits : (g : Geometry) (f : ℕ → List ℕ) (first : FileRecord) (table : Map) → map_of_record g f first ≡ Ok table → is_table g (length table.clusters) table.size table.valid ≡ true
unfolding map_of_record
record-fits g f first table is =
    let end : Attribute (Laid (List ℕ)) → List ℕ → Result Map VolumeFault = λ a clusters. map_of g clusters a.face.size a.face.valid in
    let more : Attribute (Laid (List ℕ)) → List ℕ → Result Map VolumeFault = λ a known. all_clusters g f a.face.valid first known >>= end a in
    let a = some-parts (find (λ (a : Attribute (Laid (List ℕ))). begins_table a.face) (attributes_of first)) (no_map 0) (λ a. table_clusters g.clusters 0 a.payload.runs >>= more a) table is in
    let known = bind-ok (table_clusters g.clusters 0 a.0.payload.runs) (more a.0) table a.2 in
    let all = bind-ok (all_clusters g f a.0.face.valid first known.0) (end a.0) table known.2 in
    map-fits g all.0 a.0.face.size a.0.face.valid table all.2

table-fits : (g : Geometry) (f : ℕ → List ℕ) (table : Map) → mft_map g f ≡ Ok table → is_table g (length table.clusters) table.size table.valid ≡ true
unfolding mft_map map_in
table-fits g f table is = record-fits g f (some-parts (live_record (head_bytes g f)) (no_map 0) (map_of_record g f) table is).0 table (some-parts (live_record (head_bytes g f)) (no_map 0) (map_of_record g f) table is).2

pub opened-fits : (image : List ℕ) (o : Opened) → opened_of image ≡ Ok o → is_table o.geometry (length o.map.clusters) o.map.size o.map.valid ≡ true
unfolding opened_of
opened-fits image o is =
    let end : Geometry → Map → Result Opened VolumeFault = λ g table. Ok (record { geometry = g; map = table }) in
    let g = bind-ok (refused_as volume_fault (volume_geometry image)) (λ g. mft_map g (cluster_at image g.cluster) >>= end g) o is in
    let table = bind-ok (mft_map g.0 (cluster_at image g.0.cluster)) (end g.0) o g.2 in
    let same : ◌≡◌ {A = Opened} (record { geometry = g.0; map = table.0 }) o = let end_is = table.2 in cc in
    subst (λ (p : Opened). is_table p.geometry (length p.map.clusters) p.map.size p.map.valid ≡ true) same (table-fits g.0 (cluster_at image g.0.cluster) table.0 table.1)

length-row : (n k : ℕ) → length (clusters_in (row n (Some k))) ≡ n
unfolding clusters_in row
length-row zero k = refl
length-row (suc n) k = ap suc (length-row n (k + 1))

few-bytes : (size c count : ℕ) → 1 ≤ c → size ≤ count * c → size + (c - 1) < (count + 1) * c
few-bytes size c count some room = let all : (count + 1) * c ≡ count * c + c = omega arith in omega (arith, room, some, all)

-- clusters with room for a record are as many as that needs
few-clusters : (size c count : ℕ) → 0 < size → size ≤ count * c → clusters_for size c ≤ count
unfolding clusters_for
few-clusters size zero count some room = absurd (omega (arith, some, room))
few-clusters size (suc c) count some room =
    let small : size + (suc c - 1) < (count + 1) * suc c = few-bytes size (suc c) count (omega arith) room in
    let below = (div-lt_iff_lt-mul {k = suc c} (omega arith)).1 small in
    omega (arith, below)

one-record : (size piece : ℕ) → 12 ≤ size / piece → (0 < piece) × (piece ≤ size)
one-record size zero many = absurd (omega (arith, many, div-zero size))
one-record size (suc piece) many =
    let all = div-mul-le_self size (suc piece) in
    let one = mul-le 1 (suc piece) (size / suc piece) (suc piece) (omega (arith, many)) (omega arith) in
    (omega arith, omega (arith, all, one))

-- a table has room for a record
table-room : (g : Geometry) (count size valid : ℕ) → is_table g count size valid ≡ true → (0 < g.record_size) × (g.record_size ≤ count * g.cluster)
unfolding is_table is_record_count
table-room g count size valid is =
    let room = nat_le size (count * g.cluster) && nat_le valid size in
    let number = nat_le 12 (size / g.record_size) && nat_lt (size / g.record_size) (2 ^ 32) in
    let most = leb-true size (count * g.cluster) (and-left (nat_le size (count * g.cluster)) (nat_le valid size) (and-left room number is)) in
    let least = leb-true 12 (size / g.record_size) (and-left (nat_le 12 (size / g.record_size)) (nat_lt (size / g.record_size) (2 ^ 32)) (and-right room number is)) in
    let one = one-record size g.record_size least in
    (one.0, omega (arith, one.1, most))

pub table-begins_head : (image : List ℕ) (o : Opened) (f : ℕ → List ℕ) → opened_of image ≡ Ok o → fault_of (volume_data o f) ≡ None → (rest : List ℕ) × (o.map.clusters ≡ head_clusters o.geometry ++ rest)
table-begins_head image o f opened clear =
    let g = o.geometry in
    let begun = table-begun o f clear in
    let room = table-room g (length o.map.clusters) o.map.size o.map.valid (opened-fits image o opened) in
    let few = few-clusters g.record_size g.cluster (length o.map.clusters) room.0 room.1 in
    let long = length-row (clusters_for g.record_size g.cluster) g.mft in
    begins-both (head_clusters g) o.map.clusters begun.stream.stream.cells begun.head begun.table (omega (arith, few, long))
