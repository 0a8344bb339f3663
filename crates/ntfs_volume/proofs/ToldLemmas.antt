-- By which clusters $MFT's map is told, what it begins with, and where a record's bytes stand in it.
use Rattle.std.proofs.Common.{◌≡◌, ◌≤◌, ◌+◌, ◌-◌, ◌*◌, ◌/◌, ◌%◌, ◌==◌, ◌&&◌, ◌++◌, ℕ, zero, suc, List, [], ◌∷◌, length, take, drop, refl, sym, ap, ◌∙◌, subst, arith, length-append, append_assoc, mod-lt, Bool, true, false, Option, Some, None, Result, Ok, if◌then◌else◌}
use Rattle.std.specs.Prelude.{filter, find}
use Rattle.std.specs.Option.{ok_or, option_map}
use Rattle.std.proofs.lemmas.List.{length-take}
use Rattle.std.proofs.lemmas.Nat.{div-add-mod'}
use Rattle.std.proofs.Math.Seq.{drop-append-add, drop-nil}
use Rattle.ntfs_base.specs.Bytes.{cluster_at, clusters_for, raw_of, stream}
use Rattle.ntfs_base.specs.Frames.{must, refused_as, ◌>>=◌}
use Rattle.ntfs_base.proofs.BytesLemmas.{raw_of-some, raw_of-within, stream-append, take-drop-append, take-drop-take}
use Rattle.ntfs_boot.specs.Geometry.{volume_geometry}
use Rattle.ntfs_boot.specs.declared.geometry.Geometry.{Geometry}
use Rattle.ntfs_record.specs.FileRecord.{Attribute, FileRecord, Laid, attributes_of}
use Rattle.ntfs_runs.specs.Cells.{Cells, are_cells, cells_below, cells_of, map_cells}
use Rattle.ntfs_record.specs.Slots.{Slot}
use Rattle.ntfs_runs.specs.Clusters.{row}
use Rattle.ntfs_volume.specs.Fault.{volume_fault}
use Rattle.ntfs_volume.specs.Laws.{AgreeAt, IsFirstExtent, SameRecords, attributes_at, clusters_from, gathered_from, HaveLength, clusters_of_list, clusters_of_listing, head_bytes, list_clusters, told_by}
use Rattle.ntfs_volume.specs.Listing.{bytes_of_list, filled_attribute, filled_attributes, filled_cells, is_list, is_list_named, is_readable_list, listing_in, listing_of, listing_of_bytes}
use Rattle.ntfs_volume.specs.MftMap.{Map, all_clusters, begins_table, clusters_by, further, head_clusters, is_further, is_table, live_record, map_in, map_of, map_of_record, mft_map, no_map, table_clusters, table_listing}
use Rattle.ntfs_volume.specs.Located.{located_slot, slots_from, slots_of, with_cells}
use Rattle.ntfs_volume.specs.Streams.{gather, gather_of, lists_of}
use Rattle.ntfs_volume.specs.Opened.{Opened, opened_of}
use Rattle.ntfs_volume.specs.Records.{raw_record}
use Rattle.ntfs_volume.specs.StreamBytes.{clusters_in, runs_bytes}
use Rattle.ntfs_volume.specs.declared.fault.VolumeFault.{VolumeFault}
use Rattle.ntfs_volume.proofs.AnswerLemmas.{bind-ok, must-parts, some-parts}
use Rattle.ntfs_volume.proofs.ExtentsLemmas.{streams-same}
use Rattle.ntfs_volume.proofs.LawLemmas.{agree-front, agree-stream, agrees, grows}
use Rattle.ntfs_volume.proofs.ListLemmas.{find-map, lists-filled}

agree-rest : (f h : ℕ → List ℕ) (front rest : List ℕ) → AgreeAt f h (front ++ rest) → AgreeAt f h rest
agree-rest f h [] rest are = are
agree-rest f h (k ∷ front) rest are = agree-rest f h front rest are.1

-- ---- the list

cells-same : (f h : ℕ → List ℕ) (cells : List (Option ℕ)) → AgreeAt f h (clusters_in cells) → map_cells f cells ≡ map_cells h cells
unfolding clusters_in
cells-same f h [] are = refl
cells-same f h (None ∷ cells) are = ap (λ them. None ∷ them) (cells-same f h cells are)
cells-same f h (Some k ∷ cells) are = ap (λ bytes. Some bytes ∷ map_cells f cells) are.0 ∙ ap (λ them. Some (h k) ∷ them) (cells-same f h cells are.1)

filled-same : (n : ℕ) (f h : ℕ → List ℕ) (pairs : List ℕ) → AgreeAt f h (clusters_in (cells_below n pairs).cells) → filled_cells n f pairs ≡ filled_cells n h pairs
filled-same n f h pairs are = ap (λ cells. record { is_right = (cells_below n pairs).is_right; cells = cells }) (cells-same f h (cells_below n pairs).cells are)

-- the bytes of a list by its cells, where so many lists have its name
abbrev bytes_by : ℕ → Attribute (Laid (List ℕ)) → ℕ → Cells (List ℕ) → Option (List ℕ)
bytes_by c a count cells =
    if a.face.is_resident then Some a.face.value
    else (if (count == 1) && is_readable_list c a.face cells then Some (runs_bytes c a.face.size a.face.valid cells.cells) else None)

list-bytes : (c n : ℕ) (f : ℕ → List ℕ) (a : Attribute (Laid (List ℕ))) (them : List (Attribute (Laid (List ℕ)))) (count : ℕ) → count ≡ length (filter (λ (b : Attribute (Laid (List ℕ))). is_list_named a.face.name b.face) them)
    → bytes_of_list c (filled_attribute n f a) (filled_attributes n f them) ≡ bytes_by c a count (filled_cells n f a.payload.runs)
unfolding bytes_of_list
list-bytes c n f a them count is = ap (λ k. bytes_by c a k (filled_cells n f a.payload.runs)) (lists-filled n f a.face.name them ∙ sym is)

bytes-same : (c n : ℕ) (f h : ℕ → List ℕ) (a : Attribute (Laid (List ℕ))) (count : ℕ) → AgreeAt f h (clusters_of_list n (Some a)) → bytes_by c a count (filled_cells n f a.payload.runs) ≡ bytes_by c a count (filled_cells n h a.payload.runs)
bytes-same c n f h a count are =
    step a.face.is_resident (Some a.face.value) (not-resident (filled_cells n f a.payload.runs)) (not-resident (filled_cells n h a.payload.runs))
    (λ is. ap not-resident (filled-same n f h a.payload.runs (subst (λ b. AgreeAt f h (if b then [] else clusters_in (cells_below n a.payload.runs).cells)) is are)))
  where
    not-resident : Cells (List ℕ) → Option (List ℕ)
    not-resident cells = if (count == 1) && is_readable_list c a.face cells then Some (runs_bytes c a.face.size a.face.valid cells.cells) else None

    step : (b : Bool) (value x y : Option (List ℕ)) → (b ≡ false → x ≡ y) → (if b then value else x) ≡ (if b then value else y)
    step true value x y same = refl
    step false value x y same = same refl

listing-same : (c n : ℕ) (f h : ℕ → List ℕ) (them : List (Attribute (Laid (List ℕ)))) → AgreeAt f h (list_clusters n them)
    → listing_in c (filled_attributes n h them) ≡ listing_in c (filled_attributes n f them)
unfolding listing_in
listing-same c n f h them are =
    let first = find (λ (a : Attribute (Laid (List ℕ))). is_list a.face) them in
    let found = λ (k : ℕ → List ℕ). find-map (filled_attribute n k) (λ (a : Attribute (Laid (Cells (List ℕ)))). is_list a.face) (λ (a : Attribute (Laid (List ℕ))). is_list a.face) (λ a. refl) them in
    ap (λ o. listing_of c o (filled_attributes n h them)) (found h) ∙ sym (step first are) ∙ sym (ap (λ o. listing_of c o (filled_attributes n f them)) (found f))
  where
    step : (o : Option (Attribute (Laid (List ℕ)))) → AgreeAt f h (clusters_of_list n o)
        → listing_of c (option_map (filled_attribute n f) o) (filled_attributes n f them) ≡ listing_of c (option_map (filled_attribute n h) o) (filled_attributes n h them)
    step None are = refl
    step (Some a) are = ap listing_of_bytes (list-bytes c n f a them _ refl ∙ bytes-same c n f h a _ are ∙ sym (list-bytes c n h a them _ refl))

-- ---- the map, part by part

-- what a map is of a record 0
record IsMapOf (g : Geometry) (f : ℕ → List ℕ) (first : FileRecord) (table : Map) : Type 0 where
  attribute : Attribute (Laid (List ℕ))
  known : List ℕ
  found : find (λ (a : Attribute (Laid (List ℕ))). begins_table a.face) (attributes_of first) ≡ Some attribute
  begins : table_clusters g.clusters 0 attribute.payload.runs ≡ Ok known
  all : all_clusters g f attribute.face.valid first known ≡ Ok table.clusters
  fits : map_of g table.clusters attribute.face.size attribute.face.valid ≡ Ok table

clusters-of : (g : Geometry) (clusters : List ℕ) (size valid : ℕ) (table : Map) → map_of g clusters size valid ≡ Ok table → clusters ≡ table.clusters
unfolding map_of
clusters-of g clusters size valid table is =
    let last : Result Map VolumeFault = Ok (record { clusters = clusters; size = size; valid = valid }) in
    let given = (must-parts (is_table g (length clusters) size valid) (no_map 0) last table is).1 in
    let same : ◌≡◌ {A = Map} (record { clusters = clusters; size = size; valid = valid }) table = let given_is = given in cc in
    ap (λ (t : Map). t.clusters) same

by-parts : (g : Geometry) (f : ℕ → List ℕ) (first : FileRecord) (table : Map) (a : Attribute (Laid (List ℕ))) (known all : List ℕ) → find (λ (a : Attribute (Laid (List ℕ))). begins_table a.face) (attributes_of first) ≡ Some a
    → table_clusters g.clusters 0 a.payload.runs ≡ Ok known → all_clusters g f a.face.valid first known ≡ Ok all → map_of g all a.face.size a.face.valid ≡ Ok table → IsMapOf g f first table
by-parts g f first table a known all found begins all_is fits =
    let same = clusters-of g all a.face.size a.face.valid table fits in
    record {
      attribute = a;
      known = known;
      found = found;
      begins = begins;
      all = all_is ∙ ap Ok same;
      fits = subst (λ clusters. map_of g clusters a.face.size a.face.valid ≡ Ok table) same fits;
    }

record-parts : (g : Geometry) (f : ℕ → List ℕ) (first : FileRecord) (table : Map) → map_of_record g f first ≡ Ok table → IsMapOf g f first table
unfolding map_of_record
record-parts g f first table is =
    let one = find (λ (a : Attribute (Laid (List ℕ))). begins_table a.face) (attributes_of first) in
    let end : Attribute (Laid (List ℕ)) → List ℕ → Result Map VolumeFault = λ a clusters. map_of g clusters a.face.size a.face.valid in
    let more : Attribute (Laid (List ℕ)) → List ℕ → Result Map VolumeFault = λ a known. all_clusters g f a.face.valid first known >>= end a in
    let a = some-parts one (no_map 0) (λ a. table_clusters g.clusters 0 a.payload.runs >>= more a) table is in
    let known = bind-ok (table_clusters g.clusters 0 a.0.payload.runs) (more a.0) table a.2 in
    let all = bind-ok (all_clusters g f a.0.face.valid first known.0) (end a.0) table known.2 in
    by-parts g f first table a.0 known.0 all.0 a.1 known.1 all.1 all.2

table-parts : (g : Geometry) (f : ℕ → List ℕ) (table : Map) → mft_map g f ≡ Ok table → (first : FileRecord) × (live_record (head_bytes g f) ≡ Some first) × IsMapOf g f first table
unfolding mft_map map_in
table-parts g f table is =
    let first = some-parts (live_record (head_bytes g f)) (no_map 0) (map_of_record g f) table is in
    (first.0, first.1, record-parts g f first.0 table first.2)

-- ---- images that agree

all-agree : (g : Geometry) (f h : ℕ → List ℕ) (valid : ℕ) (first : FileRecord) (known all : List ℕ) → AgreeAt f h (list_clusters g.clusters (attributes_of first)) → AgreeAt f h all
    → all_clusters g f valid first known ≡ Ok all → all_clusters g h valid first known ≡ Ok all
unfolding all_clusters clusters_by
all-agree g f h valid first known all list are is =
    let listing = table_listing g f first in
    let entries = filter is_further listing.entries in
    let parts = must-parts listing.is_good (no_map 0) (further g f valid first known entries) all is in
    ap (clusters_by g h valid first known) (listing-same g.cluster g.clusters f h (attributes_of first) list)
    ∙ ap (λ b. must b (no_map 0) >>= (λ _. further g h valid first known entries)) parts.0
    ∙ agrees g f h valid first known entries all are parts.1

record-agree : (g : Geometry) (f h : ℕ → List ℕ) (first : FileRecord) (table : Map) → IsMapOf g f first table → AgreeAt f h (list_clusters g.clusters (attributes_of first)) → AgreeAt f h table.clusters
    → map_of_record g h first ≡ Ok table
unfolding map_of_record
record-agree g f h first table is list are = rw (is.found, is.begins, all-agree g f h is.attribute.face.valid first is.known table.clusters list are is.all) is.fits

pub table-agree : (g : Geometry) (f h : ℕ → List ℕ) (table : Map) → mft_map g f ≡ Ok table → AgreeAt f h (told_by g f table) → mft_map g h ≡ Ok table
unfolding mft_map map_in
table-agree g f h table is are =
    let list = clusters_of_listing g.clusters (live_record (head_bytes g f)) in
    let parts = table-parts g f table is in
    let head = agree-stream f h (head_clusters g) (agree-front f h (head_clusters g) (list ++ table.clusters) are) in
    let rest = agree-rest f h (head_clusters g) (list ++ table.clusters) are in
    let listed = subst (λ o. AgreeAt f h (clusters_of_listing g.clusters o)) parts.1 (agree-front f h list table.clusters rest) in
    ap (λ bytes. ok_or (live_record (take g.record_size bytes)) (no_map 0) >>= map_of_record g h) (sym head)
    ∙ ap (λ o. ok_or o (no_map 0) >>= map_of_record g h) parts.1
    ∙ record-agree g f h parts.0 table parts.2 listed (agree-rest f h list table.clusters rest)

opened-parts : (image : List ℕ) (opened : Opened) → opened_of image ≡ Ok opened → mft_map opened.geometry (cluster_at image opened.geometry.cluster) ≡ Ok opened.map
unfolding opened_of
opened-parts image opened is =
    let end : Geometry → Map → Result Opened VolumeFault = λ g table. Ok (record { geometry = g; map = table }) in
    let g = bind-ok (refused_as volume_fault (volume_geometry image)) (λ g. mft_map g (cluster_at image g.cluster) >>= end g) opened is in
    let table = bind-ok (mft_map g.0 (cluster_at image g.0.cluster)) (end g.0) opened g.2 in
    let same : ◌≡◌ {A = Opened} (record { geometry = g.0; map = table.0 }) opened = let end_is = table.2 in cc in
    subst (λ (o : Opened). mft_map o.geometry (cluster_at image o.geometry.cluster) ≡ Ok o.map) same table.1

pub opened-agree : (image other : List ℕ) (opened : Opened) → opened_of image ≡ Ok opened → volume_geometry other ≡ Ok opened.geometry
    → AgreeAt (cluster_at image opened.geometry.cluster) (cluster_at other opened.geometry.cluster) (told_by opened.geometry (cluster_at image opened.geometry.cluster) opened.map)
    → opened_of other ≡ Ok opened
unfolding opened_of
opened-agree image other opened is geometry are =
    let f = cluster_at image opened.geometry.cluster in
    let h = cluster_at other opened.geometry.cluster in
    rw (geometry, table-agree opened.geometry f h opened.map (opened-parts image opened is) are) refl

-- ---- what a map begins with

first-extent : (n r : ℕ) (pairs known : List ℕ) → table_clusters n r pairs ≡ Ok known → known ≡ clusters_in (cells_of pairs).cells
unfolding table_clusters
first-extent n r pairs known is =
    let last : Result (List ℕ) VolumeFault = Ok (clusters_in (cells_of pairs).cells) in
    let given = (must-parts ((cells_of pairs).is_right && are_cells false n (cells_of pairs).cells) (no_map r) last known is).1 in
    let same : clusters_in (cells_of pairs).cells ≡ known = let given_is = given in cc in
    sym same

all-begin : (g : Geometry) (f : ℕ → List ℕ) (valid : ℕ) (first : FileRecord) (known all : List ℕ) → all_clusters g f valid first known ≡ Ok all → (rest : List ℕ) × (all ≡ known ++ rest)
unfolding all_clusters clusters_by
all-begin g f valid first known all is =
    let listing = table_listing g f first in
    let entries = filter is_further listing.entries in
    grows g f valid first known entries all (must-parts listing.is_good (no_map 0) (further g f valid first known entries) all is).1

pub table-begins : (g : Geometry) (f : ℕ → List ℕ) (table : Map) → mft_map g f ≡ Ok table
    → (first : FileRecord) × (known rest : List ℕ) × (live_record (head_bytes g f) ≡ Some first) × IsFirstExtent first known × (table.clusters ≡ known ++ rest)
table-begins g f table is =
    let parts = table-parts g f table is in
    let of = parts.2 in
    let rest = all-begin g f of.attribute.face.valid parts.0 of.known table.clusters of.all in
    (parts.0, of.known, rest.0, parts.1, record { attribute = of.attribute; found = of.found; cells = first-extent g.clusters 0 of.attribute.payload.runs of.known of.begins }, rest.1)

same-some : {A : Type 0} (o : Option A) (x y : A) → o ≡ Some x → o ≡ Some y → x ≡ y
same-some {A = A} o x y one two = let both : ◌≡◌ {A = Option A} (Some x) (Some y) = sym one ∙ two in cc

-- there is one first extent
one-extent : (first : FileRecord) (known others : List ℕ) → IsFirstExtent first known → IsFirstExtent first others → known ≡ others
one-extent first known others one two =
    let same = same-some (find (λ (a : Attribute (Laid (List ℕ))). begins_table a.face) (attributes_of first)) one.attribute two.attribute one.found two.found in
    one.cells ∙ ap (λ (a : Attribute (Laid (List ℕ))). clusters_in (cells_of a.payload.runs).cells) same ∙ sym two.cells

pub table-head : (g : Geometry) (f : ℕ → List ℕ) (table : Map) (first : FileRecord) (rest : List ℕ) → mft_map g f ≡ Ok table → live_record (head_bytes g f) ≡ Some first → IsFirstExtent first (head_clusters g ++ rest)
    → (more : List ℕ) × (table.clusters ≡ head_clusters g ++ more)
table-head g f table first rest is live extent =
    let begins = table-begins g f table is in
    let same = same-some (live_record (head_bytes g f)) begins.0 first begins.3 live in
    let known = one-extent first begins.1 (head_clusters g ++ rest) (subst (λ r. IsFirstExtent r begins.1) same begins.4) extent in
    (rest ++ begins.2, begins.5 ∙ ap (λ ks. ks ++ begins.2) known ∙ append_assoc (head_clusters g) rest begins.2)

-- ---- a record's bytes

pub raw-within : (g : Geometry) (table : Map) (f : ℕ → List ℕ) (r : ℕ) (raw : List ℕ) → raw_record g table f r ≡ Some raw
    → (r * g.record_size + g.record_size ≤ table.valid) × (r * g.record_size + g.record_size ≤ length (stream f table.clusters))
unfolding raw_record
raw-within g table f r raw is =
    let found = raw_of-some g.record_size r (take table.valid (stream f table.clusters)) raw is in
    let long = length-take table.valid (stream f table.clusters) in
    (omega (arith, found.0, long), omega (arith, found.0, long))

pub raw-bytes : (g : Geometry) (table : Map) (f : ℕ → List ℕ) (r : ℕ) (raw : List ℕ) → raw_record g table f r ≡ Some raw → raw ≡ take g.record_size (drop (r * g.record_size) (stream f table.clusters))
unfolding raw_record
raw-bytes g table f r raw is =
    let found = raw_of-some g.record_size r (take table.valid (stream f table.clusters)) raw is in
    let within = (raw-within g table f r raw is).0 in
    sym found.1 ∙ take-drop-take (r * g.record_size) g.record_size table.valid (stream f table.clusters) within

drop-clusters : (f : ℕ → List ℕ) (c q m : ℕ) (ks : List ℕ) → HaveLength f c ks → drop (q * c + m) (stream f ks) ≡ drop m (stream f (drop q ks))
drop-clusters f c zero m ks long = let none : 0 * c + m ≡ m = omega arith in ap (λ n. drop n (stream f ks)) none
drop-clusters f c (suc q) m [] long = drop-nil (suc q * c + m) ∙ sym (drop-nil m)
drop-clusters f c (suc q) m (k ∷ ks) long =
    let first = long.0 in
    let more : suc q * c + m ≡ length (f k) + (q * c + m) = omega (arith, first) in
    ap (λ n. drop n (f k ++ stream f ks)) more ∙ drop-append-add (f k) (stream f ks) (q * c + m) ∙ drop-clusters f c q m ks long.1

pub raw-cluster : (g : Geometry) (table : Map) (f : ℕ → List ℕ) (r : ℕ) (raw : List ℕ) → 1 ≤ g.cluster → HaveLength f g.cluster table.clusters → raw_record g table f r ≡ Some raw
    → raw ≡ take g.record_size (drop ((r * g.record_size) % g.cluster) (stream f (clusters_from g.record_size g.cluster r table.clusters)))
raw-cluster g table f r raw some long is =
    let place = r * g.record_size in
    let parts : place ≡ (place / g.cluster) * g.cluster + place % g.cluster = sym (div-add-mod' place g.cluster) in
    raw-bytes g table f r raw is
    ∙ ap (λ n. take g.record_size (drop n (stream f table.clusters))) parts
    ∙ ap (take g.record_size) (drop-clusters f g.cluster (place / g.cluster) (place % g.cluster) table.clusters long)

length-stream : (f : ℕ → List ℕ) (c : ℕ) (ks : List ℕ) → HaveLength f c ks → length (stream f ks) ≡ length ks * c
length-stream f c [] long = omega arith
length-stream f c (k ∷ ks) long = omega (arith, length-append (f k) (stream f ks), long.0, length-stream f c ks long.1)

length-row : (n k : ℕ) → length (clusters_in (row n (Some k))) ≡ n
unfolding clusters_in row
length-row zero k = refl
length-row (suc n) k = ap suc (length-row n (k + 1))

room-for : (size c : ℕ) → 1 ≤ c → size ≤ clusters_for size c * c
unfolding clusters_for
room-for size c some =
    let parts = div-add-mod' (size + (c - 1)) c in
    let small = mod-lt (size + (c - 1)) {m = c} (omega arith) in
    omega (arith, parts, small, some)

-- the clusters of record 0 have room for it
head-long : (g : Geometry) (f : ℕ → List ℕ) → 1 ≤ g.cluster → HaveLength f g.cluster (head_clusters g) → g.record_size ≤ length (stream f (head_clusters g))
head-long g f some long =
    let count = clusters_for g.record_size g.cluster in
    let whole : length (stream f (head_clusters g)) ≡ count * g.cluster = length-stream f g.cluster (head_clusters g) long ∙ ap (λ n. n * g.cluster) (length-row count g.mft) in
    omega (arith, whole, room-for g.record_size g.cluster some)

pub head-same : (g : Geometry) (f : ℕ → List ℕ) (table : Map) (rest : List ℕ) → table.clusters ≡ head_clusters g ++ rest → 1 ≤ g.cluster → HaveLength f g.cluster (head_clusters g) → g.record_size ≤ table.valid
    → raw_record g table f 0 ≡ Some (head_bytes g f)
unfolding raw_record
head-same g f table rest is some length_is valid =
    let size = g.record_size in
    let head = stream f (head_clusters g) in
    let all = stream f table.clusters in
    let long = head-long g f some length_is in
    let whole : all ≡ head ++ stream f rest = ap (stream f) is ∙ stream-append f (head_clusters g) rest in
    let none : 0 * size ≡ 0 = omega arith in
    let count = length-take table.valid all in
    let longer = ap length whole ∙ length-append head (stream f rest) in
    raw_of-within size 0 (take table.valid all) (omega (arith, none, count, longer, long, valid))
    ∙ ap Some (ap (λ n. take size (drop n (take table.valid all))) none
    ∙ take-drop-take 0 size table.valid all (omega (arith, valid))
    ∙ ap (take size) whole
    ∙ take-drop-append 0 size head (stream f rest) (omega (arith, long)))

-- ---- streams of images that agree

slots-agree : (g : Geometry) (table : Map) (f h : ℕ → List ℕ) → AgreeAt f h table.clusters → slots_of g table f ≡ slots_of g table h
unfolding slots_of raw_record
slots-agree g table f h are =
    ap (λ bytes. slots_from (λ n. located_slot n (raw_of g.record_size (take table.valid bytes) n)) 0 (table.valid / g.record_size)) (agree-stream f h table.clusters are)

same-records : {P : Type 0} (slots : List (Slot P)) (numbers : List ℕ) → SameRecords slots slots numbers
same-records slots [] = tt
same-records slots (n ∷ numbers) = (refl, same-records slots numbers)

pub gathered-agree : (g : Geometry) (table : Map) (f h : ℕ → List ℕ) (r kind : ℕ) (name : List ℕ) → AgreeAt f h table.clusters
    → AgreeAt f h (list_clusters g.clusters (attributes_at r (slots_of g table f))) → gather_of g table f r kind name ≡ gather_of g table h r kind name
unfolding gather_of
gathered-agree g table f h r kind name are list =
    let slots = slots_of g table f in
    let cells = with_cells g.clusters slots in
    let listing = sym (listing-same g.cluster g.clusters f h (attributes_at r slots) list) in
    streams-same g.cluster (lists_of g f slots) (lists_of g h slots) cells cells r kind name listing (same-records cells (gathered_from r kind name (lists_of g f slots r)))
    ∙ ap (λ slots. gather g.cluster (lists_of g h slots) (with_cells g.clusters slots) r kind name) (slots-agree g table f h are)
