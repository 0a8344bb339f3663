-- $MFT's map of a made volume.
use Rattle.std.proofs.Common.{◌≡◌, ◌≤◌, ◌<◌, ◌+◌, ◌-◌, ◌*◌, ◌^◌, ◌==◌, ℕ, zero, suc, true, false, List, [], ◌∷◌, ◌++◌, length, take, map, refl, ap, sym, ◌∙◌, arith, length-append}
use Rattle.std.specs.Prelude.{Some, Ok, filter, find}
use Rattle.std.proofs.Math.Nat.{add-mul}
use Rattle.std.proofs.lemmas.Bool.{eq-eqb, le-leb}
use Rattle.std.proofs.lemmas.Bool.Decides.{nat_tests}
use Rattle.std.proofs.lemmas.List.{append-nil}
use Rattle.std.proofs.lemmas.List.FromFn.{length-range_with_len}
use Rattle.ntfs_attrlist.specs.Entry.{Listed}
use Rattle.ntfs_base.specs.Bytes.{raw_of, stream}
use Rattle.ntfs_boot.specs.Geometry.{volume_geometry}
use Rattle.ntfs_boot.specs.declared.geometry.Geometry.{Geometry}
use Rattle.ntfs_record.specs.FileRecord.{Attribute, FileRecord, Laid, attributes_of}
use Rattle.ntfs_runs.specs.Cells.{are_cells}
use Rattle.ntfs_runs.specs.Clusters.{row, vcns}
use Rattle.ntfs_runs.proofs.CellsLemmas.{are_cells-some}
use Rattle.ntfs_volume.specs.Listing.{RecordListing, bytes_of_list, listing_in}
use Rattle.ntfs_volume.specs.MftMap.{all_clusters, begins_table, clusters_by, extension_of, extent_in, extent_of_entry, further, is_further, is_named, is_record_count, is_table, live_record, map_in, map_of, map_of_record, mft_map, table_clusters, table_listing}
use Rattle.ntfs_volume.specs.Opened.{opened_of}
use Rattle.ntfs_volume.specs.References.{has_base, target}
use Rattle.ntfs_make.specs.declared.shape.Shape.{Shape}
use Rattle.ntfs_make.specs.declared.table.Extent.{Extent}
use Rattle.ntfs_make.specs.declared.table.LowestVcn.TheVariants.{Behind}
use Rattle.ntfs_make.specs.declared.table.PlannedRun.TheVariants.{NoRun, InArea}
use Rattle.ntfs_make.specs.Areas.{area_at}
use Rattle.ntfs_make.specs.Attributes.{value_of}
use Rattle.ntfs_make.specs.Extents.{extent_runs, planned_runs, run_of, size_bytes}
use Rattle.ntfs_make.specs.Laws.{area_clusters}
use Rattle.ntfs_make.specs.Records.{record_of_row}
use Rattle.ntfs_make.specs.Shape.{IsShape}
use Rattle.ntfs_make.specs.Table.{extent_attribute, list_entry}
use Rattle.ntfs_make.specs.Volume.{LiesInVolume}
use Rattle.ntfs_make.proofs.AreaLemmas.{small-area}
use Rattle.ntfs_make.proofs.ReadLemmas.{lies-number}
use Rattle.ntfs_made_records.specs.Made.{HasMadeCells, made_face, made_head, made_laid, made_pairs, made_record}
use Rattle.ntfs_made_map.specs.Opened.{made_geometry, made_map, made_opened}
use Rattle.ntfs_made_map.proofs.BootLemmas.{geometry-told}
use Rattle.ntfs_made_map.proofs.ImageLemmas.{first_clusters, head-read, made_bytes, made_cluster, next_clusters, record-known, row-clusters, mft_clusters}
use Rattle.ntfs_made_map.proofs.ListLemmas.{AllFit, list-read, made_entry}
use Rattle.ntfs_made_map.proofs.PlaceLemmas.{rooms}
use Rattle.ntfs_made_map.proofs.RowLemmas.{first-found, first_extent, head-made, next-base, next-found, next-read, next-there, next_extent, next_row, read_attribute, read_attributes, table-read, table-there, table_list, table_row}

-- ---- the clusters of an area

some-clusters : (n c : ℕ) → 32768 ≤ n * c → n == 0 ≡ false
some-clusters zero c room = absurd (omega arith)
some-clusters (suc n) c room = grind (arith, nat_tests)

-- an extent of one area spells its clusters
area-cells : (shape : Shape) (number : ℕ) → 32768 ≤ (area_at shape number).length * shape.cluster
    → vcns (extent_runs shape (InArea number ∷ NoRun ∷ NoRun ∷ []))
    ≡ row (area_at shape number).length (Some (area_at shape number).start)
unfolding extent_runs run_of vcns
area-cells shape number room =
    let area = area_at shape number in
    rw (some-clusters area.length shape.cluster room) (append-nil (row area.length (Some area.start)))

area-below : (shape : Shape) (number : ℕ) → IsShape shape → number < 29
    → are_cells false shape.clusters (row (area_at shape number).length (Some (area_at shape number).start)) ≡ true
area-below shape number is few =
    let area = area_at shape number in
    let lies : LiesInVolume shape area = lies-number shape number is few in
    let ends = lies.clusters in
    are_cells-some false shape.clusters area.start area.length
    ∙ le-leb area.length (shape.clusters - area.start) (omega arith)

-- mapping pairs that spell an area tell its clusters
pairs-told : (shape : Shape) (extent : Extent) (number r : ℕ) → IsShape shape → number < 29
    → 32768 ≤ (area_at shape number).length * shape.cluster → planned_runs extent ≡ InArea number ∷ NoRun ∷ NoRun ∷ []
    → HasMadeCells shape extent
    → table_clusters shape.clusters r (made_pairs shape extent) ≡ Ok (area_clusters (area_at shape number))
unfolding table_clusters
pairs-told shape extent number r is few room planned cells =
    let area = area_at shape number in
    let spelled : vcns (extent_runs shape (planned_runs extent)) ≡ row area.length (Some area.start) =
    ap (λ runs. vcns (extent_runs shape runs)) planned ∙ area-cells shape number room in
    rw (cells.reads, spelled, area-below shape number is few) (ap Ok (row-clusters area.length area.start))

-- ---- the extent behind the first

-- what the entry names, where its record is an extension of record 0
extent-told : (g : Geometry) (f : ℕ → List ℕ) (valid : ℕ) (first : FileRecord) (known : List ℕ) (entry : Listed)
    (raw : List ℕ) (holder : FileRecord) (a : Attribute (Laid (List ℕ))) (more : List ℕ)
    → entry.lowest == length known ≡ true → target entry.reference == 0 ≡ false
    → raw_of g.record_size (take valid (stream f known)) (target entry.reference) ≡ Some raw
    → live_record raw ≡ Some holder
    → has_base holder.head.base 0 first.head.sequence ≡ true
    → find (λ (a : Attribute _). is_named entry a.face) (attributes_of holder) ≡ Some a → a.face.is_resident ≡ false
    → table_clusters g.clusters (target entry.reference) a.payload.runs ≡ Ok more
    → extent_of_entry g f valid first known entry ≡ Ok more
unfolding extent_of_entry extension_of extent_in
extent-told g f valid first known entry raw holder a more begins other there live base found runs told =
    rw (begins, other, there, live, base, found, runs) told

further-told : (g : Geometry) (f : ℕ → List ℕ) (valid : ℕ) (first : FileRecord) (known more : List ℕ) (entry : Listed)
    → extent_of_entry g f valid first known entry ≡ Ok more
    → further g f valid first known (entry ∷ []) ≡ Ok (known ++ more)
unfolding further
further-told g f valid first known more entry is = rw is refl

-- ---- the parts of the map

clusters-told : (g : Geometry) (f : ℕ → List ℕ) (valid : ℕ) (first : FileRecord) (known : List ℕ)
    (listing : RecordListing) (clusters : List ℕ)
    → table_listing g f first ≡ listing → listing.is_good ≡ true
    → further g f valid first known (filter is_further listing.entries) ≡ Ok clusters
    → all_clusters g f valid first known ≡ Ok clusters
unfolding all_clusters clusters_by
clusters-told g f valid first known listing clusters is good more = rw (is, good) more

map-told : (g : Geometry) (f : ℕ → List ℕ) (first : FileRecord) (a : Attribute (Laid (List ℕ)))
    (known clusters : List ℕ)
    → find (λ (a : Attribute _). begins_table a.face) (attributes_of first) ≡ Some a
    → table_clusters g.clusters 0 a.payload.runs ≡ Ok known → all_clusters g f a.face.valid first known ≡ Ok clusters
    → is_table g (length clusters) a.face.size a.face.valid ≡ true
    → map_of_record g f first ≡ Ok (record { clusters = clusters; size = a.face.size; valid = a.face.valid })
unfolding map_of_record map_of
map-told g f first a known clusters found told all fits = rw (found, told, all, fits) refl

head-told : (g : Geometry) (f : ℕ → List ℕ) (raw : List ℕ) (first : FileRecord)
    → live_record raw ≡ Some first → map_in g f raw ≡ map_of_record g f first
unfolding map_in
head-told g f raw first is = rw is refl

-- ---- the map

list-fits : (shape : Shape) → IsShape shape → AllFit shape table_list
list-fits shape is =
    let small = small-area shape 1 is in
    let few = small.length in (
      record { kind = omega arith; lowest = omega arith; number = omega arith; instance = omega arith },
      (
        record { kind = omega arith; lowest = omega arith; number = omega arith; instance = omega arith },
        (
          record { kind = omega arith; lowest = omega arith; number = omega arith; instance = omega arith },
          (
            record { kind = omega arith; lowest = omega arith; number = omega arith; instance = omega arith },
            (record { kind = omega arith; lowest = omega arith; number = omega arith; instance = omega arith }, tt),
          ),
        ),
      ),
    )

-- the list of record 0
listing-told : (shape : Shape) (f : ℕ → List ℕ) (first : FileRecord) → IsShape shape
    → attributes_of first ≡ read_attributes shape table_row
    → table_listing (made_geometry shape) f first
    ≡ record { is_there = true; is_good = true; entries = map (made_entry shape) table_list }
unfolding made_geometry listing_in bytes_of_list made_face value_of
listing-told shape f first is are =
    rw (are, list-read shape table_list (list-fits shape is)) refl

-- the entry of the extent behind the first
abbrev next_entry : Shape → Listed
next_entry shape = made_entry shape (list_entry 0x80 (Behind 1) 28 0)

next-told : (shape : Shape) (first : FileRecord) → IsShape shape → first.head ≡ made_head table_row
    → extent_of_entry (made_geometry shape) (made_cluster shape) 65536 first (first_clusters shape) (next_entry shape)
    ≡ Ok (next_clusters shape)
unfolding made_geometry made_face made_laid
next-told shape first is head =
    let read = next-read shape is in
    let room = rooms shape is in
    let front = room.front in
    let count : (area_at shape 1).length ≡ length (first_clusters shape) =
    sym (length-range_with_len (area_at shape 1).start (area_at shape 1).length) in
    let base : has_base (made_record shape next_row).head.base 0 first.head.sequence ≡ true =
    rw (head-made shape next_row, head) next-base in
    extent-told (made_geometry shape) (made_cluster shape) 65536 first (first_clusters shape) (next_entry shape)
    (record_of_row shape next_row) (made_record shape next_row)
    (read_attribute shape 0 (extent_attribute 0x80 [] next_extent))
    (next_clusters shape)
    (eq-eqb (area_at shape 1).length (length (first_clusters shape)) count) refl
    (record-known shape 28 next_row is next-there (omega arith) (omega arith)) read.recorded base
    (rw read.attributes (next-found shape)) refl
    (pairs-told shape next_extent 7 28 is (omega arith) room.behind refl read.cells.0)

-- all clusters that record 0 tells
all-told : (shape : Shape) (first : FileRecord) → IsShape shape → first.head ≡ made_head table_row
    → attributes_of first ≡ read_attributes shape table_row
    → all_clusters (made_geometry shape) (made_cluster shape) 65536 first (first_clusters shape)
    ≡ Ok (mft_clusters shape)
all-told shape first is head are =
    clusters-told (made_geometry shape) (made_cluster shape) 65536 first (first_clusters shape)
    (record { is_there = true; is_good = true; entries = map (made_entry shape) table_list }) (mft_clusters shape)
    (listing-told shape (made_cluster shape) first is are) refl
    (further-told (made_geometry shape) (made_cluster shape) 65536 first (first_clusters shape) (next_clusters shape)
    (next_entry shape) (next-told shape first is head)
    ∙ ap (λ ks. Ok (first_clusters shape ++ ks)) (sym (append-nil (next_clusters shape))))

-- they have room for 64 records
table-fits : (shape : Shape) → IsShape shape
    → is_table (made_geometry shape) (length (mft_clusters shape)) 65536 65536 ≡ true
unfolding made_geometry is_table is_record_count
table-fits shape is =
    let room = rooms shape is in
    let front = room.front in
    let behind = room.behind in
    let one = area_at shape 1 in
    let next = area_at shape 7 in
    let count : length (mft_clusters shape) ≡ one.length + next.length =
    length-append (first_clusters shape) (next_clusters shape ++ [])
    ∙ rw (
      length-range_with_len one.start one.length,
      append-nil (next_clusters shape),
      length-range_with_len next.start next.length,
    ) refl in
    let both = add-mul one.length next.length shape.cluster in
    rw (count, le-leb 65536 ((one.length + next.length) * shape.cluster) (omega arith)) refl

record-map : (shape : Shape) (first : FileRecord) → IsShape shape → first.head ≡ made_head table_row
    → attributes_of first ≡ read_attributes shape table_row
    → map_of_record (made_geometry shape) (made_cluster shape) first ≡ Ok (made_map shape)
unfolding made_geometry made_map made_face made_laid size_bytes
record-map shape first is head are =
    let read = table-read shape is in
    let room = rooms shape is in
    map-told (made_geometry shape) (made_cluster shape) first
    (read_attribute shape 3 (extent_attribute 0x80 [] first_extent))
    (first_clusters shape) (mft_clusters shape) (rw are (first-found shape))
    (pairs-told shape first_extent 1 0 is (omega arith) room.front refl read.cells.1.1.1.0)
    (all-told shape first is head are) (table-fits shape is)

pub map-made : (shape : Shape) → IsShape shape
    → mft_map (made_geometry shape) (made_cluster shape) ≡ Ok (made_map shape)
unfolding mft_map made_geometry
map-made shape is =
    let read = table-read shape is in
    ap (map_in (made_geometry shape) (made_cluster shape)) (head-read shape table_row is table-there)
    ∙ head-told (made_geometry shape) (made_cluster shape) (record_of_row shape table_row)
    (made_record shape table_row) read.recorded
    ∙ record-map shape (made_record shape table_row) is (head-made shape table_row) read.attributes

pub opened-made : (shape : Shape) → shape.seed < 2 ^ 64 → IsShape shape
    → opened_of (made_bytes shape) ≡ Ok (made_opened shape)
unfolding opened_of made_opened made_geometry
opened-made shape small is =
    let told : volume_geometry (made_bytes shape) ≡ Ok (made_geometry shape) = geometry-told shape small is in
    let map : mft_map (made_geometry shape) (made_cluster shape) ≡ Ok (made_map shape) = map-made shape is in
    rw (told, map) refl
