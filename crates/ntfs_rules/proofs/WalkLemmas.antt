-- Directories as the rules have them are those of the opened volume: their walks, the table of upper-case units, and
-- the records that are tested.
use Rattle.std.proofs.Common.{◌≡◌, ◌&&◌, ◌||◌, ℕ, suc, Bool, true, false, List, [], ◌∷◌, Option, Some, None, Result, Ok, Err, nat_lt, refl, sym, ap, ◌∙◌}
use Rattle.std.specs.Prelude.{not}
use Rattle.std.specs.Result.{result_map_both}
use Rattle.std.proofs.lemmas.Bool.{and_parts}
use Rattle.ntfs_base.specs.Bytes.{cluster_at}
use Rattle.ntfs_base.specs.Frames.{must, ◌>>=◌}
use Rattle.ntfs_boot.specs.declared.geometry.Geometry.{Geometry}
use Rattle.ntfs_directory.specs.Allocation.{allocation_bytes, allocation_of}
use Rattle.ntfs_directory.specs.Directory.{DirectoryIndex, DirectoryWalk, allocation_found, allocation_kind, directory_index, directory_walk, index_name, index_root_value, index_walk, root_kind}
use Rattle.ntfs_directory.specs.Directory as directory
use Rattle.ntfs_directory.specs.Fault.{unwalkable}
use Rattle.ntfs_directory.specs.UpCase.{data_kind, has_table_sizes, is_up_case, up_case_found, up_case_of, up_case_record}
use Rattle.ntfs_record.proofs.SlotLemmas.{first_not-map}
use Rattle.ntfs_record.specs.FileRecord.{Laid}
use Rattle.ntfs_record.specs.Slots.{Slot, first_not, map_laid, map_slot, map_slots, on_payload}
use Rattle.ntfs_rules.proofs.DataLemmas.{content-is, contents-are}
use Rattle.ntfs_rules.specs.Directories.{root_of, up_case_units, walk_by, gathered_walk, walk_of}
use Rattle.ntfs_rules.specs.VolumeData.{Records, bytes_found, content_in, contents, listings, volume_data, without_clusters}
use Rattle.ntfs_runs.specs.Cells.{Cells, are_cells, cells_below, map_cells}
use Rattle.ntfs_stream.specs.StreamBytes.{bytes_of_stream}
use Rattle.ntfs_upcase.specs.Names.{units}
use Rattle.ntfs_volume.proofs.MappedLemmas.{gather-mapped}
use Rattle.ntfs_volume.proofs.StreamLemmas.{gathered-readable}
use Rattle.ntfs_volume.specs.Laws.{in_located}
use Rattle.ntfs_volume.specs.Located.{Located, map_located, slots_of, with_cells}
use Rattle.ntfs_volume.specs.Opened.{Opened}
use Rattle.ntfs_volume.specs.Streams.{Gathered, IsReadable, Stream, gather_of, map_gathered, map_stream}
use Rattle.ntfs_volume.specs.declared.fault.VolumeFault.{VolumeFault}
use Rattle.ntfs_volume.specs.declared.fault.VolumeFault.TheVariants as volume

-- what was gathered, with the bytes of each cluster
abbrev pub filled : (ℕ → List ℕ) → Result (Gathered ℕ) VolumeFault → Result (Gathered (List ℕ)) VolumeFault
filled f found = result_map_both (map_gathered (λ place. 0) f) (λ fault. fault) found

pub content-filled : (o : Opened) (f : ℕ → List ℕ) (r kind : ℕ) (name : List ℕ) → content_in (volume_data o f) r kind name ≡ filled f (gather_of o.geometry o.map f r kind name)
content-filled o f r kind name = content-is o f r kind name (gather-mapped (λ place. 0) f o.geometry.cluster _ (with_cells o.geometry.clusters (slots_of o.geometry o.map f)) r kind name)

-- ---- walks

root-filled : (f : ℕ → List ℕ) (d : ℕ) (found : Result (Gathered ℕ) VolumeFault) → index_root_value d (without_clusters (filled f found)) ≡ index_root_value d found
root-filled f d (Ok found) = refl
root-filled f d (Err volume.NotNtfs) = refl
root-filled f d (Err (volume.BadGeometry field value)) = refl
root-filled f d (Err (volume.ImageShort len need)) = refl
root-filled f d (Err (volume.Damaged rule number)) = refl
root-filled f d (Err volume.Absent) = refl
root-filled f d (Err volume.NoAttribute) = refl
root-filled f d (Err volume.ReadFault) = refl
root-filled f d (Err volume.WriteFault) = refl
root-filled f d (Err volume.NoMemory) = refl

-- the walk of a root, by the blocks that were gathered
abbrev by_root : Geometry → List ℕ → ℕ → Result (Gathered ℕ) VolumeFault → Result (List ℕ) VolumeFault → DirectoryWalk
by_root g image d blocks root =
    directory.walk_found g image d (root >>= (λ value. allocation_found blocks >>= (λ allocation. Ok (record { root = value; allocation = allocation }))))

abbrev by_filled : Geometry → List ℕ → ℕ → Result (Gathered ℕ) VolumeFault → Result (List ℕ) VolumeFault → DirectoryWalk
by_filled g image d blocks root =
    walk_by g d (root >>= (λ value. allocation_found (without_clusters (filled (cluster_at image g.cluster) blocks)) >>= (λ allocation. Ok value)))
    (bytes_found g.cluster (filled (cluster_at image g.cluster) blocks))

root-walked : (g : Geometry) (image : List ℕ) (d : ℕ) (root : List ℕ) (blocks : Result (Gathered ℕ) VolumeFault) → by_filled g image d blocks (Ok root) ≡ by_root g image d blocks (Ok root)
unfolding index_walk bytes_of_stream
root-walked g image d root (Ok found) = refl
root-walked g image d root (Err volume.NotNtfs) = refl
root-walked g image d root (Err (volume.BadGeometry field value)) = refl
root-walked g image d root (Err (volume.ImageShort len need)) = refl
root-walked g image d root (Err (volume.Damaged rule number)) = refl
root-walked g image d root (Err volume.Absent) = refl
root-walked g image d root (Err volume.NoAttribute) = refl
root-walked g image d root (Err volume.ReadFault) = refl
root-walked g image d root (Err volume.WriteFault) = refl
root-walked g image d root (Err volume.NoMemory) = refl

walked : (g : Geometry) (image : List ℕ) (d : ℕ) (root : Result (List ℕ) VolumeFault) (blocks : Result (Gathered ℕ) VolumeFault) → by_filled g image d blocks root ≡ by_root g image d blocks root
walked g image d (Ok root) blocks = root-walked g image d root blocks
walked g image d (Err fault) blocks = refl

walk-filled : (g : Geometry) (image : List ℕ) (d : ℕ) (root blocks : Result (Gathered ℕ) VolumeFault)
    → gathered_walk g d (filled (cluster_at image g.cluster) root) (filled (cluster_at image g.cluster) blocks) ≡ by_root g image d blocks (index_root_value d root)
unfolding gathered_walk root_of
walk-filled g image d root blocks =
    ap (by_filled g image d blocks) (root-filled (cluster_at image g.cluster) d root) ∙ walked g image d (index_root_value d root) blocks

-- the walk of a directory is the one that ntfs_directory gives
pub walk-is : (o : Opened) (image : List ℕ) (d : ℕ)
    → walk_of o.geometry (listings (volume_data o (cluster_at image o.geometry.cluster))) (contents (volume_data o (cluster_at image o.geometry.cluster))) d
    ≡ directory_walk o.geometry o.map image d
unfolding walk_of directory_walk directory_index volume_data
walk-is o image d =
    let f = cluster_at image o.geometry.cluster in
    ap (λ (found : Result (Gathered (List ℕ)) VolumeFault). gathered_walk o.geometry d found (content_in (volume_data o f) d allocation_kind index_name)) (content-filled o f d root_kind index_name)
    ∙ ap (gathered_walk o.geometry d (filled f (gather_of o.geometry o.map f d root_kind index_name))) (content-filled o f d allocation_kind index_name)
    ∙ walk-filled o.geometry image d (gather_of o.geometry o.map f d root_kind index_name) (gather_of o.geometry o.map f d allocation_kind index_name)

-- ---- the table of upper-case units

cells-filled : (f : ℕ → List ℕ) (n : ℕ) (cells : List (Option ℕ)) → are_cells true n cells ≡ true → are_cells false 1 (map_cells (λ bytes. 0) (map_cells f cells)) ≡ are_cells false n cells
unfolding are_cells
cells-filled f n [] below = refl
cells-filled f n (None ∷ cells) below = refl
cells-filled f n (Some k ∷ cells) below =
    let parts = and_parts (nat_lt k n) (are_cells true n cells) below in
    cells-filled f n cells parts.1 ∙ ap (λ b. b && are_cells false n cells) (sym parts.0)

table-filled : (f : ℕ → List ℕ) (n : ℕ) (s : Stream ℕ) → are_cells true n s.cells ≡ true → is_up_case 1 (map_stream (λ bytes. 0) (map_stream f s)) ≡ is_up_case n s
unfolding is_up_case has_table_sizes
table-filled f n s below = ap (λ b. not s.is_resident && (has_table_sizes s && b)) (cells-filled f n s.cells below)

abbrev given_table : Geometry → List ℕ → Result (Stream ℕ) VolumeFault → Result (List ℕ) VolumeFault
given_table g image found =
    found >>= (λ s. must (is_up_case g.clusters s) (unwalkable up_case_record) >>= (λ _. Ok (units (allocation_bytes g image s))))

units-filled : (g : Geometry) (image : List ℕ) (found : Result (Gathered ℕ) VolumeFault) → ((s : Gathered ℕ) → found ≡ Ok s → are_cells true g.clusters s.stream.cells ≡ true)
    → up_case_units g.cluster (filled (cluster_at image g.cluster) found) ≡ given_table g image (up_case_found found)
unfolding up_case_units
units-filled g image (Ok found) below =
    ap (λ b. must b (unwalkable up_case_record) >>= (λ _. Ok (units (allocation_bytes g image found.stream)))) (table-filled (cluster_at image g.cluster) g.clusters found.stream (below found refl))
units-filled g image (Err volume.NotNtfs) below = refl
units-filled g image (Err (volume.BadGeometry field value)) below = refl
units-filled g image (Err (volume.ImageShort len need)) below = refl
units-filled g image (Err (volume.Damaged rule number)) below = refl
units-filled g image (Err volume.Absent) below = refl
units-filled g image (Err volume.NoAttribute) below = refl
units-filled g image (Err volume.ReadFault) below = refl
units-filled g image (Err volume.WriteFault) below = refl
units-filled g image (Err volume.NoMemory) below = refl

-- the table is the one that ntfs_directory gives
pub units-are : (o : Opened) (image : List ℕ)
    → up_case_units o.geometry.cluster (content_in (volume_data o (cluster_at image o.geometry.cluster)) up_case_record data_kind []) ≡ up_case_of o.geometry o.map image
unfolding up_case_of
units-are o image =
    let f = cluster_at image o.geometry.cluster in
    ap (up_case_units o.geometry.cluster) (content-filled o f up_case_record data_kind [])
    ∙ units-filled o.geometry image (gather_of o.geometry o.map f up_case_record data_kind []) (λ s is. (gathered-readable o.geometry o.map f up_case_record data_kind [] s is).cells)

-- ---- records

-- a record with the bytes of its clusters, and no place
abbrev pub with_content : ℕ → (ℕ → List ℕ) → ℕ → Slot (Located (Laid (List ℕ))) → Slot (Located (Laid (Cells (List ℕ))))
with_content n f r s = map_slot (on_payload (in_located (λ place. 0) f) r) (map_slot (on_payload (map_located (map_laid (cells_below n))) r) s)

-- the first record that a test of contents refuses, by a test of what the records say
pub contents-first : (o : Opened) (f : ℕ → List ℕ) (test : ℕ → Slot (Located (Laid (Cells (List ℕ)))) → Bool) (other : ℕ → Slot (Located (Laid (List ℕ))) → Bool)
    → ((r : ℕ) (s : Slot (Located (Laid (List ℕ)))) → test r (with_content o.geometry.clusters f r s) ≡ other r s)
    → first_not test 0 (contents (volume_data o f)) ≡ first_not other 0 (slots_of o.geometry o.map f)
unfolding with_cells
contents-first o f test other same =
    let slots = slots_of o.geometry o.map f in
    let celled = on_payload (map_located (map_laid (cells_below o.geometry.clusters))) in
    ap (λ (them : Records (List ℕ)). first_not test 0 them) (contents-are o f)
    ∙ first_not-map (on_payload (in_located (λ place. 0) f)) (λ r s. test r (map_slot (on_payload (in_located (λ place. 0) f) r) s)) test 0 (map_slots celled 0 slots) (λ r s. refl)
    ∙ first_not-map celled other (λ r s. test r (map_slot (on_payload (in_located (λ place. 0) f) r) s)) 0 slots same
