-- The bytes of $MFT's clusters, and the records in them.
use Rattle.std.proofs.Common.{◌≡◌, ◌≤◌, ◌<◌, ◌+◌, ◌*◌, ◌/◌, ◌%◌, ℕ, zero, suc, List, [], ◌∷◌, ◌++◌, length, take, drop, slice_get, refl, sym, ap, ◌∙◌, subst, arith, Bool, true, false, Option, Some, None, Result, Ok, nat_lt, nat_le, if◌then◌else◌}
use Rattle.std.proofs.lemmas.Bool.{false≢true, leb-true, lt-leb}
use Rattle.std.proofs.lemmas.List.{length-take, length-take-le}
use Rattle.ntfs_base.specs.Bytes.{cluster_at, raw_of, stream}
use Rattle.ntfs_base.proofs.BytesLemmas.{raw_of-within, take-drop-take}
use Rattle.ntfs_runs.specs.Cells.{are_cells, map_cells}
use Rattle.ntfs_boot.specs.Geometry.{IsGood}
use Rattle.ntfs_boot.specs.declared.geometry.Geometry.{Geometry}
use Rattle.ntfs_fixup.specs.Fixups.{HasWholeStrides}
use Rattle.ntfs_runs.specs.Clusters.{vcns}
use Rattle.ntfs_runs.specs.declared.run.Run.{Run}
use Rattle.ntfs_volume.specs.MftMap.{is_record_count, is_table}
use Rattle.ntfs_volume.specs.Opened.{Opened, opened_by}
use Rattle.ntfs_volume.specs.Records.{raw_record}
use Rattle.ntfs_volume.specs.StreamBytes.{cells_bytes, clusters_in, have_room}
use Rattle.ntfs_volume.specs.declared.fault.VolumeFault.{VolumeFault}
use Rattle.ntfs_volume.proofs.AnswerLemmas.{and-left, and-right, given}

-- without holes the bytes of cells are those of their clusters
pub table-bytes : (f : ℕ → List ℕ) (c n : ℕ) (cells : List (Option ℕ)) → are_cells false n cells ≡ true
    → cells_bytes c (map_cells f cells) ≡ stream f (clusters_in cells)
unfolding are_cells cells_bytes clusters_in
table-bytes f c n [] are = refl
table-bytes f c n (None ∷ cells) are = absurd (false≢true are)
table-bytes f c n (Some k ∷ cells) are = ap (λ xs. f k ++ xs) (table-bytes f c n cells (and-right (nat_lt k n) (are_cells false n cells) are))

pub holes-too : (n : ℕ) (cells : List (Option ℕ)) → are_cells false n cells ≡ true → are_cells true n cells ≡ true
unfolding are_cells
holes-too n [] are = refl
holes-too n (None ∷ cells) are = absurd (false≢true are)
holes-too n (Some k ∷ cells) are = rw (and-left (nat_lt k n) (are_cells false n cells) are) (holes-too n cells (and-right (nat_lt k n) (are_cells false n cells) are))

-- there are as many clusters as cells
pub length-clusters : (n : ℕ) (cells : List (Option ℕ)) → are_cells false n cells ≡ true → length (clusters_in cells) ≡ length cells
unfolding are_cells clusters_in
length-clusters n [] are = refl
length-clusters n (None ∷ cells) are = absurd (false≢true are)
length-clusters n (Some k ∷ cells) are = ap suc (length-clusters n cells (and-right (nat_lt k n) (are_cells false n cells) are))

-- the cluster of a cell
abbrev pub flat : Option (Option ℕ) → Option ℕ
flat None = None
flat (Some cell) = cell

-- the cluster of a VCN
pub cluster-at : (n : ℕ) (cells : List (Option ℕ)) (i : ℕ) → are_cells false n cells ≡ true
    → slice_get (clusters_in cells) i ≡ flat (slice_get cells i)
unfolding are_cells clusters_in
cluster-at n [] i are = refl
cluster-at n (None ∷ cells) i are = absurd (false≢true are)
cluster-at n (Some k ∷ cells) zero are = refl
cluster-at n (Some k ∷ cells) (suc i) are = cluster-at n cells i (and-right (nat_lt k n) (are_cells false n cells) are)

record_ends : (r bytes size : ℕ) → 0 < size → r < bytes / size → r * size + size ≤ bytes
record_ends r bytes size some lt = grind arith

record_past : (r bytes size : ℕ) → 0 < size → bytes / size ≤ r → bytes < r * size + size
record_past r bytes size some le = grind arith

pub record-place : (r bytes size k : ℕ) → 0 < size → k ≡ size → r < bytes / k → r * k + size ≤ bytes
record-place r bytes size k some same lt =
    let ends = record_ends r bytes size some (subst (λ (n : ℕ). r < bytes / n) same lt) in
    let place : r * k ≡ r * size = ap (λ n. r * n) same in omega (arith, ends, place)

-- a record that lies in the first bytes
pub raw-there : (all : List ℕ) (bytes size r k : ℕ) → 0 < size → k ≡ size → bytes ≤ length all → r < bytes / k
    → raw_of size (take bytes all) r ≡ Some (take size (drop (r * k) all))
raw-there all bytes size r k some same within lt =
    let ends = record_ends r bytes size some (subst (λ (n : ℕ). r < bytes / n) same lt) in
    raw_of-within size r (take bytes all) (omega (arith, ends, length-take-le bytes all within))
    ∙ ap Some (take-drop-take (r * size) size bytes all ends)
    ∙ sym (ap (λ n. Some (take size (drop (r * n) all))) same)

none_of : (size r : ℕ) (bytes : List ℕ) → length bytes < r * size + size → raw_of size bytes r ≡ None
unfolding raw_of
none_of size r bytes short = rw (lt-leb (r * size + size) (length bytes) short) refl

-- one that doesn't
pub raw-past : (all : List ℕ) (bytes size r k : ℕ) → 0 < size → k ≡ size → bytes / k ≤ r → raw_of size (take bytes all) r ≡ None
raw-past all bytes size r k some same le =
    none_of size r (take bytes all) (omega (arith, record_past r bytes size some (subst (λ (n : ℕ). bytes / n ≤ r) same le), length-take bytes all))

-- ---- what is kept

pub table-room : (g : Geometry) (count size valid : ℕ) → is_table g count size valid ≡ true → valid ≤ count * g.cluster
unfolding is_table
table-room g count size valid is =
    let room = and-left (have_room g.cluster count size valid) (is_record_count (size / g.record_size)) is in
    let first = leb-true size (count * g.cluster) (and-left (nat_le size (count * g.cluster)) (nat_le valid size) room) in
    let second = leb-true valid size (and-right (nat_le size (count * g.cluster)) (nat_le valid size) room) in
    omega (arith, first, second)

pub raw-told : (image : List ℕ) (g : Geometry) (runs shown : List Run) (size valid r : ℕ) (there : Bool) (block : List ℕ) (o : Opened) → opened_by g runs size valid ≡ o → shown ≡ runs
    → ◌≡◌ {A = Result (Option (List ℕ)) VolumeFault} (Ok (raw_of g.record_size (take valid (stream (cluster_at image g.cluster) (clusters_in (vcns shown)))) r)) (Ok (if there then Some block else None))
    → raw_record o.geometry o.map (cluster_at image o.geometry.cluster) r ≡ (if there then Some block else None)
unfolding raw_record
raw-told image g runs shown size valid r there block o view same is =
    subst (λ (o : Opened). raw_record o.geometry o.map (cluster_at image o.geometry.cluster) r ≡ (if there then Some block else None)) view
    (ap (λ rs. raw_of g.record_size (take valid (stream (cluster_at image g.cluster) (clusters_in (vcns rs)))) r) (sym same) ∙ sym (given _ _ is))

pub strides : (block : List ℕ) (g : Geometry) → IsGood g → length block ≡ g.record_size → HasWholeStrides block
strides block g good long = record {
  whole = ap (λ n. n % 512) long ∙ good.record_strides;
  least = omega (arith, long, good.least_record);
  most = omega (arith, long, good.most_record);
}
