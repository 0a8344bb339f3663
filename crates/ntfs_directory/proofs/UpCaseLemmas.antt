-- The table of upper-case units.
use Rattle.std.proofs.Common.{◌≡◌, ◌==◌, ◌&&◌, ℕ, List, [], ◌++◌, length, take, drop, not, refl, sym, ap, ◌∙◌, arith, Bool, true, false, Option, Some, None, Ok, Err}
use Rattle.std.specs.Prelude.{if◌then◌else◌}
use Rattle.std.proofs.lemmas.Bool.{false≢true}
use Rattle.std.proofs.lemmas.List.{append-nil, drop_all, take_all}
use Rattle.ntfs_base.specs.Bytes.{cluster_at, piece_at}
use Rattle.ntfs_boot.specs.Geometry.{IsOpened}
use Rattle.ntfs_boot.specs.declared.geometry.Geometry.{Geometry}
use Rattle.ntfs_runs.specs.Cells.{are_cells}
use Rattle.ntfs_stream.proofs.BoolLemmas.{and-left, and-right}
use Rattle.ntfs_upcase.specs.Names.{units}
use Rattle.ntfs_volume.specs.MftMap.{Map}
use Rattle.ntfs_volume.specs.Streams.{IsReadable, Stream, gather_of}
use Rattle.ntfs_volume.specs.declared.fault.VolumeFault.{VolumeFault}
use Rattle.ntfs_directory.specs.Allocation.{CanRead, allocation_bytes, allocation_length}
use Rattle.ntfs_directory.specs.Fault.{unwalkable}
use Rattle.ntfs_directory.specs.UpCase.{data_kind, has_table_sizes, is_up_case, up_case_found, up_case_of, up_case_record, up_case_size}
use Rattle.ntfs_directory.proofs.AllocationLemmas.{bytes-length}

not-resident : (b : Bool) → not b ≡ true → b ≡ false
not-resident false is = refl
not-resident true is = absurd (false≢true is)

-- ---- the test of a table

resident_is : (resident : Bool) (given : List (Option ℕ)) → None ≡ (if resident then None else Some given) → resident ≡ true
resident_is true given is = refl
resident_is false given is = absurd cc

runs_is : (resident : Bool) (given cells : List (Option ℕ)) → Some cells ≡ (if resident then None else Some given) → (resident ≡ false) × (given ≡ cells)
runs_is true given cells is = absurd cc
runs_is false given cells is = (refl, cc)

and-false : (b : Bool) → (b && false) ≡ false
and-false true = refl
and-false false = refl

pub not-table : (n : ℕ) (s : Stream ℕ) → None ≡ (if s.is_resident then None else Some s.cells) → false ≡ is_up_case n s
unfolding is_up_case
not-table n s is = let resident = resident_is s.is_resident s.cells is in rw resident refl

pub other-sizes : (n : ℕ) (s : Stream ℕ) (sizes : Bool) → sizes ≡ has_table_sizes s → sizes ≡ false → sizes ≡ is_up_case n s
unfolding is_up_case
other-sizes n s sizes is wrong_is = let wrong = sym is ∙ wrong_is in rw wrong (wrong_is ∙ sym (and-false (not s.is_resident)))

pub table-cells : (n : ℕ) (s : Stream ℕ) (sizes below : Bool) (cells : List (Option ℕ)) → Some cells ≡ (if s.is_resident then None else Some s.cells) → sizes ≡ has_table_sizes s → sizes ≡ true → below ≡ are_cells false n cells → below ≡ is_up_case n s
unfolding is_up_case has_table_sizes
table-cells n s sizes below cells shown is right_is lies =
    let parts = runs_is s.is_resident s.cells cells shown in
    let right = sym is ∙ right_is in
    rw (parts.0, right) (lies ∙ ap (are_cells false n) (sym parts.1))

-- a table has all its bytes
pub table-length : (n : ℕ) (s : Stream ℕ) → is_up_case n s ≡ true → allocation_length s ≡ up_case_size
unfolding is_up_case has_table_sizes
table-length n s is =
    let flags = s.flags == 0 in
    let size = s.size == up_case_size in
    let valid = s.valid == up_case_size in
    let sizes = and-left (flags && size && valid) (are_cells false n s.cells) (and-right (not s.is_resident) ((flags && size && valid) && are_cells false n s.cells) is) in
    let resident = not-resident s.is_resident (and-left (not s.is_resident) ((flags && size && valid) && are_cells false n s.cells) is) in
    let right : s.size ≡ up_case_size = grind (arith, sizes) in
    rw resident right

pub can-read : (size : ℕ) (g : Geometry) (s : Stream ℕ) → IsOpened size g → IsReadable g s → CanRead size g s
can-read size g s opened readable = record {
  least = opened.good.least_cluster;
  most = opened.good.most_cluster;
  few = omega (arith, opened.good.most_clusters);
  held = opened.held;
  readable = readable;
}

-- a buffer that was filled
pub list-back : (n : ℕ) (new items shown : List ℕ) → length new ≡ length shown → shown ≡ items → n ≡ length items → take n (new ++ drop (length new) items) ≡ new
list-back n new items shown long same count =
    let size : length items ≡ length new = sym (ap length same) ∙ sym long in
    let none = drop_all (length new) items (omega (arith, size)) in
    ap (λ rest. take n (new ++ rest)) none ∙ ap (take n) (append-nil new) ∙ take_all n new (omega (arith, size, count))

-- what was read is the whole table
pub table-read : (g : Geometry) (content into : List ℕ) (s : Stream ℕ) (m : ℕ) → CanRead (length content) g s → is_up_case g.clusters s ≡ true → m ≡ up_case_size → into ≡ piece_at 0 m (allocation_bytes g content s) → into ≡ allocation_bytes g content s
unfolding piece_at
table-read g content into s m can whole size is =
    is ∙ take_all m (allocation_bytes g content s) (omega (arith, bytes-length g content s can, table-length g.clusters s whole, size))

module _ (g : Geometry) (map : Map) (image : List ℕ) where
  pub table-missing : (fault : VolumeFault) → up_case_found (gather_of g map (cluster_at image g.cluster) up_case_record data_kind []) ≡ Err fault → up_case_of g map image ≡ Err fault
  unfolding up_case_of
  table-missing fault is = rw is refl

  pub table-wrong : (s : Stream ℕ) → up_case_found (gather_of g map (cluster_at image g.cluster) up_case_record data_kind []) ≡ Ok s → is_up_case g.clusters s ≡ false → up_case_of g map image ≡ Err (unwalkable up_case_record)
  unfolding up_case_of
  table-wrong s found is = rw (found, is) refl

  pub table-given : (s : Stream ℕ) (bytes : List ℕ) → up_case_found (gather_of g map (cluster_at image g.cluster) up_case_record data_kind []) ≡ Ok s → is_up_case g.clusters s ≡ true → bytes ≡ allocation_bytes g image s
      → up_case_of g map image ≡ Ok (units bytes)
  unfolding up_case_of
  table-given s bytes found is same = rw (found, is) (ap (λ xs. Ok (units xs)) (sym same))
