-- The bytes of an allocation, and the blocks in them.
use Rattle.std.proofs.Common.{◌≡◌, ◌≤◌, ◌+◌, ◌-◌, ◌*◌, ℕ, List, [], ◌∷◌, length, take, drop, refl, sym, ap, ◌∙◌, arith, length-append, Bool, true, false, Option, Some, None, nat_le, slice_range}
use Rattle.std.specs.Prelude.{if◌then◌else◌, replicate}
use Rattle.std.specs.Option.{option_map}
use Rattle.std.proofs.lemmas.Bool.{leb-true}
use Rattle.std.proofs.lemmas.List.{length-replicate, length-take-le}
use Rattle.ntfs_base.specs.Bytes.{cluster_at, piece_at}
use Rattle.ntfs_boot.specs.declared.geometry.Geometry.{Geometry}
use Rattle.ntfs_index.specs.Blocks.{allocation_blocks, blocks_of, vcn_unit}
use Rattle.ntfs_runs.specs.Cells.{are_cells, map_cells}
use Rattle.ntfs_runs.specs.Clusters.{vcns}
use Rattle.ntfs_runs.specs.declared.run.Run.{Run}
use Rattle.ntfs_stream.proofs.BoolLemmas.{and-left, and-right}
use Rattle.ntfs_stream.proofs.StreamBytesLemmas.{clusters-long, length-cells}
use Rattle.ntfs_stream.specs.StreamBytes.{bytes_of_stream}
use Rattle.ntfs_volume.specs.StreamBytes.{cells_bytes, have_room, runs_bytes}
use Rattle.ntfs_volume.specs.Streams.{Stream, value_stream}
use Rattle.ntfs_directory.specs.Allocation.{CanRead, allocation_bytes, allocation_length}

-- ---- how many bytes there are

length-runs : (content : List ℕ) (c n s v : ℕ) (cells : List (Option ℕ)) → n * c ≤ length content → are_cells true n cells ≡ true → have_room c (length cells) s v ≡ true
    → length (runs_bytes c s v (map_cells (cluster_at content c) cells)) ≡ s
unfolding runs_bytes
length-runs content c n s v cells held are room =
    let bytes = cells_bytes c (map_cells (cluster_at content c) cells) in
    let long = length-cells (cluster_at content c) c n cells (clusters-long content c n held) are in
    let valid = leb-true v s (and-right (nat_le s (length cells * c)) (nat_le v s) room) in
    let enough = leb-true s (length cells * c) (and-left (nat_le s (length cells * c)) (nat_le v s) room) in
    let front = length-take-le v bytes (omega (arith, long, valid, enough)) in
    length-append (take v bytes) (replicate (s - v) 0) ∙ omega (arith, front, length-replicate {A = ℕ} (s - v) 0, valid)

pub bytes-length : (g : Geometry) (content : List ℕ) (s : Stream ℕ) → CanRead (length content) g s → length (allocation_bytes g content s) ≡ allocation_length s
unfolding bytes_of_stream
bytes-length g content s can = by s.is_resident refl
  where
    by : (b : Bool) → s.is_resident ≡ b → length (allocation_bytes g content s) ≡ allocation_length s
    by true is = rw is refl
    by false is = rw is (length-runs content g.cluster g.clusters s.size s.valid s.cells can.held can.readable.cells (can.readable.room is))

-- ---- the bytes of a value, and of runs

value_is : (resident : Bool) (value bytes : List ℕ) → Some bytes ≡ (if resident then Some value else None) → (resident ≡ true) × (value ≡ bytes)
value_is true value bytes is = (refl, cc)
value_is false value bytes is = absurd cc

runs_is : (resident : Bool) (given cells : List (Option ℕ)) → Some cells ≡ (if resident then None else Some given) → (resident ≡ false) × (given ≡ cells)
runs_is true given cells is = absurd cc
runs_is false given cells is = (refl, cc)

value-bytes : (g : Geometry) (content value : List ℕ) (s : Stream ℕ) → Some value ≡ (if s.is_resident then Some s.value else None) → allocation_bytes g content s ≡ value
unfolding bytes_of_stream
value-bytes g content value s is = let parts = value_is s.is_resident s.value value is in rw parts.0 parts.1

runs-bytes : (g : Geometry) (content : List ℕ) (s : Stream ℕ) (cells : List (Option ℕ)) → Some cells ≡ (if s.is_resident then None else Some s.cells)
    → runs_bytes g.cluster s.size s.valid (map_cells (cluster_at content g.cluster) cells) ≡ allocation_bytes g content s
unfolding bytes_of_stream
runs-bytes g content s cells is =
    let parts = runs_is s.is_resident s.cells cells is in
    rw parts.0 (ap (λ cs. runs_bytes g.cluster s.size s.valid (map_cells (cluster_at content g.cluster) cs)) (sym parts.1))

-- ---- blocks

pub blocks-found : (g : Geometry) (content : List ℕ) (s : Stream ℕ) (vcn unit len : ℕ) (found : Option ℕ) → CanRead (length content) g s → unit ≡ vcn_unit g.cluster g.block → len ≡ allocation_length s
    → ((bytes : List ℕ) → length bytes ≡ len → blocks_of unit g.block bytes vcn ≡ option_map (λ place. piece_at place g.block bytes) found)
    → allocation_blocks g.cluster g.block (allocation_bytes g content s) vcn ≡ option_map (λ place. piece_at place g.block (allocation_bytes g content s)) found
blocks-found g content s vcn unit len found can unit_is len_is is =
    let bytes = allocation_bytes g content s in
    ap (λ u. blocks_of u g.block bytes vcn) (sym unit_is) ∙ is bytes (bytes-length g content s can ∙ sym len_is)

pub block-read : (bytes into : List ℕ) (place len size : ℕ) → len ≡ size → into ≡ piece_at place len bytes → Some (piece_at place size bytes) ≡ Some into
block-read bytes into place len size same is = ap Some (ap (λ n. piece_at place n bytes) (sym same) ∙ sym is)

pub some-not-none : {X : Type 0} (o : Option X) (x : X) → o ≡ Some x → o ≡ None → ⊥
some-not-none o x some none = cc

-- ---- what was read

pub copied-piece : (g : Geometry) (content value into : List ℕ) (s : Stream ℕ) (place m : ℕ) → Some value ≡ (if s.is_resident then Some s.value else None) → into ≡ slice_range value place (place + m)
    → into ≡ piece_at place m (allocation_bytes g content s)
unfolding piece_at
copied-piece g content value into s place m is copied =
    let size : place + m - place ≡ m = omega arith in
    copied ∙ ap (λ n. take n (drop place value)) size ∙ ap (λ xs. take m (drop place xs)) (sym (value-bytes g content value s is))

pub nothing-read : (g : Geometry) (content into : List ℕ) (place : ℕ) → length into ≡ 0 → into ≡ piece_at place (length into) (allocation_bytes g content (value_stream 0 []))
unfolding piece_at
nothing-read g content [] place none = refl
nothing-read g content (x ∷ xs) place none = absurd (omega (arith, none))

pub placed-piece : (g : Geometry) (content : List ℕ) (s : Stream ℕ) (runs : List Run) (size valid place m : ℕ) (into : List ℕ) → Some (vcns runs) ≡ (if s.is_resident then None else Some s.cells) → size ≡ s.size → valid ≡ s.valid
    → into ≡ piece_at place m (runs_bytes g.cluster size valid (map_cells (cluster_at content g.cluster) (vcns runs))) → into ≡ piece_at place m (allocation_bytes g content s)
placed-piece g content s runs size valid place m into is size_is valid_is read =
    let cells = map_cells (cluster_at content g.cluster) (vcns runs) in
    read ∙ ap (piece_at place m) (ap (λ n. runs_bytes g.cluster n valid cells) size_is ∙ ap (λ n. runs_bytes g.cluster s.size n cells) valid_is ∙ runs-bytes g content s (vcns runs) is)
