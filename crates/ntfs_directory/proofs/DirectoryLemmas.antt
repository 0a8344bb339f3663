-- The walk of a directory as it begins.
use Rattle.std.proofs.Common.{◌≡◌, ℕ, List, refl, sym, ap, ◌∙◌, Result, Ok, Err}
use Rattle.std.specs.Prelude.{IsOk}
use Rattle.std.proofs.lemmas.Bool.{false≢true}
use Rattle.ntfs_base.specs.Bytes.{cluster_at}
use Rattle.ntfs_base.specs.Frames.{refused_as}
use Rattle.ntfs_boot.specs.declared.geometry.Geometry.{Geometry}
use Rattle.ntfs_index.specs.Blocks.{BlockMap, allocation_blocks}
use Rattle.ntfs_index.specs.Node.{root_node}
use Rattle.ntfs_index.specs.State.{WalkState, left}
use Rattle.ntfs_index.specs.Walk.{listing, walk, walk_allocation}
use Rattle.ntfs_index.specs.declared.fault.IndexFault.{IndexFault}
use Rattle.ntfs_volume.specs.MftMap.{Map}
use Rattle.ntfs_volume.specs.Streams.{Stream, gather_of}
use Rattle.ntfs_volume.specs.declared.fault.VolumeFault.{VolumeFault}
use Rattle.ntfs_directory.specs.Allocation.{allocation_bytes}
use Rattle.ntfs_directory.specs.Directory.{allocation_found, allocation_kind, begun_walk, index_name, directory_index, index_walk, root_kind, index_root_value, walk_in}
use Rattle.ntfs_directory.specs.Fault.{directory_fault}
use Rattle.ntfs_directory.specs.State.{left_of}

module _ (g : Geometry) (map : Map) (image : List ℕ) (d : ℕ) where
  pub begun-no_root : (fault : VolumeFault) → index_root_value d (gather_of g map (cluster_at image g.cluster) d root_kind index_name) ≡ Err fault → begun_walk g map image d ≡ Err fault
  unfolding begun_walk directory_index
  begun-no_root fault is = rw is refl

  pub begun-no_allocation : (root : List ℕ) (fault : VolumeFault) → index_root_value d (gather_of g map (cluster_at image g.cluster) d root_kind index_name) ≡ Ok root
      → allocation_found (gather_of g map (cluster_at image g.cluster) d allocation_kind index_name) ≡ Err fault → begun_walk g map image d ≡ Err fault
  unfolding begun_walk directory_index
  begun-no_allocation root fault first second = rw (first, second) refl

  pub begun-refused : (root : List ℕ) (allocation : Stream ℕ) (fault : VolumeFault) → index_root_value d (gather_of g map (cluster_at image g.cluster) d root_kind index_name) ≡ Ok root
      → allocation_found (gather_of g map (cluster_at image g.cluster) d allocation_kind index_name) ≡ Ok allocation → refused_as (directory_fault d) (root_node g.block root) ≡ Err fault
      → begun_walk g map image d ≡ Err fault
  unfolding begun_walk directory_index
  begun-refused root allocation fault first second refused = rw (first, second, refused) refl

  accepted : (r : Result (List ℕ) IndexFault) → IsOk r → (x : List ℕ) × (refused_as (directory_fault d) r ≡ Ok x)
  accepted (Ok x) is = (x, refl)
  accepted (Err fault) is = absurd (false≢true is)

  begun-index : (root : List ℕ) (allocation : Stream ℕ) → index_root_value d (gather_of g map (cluster_at image g.cluster) d root_kind index_name) ≡ Ok root
      → allocation_found (gather_of g map (cluster_at image g.cluster) d allocation_kind index_name) ≡ Ok allocation → IsOk (root_node g.block root)
      → begun_walk g map image d ≡ Ok (index_walk g image d (record { root = root; allocation = allocation }))
  unfolding begun_walk directory_index
  begun-index root allocation first second is = let node = accepted (root_node g.block root) is in rw (first, second, node.1) refl

  begun-left : (root : List ℕ) (allocation : Stream ℕ) (begun : WalkState) → ((blocks : BlockMap) → left begun blocks ≡ listing (walk g.block root blocks))
      → index_walk g image d (record { root = root; allocation = allocation }) ≡ left_of g image (record { number = d; allocation = allocation; walk = begun })
  unfolding index_walk walk_allocation
  begun-left root allocation begun is = ap (walk_in d) (sym (is (allocation_blocks g.cluster g.block (allocation_bytes g image allocation))))

  pub begun-given : (root : List ℕ) (allocation : Stream ℕ) (begun : WalkState) → index_root_value d (gather_of g map (cluster_at image g.cluster) d root_kind index_name) ≡ Ok root
      → allocation_found (gather_of g map (cluster_at image g.cluster) d allocation_kind index_name) ≡ Ok allocation → IsOk (root_node g.block root)
      → ((blocks : BlockMap) → left begun blocks ≡ listing (walk g.block root blocks))
      → begun_walk g map image d ≡ Ok (left_of g image (record { number = d; allocation = allocation; walk = begun }))
  begun-given root allocation begun first second is shows = begun-index root allocation first second is ∙ ap Ok (begun-left root allocation begun shows)
