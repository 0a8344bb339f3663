-- A walk begins, or is refused.
use Rattle.std.proofs.Common.{◌≡◌, ℕ, List, refl, ap, ◌∙◌, Result, Ok, Err}
use Rattle.ntfs_base.specs.Bytes.{cluster_at}
use Rattle.ntfs_base.specs.Frames.{refused_as, ◌>>=◌}
use Rattle.ntfs_boot.specs.declared.geometry.Geometry.{Geometry}
use Rattle.ntfs_index.specs.Node.{root_node}
use Rattle.ntfs_index.specs.Walk.{walk, walk_allocation}
use Rattle.ntfs_index.specs.declared.fault.IndexFault.{IndexFault}
use Rattle.ntfs_volume.specs.MftMap.{Map}
use Rattle.ntfs_volume.specs.declared.fault.VolumeFault.{VolumeFault}
use Rattle.ntfs_directory.specs.Directory.{DirectoryIndex, DirectoryWalk, begun_walk, directory_walk, directory_index, index_walk, only_refused, walk_found}
use Rattle.ntfs_directory.specs.Fault.{directory_fault}

module _ (g : Geometry) (map : Map) (image : List ℕ) (d : ℕ) where
  broken-root : (index : DirectoryIndex) (fault : IndexFault) → root_node g.block index.root ≡ Err fault → index_walk g image d index ≡ only_refused (directory_fault d fault)
  unfolding index_walk walk_allocation walk
  broken-root index fault is = rw is refl

  entered-begins : (index : DirectoryIndex) (node : Result (List ℕ) IndexFault) (walk : DirectoryWalk) → (refused_as (directory_fault d) node >>= (λ _. Ok (index_walk g image d index))) ≡ Ok walk → index_walk g image d index ≡ walk
  entered-begins index (Ok bytes) walk is = cc
  entered-begins index (Err fault) walk is = absurd cc

  entered-refused : (index : DirectoryIndex) (node : Result (List ℕ) IndexFault) (fault : VolumeFault) → root_node g.block index.root ≡ node → (refused_as (directory_fault d) node >>= (λ _. Ok (index_walk g image d index))) ≡ Err fault
      → index_walk g image d index ≡ only_refused fault
  entered-refused index (Ok bytes) fault root is = absurd cc
  entered-refused index (Err broken) fault root is = let same : directory_fault d broken ≡ fault = cc in broken-root index broken root ∙ ap only_refused same

  found-begins : (found : Result DirectoryIndex VolumeFault) (walk : DirectoryWalk)
      → (found >>= (λ (index : DirectoryIndex). refused_as (directory_fault d) (root_node g.block index.root) >>= (λ _. Ok (index_walk g image d index)))) ≡ Ok walk → walk_found g image d found ≡ walk
  found-begins (Ok index) walk is = entered-begins index (root_node g.block index.root) walk is
  found-begins (Err fault) walk is = absurd cc

  found-refused : (found : Result DirectoryIndex VolumeFault) (fault : VolumeFault)
      → (found >>= (λ (index : DirectoryIndex). refused_as (directory_fault d) (root_node g.block index.root) >>= (λ _. Ok (index_walk g image d index)))) ≡ Err fault → walk_found g image d found ≡ only_refused fault
  found-refused (Ok index) fault is = entered-refused index (root_node g.block index.root) fault refl is
  found-refused (Err refused) fault is = let same : refused ≡ fault = cc in ap only_refused same

  pub walk-begins : (walk : DirectoryWalk) → begun_walk g map image d ≡ Ok walk → directory_walk g map image d ≡ walk
  unfolding begun_walk directory_walk
  walk-begins walk is = found-begins (directory_index g map (cluster_at image g.cluster) d) walk is

  pub walk-refused : (fault : VolumeFault) → begun_walk g map image d ≡ Err fault → directory_walk g map image d ≡ only_refused fault
  unfolding begun_walk directory_walk
  walk-refused fault is = found-refused (directory_index g map (cluster_at image g.cluster) d) fault is
