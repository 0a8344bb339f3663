-- The next entry of a walk, as the next of a directory.
use Rattle.std.proofs.Common.{◌≡◌, ℕ, List, refl, ap, subst, Option, Some, None, Result, Ok, Err}
use Rattle.std.specs.Option.{option_map}
use Rattle.ntfs_base.specs.Frames.{IsSettled, refused_as}
use Rattle.ntfs_base.specs.Image.{ImageState}
use Rattle.ntfs_boot.specs.declared.geometry.Geometry.{Geometry}
use Rattle.ntfs_index.specs.Blocks.{BlocksState}
use Rattle.ntfs_index.specs.Fetches.{index_origin}
use Rattle.ntfs_index.specs.State.{IsNext}
use Rattle.ntfs_index.specs.Walk.{Listing}
use Rattle.ntfs_index.specs.declared.entry.Entry.{Entry}
use Rattle.ntfs_index.specs.declared.fault.IndexFault.{IndexFault}
use Rattle.ntfs_index.specs.declared.fault.IndexFault.TheVariants as index
use Rattle.ntfs_volume.specs.Fault.{volume_origin}
use Rattle.ntfs_directory.specs.Directory.{walk_in}
use Rattle.ntfs_directory.specs.Fault.{directory_fault}
use Rattle.ntfs_volume.specs.Streams.{Stream}
use Rattle.ntfs_directory.specs.ImageBlocks.{seen_in}
use Rattle.ntfs_directory.specs.State.{IsNextEntry}

pub directory-origin : (d : ℕ) (fault : IndexFault) → volume_origin (directory_fault d fault) ≡ index_origin fault
directory-origin d (index.BadNode vcn rule) = refl
directory-origin d index.TooDeep = refl
directory-origin d index.BlockFault = refl
directory-origin d index.NoMemory = refl

pub next-entry : (d : ℕ) (old new : Listing) (answer : Result (Option Entry) IndexFault) (key : List ℕ) → IsNext old answer new key → IsNextEntry (walk_in d old) (refused_as (directory_fault d) answer) (walk_in d new) key
next-entry d old new (Ok (Some entry)) key is = ap (walk_in d) is
next-entry d old new (Ok None) key is = (ap (walk_in d) is.0, ap (walk_in d) is.1)
next-entry d old new (Err fault) key is = λ settled. ap (walk_in d) (is (subst IsSettled (directory-origin d fault) settled))

pub not-answered : (d : ℕ) (fault : Option IndexFault) → option_map (directory_fault d) fault ≡ None → fault ≡ None
not-answered d None is = refl
not-answered d (Some fault) is = absurd cc

-- blocks that are seen as before stand over an image that is
pub footing-same : (g h : Geometry) (s t : Stream ℕ) (a b : ImageState) → seen_in g s a ≡ seen_in h t b → a ≡ b
footing-same g h s t a b is = let same : ◌≡◌ {A = Option ImageState} (Some a) (Some b) = ap (λ (x : BlocksState). x.footing) is in cc
