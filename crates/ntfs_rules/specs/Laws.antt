-- What the laws of volumes that break no rule speak of. The words are ours.
use Rattle.std.specs.Prelude.{◌≡◌, ◌≤◌, ◌<◌, ◌⊎◌, ◌==◌, ◌&&◌, ◌||◌, ◌++◌, ℕ, suc, true, List, [], ◌∷◌, length, map, None, Ok, if◌then◌else◌}
use Rattle.std.specs.List.{AllByRecursion}
use Rattle.ntfs_base.specs.Bytes.{cluster_at}
use Rattle.ntfs_boot.specs.Geometry.{bytes_of_clusters}
use Rattle.ntfs_rules.specs.Accepts.{claims_in, fault_of}
use Rattle.ntfs_rules.specs.Clusters.{times}
use Rattle.ntfs_rules.specs.Files.{list_extents}
use Rattle.ntfs_rules.specs.VolumeData.{VolumeData, volume_data}
use Rattle.ntfs_record.specs.FileRecord.{Laid}
use Rattle.ntfs_record.specs.Slots.{Slot}
use Rattle.ntfs_runs.specs.Cells.{Cells}
use Rattle.ntfs_volume.specs.Gather.{Extent, own_extents}
use Rattle.ntfs_volume.specs.Located.{Located, slot_at}
use Rattle.ntfs_volume.specs.Opened.{Opened, opened_of}
use Rattle.ntfs_volume.specs.References.{has_base}
use Rattle.ntfs_volume.specs.Streams.{join_from, part_of}

-- an opened volume as finite data, with the bytes that an image gives of each cluster
abbrev pub data_in : List ℕ → Opened → VolumeData
data_in image o = volume_data o (cluster_at image o.geometry.cluster)

-- an image opens as this volume, which breaks no rule
pub record IsWhole (image : List ℕ) (o : Opened) : Type 0 where
  pub opened : opened_of image ≡ Ok o
  pub whole : fault_of (data_in image o) ≡ None

-- a record of the volume owns the cluster
abbrev pub HasOwner : VolumeData → ℕ → Type 0
HasOwner v k = 0 < times k (claims_in v)

-- another image has room for all clusters of the volume, and has the bytes of this one in each that is owned
pub record HoldsOwned (image other : List ℕ) (o : Opened) : Type 0 where
  pub room : bytes_of_clusters o.geometry ≤ length other
  pub same : (k : ℕ) → HasOwner (data_in image o) k
      → cluster_at other o.geometry.cluster k ≡ cluster_at image o.geometry.cluster k

-- ---- the attributes of a file

-- the attributes of this type and name of record n, where it is base record r, of this sequence number, or a record in
-- use that has it as its base
unfoldable pub file_extents_at : {P : Type 0} → ℕ → ℕ → ℕ → List ℕ → ℕ → Slot P → List (Extent P)
file_extents_at r sequence kind name n s =
    if (n == r) || (s.is_live && has_base s.head.base r sequence) then own_extents n kind name s else []

-- those of all records from number n on
unfoldable pub file_extents_from : {P : Type 0} → ℕ → ℕ → ℕ → List ℕ → ℕ → List (Slot P) → List (Extent P)
file_extents_from r sequence kind name n [] = []
file_extents_from r sequence kind name n (s ∷ ss) =
    file_extents_at r sequence kind name n s ++ file_extents_from r sequence kind name (suc n) ss

-- the attributes of this type and name of the file of base record r, by the records and in the order in which they
-- stand there: no attribute list is read
abbrev pub file_extents : {P : Type 0} → ℕ → ℕ → List ℕ → List (Slot P) → List (Extent P)
file_extents r kind name slots = file_extents_from r (slot_at slots r).head.sequence kind name 0 slots

-- the list of base record r, where it has one, is of another type or name
abbrev pub IsNoList : {P : Type 0} → List (Slot P) → ℕ → ℕ → List ℕ → Type 0
IsNoList slots r kind name = list_extents r kind name (slot_at slots r) ≡ []

-- the extent is a value that stands in its record
abbrev pub IsValue : {P : Type 0} → Extent P → Type 0
IsValue e = e.attribute.face.is_resident ≡ true

-- extents of this type are values, one alone unless they are names ($FILE_NAME, type 0x30); or they follow one another
-- from VCN 0 on, each from where the one before it ends
abbrev pub AreJoined : {X : Type 0} → ℕ → List (Extent (Located (Laid (Cells X)))) → Type 0
AreJoined kind found =
    (((kind ≡ 0x30) ⊎ (length found ≡ 1)) × AllByRecursion IsValue found)
    ⊎ (join_from 0 (map part_of found) ≡ true)

-- an extent begins at the VCN of another or before it
abbrev pub BeginsBefore : {P : Type 0} → Extent P → Extent P → Type 0
BeginsBefore e x = e.attribute.face.lowest ≤ x.attribute.face.lowest
