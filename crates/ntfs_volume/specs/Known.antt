-- The clusters of $MFT that are known so far, in code. The words are ours.
use Rattle.std.specs.Prelude.{◌≡◌, ℕ, List, ◌++◌, length, Some, Result, Ok}
use Rattle.ntfs_attrlist.specs.Entry.{Listed}
use Rattle.ntfs_base.specs.Frames.{◌>>=◌}
use Rattle.ntfs_boot.specs.declared.geometry.Geometry.{Geometry}
use Rattle.ntfs_record.specs.FileRecord.{FileRecord}
use Rattle.ntfs_runs.specs.Clusters.{vcns}
use Rattle.ntfs_volume.specs.Listing.{listing_of_bytes}
use Rattle.ntfs_volume.specs.MftMap.{clusters_by, extension_of, extent_in, table_clusters}
use Rattle.ntfs_volume.specs.Opened.{AreTableRuns}
use Rattle.ntfs_volume.specs.References.{target}
use Rattle.ntfs_volume.specs.StreamBytes.{clusters_in}
use Rattle.ntfs_volume.specs.declared.fault.VolumeFault.{VolumeFault}
use Rattle.ntfs_volume.specs.declared.known.Known.{Known}

-- the clusters that are known
abbrev pub known_clusters : Known → List ℕ
known_clusters known = clusters_in (vcns known.runs)

-- they are below n, and counted
pub record IsKnown (n : ℕ) (known : Known) : Type 0 where
  pub table : AreTableRuns n known.runs
  pub counted : known.count ≡ length (vcns known.runs)

-- what a result gives, behind the clusters that are known
abbrev pub behind_known : List ℕ → Result (List ℕ) VolumeFault → Result (List ℕ) VolumeFault
behind_known before result = do
  more ← result
  Ok (before ++ more)

-- the clusters of mapping pairs of record r behind those that are known
abbrev pub joined_clusters : List ℕ → ℕ → ℕ → List ℕ → Result (List ℕ) VolumeFault
joined_clusters before n r pairs = behind_known before (table_clusters n r pairs)

-- the extent of an entry whose record isn't record 0, behind the clusters that are known
unfoldable pub extended_clusters : Geometry → (ℕ → List ℕ) → ℕ → FileRecord → List ℕ → Listed
    → Result (List ℕ) VolumeFault
extended_clusters g f valid first known entry = do
  holder ← extension_of g f valid first known (target entry.reference)
  behind_known known (extent_in g.clusters entry holder)

-- the clusters of all extents, where these are the bytes of the list
unfoldable pub listed_clusters : Geometry → (ℕ → List ℕ) → ℕ → FileRecord → List ℕ → List ℕ
    → Result (List ℕ) VolumeFault
listed_clusters g f valid first known list = clusters_by g f valid first known (listing_of_bytes (Some list))
