-- What an accepted volume is asked for later: how far record 7 reaches, which clusters can't be moved, how many are
-- bad, and whether the volume is dirty (the Linux-NTFS documentation, "$Boot", "$Bitmap", "$BadClus" and "$Volume";
-- the words are ours).
use Rattle.std.specs.Prelude.{◌≡◌, ◌+◌, ◌%◌, ◌==◌, ◌||◌, ℕ, Bool, false, List, [], ◌∷◌, length, max, Option, Some, None, Result, Ok, Err, if◌then◌else◌}
use Rattle.ntfs_base.specs.Bytes.{number_at}
use Rattle.ntfs_bitmap.specs.ClusterSet.{Clusters, bound_of, has, set_where}
use Rattle.ntfs_directory.specs.UpCase.{data_kind}
use Rattle.ntfs_rules.specs.Accepts.{claims_in}
use Rattle.ntfs_rules.specs.FixedRecords.{bad_name, volume_information_kind}
use Rattle.ntfs_rules.specs.VolumeData.{VolumeData, stream_in}
use Rattle.ntfs_survey.specs.Owned.{Claim}
use Rattle.ntfs_volume.specs.StreamBytes.{clusters_in}
use Rattle.ntfs_volume.specs.Streams.{Gathered, Stream}
use Rattle.ntfs_volume.specs.declared.fault.VolumeFault.{VolumeFault}

-- ---- the parts

-- 1 + the highest cluster that record r owns; 0 where it owns none
unfoldable pub owned_end : ℕ → List (Claim ℕ) → ℕ
owned_end r [] = 0
owned_end r (claim ∷ claims) = max (if claim.number == r then claim.cluster + 1 else 0) (owned_end r claims)

-- cluster k stands among the cells
unfoldable pub is_among : List (Option ℕ) → ℕ → Bool
is_among [] k = false
is_among (None ∷ cells) k = is_among cells k
is_among (Some cluster ∷ cells) k = (cluster == k) || is_among cells k

-- the cells of a stream that was gathered; of one that wasn't there are none
abbrev pub cells_found : Result (Gathered ℕ) VolumeFault → List (Option ℕ)
cells_found (Ok found) = found.stream.cells
cells_found (Err fault) = []

-- and its value
abbrev pub value_found : Result (Gathered ℕ) VolumeFault → List ℕ
value_found (Ok found) = found.stream.value
value_found (Err fault) = []

-- the same where it stands as an option
abbrev pub gathered_cells : Option (Gathered ℕ) → List (Option ℕ)
gathered_cells None = []
gathered_cells (Some found) = found.stream.cells

abbrev pub value_in : Option (Gathered ℕ) → List ℕ
value_in None = []
value_in (Some found) = found.stream.value

-- a stream that isn't resident has no value
abbrev pub HasNoValue : Stream ℕ → Type 0
HasNoValue s = s.is_resident ≡ false → s.value ≡ []

-- the value of $VOLUME_INFORMATION has the flag of a dirty volume, bit 0 of the u16 at 0x0A
unfoldable pub is_dirty : List ℕ → Bool
is_dirty value = number_at 2 0x0A value % 2 == 1

-- ---- the facts

pub record VolumeFacts : Type 0 where
  pub boot_end : ℕ
  pub fixed : Clusters
  pub bad_count : ℕ
  pub dirty : Bool

-- the clusters of n that stand in one of two lists of cells
abbrev pub fixed_in : ℕ → List (Option ℕ) → List (Option ℕ) → Clusters
fixed_in n bitmap bad = set_where n (λ k. is_among bitmap k || is_among bad k)

-- those of a volume: the end of record 7; the clusters of $Bitmap and of `$Bad`; how many `$Bad` has; the dirty flag
unfoldable pub facts_of : VolumeData → VolumeFacts
facts_of v = record {
  boot_end = owned_end 7 (claims_in v);
  fixed = fixed_in v.geometry.clusters (cells_found (stream_in v 6 data_kind []))
      (cells_found (stream_in v 8 data_kind bad_name));
  bad_count = length (clusters_in (cells_found (stream_in v 8 data_kind bad_name)));
  dirty = is_dirty (value_found (stream_in v 3 volume_information_kind []));
}

-- ---- sets that grow

-- a set of the same bound with further numbers
pub record AddsClusters (old new : Clusters) (test : ℕ → Bool) : Type 0 where
  pub bound : bound_of new ≡ bound_of old
  pub members : (k : ℕ) → has new k ≡ has old k || test k
