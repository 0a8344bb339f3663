-- What the check answers: the refusal of the first rule that a volume breaks, or what an accepted one has. The words
-- are ours.
use Rattle.std.specs.List.{flat_map}
use Rattle.std.specs.Prelude.{ℕ, Bool, List, [], Option, Some, None, Result, Ok, Err}
use Rattle.ntfs_base.specs.Frames.{◌>>=◌}
use Rattle.ntfs_base.specs.declared.refusal.Rule.TheVariants as rule
use Rattle.ntfs_bitmap.specs.ClusterSet.{Clusters, has, set_where}
use Rattle.ntfs_rules.specs.Accepts.{claims_in, first_rules}
use Rattle.ntfs_rules.specs.Clusters.{c8, c9_by, is_owned}
use Rattle.ntfs_rules.specs.FixedRecords.{row_6}
use Rattle.ntfs_rules.specs.Outcome.{judged_by, unless_number}
use Rattle.ntfs_rules.specs.Records.{c4, c5, c7}
use Rattle.ntfs_rules.specs.VolumeData.{VolumeData, bytes_found, content_in, contents, listings, stream_in}
use Rattle.ntfs_rules.specs.declared.fault.CheckFault.{CheckFault}
use Rattle.ntfs_rules.specs.declared.fault.CheckFault.TheVariants as check
use Rattle.ntfs_survey.specs.Owned.{Claim, owner_claims, owners_of}
use Rattle.ntfs_survey.specs.declared.owners.Owner.{Owner}
use Rattle.ntfs_volume.specs.Located.{slots_of, with_cells}
use Rattle.ntfs_volume.specs.Opened.{Opened}
use Rattle.ntfs_directory.specs.UpCase.{data_kind}
use Rattle.ntfs_volume.specs.declared.fault.VolumeFault.{VolumeFault}
use Rattle.ntfs_volume.specs.declared.fault.VolumeFault.TheVariants as volume

-- ---- clusters

-- the set of the clusters below n that are claimed
unfoldable pub claimed_set : ℕ → List (Claim ℕ) → Clusters
claimed_set n claims = set_where n (is_owned claims)

-- the set of claimed clusters, where rule C8 isn't broken
unfoldable pub claimed_once : ℕ → List (Claim ℕ) → Result Clusters CheckFault
claimed_once n claims = unless_number rule.C8 (c8 claims) (claimed_set n claims)

-- the owned clusters of a volume, by the first nine rules
unfoldable pub judged_first : VolumeData → Result Clusters CheckFault
judged_first v = judged_by (first_rules v) (claimed_set v.geometry.clusters (claims_in v))

-- ---- rules with what they look at

-- C5 of a volume
abbrev pub marks_of : VolumeData → Option ℕ
marks_of v = c5 v.geometry.cluster (listings v) (contents v)

-- C9 of a volume, by a test of owned clusters
abbrev pub bitmap_of : (ℕ → Bool) → VolumeData → Option ℕ
bitmap_of test v =
    c9_by (row_6 v.geometry (listings v) (stream_in v 6 data_kind [])) test v.geometry.clusters
    (bytes_found v.geometry.cluster (content_in v 6 data_kind []))

-- what a survey finds of records that can all be read: the owners, or the first record whose mapping pairs are wrong
abbrev pub owners_or_wrong : Option ℕ → List Owner → Result (List Owner) ℕ
owners_or_wrong None owners = Ok owners
owners_or_wrong (Some number) owners = Err number

-- the survey of the records of a volume, by rules C4 and C7
abbrev pub surveyed : Opened → (ℕ → List ℕ) → Result (Result (List Owner) ℕ) CheckFault
surveyed o f =
    unless_number rule.C4 (c4 (slots_of o.geometry o.map f))
    (owners_or_wrong (c7 (with_cells o.geometry.clusters (slots_of o.geometry o.map f)))
    (owners_of (slots_of o.geometry o.map f)))

-- a refusal of a survey: that of rule C7 waits for the rules before it
abbrev pub after_survey : VolumeFault → Result (Result (List Owner) ℕ) CheckFault
after_survey (volume.Damaged rule.C7 number) = Ok (Err number)
after_survey (volume.Damaged other number) = Err (check.Damaged other number)
after_survey volume.NoMemory = Err check.NoMemory
after_survey other = Err check.ReadFault

-- rules C7 to C9 by a survey, with the owned clusters
abbrev pub clusters_judged : VolumeData → Result (List Owner) ℕ → Result Clusters CheckFault
clusters_judged v (Err number) = Err (check.Damaged rule.C7 number)
clusters_judged v (Ok owners) = do
  set ← claimed_once v.geometry.clusters (flat_map owner_claims owners)
  _ ← unless_number rule.C9 (bitmap_of (has set) v) (tt {0})
  Ok set
