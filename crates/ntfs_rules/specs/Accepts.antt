-- The sixteen rules in their order, the first that a volume breaks with the record that it names, and what it is to be
-- accepted. The rules are ours.
use Rattle.std.specs.Prelude.{◌≡◌, ◌++◌, ℕ, List, [], ◌∷◌, map, Option, Some, None, Result, Ok, Err}
use Rattle.std.specs.Option.{option_map}
use Rattle.ntfs_base.specs.Bytes.{Cluster, cluster_at}
use Rattle.ntfs_base.specs.declared.refusal.Rule.{Rule}
use Rattle.ntfs_base.specs.declared.refusal.Rule.TheVariants as rule
use Rattle.ntfs_rules.specs.Clusters.{c8, c9}
use Rattle.ntfs_rules.specs.Directories.{c13, c14}
use Rattle.ntfs_rules.specs.Files.{c10, c11, c12}
use Rattle.ntfs_rules.specs.FixedRecords.{c15, c16, row_6}
use Rattle.ntfs_rules.specs.Records.{c4, c5, c6, c7}
use Rattle.ntfs_rules.specs.VolumeData.{VolumeData, bytes_found, content_in, contents, listings, numbers, stream_in, table_bytes, volume_data}
use Rattle.ntfs_directory.specs.UpCase.{data_kind}
use Rattle.ntfs_survey.specs.Owned.{Claim, owned}
use Rattle.ntfs_volume.specs.Opened.{Opened, opened_of}
use Rattle.ntfs_volume.specs.declared.fault.VolumeFault.{VolumeFault}
use Rattle.ntfs_volume.specs.declared.fault.VolumeFault.TheVariants as volume

-- ---- a table of rules

-- a rule, and the number of the record that breaks it, where one does
pub record Line : Type 0 where
  pub rule : Rule
  pub broken : Option ℕ

abbrev pub line : Rule → Option ℕ → Line
line rule broken = record { rule = rule; broken = broken }

-- a rule that is broken, and the record that is named
pub record Broken : Type 0 where
  pub rule : Rule
  pub number : ℕ

-- what a line says, or else what comes after it
abbrev pub or_broken : Rule → Option ℕ → Option Broken → Option Broken
or_broken rule (Some number) rest = Some (record { rule = rule; number = number })
or_broken rule None rest = rest

-- the first of the rules that is broken
abbrev pub first_broken : List Line → Option Broken
first_broken [] = None
first_broken (l ∷ ls) = or_broken l.rule l.broken (first_broken ls)

-- ---- the rules of a volume

-- the clusters that records own
abbrev pub claims_in : VolumeData → List (Claim ℕ)
claims_in v = owned (numbers v)

-- C4 to C9
abbrev pub first_rules : VolumeData → List Line
first_rules v =
    line rule.C4 (c4 v.slots)
    ∷ line rule.C5 (c5 v.geometry.cluster (listings v) (contents v))
    ∷ line rule.C6 (c6 v.slots)
    ∷ line rule.C7 (c7 (numbers v))
    ∷ line rule.C8 (c8 (claims_in v))
    ∷ line rule.C9 (c9 (row_6 v.geometry (listings v) (stream_in v 6 data_kind [])) v.geometry.clusters (claims_in v)
    (bytes_found v.geometry.cluster (content_in v 6 data_kind [])))
    ∷ []

-- C10 to C16
abbrev pub further_rules : VolumeData → List Line
further_rules v =
    line rule.C10 (c10 v.slots)
    ∷ line rule.C11 (c11 (listings v) v.slots)
    ∷ line rule.C12 (c12 v.geometry.cluster (listings v) (numbers v))
    ∷ line rule.C13 (c13 v.geometry (listings v) (contents v))
    ∷ line rule.C14 (c14 v.geometry (listings v) (contents v))
    ∷ line rule.C15 (c15 v.geometry (map (λ (k : Cluster). k.number) v.table) (listings v) (numbers v))
    ∷ line rule.C16 (c16 v.geometry.record_size (table_bytes v)
    (bytes_found v.geometry.cluster (content_in v 1 data_kind [])))
    ∷ []

-- the first rule that a volume breaks
unfoldable pub fault_of : VolumeData → Option Broken
fault_of v = first_broken (first_rules v ++ further_rules v)

-- ---- the image

-- the refusal of a broken rule
abbrev pub damaged : Broken → VolumeFault
damaged broken = volume.Damaged broken.rule broken.number

-- the refusal of a volume that doesn't open, by C1 to C3; or of the first rule after these that it breaks
abbrev pub opened_fault : List ℕ → Result Opened VolumeFault → Option VolumeFault
opened_fault image (Ok o) = option_map damaged (fault_of (volume_data o (cluster_at image o.geometry.cluster)))
opened_fault image (Err fault) = Some fault

-- the first refusal of an image by the sixteen rules
unfoldable pub first_fault : List ℕ → Option VolumeFault
first_fault image = opened_fault image (opened_of image)

-- an image is accepted
abbrev pub Accepts : List ℕ → Type 0
Accepts image = first_fault image ≡ None
