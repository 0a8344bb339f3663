-- A volume judged by all rules in their order. The words are ours.
use Rattle.std.specs.Prelude.{◌≡◌, ℕ, List, [], ◌∷◌, map, Option, None, Result}
use Rattle.ntfs_base.specs.Bytes.{Cluster}
use Rattle.ntfs_base.specs.declared.refusal.Rule.TheVariants as rule
use Rattle.ntfs_bitmap.specs.ClusterSet.{Clusters}
use Rattle.ntfs_check_clusters.specs.Outcome.{claimed_set}
use Rattle.ntfs_directory.specs.UpCase.{data_kind}
use Rattle.ntfs_rules.specs.Accepts.{Line, claims_in, fault_of, first_broken, line}
use Rattle.ntfs_rules.specs.Directories.{c13, c14}
use Rattle.ntfs_rules.specs.FixedRecords.{c15, c16}
use Rattle.ntfs_rules.specs.Outcome.{unless_broken}
use Rattle.ntfs_rules.specs.VolumeData.{VolumeData, bytes_found, content_in, contents, listings, numbers, table_bytes}
use Rattle.ntfs_rules.specs.declared.fault.CheckFault.{CheckFault}

-- the owned clusters of a volume that keeps all rules; else the first that it breaks
unfoldable pub judged : VolumeData → Result Clusters CheckFault
judged v = unless_broken (fault_of v) (claimed_set v.geometry.clusters (claims_in v))

-- C15 of a volume
abbrev pub rule_15 : VolumeData → Option ℕ
rule_15 v = c15 v.geometry (map (λ (k : Cluster). k.number) v.table) (listings v) (numbers v)

-- C16 of a volume
abbrev pub rule_16 : VolumeData → Option ℕ
rule_16 v =
    c16 v.geometry.record_size (table_bytes v) (bytes_found v.geometry.cluster (content_in v 1 data_kind []))

-- C13 to C16
abbrev pub last_rules : VolumeData → List Line
last_rules v =
    line rule.C13 (c13 v.geometry (listings v) (contents v))
    ∷ line rule.C14 (c14 v.geometry (listings v) (contents v))
    ∷ line rule.C15 (rule_15 v)
    ∷ line rule.C16 (rule_16 v)
    ∷ []

-- a volume keeps the rules of some lines
abbrev pub Keeps : List Line → Type 0
Keeps lines = first_broken lines ≡ None
