-- What a check finds of a volume that keeps all rules. The words are ours.
use Rattle.std.specs.Prelude.{◌≡◌, ◌≤◌, Result}
use Rattle.ntfs_bitmap.specs.ClusterSet.{Clusters, bound_of}
use Rattle.ntfs_check_clusters.specs.Outcome.{claimed_set}
use Rattle.ntfs_check_fixed.specs.Facts.{VolumeFacts, facts_of}
use Rattle.ntfs_rules.specs.Accepts.{claims_in, fault_of}
use Rattle.ntfs_rules.specs.Outcome.{unless_broken}
use Rattle.ntfs_rules.specs.VolumeData.{VolumeData}
use Rattle.ntfs_rules.specs.declared.fault.CheckFault.{CheckFault}
use Rattle.ntfs_rules.specs.declared.fault.CheckFault.TheVariants as check
use Rattle.ntfs_volume.specs.Opened.{Opened}
use Rattle.ntfs_volume.specs.declared.fault.VolumeFault.{VolumeFault}
use Rattle.ntfs_volume.specs.declared.fault.VolumeFault.TheVariants as volume

-- the owned clusters, and what is asked later
pub record VolumeFindings : Type 0 where
  pub owned : Clusters
  pub facts : VolumeFacts

-- those of a volume
abbrev pub findings_of : VolumeData → VolumeFindings
findings_of v = record {
  owned = claimed_set v.geometry.clusters (claims_in v);
  facts = facts_of v;
}

-- the findings of a volume that keeps all rules; else the first that it breaks
unfoldable pub examined : VolumeData → Result VolumeFindings CheckFault
examined v = unless_broken (fault_of v) (findings_of v)

-- what a refusal of a survey says of a volume that was judged before
abbrev pub again : VolumeFault → CheckFault
again (volume.Damaged rule number) = check.Damaged rule number
again volume.NoMemory = check.NoMemory
again other = check.ReadFault

-- what holds of findings, whatever the image tells: the sets are of the volume's clusters, and record 7 ends on it
pub record Fit (o : Opened) (f : VolumeFindings) : Type 0 where
  pub owned : bound_of f.owned ≡ o.geometry.clusters
  pub fixed : bound_of f.facts.fixed ≡ o.geometry.clusters
  pub begun : 1 ≤ f.facts.boot_end
  pub ended : f.facts.boot_end ≤ o.geometry.clusters
