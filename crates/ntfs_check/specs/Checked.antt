-- A volume that was checked, and what stands of it while nobody writes its image. The words are ours.
use Rattle.std.specs.Prelude.{◌≡◌, IsTrue, List, ℕ, Some, Result, Ok, Err}
use Rattle.ntfs_base.specs.Bytes.{cluster_at}
use Rattle.ntfs_base.specs.Image.{ImageState}
use Rattle.ntfs_base.specs.declared.image.Image as image
use Rattle.ntfs_check.specs.Findings.{Fit, VolumeFindings, findings_of}
use Rattle.ntfs_check.specs.declared.checked.Checked.{Checked}
use Rattle.ntfs_rules.specs.Accepts.{Accepts, first_fault}
use Rattle.ntfs_rules.specs.VolumeData.{volume_data}
use Rattle.ntfs_rules.specs.declared.fault.CheckFault.{CheckFault}
use Rattle.ntfs_rules.specs.declared.fault.CheckFault.TheVariants as check
use Rattle.ntfs_volume.specs.Opened.{HasClusters, Opened, opened_of}
use Rattle.ntfs_volume.specs.declared.fault.VolumeFault.TheVariants as volume

-- ---- the verdict on an image

-- an answer other than a fault from outside or want of memory: the image is accepted, or its first fault is this one
abbrev pub Verdict : {T : Type 0} → List ℕ → Result T CheckFault → Type 0
Verdict content (Ok given) = Accepts content
Verdict content (Err (check.Damaged rule number)) = first_fault content ≡ Some (volume.Damaged rule number)
Verdict content (Err check.ReadFault) = Unit {0}
Verdict content (Err check.NoMemory) = Unit {0}

-- ---- what stands

-- what was found stands on an image that is seen so: it has the clusters of what is kept; the sets are of these
-- clusters, and record 7 ends on them; and where it tells its content, that content is accepted, opens as what is kept,
-- and has these findings
pub record StandsOn (s : ImageState) (o : Opened) (f : VolumeFindings) : Type 0 where
  pub held : HasClusters s.size o
  pub fit : Fit o f
  pub accepted : IsTrue s.is_told → Accepts s.content
  pub opened : IsTrue s.is_told → opened_of s.content ≡ Ok o
  pub found : IsTrue s.is_told → f ≡ findings_of (volume_data o (cluster_at s.content o.geometry.cluster))

-- a checked volume stands
abbrev pub CheckStands : {G : Type 0} → image.Ghosts G → Checked G → Type 0
CheckStands g c = StandsOn (g.seen c.volume.image.now) c.volume.table c.findings
