-- A raw copy of a volume: the device with the owned clusters at their places, the tail behind them, and zeros
-- elsewhere. The words are ours.
use Rattle.std.specs.Prelude.{◌≡◌, ◌≤◌, ℕ, zero, suc, List, [], ◌++◌, replicate, IfErr, Result, Ok, Err, if◌then◌else◌}
use Rattle.ntfs_base.specs.Bytes.{cluster_at}
use Rattle.ntfs_base.specs.Causes.{HaveNotFallen, Rose}
use Rattle.ntfs_base.specs.Frames.{Because}
use Rattle.ntfs_base.specs.Growth.{resize_of}
use Rattle.ntfs_base.specs.declared.image.Image as image
use Rattle.ntfs_clone.specs.declared.fault.CloneFault.{CloneFault}
use Rattle.ntfs_clone.specs.CloneOf.{Volume, clone_tail}
use Rattle.ntfs_clone.specs.Fault.{clone_origin}

-- the bytes of a cluster, or zeros where it isn't owned
abbrev pub copied_cluster : Volume → ℕ → List ℕ
copied_cluster v k = if v.owned k then cluster_at v.image v.cluster k else replicate v.cluster 0

-- the same of so many clusters, from the first one on
abbrev pub copied_clusters : Volume → ℕ → List ℕ
copied_clusters v zero = []
copied_clusters v (suc n) = copied_clusters v n ++ copied_cluster v n

-- the device with so many clusters, from the first one on
unfoldable pub copied_up_to : Volume → ℕ → List ℕ
copied_up_to v n = resize_of v.device (copied_clusters v n)

-- the device with all clusters and the tail
unfoldable pub copy_of : Volume → List ℕ
copy_of v = resize_of v.device (copied_clusters v v.clusters ++ clone_tail v)

-- what a fault or want of memory leaves: nothing, or the device with the clusters before one, or the whole
pub data IsPartCopy (v : Volume) (content : List ℕ) : Type 0 where
  nothing : content ≡ [] → IsPartCopy v content
  front : (k : ℕ) → k ≤ v.clusters → content ≡ copied_up_to v k → IsPartCopy v content
  whole : content ≡ copy_of v → IsPartCopy v content

-- what stands on a target that was empty
abbrev pub IsCopied : {T : Type 0} → Volume → Result T CloneFault → List ℕ → Type 0
IsCopied v (Ok done) content = content ≡ copy_of v
IsCopied v (Err fault) content = IsPartCopy v content

-- a target that had the clusters before some one has those before an end; where the call failed, those before a
-- cluster up to the end
abbrev pub IsCopiedUpTo : {T : Type 0} → Volume → ℕ → Result T CloneFault → List ℕ → Type 0
IsCopiedUpTo v end (Ok done) content = content ≡ copied_up_to v end
IsCopiedUpTo v end (Err fault) content = (k : ℕ) × (k ≤ end) × (content ≡ copied_up_to v k)

-- a call over an image that is only read, and a file that is written and not read
pub record CopiesTo {G F T : Type 0} (g : image.Ghosts G) (f : image.Ghosts F) (old new : G) (before after : F)
    (result : Result T CloneFault) : Type 0 where
  pub seen : g.seen new ≡ g.seen old
  pub counts : HaveNotFallen (g.faults old) (g.faults new)
  pub writes : HaveNotFallen (f.faults before) (f.faults after)
  pub cause : IfErr result (λ fault. Because (clone_origin fault) (Rose (g.faults old).reads (g.faults new).reads)
      (Rose (f.faults before).writes (f.faults after).writes) (Unit {0}))
