-- The volume that a clone image restores. The words are ours.
use Rattle.std.specs.Prelude.{◌≡◌, ◌+◌, ◌*◌, ◌==◌, ◌&&◌, ℕ, Bool, List, [], take, nat_le, if◌then◌else◌, Result, Ok, Err}
use Rattle.ntfs_base.specs.Bytes.{overwrite}
use Rattle.ntfs_base.specs.Frames.{◌>>=◌}
use Rattle.ntfs_base.specs.Growth.{resize_of}
use Rattle.ntfs_boot.specs.Geometry.{sector_geometry}
use Rattle.ntfs_boot.specs.declared.geometry.BootFault.{BootFault}
use Rattle.ntfs_boot.specs.declared.geometry.Geometry.{Geometry}
use Rattle.ntfs_clone.specs.declared.fault.CloneFault.{CloneFault}
use Rattle.ntfs_clone.specs.declared.header.CloneHeader.{CloneHeader}
use Rattle.ntfs_clone.specs.Commands.{Command, commands_content, covered, read_clone, right_commands}

-- the device with what the commands put there, from its front on: what passes its end is cut off, and behind them are
-- zeros
unfoldable pub laid_out : CloneHeader → List Command → List ℕ
laid_out h commands = resize_of h.device (commands_content h.cluster commands)

-- a geometry of as many clusters of the same size, and with room on the device for its sectors and their backup
abbrev pub fits_geometry : CloneHeader → Geometry → Bool
fits_geometry h g =
    (g.cluster == h.cluster) && (g.clusters == h.clusters) && nat_le ((g.sectors + 1) * g.sector) h.device

-- the device with a copy of its first sector in the sector behind all sectors, where the first 512 bytes have such a
-- geometry
abbrev pub backed_up_as : CloneHeader → List ℕ → Result Geometry BootFault → List ℕ
backed_up_as h content (Ok g) =
    if fits_geometry h g then overwrite (g.sectors * g.sector) (take g.sector content) content else content
backed_up_as h content (Err fault) = content

unfoldable pub backed_up : CloneHeader → List ℕ → List ℕ
backed_up h content = backed_up_as h content (sector_geometry (take 512 content))

-- what the commands of a whole image restore: where they end before the tail, the backup boot sector is made anew
unfoldable pub restored : CloneHeader → List Command → List ℕ
restored h commands =
    if covered commands == h.clusters then backed_up h (laid_out h commands) else laid_out h commands

-- what the bytes of a clone image restore, or the first place that is wrong
unfoldable pub restore_of : List ℕ → Result (List ℕ) CloneFault
restore_of bytes = do
  clone ← read_clone bytes
  Ok (restored clone.header clone.commands)

-- what stands of a clone image that is wrong behind its header, of which the bytes behind the header are given: the
-- commands before the first that is wrong
unfoldable pub restored_before : CloneHeader → List ℕ → List ℕ
restored_before h bytes = laid_out h (right_commands h bytes)

-- what a fault or want of memory leaves: nothing, or the device with a front of the commands, or the whole
pub data IsPartOf (h : CloneHeader) (bytes content : List ℕ) : Type 0 where
  nothing : content ≡ [] → IsPartOf h bytes content
  front : (k : ℕ) → content ≡ laid_out h (take k (right_commands h bytes)) → IsPartOf h bytes content
  whole : content ≡ restored h (right_commands h bytes) → IsPartOf h bytes content
