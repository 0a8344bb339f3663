-- A directory as contracts see it while it is walked: what is left of its walk, the last key, and the fault that it has
-- answered. The words are ours.
use Rattle.std.specs.Prelude.{◌≡◌, ℕ, List, [], ◌∷◌, Option, Some, None, Result, Ok, Err, option_map}
use Rattle.ntfs_base.specs.Frames.{IsSettled}
use Rattle.ntfs_boot.specs.declared.geometry.Geometry.{Geometry}
use Rattle.ntfs_directory.specs.Allocation.{allocation_bytes}
use Rattle.ntfs_directory.specs.Directory.{DirectoryWalk, only_refused, walk_in}
use Rattle.ntfs_directory.specs.Fault.{directory_fault}
use Rattle.ntfs_index.specs.Blocks.{allocation_blocks}
use Rattle.ntfs_index.specs.Node.{IndexEntry}
use Rattle.ntfs_index.specs.State.{WalkState, left}
use Rattle.ntfs_index.specs.declared.entry.Entry.{Entry}
use Rattle.ntfs_volume.specs.Fault.{volume_origin}
use Rattle.ntfs_volume.specs.Streams.{IsReadable, Stream}
use Rattle.ntfs_volume.specs.declared.fault.VolumeFault.{VolumeFault}

pub record DirectoryState : Type 0 where
  -- its record's number
  pub number : ℕ
  -- the stream of its index blocks
  pub allocation : Stream ℕ
  -- the walk of its index
  pub walk : WalkState

-- the fault that was answered
abbrev pub answered : DirectoryState → Option VolumeFault
answered d = option_map (directory_fault d.number) d.walk.fault

-- what is left of its walk, where the image has this content
abbrev pub left_of : Geometry → List ℕ → DirectoryState → DirectoryWalk
left_of g image d =
    walk_in d.number (left d.walk (allocation_blocks g.cluster g.block (allocation_bytes g image d.allocation)))

-- it is walked on a volume of this geometry
pub record IsOn (g : Geometry) (d : DirectoryState) : Type 0 where
  pub readable : IsReadable g d.allocation
  pub block : d.walk.size ≡ g.block

-- the same directory, of which more was walked
pub record IsSameDirectory (old new : DirectoryState) : Type 0 where
  pub number : new.number ≡ old.number
  pub allocation : new.allocation ≡ old.allocation
  pub block : new.walk.size ≡ old.walk.size

-- an entry, and what follows it
abbrev pub entry_before : IndexEntry → DirectoryWalk → DirectoryWalk
entry_before entry rest = record { entries = entry ∷ rest.entries; fault = rest.fault }

-- the end of a walk that is whole
abbrev pub whole : DirectoryWalk
whole = record { entries = []; fault = None }

-- an answer by what was left before and what is left then, with the key that is shown then: the next entry; nothing,
-- where the walk is whole; else the fault that comes next
abbrev pub IsNextEntry : DirectoryWalk → Result (Option Entry) VolumeFault → DirectoryWalk → List ℕ → Type 0
IsNextEntry old (Ok (Some entry)) new key =
    old ≡ entry_before (record { reference = entry.reference; key = key }) new
IsNextEntry old (Ok None) new key = (old ≡ whole) × (new ≡ whole)
IsNextEntry old (Err fault) new key = IsSettled (volume_origin fault) → old ≡ only_refused fault

-- the key stays unless an entry is given
abbrev pub KeepsEntryKey : Result (Option Entry) VolumeFault → List ℕ → List ℕ → Type 0
KeepsEntryKey (Ok (Some entry)) old new = Unit {0}
KeepsEntryKey (Ok None) old new = new ≡ old
KeepsEntryKey (Err fault) old new = new ≡ old
