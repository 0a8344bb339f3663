-- What a call on bytes in memory does to them, to the count of its calls and to its faults. The words are ours.
use Rattle.std.specs.Prelude.{◌≡◌, ◌<◌, ◌++◌, ℕ, List, OnOk, OnErr, Result, Ok, Err, None, is_some, [], true, length}
use Rattle.ntfs_base.specs.Bytes.{overwrite}
use Rattle.ntfs_base.specs.Calls.{AsPlanned, count_after, front_by, left_by, next_failing, one_more}
use Rattle.ntfs_base.specs.Growth.{resize_of}
use Rattle.ntfs_base.specs.Image.{ImageState}
use Rattle.ntfs_base.specs.Writes.{Write}
use Rattle.ntfs_base.specs.declared.fault.PutFault.{PutFault}
use Rattle.ntfs_base.specs.declared.fault.PutFault.TheVariants as put
use Rattle.ntfs_base.specs.declared.memory.content.MemContent.{MemContent}

-- bytes in memory under a name, as an image is seen: they are told
abbrev pub seen_of : List ℕ → MemContent → ImageState
seen_of name memory =
    record { is_told = true; content = memory.bytes.items; size = length memory.bytes.items; name = name; lower = [] }

-- a read changes no byte, fails as planned, and counts its fault
pub record ReadsMemory {T E : Type 0} (old : MemContent) (result : Result T E) (new : MemContent) : Type 0 where
  pub bytes : new.bytes ≡ old.bytes
  pub planned : AsPlanned old.calls result new.calls
  pub reads : new.faults.reads ≡ count_after old.faults.reads result
  pub writes : new.faults.writes ≡ old.faults.writes

-- a write does what is asked, or fails as planned, leaves what the plan says, and counts its fault
pub record WritesMemory {T E : Type 0} (w : Write) (old : MemContent) (result : Result T E) (new : MemContent)
    : Type 0 where
  pub whole : OnOk result (new.bytes.items ≡ overwrite w.place w.bytes old.bytes.items)
  pub part : OnErr result
      (new.bytes.items ≡ left_by (next_failing old.calls) old.bytes.items (overwrite w.place w.bytes old.bytes.items))
  pub len : length new.bytes.items ≡ length old.bytes.items
  pub planned : AsPlanned old.calls result new.calls
  pub reads : new.faults.reads ≡ old.faults.reads
  pub writes : new.faults.writes ≡ count_after old.faults.writes result

-- a sync changes no byte, fails as planned, and counts its fault
pub record SyncsMemory {T E : Type 0} (old : MemContent) (result : Result T E) (new : MemContent) : Type 0 where
  pub bytes : new.bytes ≡ old.bytes
  pub planned : AsPlanned old.calls result new.calls
  pub reads : new.faults.reads ≡ old.faults.reads
  pub writes : new.faults.writes ≡ count_after old.faults.writes result

-- a `set_len` does what is asked, or fails as planned, leaves what the plan says and counts its fault, unless memory is
-- wanting, which it can be only where the bytes grow
abbrev pub SetsMemory : ℕ → MemContent → Result (Unit {0}) PutFault → MemContent → Type 0
SetsMemory len old (Ok done) new =
    (next_failing old.calls ≡ None) × (new.bytes.items ≡ resize_of len old.bytes.items) × (new.faults ≡ old.faults)
SetsMemory len old (Err put.Failed) new =
    (is_some (next_failing old.calls) ≡ true)
    × (new.bytes.items ≡ left_by (next_failing old.calls) old.bytes.items (resize_of len old.bytes.items))
    × (new.faults ≡ record old.faults { writes = one_more old.faults.writes })
SetsMemory len old (Err put.NoMemory) new =
    (length old.bytes.items < len) × (new.bytes.items ≡ old.bytes.items) × (new.faults ≡ old.faults)

-- an append adds all bytes, or fails as planned with those that the plan names and counts its fault, unless memory is
-- wanting
abbrev pub AppendsMemory : List ℕ → MemContent → Result (Unit {0}) PutFault → MemContent → Type 0
AppendsMemory bytes old (Ok done) new =
    (next_failing old.calls ≡ None) × (new.bytes.items ≡ old.bytes.items ++ bytes) × (new.faults ≡ old.faults)
AppendsMemory bytes old (Err put.Failed) new =
    (is_some (next_failing old.calls) ≡ true)
    × (new.bytes.items ≡ old.bytes.items ++ front_by (next_failing old.calls) bytes)
    × (new.faults ≡ record old.faults { writes = one_more old.faults.writes })
AppendsMemory bytes old (Err put.NoMemory) new = (new.bytes.items ≡ old.bytes.items) × (new.faults ≡ old.faults)

-- the call was numbered, and the list is as before
pub record IsNumbered (old new : MemContent) : Type 0 where
  pub made : new.calls.made ≡ one_more old.calls.made
  pub failing : new.calls.failing ≡ old.calls.failing
