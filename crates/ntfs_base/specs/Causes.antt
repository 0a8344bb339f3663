-- Why a call on something outside has failed: a count of faults rose. The words are ours.
use Rattle.std.specs.Prelude.{◌<◌, ◌≤◌, ℕ, OnErr, IfErr, Result}
use Rattle.ntfs_base.specs.declared.fault.Faults.{Faults}
use Rattle.ntfs_base.specs.declared.fault.SinkFaults.{SinkFaults}
use Rattle.ntfs_base.specs.declared.fault.PutFault.{PutFault}
use Rattle.ntfs_base.specs.declared.fault.PutFault.TheVariants as put

-- the last value of a count of 64 bits
abbrev pub last_count : ℕ
last_count = 18446744073709551615

-- the count rose, unless it stood at its last value already
abbrev pub Rose : ℕ → ℕ → Type 0
Rose old new = old < last_count → old < new

-- neither count fell
pub record HaveNotFallen (old new : Faults) : Type 0 where
  pub reads : old.reads ≤ new.reads
  pub writes : old.writes ≤ new.writes

-- neither count fell, and where the call failed, that of reads rose
pub record ReadCause {T E : Type 0} (old new : Faults) (result : Result T E) : Type 0 where
  pub reads : old.reads ≤ new.reads
  pub writes : old.writes ≤ new.writes
  pub cause : OnErr result (Rose old.reads new.reads)

-- neither count fell, and where the call failed, that of writes rose
pub record WriteCause {T E : Type 0} (old new : Faults) (result : Result T E) : Type 0 where
  pub reads : old.reads ≤ new.reads
  pub writes : old.writes ≤ new.writes
  pub cause : OnErr result (Rose old.writes new.writes)

-- a source's count hasn't fallen, and where the call failed, it rose
pub record SourceCause {T E : Type 0} (old new : ℕ) (result : Result T E) : Type 0 where
  pub faults : old ≤ new
  pub cause : OnErr result (Rose old new)

-- which count rose for this refusal of a sink
abbrev pub PutCause : PutFault → SinkFaults → SinkFaults → Type 0
PutCause put.Failed old new = Rose old.failures new.failures
PutCause put.NoMemory old new = Rose old.wants new.wants

-- neither count of a sink fell, and a refusal has its cause
pub record SinkCause {T : Type 0} (old new : SinkFaults) (result : Result T PutFault) : Type 0 where
  pub failures : old.failures ≤ new.failures
  pub wants : old.wants ≤ new.wants
  pub cause : IfErr result (λ fault. PutCause fault old new)

-- neither count of a sink fell, and where the call failed, that of failures rose
pub record FlushCause {T E : Type 0} (old new : SinkFaults) (result : Result T E) : Type 0 where
  pub failures : old.failures ≤ new.failures
  pub wants : old.wants ≤ new.wants
  pub cause : OnErr result (Rose old.failures new.failures)

-- why a file wasn't cut or didn't grow: the count of writes rose; want of memory is free
abbrev pub GrowthFault : PutFault → Faults → Faults → Type 0
GrowthFault put.Failed old new = Rose old.writes new.writes
GrowthFault put.NoMemory old new = Unit {0}

-- neither count fell, and a refusal has its cause
pub record GrowthCause {T : Type 0} (old new : Faults) (result : Result T PutFault) : Type 0 where
  pub reads : old.reads ≤ new.reads
  pub writes : old.writes ≤ new.writes
  pub cause : IfErr result (λ fault. GrowthFault fault old new)
