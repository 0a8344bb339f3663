-- Why a stream wasn't read whole, and where that comes from. The words are ours.
use Rattle.ntfs_base.specs.Frames.{Origin, content, reading, writing, memory}
use Rattle.std.specs.Prelude.{Result, Ok, Err}
use Rattle.ntfs_base.specs.Causes.{Rose}
use Rattle.ntfs_base.specs.declared.fault.PutFault.{PutFault}
use Rattle.ntfs_base.specs.declared.fault.PutFault.TheVariants as put
use Rattle.ntfs_base.specs.declared.fault.SinkFaults.{SinkFaults}
use Rattle.ntfs_stream.specs.declared.fault.StreamFault.{StreamFault}
use Rattle.ntfs_stream.specs.declared.fault.StreamFault.TheVariants as stream

-- a refusal of the sink
abbrev pub sink_fault : PutFault → StreamFault
sink_fault put.Failed = stream.WriteFault
sink_fault put.NoMemory = stream.NoMemory

-- where a refusal comes from
abbrev pub stream_origin : StreamFault → Origin
stream_origin (stream.NotPlain flags) = content
stream_origin stream.ReadFault = reading
stream_origin stream.WriteFault = writing
stream_origin stream.NoMemory = memory

-- memory is said to be wanting only where the sink's count of it rose, or stands at its last value
abbrev pub WantsBySink : {T : Type 0} → Result T StreamFault → SinkFaults → SinkFaults → Type 0
WantsBySink (Ok done) old new = Unit {0}
WantsBySink (Err stream.NoMemory) old new = Rose old.wants new.wants
WantsBySink (Err other) old new = Unit {0}
