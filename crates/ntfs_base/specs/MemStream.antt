-- Sources and sinks in memory as contracts see them. The words are ours.
use Rattle.std.specs.Prelude.{◌≡◌, ◌++◌, ℕ, List, true, is_some, None, Result, Ok, Err}
use Rattle.ntfs_base.specs.Calls.{front_by, next_failing, one_more}
use Rattle.ntfs_base.specs.declared.fault.PutFault.{PutFault}
use Rattle.ntfs_base.specs.declared.fault.PutFault.TheVariants as put
use Rattle.ntfs_base.specs.Source.{SourceState}
use Rattle.ntfs_base.specs.Sink.{SinkState}
use Rattle.ntfs_base.specs.declared.memory.source.MemSource.{MemSource}
use Rattle.ntfs_base.specs.declared.memory.sink.MemSink.{MemSink}

-- its bytes are told
abbrev pub seen_source : MemSource → SourceState
seen_source source =
    record { is_told = true; bytes = source.bytes.items; given = source.given; name = source.name.items }

-- its content is told
abbrev pub seen_sink : MemSink → SinkState
seen_sink sink = record { is_told = true; content = sink.content.items; name = sink.name.items }

-- a put fails exactly where the list says so, with the bytes that the list names, unless memory is wanting; and its
-- fault is counted
abbrev pub PutsAsPlanned : List ℕ → MemSink → Result (Unit {0}) PutFault → MemSink → Type 0
PutsAsPlanned bytes old (Ok done) new = (next_failing old.calls ≡ None) × (new.faults ≡ old.faults)
PutsAsPlanned bytes old (Err put.Failed) new =
    (is_some (next_failing old.calls) ≡ true)
    × (new.content.items ≡ old.content.items ++ front_by (next_failing old.calls) bytes)
    × (new.faults ≡ record old.faults { failures = one_more old.faults.failures })
PutsAsPlanned bytes old (Err put.NoMemory) new = new.faults ≡ record old.faults { wants = one_more old.faults.wants }
