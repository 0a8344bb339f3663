-- A file as a source, which is read from its start, and as a sink, which takes bytes at its end. The words are ours.
use Rattle.std.specs.Prelude.{ℕ, Result, Ok, Err, if◌then◌else◌}
use Rattle.ntfs_base.specs.Calls.{one_more}
use Rattle.ntfs_base.specs.Image.{ImageState}
use Rattle.ntfs_base.specs.Source.{SourceState}
use Rattle.ntfs_base.specs.Sink.{SinkState}
use Rattle.ntfs_base.specs.declared.fault.Faults.{Faults}
use Rattle.ntfs_base.specs.declared.fault.PutFault.{PutFault}
use Rattle.ntfs_base.specs.declared.fault.PutFault.TheVariants as put
use Rattle.ntfs_base.specs.declared.fault.SinkFaults.{SinkFaults}

-- a file of which so many bytes were given
abbrev pub source_of : ImageState → ℕ → SourceState
source_of file given =
    record { is_told = file.is_told; bytes = file.content; given = if file.is_told then given else 0; name = file.name }

-- a file that takes bytes at its end
abbrev pub sink_of : ImageState → SinkState
sink_of file = record { is_told = file.is_told; content = file.content; name = file.name }

-- the counts of such a sink: the file's write faults, and its own wants
abbrev pub sink_counts : Faults → ℕ → SinkFaults
sink_counts faults wants = record { failures = faults.writes; wants = wants }

-- its wants after a put: one more where memory was wanting
abbrev pub wants_after : {T : Type 0} → Result T PutFault → ℕ → ℕ
wants_after (Ok done) wants = wants
wants_after (Err put.Failed) wants = wants
wants_after (Err put.NoMemory) wants = one_more wants
