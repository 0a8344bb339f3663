-- The outcome, step by step.
use Rattle.std.proofs.Common.{◌≡◌, ℕ, List, refl, Result, Ok, Err}
use Rattle.ntfs_base.specs.Frames.{Origin, Puts, refused_as, without_bytes}
use Rattle.ntfs_base.specs.Sink.{SinkState}
use Rattle.ntfs_stream.specs.Fault.{stream_origin}
use Rattle.ntfs_stream.specs.declared.fault.StreamFault.{StreamFault}
use Rattle.ntfs_stream.specs.declared.fault.StreamFault.TheVariants as stream
use Rattle.ntfs_volume.specs.Opened.{Opened}
use Rattle.ntfs_volume.specs.Streams.{Gathered}
use Rattle.ntfs_show.specs.Cat.{cat_outcome, gathered_stream, printed_bytes}
use Rattle.ntfs_print.specs.Fault.{show_origin, stream_refusal}
use Rattle.ntfs_print.specs.declared.fault.ShowFault.{ShowFault}

pub stream-origin : (fault : StreamFault) → show_origin (stream_refusal fault) ≡ stream_origin fault
stream-origin (stream.NotPlain flags) = refl
stream-origin stream.ReadFault = refl
stream-origin stream.WriteFault = refl
stream-origin stream.NoMemory = refl

pub outcome-refused : (v : Opened) (content : List ℕ) (r kind : ℕ) (name : List ℕ) (fault : ShowFault) → gathered_stream v content r kind name ≡ Err fault
    → cat_outcome v content r kind name ≡ Err fault
unfolding cat_outcome
outcome-refused v content r kind name fault is = rw is refl

pub outcome-gathered : (v : Opened) (content : List ℕ) (r kind : ℕ) (name : List ℕ) (found : Gathered ℕ) → gathered_stream v content r kind name ≡ Ok found
    → cat_outcome v content r kind name ≡ printed_bytes v.geometry content found.stream
unfolding cat_outcome
outcome-gathered v content r kind name found is = rw is refl

-- what a callee puts whole, for its caller
pub puts_whole : {E F : Type 0} (inner : E → Origin) (outer : F → Origin) (over : E → F) (expected : Result (List ℕ) E) (old new : SinkState)
    → Puts inner expected old (Ok (tt {0})) new → Puts outer (refused_as over expected) old (Ok (tt {0})) new
puts_whole inner outer over (Ok bytes) old new puts = record { answer = λ settled. refl; output = λ settled. puts.output tt; prefix = puts.prefix }
puts_whole inner outer over (Err fault) old new puts = absurd (let none : Ok (tt {0}) ≡ without_bytes (Err fault) = puts.answer tt in cc)
