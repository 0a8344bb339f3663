-- Files that are filled with a clone image, a raw copy or what a clone image restores.
use Rattle.std.proofs.Common.{◌≡◌, ℕ, true, List, [], ◌++◌, take, refl, ap, ◌∙◌, Result, Ok, Err, IsTrue, if◌then◌else◌}
use Rattle.ntfs_base.specs.FileStream.{sink_of}
use Rattle.ntfs_base.specs.Frames.{Puts}
use Rattle.ntfs_base.specs.Image.{ImageState}
use Rattle.ntfs_base.specs.Sink.{SinkState, after_put}
use Rattle.ntfs_clone.specs.CloneOf.{Volume, clone_of}
use Rattle.ntfs_clone.specs.Saving.{HasPut}
use Rattle.ntfs_run.specs.Filling.{IsFilled}
use Rattle.ntfs_run.specs.Outcome.{status_origin}
use Rattle.ntfs_run.specs.declared.status.Status.{Status}

-- ---- a file that was empty, as a sink

told_content : (bytes : List ℕ) (sink : SinkState) → IsTrue sink.is_told → (after_put bytes sink).content ≡ sink.content ++ bytes
unfolding after_put
told_content bytes sink told = ap (λ b. if b then sink.content ++ bytes else sink.content) told

put_in_empty : (bytes : List ℕ) (file after : ImageState) → IsTrue file.is_told → file.content ≡ [] → sink_of after ≡ after_put bytes (sink_of file)
    → after.content ≡ bytes
put_in_empty bytes file after told empty is = ap (λ s. s.content) is ∙ told_content bytes (sink_of file) told ∙ ap (λ xs. xs ++ bytes) empty

-- the clone image that was put into it, or a prefix
pub saved_fills : (volume : Volume) (file after : ImageState) (result : Result (Unit {0}) Status) → Puts status_origin (Ok (clone_of volume)) (sink_of file) result (sink_of after)
    → IsTrue file.is_told → file.content ≡ [] → IsFilled true volume result after.content
saved_fills volume file after (Ok done) puts told empty = put_in_empty (clone_of volume) file after told empty (puts.output tt)
saved_fills volume file after (Err fault) puts told empty =
    (puts.prefix.0, puts.prefix.1, put_in_empty (take puts.prefix.0 (clone_of volume)) file after told empty puts.prefix.2)

put_name : (bytes : List ℕ) (sink : SinkState) → (after_put bytes sink).name ≡ sink.name
unfolding after_put
put_name bytes sink = refl

-- its name
pub put_bears : (file after : ImageState) → HasPut (sink_of file) (sink_of after) → after.name ≡ file.name
put_bears file after is = ap (λ s. s.name) is.put ∙ put_name is.bytes (sink_of file)
