-- A volume that is saved or copied, and a clone image that is restored.
use Rattle.std.proofs.Common.{◌≡◌, ℕ, Bool, false, List, [], refl, sym, ap, subst, ◌∙◌, arith, Option, Some, None, Result, Ok, Err, IfErr, ok_or}
use Rattle.std.specs.FinMap.{insert}
use Rattle.std.specs.Str.{bytes_eq}
use Rattle.ntfs_base.specs.Frames.{IsSettled, Puts, PutsPrefix, Settles, bytes_in, without_bytes, ◌>>=◌}
use Rattle.ntfs_base.specs.Shelf.{Files, file_of}
use Rattle.ntfs_base.specs.Sink.{SinkState, after_put}
use Rattle.ntfs_base.specs.declared.refusal.Named.TheVariants as named
use Rattle.ntfs_base.proofs.SinkLemmas.{after_put-nil}
use Rattle.ntfs_clone.specs.CloneOf.{Volume, clone_of}
use Rattle.ntfs_words.specs.Clone.{are_same}
use Rattle.ntfs_run.specs.Clone.{SaveRefuses, VolumeRefuses, clone_put, clone_put_of, save_work, saved_bytes, saved_image, saved_into, volume_to_save}
use Rattle.ntfs_run.specs.Filling.{OutputRefuses}
use Rattle.ntfs_run.specs.Outcome.{Does, Ends, Outcome, may_make, outcome_of, refused_with, status_of, status_origin}
use Rattle.ntfs_run.specs.declared.status.Status.{Status}
use Rattle.ntfs_run.specs.declared.status.Status.TheVariants as status

-- ---- a clone image on the output

pub put_refused : (force : Bool) (image : List ℕ) (fault : Status) → volume_to_save force image ≡ Err fault → clone_put force image ≡ Err fault
put_refused force image fault is = ap (λ r. r >>= (λ volume. Ok (clone_of volume))) is

pub put_made : (force : Bool) (image : List ℕ) (volume : Volume) → volume_to_save force image ≡ Ok volume → clone_put force image ≡ Ok (clone_of volume)
put_made force image volume is = ap (λ r. r >>= (λ volume. Ok (clone_of volume))) is

pub write_unsettled : (fault : Status) → fault ≡ status.WriteFault → IsSettled (status_origin fault) → ⊥
write_unsettled fault is settled = subst (λ fault. IsSettled (status_origin fault)) is settled

-- bytes that were put, and then the sink is flushed
pub puts_flushed : (expected : Result (List ℕ) Status) (bytes : List ℕ) (before now after : SinkState) (result : Result (Unit {0}) Status) → expected ≡ Ok bytes
    → Puts status_origin (Ok bytes) before (Ok tt) now → after ≡ now → IfErr result (λ fault. fault ≡ status.WriteFault) → Puts status_origin expected before result after
puts_flushed expected bytes before now after (Ok done) is puts same fails = subst (λ e. Puts status_origin e before (Ok done) after) (sym is)
    (record { answer = λ settled. refl; output = λ settled. same ∙ puts.output tt; prefix = (puts.prefix.0, puts.prefix.1, same ∙ puts.prefix.2) })
puts_flushed expected bytes before now after (Err fault) is puts same fails = subst (λ e. Puts status_origin e before (Err fault) after) (sym is)
    (record {
      answer = λ settled. absurd (write_unsettled fault fails settled);
      output = λ settled. absurd (write_unsettled fault fails settled);
      prefix = (puts.prefix.0, puts.prefix.1, same ∙ puts.prefix.2);
    })

-- ---- a volume in a file

pub image_refused : (save force : Bool) (output : Option (List ℕ)) (overwrite : Bool) (image : List ℕ) (files : Files) (fault : Status)
    → volume_to_save force image ≡ Err fault → outcome_of files (saved_image save force output overwrite image files) ≡ refused_with fault files
unfolding saved_image
image_refused save force output overwrite image files fault is =
    ap (λ r. outcome_of files (r >>= (λ volume. saved_into save output overwrite volume files))) is

pub image_saved : (save force : Bool) (output : Option (List ℕ)) (overwrite : Bool) (image : List ℕ) (files : Files) (volume : Volume)
    → volume_to_save force image ≡ Ok volume → saved_image save force output overwrite image files ≡ saved_into save output overwrite volume files
unfolding saved_image
image_saved save force output overwrite image files volume is = ap (λ r. r >>= (λ volume. saved_into save output overwrite volume files)) is

-- ---- a volume of a file

pub work_refused : (save force : Bool) (output : Option (List ℕ)) (overwrite : Bool) (source : List ℕ) (files : Files) (fault : Status)
    → ok_or (file_of files source) (status.Absent named.Source) ≡ Err fault
    → outcome_of files (save_work save force output overwrite (Some source) files) ≡ refused_with fault files
unfolding save_work
work_refused save force output overwrite source files fault is =
    ap (λ r. outcome_of files (r >>= (λ image. saved_image save force output overwrite image files))) is

pub work_saved : (save force : Bool) (output : Option (List ℕ)) (overwrite : Bool) (source : List ℕ) (files : Files) (image : List ℕ)
    → ok_or (file_of files source) (status.Absent named.Source) ≡ Ok image
    → save_work save force output overwrite (Some source) files ≡ saved_image save force output overwrite image files
unfolding save_work
work_saved save force output overwrite source files image is = ap (λ r. r >>= (λ image. saved_image save force output overwrite image files)) is

pub work_unnamed : (save force : Bool) (output : Option (List ℕ)) (overwrite : Bool) (files : Files)
    → outcome_of files (save_work save force output overwrite None files) ≡ refused_with (status.Absent named.Source) files
unfolding save_work
work_unnamed save force output overwrite files = refl

-- nothing is put where a file is made
saved_output : (save : Bool) (output : List ℕ) (overwrite : Bool) (files : Files) (r : Result Volume Status)
    → (outcome_of files (r >>= (λ volume. saved_into save (Some output) overwrite volume files))).output ≡ []
saved_output save output overwrite files (Err fault) = refl
saved_output save output overwrite files (Ok volume) = of (may_make named.Output overwrite output files)
  where
    of : (r : Result (Unit {0}) Status)
        → (outcome_of files (r >>= (λ free. Ok (record { output = []; files = insert files output (saved_bytes save volume) })))).output ≡ []
    of (Ok free) = refl
    of (Err fault) = refl

pub work_output : (save force : Bool) (output : List ℕ) (overwrite : Bool) (source : List ℕ) (files : Files)
    → (outcome_of files (save_work save force (Some output) overwrite (Some source) files)).output ≡ []
unfolding save_work saved_image
work_output save force output overwrite source files = of (ok_or (file_of files source) (status.Absent named.Source))
  where
    of : (r : Result (List ℕ) Status)
        → (outcome_of files (r >>= (λ image. (volume_to_save force image) >>= (λ volume. saved_into save (Some output) overwrite volume files)))).output ≡ []
    of (Ok image) = saved_output save output overwrite files (volume_to_save force image)
    of (Err fault) = refl

-- and where none is made, the clone image is
abbrev put_outcome : Files → Result (List ℕ) Status → Outcome
put_outcome files (Ok bytes) = record { status = status.Done; output = bytes; files = files }
put_outcome files (Err fault) = refused_with fault files

saved_put : (save overwrite : Bool) (files : Files) (r : Result Volume Status)
    → outcome_of files (r >>= (λ volume. saved_into save None overwrite volume files)) ≡ put_outcome files (r >>= (λ volume. Ok (clone_of volume)))
saved_put save overwrite files (Ok volume) = refl
saved_put save overwrite files (Err fault) = refl

work_put : (save force overwrite : Bool) (source : List ℕ) (files : Files)
    → outcome_of files (save_work save force None overwrite (Some source) files) ≡ put_outcome files (clone_put_of force source files)
unfolding save_work saved_image
work_put save force overwrite source files = of (ok_or (file_of files source) (status.Absent named.Source))
  where
    of : (r : Result (List ℕ) Status)
        → outcome_of files (r >>= (λ image. (volume_to_save force image) >>= (λ volume. saved_into save None overwrite volume files)))
        ≡ put_outcome files (r >>= clone_put force)
    of (Ok image) = saved_put save overwrite files (volume_to_save force image)
    of (Err fault) = refl

put_status : (files : Files) (expected : Result (List ℕ) Status) → status_of (without_bytes expected) ≡ (put_outcome files expected).status
put_status files (Ok bytes) = refl
put_status files (Err fault) = refl

put_bytes : (files : Files) (expected : Result (List ℕ) Status) → bytes_in expected ≡ (put_outcome files expected).output
put_bytes files (Ok bytes) = refl
put_bytes files (Err fault) = refl

put_files : (files : Files) (expected : Result (List ℕ) Status) → files ≡ (put_outcome files expected).files
put_files files (Ok bytes) = refl
put_files files (Err fault) = refl

settles_so : (result : Result (Unit {0}) Status) → IsSettled (status_origin (status_of result)) → Settles status_origin result
settles_so (Ok done) settled = tt
settles_so (Err fault) settled = settled

does_bytes : (files left : Files) (expected : Result (List ℕ) Status) (result : Result (Unit {0}) Status) (before after : SinkState) → left ≡ files
    → Puts status_origin expected before result after → Does (put_outcome files expected) (status_of result) before after left
does_bytes files left expected result before after kept puts = record {
  status = λ settled. ap status_of (puts.answer (settles_so result settled)) ∙ put_status files expected;
  output = λ settled. puts.output (settles_so result settled) ∙ ap (λ bytes. after_put bytes before) (put_bytes files expected);
  files = λ settled. kept ∙ put_files files expected;
  prefix = subst (λ bytes. PutsPrefix bytes before after) (put_bytes files expected) puts.prefix;
}

pub does_put : (save force overwrite : Bool) (source : List ℕ) (files left : Files) (result : Result (Unit {0}) Status) (before after : SinkState) → left ≡ files
    → Puts status_origin (clone_put_of force source files) before result after
    → Does (outcome_of files (save_work save force None overwrite (Some source) files)) (status_of result) before after left
does_put save force overwrite source files left result before after kept puts =
    subst (λ outcome. Does outcome (status_of result) before after left) (sym (work_put save force overwrite source files))
    (does_bytes files left (clone_put_of force source files) result before after kept puts)

-- an end with nothing put
pub does_ended : (outcome : Outcome) (s : Status) (before after : SinkState) (left : Files) → Ends outcome s left → after ≡ before → outcome.output ≡ []
    → Does outcome s before after left
does_ended outcome s before after left ends same none = record {
  status = ends.status;
  output = λ settled. same ∙ sym (ap (λ bytes. after_put bytes before) none ∙ after_put-nil before);
  files = ends.files;
  prefix = (0, omega arith, same ∙ sym (after_put-nil before));
}

pub apart_named : (source output : List ℕ) → are_same (Some source) (Some output) ≡ false → bytes_eq source output ≡ false
unfolding are_same
apart_named source output is = is

-- ---- refusals

pub volume_saves : (force : Bool) (output : Option (List ℕ)) (overwrite : Bool) (fault : Status) → VolumeRefuses force fault → SaveRefuses force output overwrite fault
volume_saves force output overwrite status.NotNtfs is = tt
volume_saves force output overwrite (status.BadGeometry field value) is = tt
volume_saves force output overwrite (status.ImageShort len need) is = tt
volume_saves force output overwrite (status.Damaged rule number) is = tt
volume_saves force output overwrite status.Dirty is = is
volume_saves force output overwrite status.ReadFault is = tt
volume_saves force output overwrite status.NoMemory is = tt
volume_saves force output overwrite other is = absurd is

pub output_saves : (force : Bool) (output : List ℕ) (overwrite : Bool) (fault : Status) → OutputRefuses named.Output overwrite fault
    → SaveRefuses force (Some output) overwrite fault
output_saves force output overwrite (status.Present named.Output) is = is.1
output_saves force output overwrite (status.Present named.Image) is = absurd cc
output_saves force output overwrite (status.Present named.Source) is = absurd cc
output_saves force output overwrite (status.Present named.Clone) is = absurd cc
output_saves force output overwrite (status.Present named.Back) is = absurd cc
output_saves force output overwrite status.ReadFault is = tt
output_saves force output overwrite status.WriteFault is = tt
output_saves force output overwrite status.NoMemory is = tt
output_saves force output overwrite other is = absurd is
