-- A clone image that is read or restored: how that ends, and what is left.
use Rattle.std.proofs.Common.{◌≡◌, ◌||◌, ℕ, Bool, true, false, List, [], length, drop, ◌+◌, refl, sym, ap, subst, ◌∙◌, inr, arith, Option, Some, None}
use Rattle.std.proofs.Common.{Result, Ok, Err, IfErr, is_none, ok_or, if◌then◌else◌}
use Rattle.std.proofs.lemmas.List.{take_all}
use Rattle.std.specs.FinMap.{insert}
use Rattle.ntfs_base.specs.Frames.{Gives, IsSettled, must, refused_as, ◌>>=◌}
use Rattle.ntfs_base.specs.FileStream.{source_of}
use Rattle.ntfs_base.specs.Image.{ImageState}
use Rattle.ntfs_base.specs.Shelf.{Files, file_of}
use Rattle.ntfs_base.specs.Source.{SourceState}
use Rattle.ntfs_base.specs.declared.refusal.Named.{Named}
use Rattle.ntfs_base.specs.declared.refusal.Named.TheVariants as named
use Rattle.ntfs_clone.specs.Commands.{Command, are_all, clone_commands, commands_length, emptied, right_commands}
use Rattle.ntfs_clone.specs.Header.{clone_header}
use Rattle.ntfs_clone.specs.Restored.{IsPartOf, front, laid_out, restored, restored_before, whole}
use Rattle.ntfs_clone.specs.Taking.{HasGiven, to_come}
use Rattle.ntfs_clone.specs.declared.fault.CloneFault.{CloneFault}
use Rattle.ntfs_clone.specs.declared.fault.CloneFault.TheVariants.{BadClone}
use Rattle.ntfs_clone.specs.declared.header.CloneHeader.{CloneHeader}
use Rattle.ntfs_run.specs.Clone.{ImageRefuses, LeavesOutput, RestoreRefuses, clone_bytes, restore_end, restore_work, restored_by, restored_image, restored_in, restored_into}
use Rattle.ntfs_run.specs.Filling.{CloneRefuses, FileRefuses, IsRestoredAs}
use Rattle.ntfs_run.specs.Outcome.{Ends, Outcome, clone_status, may_make, outcome_or, refused_with, status_of, status_origin}
use Rattle.ntfs_run.specs.declared.status.Status.{Status}
use Rattle.ntfs_run.specs.declared.status.Status.TheVariants as status
use Rattle.ntfs_run.proofs.ToolLemmas.{must_ok}

-- ---- how commands end

all_right : (all : Bool) (right commands : List Command) (fault : CloneFault) → (must all fault >>= (λ _. Ok right)) ≡ Ok commands → commands ≡ right
all_right true right commands fault is = cc
all_right false right commands fault is = absurd cc

commands_right : (header : CloneHeader) (rest : List ℕ) (commands : List Command) → clone_commands header rest ≡ Ok commands → commands ≡ right_commands header rest
unfolding clone_commands
commands_right header rest commands is =
    all_right (are_all header rest (right_commands header rest)) (right_commands header rest) commands
    (BadClone (header.offset + commands_length (right_commands header rest))) is

-- a restore that is done leaves what the commands restore
done_by : (header : CloneHeader) (rest : List ℕ) (r : Result (List Command) CloneFault) (x : Unit {0}) → clone_commands header rest ≡ r
    → refused_as clone_status (emptied r) ≡ Ok x → restored header (right_commands header rest) ≡ restored_by header rest r
done_by header rest (Ok commands) x same is = ap (restored header) (sym (commands_right header rest commands same))
done_by header rest (Err fault) x same is = absurd cc

-- one that isn't leaves what stands before the command that is wrong
stopped_by : (header : CloneHeader) (rest : List ℕ) (r : Result (List Command) CloneFault) (fault : Status)
    → refused_as clone_status (emptied r) ≡ Err fault → restored_before header rest ≡ restored_by header rest r
stopped_by header rest (Ok commands) fault is = absurd cc
stopped_by header rest (Err e) fault is = refl

-- how a restore ends, by what it answers
pub ends_as : (expected : Result (Unit {0}) Status) (result : Result (Unit {0}) Status) → Gives status_origin (λ done. done) expected result
    → IsSettled (status_origin (status_of result)) → status_of result ≡ status_of expected
ends_as expected (Ok done) gives settled = sym (ap status_of gives)
ends_as expected (Err fault) gives settled = sym (ap status_of (gives settled))

left_as : (header : CloneHeader) (rest content : List ℕ) (fault : Status) → CloneRefuses fault → IsSettled (status_origin fault)
    → IsRestoredAs header rest (Err fault) content → content ≡ restored_before header rest
left_as header rest content (status.BadClone place) refusal settled is = is
left_as header rest content status.ReadFault refusal settled is = absurd settled
left_as header rest content status.WriteFault refusal settled is = absurd settled
left_as header rest content status.NoMemory refusal settled is = absurd settled
left_as header rest content other refusal settled is = absurd refusal

content_as : (header : CloneHeader) (rest content : List ℕ) (result : Result (Unit {0}) Status)
    → Gives status_origin (λ done. done) (refused_as clone_status (emptied (clone_commands header rest))) result
    → IsRestoredAs header rest result content → IfErr result CloneRefuses → IsSettled (status_origin (status_of result))
    → content ≡ restored_by header rest (clone_commands header rest)
content_as header rest content (Ok done) gives is refusal settled = is ∙ done_by header rest (clone_commands header rest) done refl gives
content_as header rest content (Err fault) gives is refusal settled =
    left_as header rest content fault refusal settled is ∙ stopped_by header rest (clone_commands header rest) fault (gives settled)

-- ---- in a file that is made

abbrev made_outcome : CloneHeader → List ℕ → List ℕ → Files → Outcome
made_outcome header rest output files = record {
  status = restore_end (clone_commands header rest);
  output = [];
  files = insert files output (restored_by header rest (clone_commands header rest));
}

-- the file couldn't be made
pub restore_unmade : (file : Named) (output : List ℕ) (overwrite : Bool) (header : CloneHeader) (rest : List ℕ) (files : Files) (fault : Status)
    → may_make file overwrite output files ≡ Err fault
    → outcome_or files (restored_in file output overwrite header rest files) ≡ refused_with fault files
restore_unmade file output overwrite header rest files fault is =
    ap (λ r. outcome_or files (r >>= (λ free. Ok (made_outcome header rest output files)))) is

restore_made : (file : Named) (output : List ℕ) (overwrite : Bool) (header : CloneHeader) (rest : List ℕ) (files : Files)
    → may_make file overwrite output files ≡ Ok tt
    → outcome_or files (restored_in file output overwrite header rest files) ≡ made_outcome header rest output files
restore_made file output overwrite header rest files free =
    ap (λ r. outcome_or files (r >>= (λ free. Ok (made_outcome header rest output files)))) free

pub restore_ends : (file : Named) (output : List ℕ) (overwrite : Bool) (header : CloneHeader) (rest : List ℕ) (old new : Files) (content : List ℕ)
    (result : Result (Unit {0}) Status) → may_make file overwrite output old ≡ Ok tt → new ≡ insert old output content
    → Gives status_origin (λ done. done) (refused_as clone_status (emptied (clone_commands header rest))) result
    → IsRestoredAs header rest result content → IfErr result CloneRefuses
    → Ends (outcome_or old (restored_in file output overwrite header rest old)) (status_of result) new
restore_ends file output overwrite header rest old new content result free is gives restores refusal =
    subst (λ outcome. Ends outcome (status_of result) new) (sym (restore_made file output overwrite header rest old free))
    (record {
      status = λ settled. ends_as (refused_as clone_status (emptied (clone_commands header rest))) result gives settled;
      files = λ settled. is ∙ ap (insert old output) (content_as header rest content result gives restores refusal settled);
    })

-- ---- what is left

before_part : (header : CloneHeader) (rest content : List ℕ) → content ≡ restored_before header rest → IsPartOf header rest content
unfolding restored_before
before_part header rest content is =
    front (length (right_commands header rest))
    (is ∙ ap (laid_out header) (sym (take_all (length (right_commands header rest)) (right_commands header rest) (omega arith))))

err_part : (header : CloneHeader) (rest content : List ℕ) (fault : Status) → IsRestoredAs header rest (Err fault) content → IsPartOf header rest content
err_part header rest content (status.BadClone place) is = before_part header rest content is
err_part header rest content other is = is

part_restored : (header : CloneHeader) (rest content : List ℕ) (result : Result (Unit {0}) Status) → IsRestoredAs header rest result content → IsPartOf header rest content
part_restored header rest content (Ok done) is = whole is
part_restored header rest content (Err fault) is = err_part header rest content fault is

pub restore_leaves : (file : Named) (output : List ℕ) (overwrite : Bool) (header : CloneHeader) (rest : List ℕ) (old new : Files) (content : List ℕ)
    (result : Result (Unit {0}) Status) → may_make file overwrite output old ≡ Ok tt → new ≡ insert old output content
    → IsRestoredAs header rest result content → LeavesOutput (Some output) overwrite (IsPartOf header rest) old new
restore_leaves file output overwrite header rest old new content result free is restores = inr (record {
  bytes = content;
  free = must_ok (overwrite || is_none (file_of old output)) (status.Present file) tt free;
  made = is;
  held = part_restored header rest content result restores;
})

-- ---- the header

pub header_refused : (output : Option (List ℕ)) (overwrite : Bool) (image : List ℕ) (files : Files) (fault : Status)
    → refused_as clone_status (clone_header image) ≡ Err fault → outcome_or files (restored_image output overwrite image files) ≡ refused_with fault files
unfolding restored_image
header_refused output overwrite image files fault is =
    ap (λ r. outcome_or files (r >>= (λ header. restored_into output overwrite header (drop header.offset image) files))) is

pub header_read : (output : Option (List ℕ)) (overwrite : Bool) (image : List ℕ) (files : Files) (header : CloneHeader)
    → refused_as clone_status (clone_header image) ≡ Ok header → restored_image output overwrite image files ≡ restored_into output overwrite header (drop header.offset image) files
unfolding restored_image
header_read output overwrite image files header is =
    ap (λ r. r >>= (λ header. restored_into output overwrite header (drop header.offset image) files)) is

-- ---- a file as a source

pub given_bears : (file after : ImageState) (given more : ℕ) → HasGiven (source_of file given) (source_of after more) → after.name ≡ file.name
given_bears file after given more is = ap (λ (s : SourceState). s.name) is.given

pub given_holds : (file after : ImageState) (given more : ℕ) → HasGiven (source_of file given) (source_of after more) → after.content ≡ file.content
given_holds file after given more is = ap (λ (s : SourceState). s.bytes) is.given

-- of which nothing was given yet
pub unread_bytes : (file : ImageState) (given : ℕ) → given ≡ 0 → to_come (source_of file given) ≡ file.content
unread_bytes file given none = ap (λ n. drop (if file.is_told then n else 0) file.content) none ∙ of file.is_told
  where
    of : (told : Bool) → drop (if told then 0 else 0) file.content ≡ file.content
    of true = refl
    of false = refl

pub restore_refused : (output : Option (List ℕ)) (overwrite : Bool) (source : List ℕ) (files : Files) (fault : Status)
    → ok_or (file_of files source) (status.Absent named.Source) ≡ Err fault
    → outcome_or files (restore_work output overwrite (Some source) files []) ≡ refused_with fault files
unfolding restore_work
restore_refused output overwrite source files fault is = ap (λ r. outcome_or files (r >>= (λ image. restored_image output overwrite image files))) is

pub restore_read : (output : Option (List ℕ)) (overwrite : Bool) (source : List ℕ) (files : Files) (image : List ℕ)
    → ok_or (file_of files source) (status.Absent named.Source) ≡ Ok image
    → restore_work output overwrite (Some source) files [] ≡ restored_image output overwrite image files
unfolding restore_work
restore_read output overwrite source files image is = ap (λ r. r >>= (λ image. restored_image output overwrite image files)) is

-- of the input
pub restore_input : (output : Option (List ℕ)) (overwrite : Bool) (files : Files) (input : List ℕ)
    → restore_work output overwrite None files input ≡ restored_image output overwrite input files
unfolding restore_work
restore_input output overwrite files input = refl

-- the input plays no part where a file is read
pub restore_file : (output : Option (List ℕ)) (overwrite : Bool) (source : List ℕ) (files : Files) (input : List ℕ)
    → restore_work output overwrite (Some source) files input ≡ restore_work output overwrite (Some source) files []
unfolding restore_work
restore_file output overwrite source files input = refl

-- nothing is put
into_output : (output : Option (List ℕ)) (overwrite : Bool) (header : CloneHeader) (rest : List ℕ) (files : Files)
    → (outcome_or files (restored_into output overwrite header rest files)).output ≡ []
into_output None overwrite header rest files = refl
into_output (Some output) overwrite header rest files = of (may_make named.Output overwrite output files)
  where
    of : (r : Result (Unit {0}) Status) → (outcome_or files (r >>= (λ free. Ok (made_outcome header rest output files)))).output ≡ []
    of (Ok free) = refl
    of (Err fault) = refl

image_output : (output : Option (List ℕ)) (overwrite : Bool) (image : List ℕ) (files : Files) → (outcome_or files (restored_image output overwrite image files)).output ≡ []
unfolding restored_image
image_output output overwrite image files = of (refused_as clone_status (clone_header image))
  where
    of : (r : Result CloneHeader Status)
        → (outcome_or files (r >>= (λ header. restored_into output overwrite header (drop header.offset image) files))).output ≡ []
    of (Ok header) = into_output output overwrite header (drop header.offset image) files
    of (Err fault) = refl

pub restore_output : (output : Option (List ℕ)) (overwrite : Bool) (source : Option (List ℕ)) (files : Files) (input : List ℕ)
    → (outcome_or files (restore_work output overwrite source files input)).output ≡ []
unfolding restore_work
restore_output output overwrite source files input = of (clone_bytes source files input)
  where
    of : (r : Result (List ℕ) Status) → (outcome_or files (r >>= (λ image. restored_image output overwrite image files))).output ≡ []
    of (Ok image) = image_output output overwrite image files
    of (Err fault) = refl

-- ---- refusals

pub image_in_named : (output : Option (List ℕ)) (overwrite : Bool) (source : List ℕ) (fault : Status) → ImageRefuses output overwrite fault
    → RestoreRefuses output overwrite (Some source) fault
image_in_named output overwrite source (status.Present named.Output) is = is
image_in_named output overwrite source (status.BadClone place) is = tt
image_in_named output overwrite source status.ReadFault is = tt
image_in_named output overwrite source status.WriteFault is = tt
image_in_named output overwrite source status.NoMemory is = tt
image_in_named output overwrite source other is = absurd is

pub clone_in_file : (file : Named) (overwrite : Bool) (fault : Status) → CloneRefuses fault → FileRefuses file overwrite fault
clone_in_file file overwrite (status.BadClone place) is = tt
clone_in_file file overwrite status.ReadFault is = tt
clone_in_file file overwrite status.WriteFault is = tt
clone_in_file file overwrite status.NoMemory is = tt
clone_in_file file overwrite other is = absurd is
