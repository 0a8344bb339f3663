-- A file that is made, filled and released: how it ends, what is left, and that no other file differs.
use Rattle.std.proofs.Common.{◌≡◌, ◌≤◌, ◌⊎◌, ◌||◌, ℕ, Bool, true, false, List, [], ◌∷◌, length, refl, sym, ap, ◌∙◌, inl, inr, arith, cond, Option, Some, None}
use Rattle.std.proofs.Common.{Result, Ok, Err, IfErr, is_none}
use Rattle.std.proofs.lemmas.Cmp.{nat_list_cmp_total}
use Rattle.std.proofs.lemmas.List.{take_all}
use Rattle.std.proofs.lemmas.Result.{IfErr-weaker}
use Rattle.std.specs.Cmp.Lexicographic.{texts_ties}
use Rattle.std.specs.FinMap.{get, insert, get-insert}
use Rattle.std.specs.Option.{option_to_list}
use Rattle.std.specs.Str.{bytes_eq}
use Rattle.ntfs_base.specs.Causes.{HaveNotFallen, Rose}
use Rattle.ntfs_base.specs.Frames.{Because, IsSettled, ◌>>=◌}
use Rattle.ntfs_base.specs.Shelf.{Files, IsCreated, added_count, after_create, after_release, file_of}
use Rattle.ntfs_base.specs.declared.image.Image as image
use Rattle.ntfs_base.specs.declared.refusal.Named.{Named}
use Rattle.ntfs_base.specs.declared.shelf.Shelf as shelf
use Rattle.ntfs_clone.specs.CloneOf.{Volume, clone_of}
use Rattle.ntfs_clone.specs.Copying.{whole}
use Rattle.ntfs_run.specs.Clone.{IsPartSaved, LeavesOutput, saved_bytes, saved_in}
use Rattle.ntfs_run.specs.Filling.{IsCutOff, IsFilled, OutputRefuses}
use Rattle.ntfs_run.specs.Make.{LeavesFile}
use Rattle.ntfs_run.specs.Outcome.{Ends, KeepsFilesBut, KeepsOtherFiles, MakesFiles, Outcome, may_make, outcome_of, refused_with, status_of, status_origin}
use Rattle.ntfs_run.specs.declared.status.Status.{Status}
use Rattle.ntfs_run.specs.declared.status.Status.TheVariants as status
use Rattle.ntfs_run.proofs.MakeLemmas.{created-told, released_attached}
use Rattle.ntfs_run.proofs.ToolLemmas.{because_map, must_ok, rose_released}

-- ---- the shelf

other_of : (b : Bool) (put here : Option (List ℕ)) → b ≡ false → cond b put here ≡ here
other_of false put here is = refl
other_of true put here is = absurd cc

-- a file of another name is as before
pub others_kept : (old new : Files) (output bytes : List ℕ) → new ≡ insert old output bytes → KeepsOtherFiles (Some output) old new
others_kept old new output bytes is = λ name apart.
    ap (λ files. file_of files name) is ∙ get-insert nat_list_cmp_total old output bytes name
    ∙ other_of _ (Some bytes) (get old name) (sym (texts_ties name output) ∙ apart)

pub others_same : (output : Option (List ℕ)) (old new : Files) → new ≡ old → KeepsOtherFiles output old new
others_same None old new is = is
others_same (Some output) old new is = λ name apart. ap (λ files. file_of files name) is

-- a volume that is made leaves them so
pub made_others : (name : List ℕ) (seed clusters cluster : ℕ) (old new : Files) → LeavesFile name seed clusters cluster old new → KeepsOtherFiles (Some name) old new
made_others name seed clusters cluster old new left = elim left [
  | inl same ↦ others_same (Some name) old new same
  | inr made ↦ others_kept old new name made.0 made.2
]

-- files that are as before, for a list of names
pub files_same : (names : List (List ℕ)) (old new : Files) → new ≡ old → KeepsFilesBut names old new
files_same [] old new is = is
files_same (first ∷ rest) old new is = λ name apart. ap (λ files. file_of files name) is

apart_one : (b : Bool) → (b || false) ≡ false → b ≡ false
apart_one true is = absurd cc
apart_one false is = refl

-- one file that is made, or none, as a list
pub files_kept : (output : Option (List ℕ)) (old new : Files) → KeepsOtherFiles output old new → KeepsFilesBut (option_to_list output) old new
files_kept None old new is = is
files_kept (Some output) old new is = λ name apart. is name (apart_one (bytes_eq name output) apart)

-- a file that was made, filled and released
pub made_released : {S F : Type 0} {fresh : Bool} (s : shelf.Ghosts S F) (f : image.Ghosts F) (has : Status → Type 0) (read : Type 0) (old held new : S)
    (file filled : F) (name : List ℕ) (result : Result (Unit {0}) Status)
    → IsCreated (s.seen old) name fresh (f.seen file) (f.faults file) → s.seen held ≡ after_create name (s.seen old)
    → HaveNotFallen (s.faults old) (s.faults held) → (f.seen filled).name ≡ (f.seen file).name
    → IfErr result (λ fault. Because (status_origin fault) (read ⊎ Rose (f.faults file).reads (f.faults filled).reads)
    (Rose (f.faults file).writes (f.faults filled).writes) (Unit {0}))
    → IfErr result has → s.seen new ≡ after_release (f.seen filled) (s.seen held)
    → (s.faults new).reads ≡ added_count (s.faults held).reads (f.faults filled).reads
    → (s.faults new).writes ≡ added_count (s.faults held).writes (f.faults filled).writes → HaveNotFallen (s.faults held) (s.faults new)
    → MakesFiles s has old new read result
made_released s f has read old held new file filled name result out created kept named cause refusal released reads writes counts = record {
  told = ap (λ shelf. shelf.is_told) (released ∙ ap (after_release (f.seen filled)) created) ∙ created-told name (f.seen filled) (s.seen old);
  attached = released_attached s f old held new file filled name out created named released;
  counts = record { reads = omega (arith, kept.reads, counts.reads); writes = omega (arith, kept.writes, counts.writes) };
  cause = IfErr-weaker result _ _ (λ fault. because_map (status_origin fault)
      (λ rose. elim rose [
        | inl before ↦ inr before
        | inr inside ↦ inl (rose_released _ (s.faults held).reads _ (f.faults file).reads (f.faults filled).reads kept.reads reads out.reads inside)
      ])
      (rose_released _ (s.faults held).writes _ (f.faults file).writes (f.faults filled).writes kept.writes writes out.writes)
      (λ want. want)) cause;
  refusal = refusal;
}

-- other refusals and another cause
pub makes_map : {S F : Type 0} (s : shelf.Ghosts S F) (has may : Status → Type 0) (read cause : Type 0) (old new : S) (result : Result (Unit {0}) Status)
    → ((fault : Status) → has fault → may fault) → (read → cause) → MakesFiles s has old new read result → MakesFiles s may old new cause result
makes_map s has may read cause old new result more from is = record {
  told = is.told;
  attached = is.attached;
  counts = is.counts;
  cause = IfErr-weaker result _ _ (λ fault. because_map (status_origin fault) (λ rose. elim rose [ inl here ↦ inl here | inr other ↦ inr (from other) ])
      (λ rose. rose) (λ want. want)) is.cause;
  refusal = IfErr-weaker result _ _ more is.refusal;
}

-- nothing is made
pub makes_none : {S F : Type 0} (s : shelf.Ghosts S F) (has : Status → Type 0) (read : Type 0) (old : S) (result : Result (Unit {0}) Status)
    → IfErr result (λ fault. Because (status_origin fault) read ⊥ (Unit {0})) → IfErr result has → MakesFiles s has old old read result
makes_none s has read old result cause refusal = record {
  told = refl;
  attached = refl;
  counts = record { reads = omega arith; writes = omega arith };
  cause = IfErr-weaker result _ _ (λ fault. because_map (status_origin fault) (λ rose. inr rose) (λ no. absurd no) (λ want. want)) cause;
  refusal = refusal;
}

-- a count that rose later
pub rose_since : (first from to : ℕ) → first ≤ from → from ≤ to → Rose from to → Rose first to
rose_since first from to kept more rose = λ below. grind arith

-- ---- how it ends

pub ends_refused : (outcome : Outcome) (fault : Status) (files left : Files) → left ≡ files
    → (IsSettled (status_origin fault) → outcome ≡ refused_with fault files) → Ends outcome fault left
ends_refused outcome fault files left kept is = record {
  status = λ settled. sym (ap (λ o. o.status) (is settled));
  files = λ settled. kept ∙ sym (ap (λ o. o.files) (is settled));
}

pub cut_unsettled : (fault : Status) → IsCutOff fault → IsSettled (status_origin fault) → ⊥
cut_unsettled status.ReadFault is settled = settled
cut_unsettled status.WriteFault is settled = settled
cut_unsettled status.NoMemory is settled = settled
cut_unsettled other is settled = is

pub cut_output : (file : Named) (overwrite : Bool) (fault : Status) → IsCutOff fault → OutputRefuses file overwrite fault
cut_output file overwrite status.ReadFault is = tt
cut_output file overwrite status.WriteFault is = tt
cut_output file overwrite status.NoMemory is = tt
cut_output file overwrite other is = absurd is

-- ---- a volume that is saved or copied to it

-- the file couldn't be made
pub save_unmade : (file : Named) (save : Bool) (output : List ℕ) (overwrite : Bool) (volume : Volume) (files : Files) (fault : Status)
    → may_make file overwrite output files ≡ Err fault
    → outcome_of files (saved_in file save output overwrite volume files) ≡ refused_with fault files
save_unmade file save output overwrite volume files fault is =
    ap (λ r. outcome_of files (r >>= (λ free. Ok (record { output = []; files = insert files output (saved_bytes save volume) })))) is

-- it was made
pub save_made : (file : Named) (save : Bool) (output : List ℕ) (overwrite : Bool) (volume : Volume) (files : Files)
    → may_make file overwrite output files ≡ Ok tt
    → saved_in file save output overwrite volume files ≡ Ok (record { output = []; files = insert files output (saved_bytes save volume) })
save_made file save output overwrite volume files free =
    ap (λ r. r >>= (λ free. Ok (record { output = []; files = insert files output (saved_bytes save volume) }))) free

pub save_ends : (file : Named) (save : Bool) (output : List ℕ) (overwrite : Bool) (volume : Volume) (old new : Files) (content : List ℕ)
    (result : Result (Unit {0}) Status) → may_make file overwrite output old ≡ Ok tt → new ≡ insert old output content
    → IsFilled save volume result content → IfErr result IsCutOff
    → Ends (outcome_of old (saved_in file save output overwrite volume old)) (status_of result) new
save_ends file save output overwrite volume old new content (Ok done) free is filled refusal =
    let work = save_made file save output overwrite volume old free in
    record {
      status = λ settled. sym (ap (λ w. (outcome_of old w).status) work);
      files = λ settled. is ∙ ap (insert old output) filled ∙ sym (ap (λ w. (outcome_of old w).files) work);
    }
save_ends file save output overwrite volume old new content (Err fault) free is filled refusal = record {
  status = λ settled. absurd (cut_unsettled fault refusal settled);
  files = λ settled. absurd (cut_unsettled fault refusal settled);
}

part_whole : (save : Bool) (volume : Volume) (content : List ℕ) → content ≡ saved_bytes save volume → IsPartSaved save volume content
part_whole true volume content is =
    (length (clone_of volume), omega arith, is ∙ sym (take_all (length (clone_of volume)) (clone_of volume) (omega arith)))
part_whole false volume content is = whole is

part_saved : (save : Bool) (volume : Volume) (result : Result (Unit {0}) Status) (content : List ℕ) → IsFilled save volume result content → IsPartSaved save volume content
part_saved save volume (Ok done) content is = part_whole save volume content is
part_saved save volume (Err fault) content is = is

-- what is left
pub save_leaves : (file : Named) (save : Bool) (output : List ℕ) (overwrite : Bool) (volume : Volume) (old new : Files) (content : List ℕ)
    (result : Result (Unit {0}) Status) → may_make file overwrite output old ≡ Ok tt → new ≡ insert old output content
    → IsFilled save volume result content → LeavesOutput (Some output) overwrite (IsPartSaved save volume) old new
save_leaves file save output overwrite volume old new content result free is filled = inr (record {
  bytes = content;
  free = must_ok (overwrite || is_none (file_of old output)) (status.Present file) tt free;
  made = is;
  held = part_saved save volume result content filled;
})

pub leaves_map : (output : Option (List ℕ)) (overwrite : Bool) (holds told : List ℕ → Type 0) (old new : Files) → ((bytes : List ℕ) → holds bytes → told bytes)
    → LeavesOutput output overwrite holds old new → LeavesOutput output overwrite told old new
leaves_map None overwrite holds told old new more is = is
leaves_map (Some output) overwrite holds told old new more is = elim is [
  | inl same ↦ inl same
  | inr here ↦ inr (record { bytes = here.bytes; free = here.free; made = here.made; held = more here.bytes here.held })
]

pub leaves_same : (output : Option (List ℕ)) (overwrite : Bool) (holds : List ℕ → Type 0) (old new : Files) → new ≡ old → LeavesOutput output overwrite holds old new
leaves_same None overwrite holds old new is = is
leaves_same (Some output) overwrite holds old new is = inl is
