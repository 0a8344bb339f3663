-- What a trial that was done leaves: a volume, its clone image, and the same volume restored.
use Rattle.std.proofs.Common.{◌≡◌, ◌+◌, ℕ, Bool, true, false, List, [], length, refl, sym, ap, ◌∙◌, subst, arith, codes, Some, Result, Ok, Err, is_none, ok_or, drop, length-append}
use Rattle.std.proofs.lemmas.Option.{same_Some}
use Rattle.std.specs.FinMap.{insert}
use Rattle.std.specs.Str.{bytes_eq}
use Rattle.ntfs_base.specs.Frames.{must, refused_as, ◌>>=◌}
use Rattle.ntfs_base.specs.Shelf.{Files, file_of}
use Rattle.ntfs_base.specs.Sink.{SinkState}
use Rattle.ntfs_base.specs.declared.refusal.Named.{Named}
use Rattle.ntfs_base.specs.declared.refusal.Named.TheVariants as named
use Rattle.ntfs_base.proofs.ShelfLemmas.{same_name}
use Rattle.ntfs_clone.specs.CloneOf.{Volume, clone_of}
use Rattle.ntfs_clone.specs.Commands.{clone_commands}
use Rattle.ntfs_clone.specs.Header.{clone_header}
use Rattle.ntfs_clone.specs.Restored.{restore_of, restored}
use Rattle.ntfs_clone.specs.Same.{owned_volume}
use Rattle.ntfs_clone.specs.declared.header.CloneHeader.{CloneHeader}
use Rattle.ntfs_make.specs.Volume.{volume_bytes_of}
use Rattle.ntfs_rules.specs.Laws.{IsWhole}
use Rattle.ntfs_volume.specs.Opened.{Opened}
use Rattle.ntfs_run.specs.Checked.{checked_of}
use Rattle.ntfs_run.specs.Clone.{restored_by, restored_in, saved_bytes, saved_in, volume_in}
use Rattle.ntfs_run.specs.Headline.{IsCloneOf, IsCopyOf, TriesVolume}
use Rattle.ntfs_run.specs.Make.{make_work}
use Rattle.ntfs_run.specs.Outcome.{Does, Outcome, Work, clone_status, may_make, outcome_of, outcome_or}
use Rattle.ntfs_run.specs.Trial.{back_name, bytes_line, clone_name, in_turn, in_turn_of, restored_back, restored_trial, saved_trial, says, trial_image, trial_outcome}
use Rattle.ntfs_run.specs.declared.checked.Accepted.{Accepted}
use Rattle.ntfs_run.specs.declared.status.Status.{Status}
use Rattle.ntfs_run.specs.declared.status.Status.TheVariants as status
use Rattle.ntfs_run.proofs.HeadlineLemmas.{comes_back, done_clone, done_must, done_ok, done_or, done_refused, done_then, ends_done, get_made, held_ok, is_checked, no_check, restored_whole}
use Rattle.ntfs_run.proofs.OutputLemmas.{others_kept}
use Rattle.ntfs_run.proofs.ToolLemmas.{bind_ok, refused_ok}

-- ---- names

-- names of two lengths differ
apart_lengths : (a b : List ℕ) (t : Bool) → bytes_eq a b ≡ t → (length a ≡ length b → ⊥) → bytes_eq a b ≡ false
apart_lengths a b false is none = is
apart_lengths a b true is none = absurd (none (ap length (same_name a b is)))

clone_length : (name : List ℕ) → length (clone_name name) ≡ length name + 6
clone_length name = length-append name (codes ".clone")

back_length : (name : List ℕ) → length (back_name name) ≡ length name + 5
back_length name = length-append name (codes ".back")

apart_clone : (name : List ℕ) → bytes_eq name (clone_name name) ≡ false
apart_clone name = apart_lengths name (clone_name name) (bytes_eq name (clone_name name)) refl (λ same. omega (arith, same, clone_length name))

apart_back : (name : List ℕ) → bytes_eq name (back_name name) ≡ false
apart_back name = apart_lengths name (back_name name) (bytes_eq name (back_name name)) refl (λ same. omega (arith, same, back_length name))

apart_both : (name : List ℕ) → bytes_eq (clone_name name) (back_name name) ≡ false
apart_both name =
    apart_lengths (clone_name name) (back_name name) (bytes_eq (clone_name name) (back_name name)) refl
    (λ same. omega (arith, same, clone_length name, back_length name))

-- ---- jobs that were done

-- a job that was done, and then the next one
record IsTurned (first : Outcome) (next : Files → Outcome) (last : Outcome) : Type 0 where
  done : first.status ≡ status.Done
  follows : (next first.files).status ≡ status.Done
  files : last.files ≡ (next first.files).files

turned_of : (s : Status) (first : Outcome) (next : Files → Outcome) → first.status ≡ s → (in_turn_of s first next).status ≡ status.Done
    → IsTurned first next (in_turn_of s first next)
turned_of status.Done first next is done = record { done = is; follows = done; files = refl }
turned_of refused first next is done = absurd (let same : refused ≡ status.Done = sym is ∙ done in cc)

turned : (first : Outcome) (next : Files → Outcome) → (in_turn first next).status ≡ status.Done → IsTurned first next (in_turn first next)
turned first next done = turned_of first.status first next refl done

-- a step of a job that was done gave a value, and the rest was done with it
step : {A : Type 0} (files : Files) (r : Result A Status) (f : A → Result Outcome Status) → (r ≡ Err status.Done → ⊥)
    → (outcome_or files (r >>= f)).status ≡ status.Done
    → (x : A) × (r ≡ Ok x) × ((outcome_or files (f x)).status ≡ status.Done) × ((outcome_or files (r >>= f)).files ≡ (outcome_or files (f x)).files)
step files (Ok x) f none done = (x, refl, done, refl)
step files (Err fault) f none done = absurd (none (ap Err done))

-- a file that may be made was made
work_done : (files : Files) (b : Bool) (fault : Status) (work : Work) → (fault ≡ status.Done → ⊥)
    → (outcome_of files (must b fault >>= (λ free. Ok work))).status ≡ status.Done
    → (outcome_of files (must b fault >>= (λ free. Ok work))).files ≡ work.files
work_done files true fault work none done = refl
work_done files false fault work none done = absurd (none done)

-- ---- the volume

make_done : (name : List ℕ) (seed clusters cluster : ℕ) (files : Files)
    → (outcome_of files (make_work name seed clusters cluster files)).status ≡ status.Done
    → (outcome_of files (make_work name seed clusters cluster files)).files ≡ insert files name (volume_bytes_of seed clusters cluster)
unfolding make_work
make_done name seed clusters cluster files done =
    work_done files (is_none (file_of files name)) (status.Present named.Output)
    (record { output = []; files = insert files name (volume_bytes_of seed clusters cluster) }) (λ is. cc) done

-- ---- the clone image

save_done : (file : Named) (output : List ℕ) (overwrite : Bool) (volume : Volume) (files : Files)
    → (outcome_of files (saved_in file true output overwrite volume files)).status ≡ status.Done
    → (outcome_of files (saved_in file true output overwrite volume files)).files ≡ insert files output (clone_of volume)
save_done file output overwrite volume files done =
    work_done files _ (status.Present file) (record { output = []; files = insert files output (saved_bytes true volume) }) (λ is. cc) done

-- a whole volume stands under the name, and its clone image was saved
record IsTrialSaved (name : List ℕ) (files new : Files) : Type 0 where
  image : List ℕ
  opened : Opened
  held : file_of files name ≡ Some image
  whole : IsWhole image opened
  made : new ≡ insert files (clone_name name) (clone_of (owned_volume image opened))

saved_of : (name image : List ℕ) (checked : Accepted) (files new : Files) → file_of files name ≡ Some image → checked_of image ≡ Ok checked
    → (outcome_of files (saved_in named.Clone true (clone_name name) false (volume_in checked image) files)).status ≡ status.Done
    → new ≡ (outcome_of files (saved_in named.Clone true (clone_name name) false (volume_in checked image) files)).files
    → IsTrialSaved name files new
saved_of name image checked files new held is done made =
    let good = is_checked image checked is in
    record {
      image = image;
      opened = checked.table;
      held = held;
      whole = good.whole;
      made = made ∙ save_done named.Clone (clone_name name) false (volume_in checked image) files done
          ∙ ap (λ volume. insert files (clone_name name) (clone_of volume)) good.owned;
    }

trial_saved : (name : List ℕ) (files : Files) → (saved_trial name files).status ≡ status.Done → IsTrialSaved name files (saved_trial name files).files
unfolding saved_trial
trial_saved name files done =
    let image = step files (ok_or (file_of files name) (status.Absent named.Output)) _ (done_or (file_of files name) (status.Absent named.Output) (λ is. cc)) done in
    let checked = step files (checked_of image.0) _ (no_check image.0) image.2 in
    saved_of name image.0 checked.0 files _ (held_ok (file_of files name) (status.Absent named.Output) image.0 image.1) checked.1 checked.2
    (image.3 ∙ checked.3)

-- ---- what it restores

no_back : (file : Named) (output : List ℕ) (overwrite : Bool) (header : CloneHeader) (rest : List ℕ) (files : Files)
    → restored_in file output overwrite header rest files ≡ Err status.Done → ⊥
no_back file output overwrite header rest files is =
    done_then (may_make file overwrite output files) _ (done_must _ (status.Present file) (λ is. cc)) (λ free. done_ok _) is

same_done : (a b : Outcome) → ◌≡◌ {A = Result Outcome Status} (Ok a) (Ok b) → a ≡ b
same_done a b is = cc

-- a clone image was restored whole
record IsTrialBack (name clone : List ℕ) (files new : Files) : Type 0 where
  back : List ℕ
  whole : restore_of clone ≡ Ok back
  made : new ≡ insert files (back_name name) back

back_of : (name clone : List ℕ) (header : CloneHeader) (files new : Files) (outcome : Outcome) → clone_header clone ≡ Ok header
    → restored_in named.Back (back_name name) false header (drop header.offset clone) files ≡ Ok outcome → outcome.status ≡ status.Done
    → new ≡ outcome.files → IsTrialBack name clone files new
back_of name clone header files new outcome begins placed done made =
    let free = bind_ok (may_make named.Back false (back_name name) files) _ outcome placed in
    let same = same_done _ outcome free.2 in
    let right = ends_done (clone_commands header (drop header.offset clone)) (ap (λ (o : Outcome). o.status) same ∙ done) in
    record {
      back = restored header right.0;
      whole = restored_whole clone header right.0 begins right.1;
      made = made ∙ ap (λ (o : Outcome). o.files) (sym same)
          ∙ ap (λ commands. insert files (back_name name) (restored_by header (drop header.offset clone) commands)) right.1;
    }

back_restored : (name clone : List ℕ) (files : Files) → (restored_back name clone files).status ≡ status.Done
    → IsTrialBack name clone files (restored_back name clone files).files
unfolding restored_back
back_restored name clone files done =
    let header = step files (refused_as clone_status (clone_header clone)) _ (done_refused clone_status (clone_header clone) done_clone) done in
    let rest = drop header.0.offset clone in
    let placed = step files (restored_in named.Back (back_name name) false header.0 rest files) _ (no_back named.Back (back_name name) false header.0 rest files) header.2 in
    let turn = turned placed.0 (says (bytes_line (codes "restored: ") header.0.device)) placed.2 in
    back_of name clone header.0 files _ placed.0 (refused_ok clone_status (clone_header clone) header.0 header.1) placed.1 turn.done
    (header.3 ∙ placed.3 ∙ turn.files)

trial_restored : (name : List ℕ) (files : Files) → (restored_trial name files).status ≡ status.Done
    → (clone : List ℕ) × (file_of files (clone_name name) ≡ Some clone) × IsTrialBack name clone files (restored_trial name files).files
unfolding restored_trial
trial_restored name files done =
    let clone = step files (ok_or (file_of files (clone_name name)) (status.Absent named.Clone)) _
    (done_or (file_of files (clone_name name)) (status.Absent named.Clone) (λ is. cc)) done in (
      clone.0,
      held_ok (file_of files (clone_name name)) (status.Absent named.Clone) clone.0 clone.1,
      subst (IsTrialBack name clone.0 files) (sym clone.3) (back_restored name clone.0 files clone.2),
    )

-- ---- the three files

-- of any volume
record IsTried (image name : List ℕ) (new : Files) : Type 0 where
  clone : List ℕ
  back : List ℕ
  made : file_of new name ≡ Some image
  saved : file_of new (clone_name name) ≡ Some clone
  restored : file_of new (back_name name) ≡ Some back
  is_clone : IsCloneOf image clone
  is_copy : IsCopyOf image back

tried : (image name : List ℕ) (old first second new : Files) → first ≡ insert old name image → IsTrialSaved name first second
    → (clone : List ℕ) → file_of second (clone_name name) ≡ Some clone → IsTrialBack name clone second new → IsTried image name new
tried image name old first second new is so clone held restored =
    let copy = clone_of (owned_volume so.image so.opened) in
    let stands : file_of first name ≡ Some image = ap (λ files. file_of files name) is ∙ get_made old name image in
    let same : so.image ≡ image = same_Some so.image image (sym so.held ∙ stands) in
    let saved : clone ≡ copy = same_Some clone copy (sym held ∙ ap (λ files. file_of files (clone_name name)) so.made ∙ get_made first (clone_name name) copy) in
    let is_clone = subst (λ bytes. IsCloneOf bytes clone) same (record { opened = so.opened; whole = so.whole; saved = saved }) in
    record {
      clone = clone;
      back = restored.back;
      made = others_kept second new (back_name name) restored.back restored.made name (apart_back name)
          ∙ others_kept first second (clone_name name) copy so.made name (apart_clone name) ∙ stands;
      saved = others_kept second new (back_name name) restored.back restored.made (clone_name name) (apart_both name) ∙ held;
      restored = ap (λ files. file_of files (back_name name)) restored.made ∙ get_made second (back_name name) restored.back;
      is_clone = is_clone;
      is_copy = comes_back clone restored.back restored.whole image is_clone;
    }

of_seed : (seed : ℕ) (name : List ℕ) (new : Files) → IsTried (trial_image seed) name new → TriesVolume seed name new
of_seed seed name new is = record {
  clone = is.clone;
  back = is.back;
  made = is.made;
  saved = is.saved;
  restored = is.restored;
  is_clone = is.is_clone;
  is_copy = is.is_copy;
}

-- a trial that was done
pub tries_volume : (seed : ℕ) (name : List ℕ) (old new : Files) (before after : SinkState)
    → Does (trial_outcome seed name old) status.Done before after new → TriesVolume seed name new
unfolding trial_outcome
tries_volume seed name old new before after does =
    let first = outcome_of old (make_work name seed 16384 4096 old) in
    let one = turned first (λ made. in_turn (saved_trial name made) (restored_trial name)) (sym (does.status tt)) in
    let second = saved_trial name first.files in
    let two = turned second (restored_trial name) one.follows in
    let last = trial_restored name second.files two.follows in
    of_seed seed name new
    (tried (trial_image seed) name old first.files second.files new (make_done name seed 16384 4096 old one.done) (trial_saved name first.files two.done) last.0 last.1
    (subst (IsTrialBack name last.0 second.files) (sym (does.files tt ∙ one.files ∙ two.files)) last.2))
