-- What ntfsclone promises of accepted images, from its reply.
use Rattle.std.proofs.Common.{◌≡◌, ◌||◌, ℕ, Bool, true, false, not, List, [], refl, sym, ap, ◌∙◌, Result, Ok, Err, Option, Some, None, ok_or, drop}
use Rattle.std.proofs.Common.{subst, cond}
use Rattle.std.specs.FinMap.{insert, get-insert}
use Rattle.std.proofs.lemmas.Cmp.{nat_list_cmp_total}
use Rattle.std.proofs.lemmas.Cmp.{eq_by_cmp_equiv}
use Rattle.ntfs_base.specs.Frames.{must, refused_as, ◌>>=◌}
use Rattle.ntfs_base.specs.Shelf.{Files, file_of}
use Rattle.ntfs_base.specs.Sink.{SinkState, after_put}
use Rattle.ntfs_base.specs.declared.refusal.Named.TheVariants as named
use Rattle.ntfs_check.specs.Findings.{VolumeFindings, examined, findings_of}
use Rattle.ntfs_clone.specs.CloneOf.{Volume, clone_of}
use Rattle.ntfs_clone.specs.Commands.{Command, clone_commands, read_clone}
use Rattle.ntfs_clone.specs.Copying.{copy_of}
use Rattle.ntfs_clone.specs.Header.{clone_header}
use Rattle.ntfs_clone.specs.Restored.{restore_of, restored}
use Rattle.ntfs_clone.specs.Same.{IsSameVolume, owned_volume}
use Rattle.ntfs_clone.specs.declared.fault.CloneFault.{CloneFault}
use Rattle.ntfs_clone.specs.declared.fault.CloneFault.TheVariants as clone
use Rattle.ntfs_clone.specs.declared.header.CloneHeader.{CloneHeader}
use Rattle.ntfs_clone.proofs.SameLemmas.{clone-restored, same-volume}
use Rattle.ntfs_rules.specs.Accepts.{Broken, fault_of}
use Rattle.ntfs_rules.specs.Laws.{IsWhole, data_in}
use Rattle.ntfs_rules.specs.Outcome.{unless_broken}
use Rattle.ntfs_rules.specs.VolumeData.{volume_data}
use Rattle.ntfs_rules.specs.declared.fault.CheckFault.{CheckFault}
use Rattle.ntfs_rules.specs.declared.fault.CheckFault.TheVariants as check
use Rattle.ntfs_volume.specs.Opened.{Opened, opened_of}
use Rattle.ntfs_run.specs.Checked.{checked_of}
use Rattle.ntfs_run.specs.Clone.{clone_bytes, restore_end, restore_work, restored_by, restored_image, save_work, saved_bytes, saved_image, saved_in, saved_into, source_bytes, volume_in, volume_to_save}
use Rattle.ntfs_run.specs.Headline.{CopiesFile, IsCloneOf, IsCopyOf, RestoresFile, SavesFile, SavesOutput}
use Rattle.ntfs_run.specs.Outcome.{Does, Outcome, Work, check_status, clone_status, may_make, outcome_of, outcome_or, volume_status}
use Rattle.ntfs_run.specs.declared.checked.Accepted.{Accepted}
use Rattle.ntfs_run.specs.declared.status.Status.{Status}
use Rattle.ntfs_run.specs.declared.status.Status.TheVariants as status
use Rattle.ntfs_volume.specs.declared.fault.VolumeFault.{VolumeFault}
use Rattle.ntfs_volume.specs.declared.fault.VolumeFault.TheVariants as volume
use Rattle.ntfs_run.proofs.ToolLemmas.{bind_ok, refused_ok}

-- ---- statuses that are refusals

done_volume : (fault : VolumeFault) → volume_status fault ≡ status.Done → ⊥
done_volume volume.NotNtfs is = cc
done_volume (volume.BadGeometry field value) is = cc
done_volume (volume.ImageShort len need) is = cc
done_volume (volume.Damaged rule number) is = cc
done_volume volume.ReadFault is = cc
done_volume volume.WriteFault is = cc
done_volume volume.NoMemory is = cc
done_volume volume.Absent is = cc
done_volume volume.NoAttribute is = cc

pub done_then : {A B : Type 0} (r : Result A Status) (f : A → Result B Status) → (r ≡ Err status.Done → ⊥) → ((x : A) → f x ≡ Err status.Done → ⊥)
    → (r >>= f) ≡ Err status.Done → ⊥
done_then (Ok x) f first rest is = rest x is
done_then (Err fault) f first rest is = first (let same : fault ≡ status.Done = cc in ap Err same)

pub done_must : (b : Bool) (fault : Status) → (fault ≡ status.Done → ⊥) → must b fault ≡ Err status.Done → ⊥
done_must true fault none is = cc
done_must false fault none is = none cc

pub done_refused : {A E : Type 0} (over : E → Status) (r : Result A E) → ((e : E) → over e ≡ status.Done → ⊥) → refused_as over r ≡ Err status.Done → ⊥
done_refused over (Ok x) none is = cc
done_refused over (Err fault) none is = none fault cc

pub done_or : {A : Type 0} (o : Option A) (fault : Status) → (fault ≡ status.Done → ⊥) → ok_or o fault ≡ Err status.Done → ⊥
done_or None fault none is = none cc
done_or (Some x) fault none is = cc

done_check : (fault : CheckFault) → check_status fault ≡ status.Done → ⊥
done_check (check.Damaged rule number) is = cc
done_check check.ReadFault is = cc
done_check check.NoMemory is = cc

pub done_clone : (fault : CloneFault) → clone_status fault ≡ status.Done → ⊥
done_clone (clone.BadClone place) is = cc
done_clone (clone.Damaged rule number) is = cc
done_clone clone.ReadFault is = cc
done_clone clone.WriteFault is = cc
done_clone clone.NoMemory is = cc

pub done_ok : {A : Type 0} (x : A) → ◌≡◌ {A = Result A Status} (Ok x) (Err status.Done) → ⊥
done_ok x is = cc

-- ---- files that are made

pub get_made : (files : Files) (name bytes : List ℕ) → file_of (insert files name bytes) name ≡ Some bytes
get_made files name bytes =
    get-insert nat_list_cmp_total files name bytes name ∙ ap (λ b. cond b (Some bytes) (file_of files name)) ((eq_by_cmp_equiv nat_list_cmp_total).refl name)

pub held_ok : (o : Option (List ℕ)) (fault : Status) (bytes : List ℕ) → ok_or o fault ≡ Ok bytes → o ≡ Some bytes
held_ok None fault bytes is = absurd cc
held_ok (Some x) fault bytes is = let same : x ≡ bytes = cc in ap Some same

-- ---- volumes that are checked

none_broken : (broken : Option Broken) (value given : VolumeFindings) → unless_broken broken value ≡ Ok given → (broken ≡ None) × (given ≡ value)
none_broken None value given is = (refl, let same : value ≡ given = cc in sym same)
none_broken (Some b) value given is = absurd cc

-- a volume that is checked is whole, and its owned clusters are those that its records own
pub record IsChecked (image : List ℕ) (checked : Accepted) : Type 0 where
  pub whole : IsWhole image checked.table
  pub owned : volume_in checked image ≡ owned_volume image checked.table

pub is_checked : (image : List ℕ) (checked : Accepted) → checked_of image ≡ Ok checked → IsChecked image checked
unfolding checked_of examined volume_data
is_checked image checked is =
    let opened = bind_ok (refused_as volume_status (opened_of image)) _ checked is in
    let found = bind_ok (refused_as check_status (examined (data_in image opened.0))) _ checked opened.2 in
    let whole = none_broken (fault_of (data_in image opened.0)) (findings_of (data_in image opened.0)) found.0
    (refused_ok check_status (examined (data_in image opened.0)) found.0 found.1) in
    let same : record { table = opened.0; findings = found.0 } ≡ checked = cc in
    subst (IsChecked image) same (record {
      whole = record { opened = refused_ok volume_status (opened_of image) opened.0 opened.1; whole = whole.0 };
      owned = ap (λ (f : VolumeFindings). volume_in (record { table = opened.0; findings = f }) image) whole.1;
    })

pub no_check : (image : List ℕ) → checked_of image ≡ Err status.Done → ⊥
unfolding checked_of
no_check image is =
    done_then (refused_as volume_status (opened_of image)) _ (done_refused volume_status (opened_of image) done_volume)
    (λ table. done_then (refused_as check_status (examined (data_in image table))) _ (done_refused check_status (examined (data_in image table)) done_check)
    (λ findings. done_ok _)) is

-- ---- saving and copying

-- the volume that is saved is of an image that is whole
pub record IsVolumeOf (image : List ℕ) (volume : Volume) : Type 0 where
  pub opened : Opened
  pub whole : IsWhole image opened
  pub owned : volume ≡ owned_volume image opened

saved_volume : (force : Bool) (image : List ℕ) (volume : Volume) → volume_to_save force image ≡ Ok volume → IsVolumeOf image volume
unfolding volume_to_save
saved_volume force image volume is =
    let checked = bind_ok (checked_of image) _ volume is in
    let clean = bind_ok (must (force || not checked.0.findings.facts.dirty) status.Dirty) _ volume checked.2 in
    let same : volume_in checked.0 image ≡ volume = cc in
    let good = is_checked image checked.0 checked.1 in
    record { opened = checked.0.table; whole = good.whole; owned = sym same ∙ good.owned }

no_volume : (force : Bool) (image : List ℕ) → volume_to_save force image ≡ Err status.Done → ⊥
unfolding volume_to_save
no_volume force image is =
    done_then (checked_of image) _ (no_check image)
    (λ checked. done_then (must (force || not checked.findings.facts.dirty) status.Dirty) _ (done_must _ status.Dirty (λ is. cc)) (λ clean. done_ok _)) is

no_place : (save overwrite : Bool) (output : List ℕ) (volume : Volume) (files : Files) → saved_in named.Output save output overwrite volume files ≡ Err status.Done → ⊥
no_place save overwrite output volume files is =
    done_then (may_make named.Output overwrite output files) _ (done_must _ (status.Present named.Output) (λ is. cc)) (λ free. done_ok _) is

-- the work of a save, step by step
pub record IsSavedSo (save : Bool) (source : List ℕ) (output : Option (List ℕ)) (overwrite : Bool) (files : Files) (work : Work) : Type 0 where
  pub image : List ℕ
  pub volume : Volume
  pub held : file_of files source ≡ Some image
  pub of : IsVolumeOf image volume
  pub put : saved_into save output overwrite volume files ≡ Ok work

saved_so : (save force : Bool) (output : Option (List ℕ)) (overwrite : Bool) (source : List ℕ) (files : Files) (work : Work)
    → save_work save force output overwrite (Some source) files ≡ Ok work → IsSavedSo save source output overwrite files work
unfolding save_work saved_image
saved_so save force output overwrite source files work is =
    let image = bind_ok (source_bytes (Some source) files) _ work is in
    let volume = bind_ok (volume_to_save force image.0) _ work image.2 in
    record {
      image = image.0;
      volume = volume.0;
      held = held_ok (file_of files source) (status.Absent named.Source) image.0 image.1;
      of = saved_volume force image.0 volume.0 volume.1;
      put = volume.2;
    }

no_save : (save force : Bool) (output : Option (List ℕ)) (overwrite : Bool) (source : List ℕ) (files : Files)
    → save_work save force output overwrite (Some source) files ≡ Err status.Done → ⊥
unfolding save_work saved_image
no_save save force None overwrite source files is =
    done_then (source_bytes (Some source) files) _ (done_or (file_of files source) (status.Absent named.Source) (λ is. cc))
    (λ image. done_then (volume_to_save force image) _ (no_volume force image) (λ volume. done_ok _)) is
no_save save force (Some output) overwrite source files is =
    done_then (source_bytes (Some source) files) _ (done_or (file_of files source) (status.Absent named.Source) (λ is. cc))
    (λ image. done_then (volume_to_save force image) _ (no_volume force image) (λ volume. no_place save overwrite output volume files)) is

-- a volume that was put into a file
placed : (save overwrite : Bool) (output : List ℕ) (volume : Volume) (files : Files) (work : Work)
    → saved_in named.Output save output overwrite volume files ≡ Ok work → work.files ≡ insert files output (saved_bytes save volume)
placed save overwrite output volume files work is =
    let free = bind_ok (may_make named.Output overwrite output files) _ work is in
    let same : record { output = []; files = insert files output (saved_bytes save volume) } ≡ work = cc in
    sym (ap (λ (w : Work). w.files) same)

module _ (force : Bool) (overwrite : Bool) (source : List ℕ) (old left : Files) (before after : SinkState) where
  pub saves_file : (output : List ℕ) (r : Result Work Status) → save_work true force (Some output) overwrite (Some source) old ≡ r
      → Does (outcome_of old r) status.Done before after left → SavesFile source output old left
  saves_file output (Ok work) is does =
      let so = saved_so true force (Some output) overwrite source old work is in
      record {
        image = so.image;
        clone = clone_of so.volume;
        held = so.held;
        made = ap (λ files. file_of files output) (does.files tt ∙ placed true overwrite output so.volume old work so.put) ∙ get_made old output (clone_of so.volume);
        saved = record { opened = so.of.opened; whole = so.of.whole; saved = ap clone_of so.of.owned };
      }
  saves_file output (Err fault) is does = absurd (no_save true force (Some output) overwrite source old (is ∙ ap Err (sym (does.status tt))))

  pub saves_output : (r : Result Work Status) → save_work true force None overwrite (Some source) old ≡ r
      → Does (outcome_of old r) status.Done before after left → SavesOutput source old before after
  saves_output (Ok work) is does =
      let so = saved_so true force None overwrite source old work is in
      let same : record { output = clone_of so.volume; files = old } ≡ work = cc in
      record {
        image = so.image;
        clone = clone_of so.volume;
        held = so.held;
        put = does.output tt ∙ ap (λ (w : Work). after_put w.output before) (sym same);
        saved = record { opened = so.of.opened; whole = so.of.whole; saved = ap clone_of so.of.owned };
      }
  saves_output (Err fault) is does = absurd (no_save true force None overwrite source old (is ∙ ap Err (sym (does.status tt))))

  pub copies_file : (output : List ℕ) (r : Result Work Status) → save_work false force (Some output) overwrite (Some source) old ≡ r
      → Does (outcome_of old r) status.Done before after left → CopiesFile source output old left
  copies_file output (Ok work) is does =
      let so = saved_so false force (Some output) overwrite source old work is in
      record {
        image = so.image;
        copy = copy_of so.volume;
        held = so.held;
        made = ap (λ files. file_of files output) (does.files tt ∙ placed false overwrite output so.volume old work so.put) ∙ get_made old output (copy_of so.volume);
        copied = record {
          opened = so.of.opened;
          whole = so.of.whole;
          same = subst (λ v. IsSameVolume so.image (copy_of v) so.of.opened) (sym so.of.owned) (same-volume so.image so.of.opened so.of.whole);
        };
      }
  copies_file output (Err fault) is does = absurd (no_save false force (Some output) overwrite source old (is ∙ ap Err (sym (does.status tt))))

-- ---- restoring

no_restore : (output : List ℕ) (overwrite : Bool) (source : Option (List ℕ)) (files : Files) (input : List ℕ)
    → restore_work (Some output) overwrite source files input ≡ Err status.Done → ⊥
unfolding restore_work restored_image
no_restore output overwrite None files input is =
    done_then (refused_as clone_status (clone_header input)) _ (done_refused clone_status (clone_header input) done_clone)
    (λ header. done_then (may_make named.Output overwrite output files) _ (done_must _ (status.Present named.Output) (λ is. cc)) (λ free. done_ok _)) is
no_restore output overwrite (Some source) files input is =
    done_then (clone_bytes (Some source) files input) _ (done_or (file_of files source) (status.Absent named.Source) (λ is. cc))
    (λ image. done_then (refused_as clone_status (clone_header image)) _ (done_refused clone_status (clone_header image) done_clone)
    (λ header. done_then (may_make named.Output overwrite output files) _ (done_must _ (status.Present named.Output) (λ is. cc)) (λ free. done_ok _))) is

-- what is restored of a clone image whose commands are right
pub restored_whole : (bytes : List ℕ) (header : CloneHeader) (commands : List Command) → clone_header bytes ≡ Ok header
    → clone_commands header (drop header.offset bytes) ≡ Ok commands → restore_of bytes ≡ Ok (restored header commands)
unfolding restore_of read_clone
restored_whole bytes header commands begins follow =
    rw begins (rw follow refl)

-- the commands are right where the restore was done
pub ends_done : (r : Result (List Command) CloneFault) → restore_end r ≡ status.Done → (commands : List Command) × (r ≡ Ok commands)
ends_done (Ok commands) is = (commands, refl)
ends_done (Err fault) is = absurd (done_clone fault is)

same_restored : (a b : List ℕ) → ◌≡◌ {A = Result (List ℕ) CloneFault} (Ok a) (Ok b) → a ≡ b
same_restored a b is = cc

-- what is restored of the clone image of a whole image is the same volume
pub comes_back : (clone copy : List ℕ) → restore_of clone ≡ Ok copy → (image : List ℕ) → IsCloneOf image clone → IsCopyOf image copy
comes_back clone copy is image saved =
    let same : copy_of (owned_volume image saved.opened) ≡ copy =
    same_restored _ _ (sym (clone-restored image saved.opened saved.whole) ∙ ap restore_of (sym saved.saved) ∙ is) in
    record { opened = saved.opened; whole = saved.whole; same = subst (λ c. IsSameVolume image c saved.opened) same (same-volume image saved.opened saved.whole) }

module _ (output : List ℕ) (overwrite : Bool) (source : Option (List ℕ)) (old left : Files) (input : List ℕ) (before after : SinkState) where
  pub restores_file : (r : Result Outcome Status) → restore_work (Some output) overwrite source old input ≡ r
      → Does (outcome_or old r) status.Done before after left → RestoresFile source output old input left
  unfolding restore_work restored_image
  restores_file (Ok outcome) is does =
      let given = bind_ok (clone_bytes source old input) _ outcome is in
      let begins = bind_ok (refused_as clone_status (clone_header given.0)) _ outcome given.2 in
      let header = begins.0 in
      let rest = drop header.offset given.0 in
      let free = bind_ok (may_make named.Output overwrite output old) _ outcome begins.2 in
      let same : record {
        status = restore_end (clone_commands header rest);
        output = [];
        files = insert old output (restored_by header rest (clone_commands header rest));
      } ≡ outcome = cc in
      let right = ends_done (clone_commands header rest) (ap (λ (o : Outcome). o.status) same ∙ sym (does.status tt)) in
      record {
        clone = given.0;
        copy = restored header right.0;
        given = given.1;
        made = ap (λ files. file_of files output) (does.files tt ∙ ap (λ (o : Outcome). o.files) (sym same)) ∙ get_made old output _
            ∙ ap (λ r. Some (restored_by header rest r)) right.1;
        restored = comes_back given.0 (restored header right.0)
            (restored_whole given.0 header right.0 (refused_ok clone_status (clone_header given.0) header begins.1) right.1);
      }
  restores_file (Err fault) is does = absurd (no_restore output overwrite source old input (is ∙ ap Err (sym (does.status tt))))
