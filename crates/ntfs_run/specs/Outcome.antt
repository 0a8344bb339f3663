-- What a tool does: a status, what it puts on the output, and the files afterwards. And how its answer is tied to that.
-- The words are ours.
use Rattle.std.specs.Prelude.{◌≡◌, ◌≤◌, ◌⊎◌, ◌||◌, ◌∷◌, ℕ, Bool, true, false, List, [], Option, Some, None}
use Rattle.std.specs.Prelude.{Result, Ok, Err, OnOk, IfErr, IsTrue}
use Rattle.std.specs.Option.{is_none}
use Rattle.std.specs.Str.{bytes_eq}
use Rattle.ntfs_base.specs.Causes.{HaveNotFallen, Rose}
use Rattle.ntfs_base.specs.Frames.{Because, IsSettled, Origin, PutsPrefix, SinkHasNotFallen, content, reading, writing}
use Rattle.ntfs_base.specs.Frames.{memory, must}
use Rattle.ntfs_base.specs.Shelf.{Files, file_of, has_name}
use Rattle.ntfs_base.specs.Sink.{SinkState, after_put}
use Rattle.ntfs_base.specs.declared.fault.PutFault.{PutFault}
use Rattle.ntfs_base.specs.declared.fault.PutFault.TheVariants as put
use Rattle.ntfs_base.specs.declared.fault.ShelfFault.{ShelfFault}
use Rattle.ntfs_base.specs.declared.fault.ShelfFault.TheVariants as shelf_fault
use Rattle.ntfs_base.specs.declared.refusal.Named.{Named}
use Rattle.ntfs_base.specs.declared.refusal.Rule.TheVariants as rule
use Rattle.ntfs_base.specs.declared.shelf.Shelf as shelf
use Rattle.ntfs_base.specs.declared.sink.Sink as sink
use Rattle.ntfs_base.specs.declared.source.Source as source
use Rattle.ntfs_boot.specs.declared.volume.ImageFault.{ImageFault}
use Rattle.ntfs_boot.specs.declared.volume.ImageFault.TheVariants as image
use Rattle.ntfs_clone.specs.Taking.{HasGiven, to_come}
use Rattle.ntfs_clone.specs.declared.fault.CloneFault.{CloneFault}
use Rattle.ntfs_clone.specs.declared.fault.CloneFault.TheVariants as clone
use Rattle.ntfs_print.specs.Printing.{Printing, end_of}
use Rattle.ntfs_print.specs.declared.fault.ShowFault.{ShowFault}
use Rattle.ntfs_print.specs.declared.fault.ShowFault.TheVariants as show
use Rattle.ntfs_directory.specs.declared.path_fault.PathFault.{PathFault}
use Rattle.ntfs_directory.specs.declared.path_fault.PathFault.TheVariants as path
use Rattle.ntfs_rules.specs.declared.fault.CheckFault.{CheckFault}
use Rattle.ntfs_rules.specs.declared.fault.CheckFault.TheVariants as check
use Rattle.ntfs_volume.specs.declared.fault.VolumeFault.{VolumeFault}
use Rattle.ntfs_volume.specs.declared.fault.VolumeFault.TheVariants as volume
use Rattle.ntfs_words.specs.declared.request.WordsFault.{WordsFault}
use Rattle.ntfs_words.specs.declared.request.WordsFault.TheVariants as words_fault
use Rattle.ntfs_run.specs.declared.status.Status.{Status}
use Rattle.ntfs_run.specs.declared.status.Status.TheVariants as status

-- ---- what is done

-- the status of what a tool answers
abbrev pub status_of : Result (Unit {0}) Status → Status
status_of (Ok done) = status.Done
status_of (Err fault) = fault

pub record Outcome : Type 0 where
  pub status : Status
  pub output : List ℕ
  pub files : Files

-- what a tool that writes does, where it isn't refused
pub record Work : Type 0 where
  pub output : List ℕ
  pub files : Files

-- a refusal puts nothing and changes no file
abbrev pub refused_with : Status → Files → Outcome
refused_with fault files = record { status = fault; output = []; files = files }

-- a tool that writes
abbrev pub outcome_of : Files → Result Work Status → Outcome
outcome_of files (Ok work) = record { status = status.Done; output = work.output; files = work.files }
outcome_of files (Err fault) = refused_with fault files

-- a tool that may leave a file also where it ends with a refusal
abbrev pub outcome_or : Files → Result Outcome Status → Outcome
outcome_or files (Ok outcome) = outcome
outcome_or files (Err fault) = refused_with fault files

-- a tool that only shows puts bytes, also before a refusal
abbrev pub shows : Files → Printing Status → Outcome
shows files printing =
    record { status = status_of (end_of printing.fault); output = printing.output; files = files }

-- ---- refusals as statuses

-- of words
abbrev pub words_status : WordsFault → Status
words_status (words_fault.Usage kind) = status.Usage kind
words_status words_fault.NoMemory = status.NoMemory

-- of an image
abbrev pub image_status : ImageFault → Status
image_status image.NotNtfs = status.NotNtfs
image_status (image.BadGeometry field value) = status.BadGeometry field value
image_status (image.ImageShort len need) = status.ImageShort len need
image_status image.ReadFault = status.ReadFault

-- of the opening of a volume; the last two, which would say that record 0 tells no clusters of $MFT, come from no
-- opening
abbrev pub volume_status : VolumeFault → Status
volume_status volume.NotNtfs = status.NotNtfs
volume_status (volume.BadGeometry field value) = status.BadGeometry field value
volume_status (volume.ImageShort len need) = status.ImageShort len need
volume_status (volume.Damaged rule number) = status.Damaged rule number
volume_status volume.ReadFault = status.ReadFault
volume_status volume.WriteFault = status.WriteFault
volume_status volume.NoMemory = status.NoMemory
volume_status volume.Absent = status.Damaged rule.C3 0
volume_status volume.NoAttribute = status.Damaged rule.C3 0

-- of the check of a volume
abbrev pub check_status : CheckFault → Status
check_status (check.Damaged rule number) = status.Damaged rule number
check_status check.ReadFault = status.ReadFault
check_status check.NoMemory = status.NoMemory

-- of a clone image that is read, written or restored
abbrev pub clone_status : CloneFault → Status
clone_status (clone.BadClone place) = status.BadClone place
clone_status (clone.Damaged rule number) = status.Damaged rule number
clone_status clone.ReadFault = status.ReadFault
clone_status clone.WriteFault = status.WriteFault
clone_status clone.NoMemory = status.NoMemory

-- of a call that prints
abbrev pub show_status : ShowFault → Status
show_status (show.NotFound what) = status.NotFound what
show_status (show.NotPlain flags) = status.NotPlain flags
show_status (show.Damaged rule number) = status.Damaged rule number
show_status show.ReadFault = status.ReadFault
show_status show.WriteFault = status.WriteFault
show_status show.NoMemory = status.NoMemory

-- of a path
abbrev pub path_status : PathFault → Status
path_status (path.NotFound what) = status.NotFound what
path_status (path.Damaged rule number) = status.Damaged rule number
path_status path.ReadFault = status.ReadFault
path_status path.NoMemory = status.NoMemory

-- of a sink, or of a file that is cut or grows
abbrev pub put_status : PutFault → Status
put_status put.Failed = status.WriteFault
put_status put.NoMemory = status.NoMemory

-- why the file that is meant wasn't attached
abbrev pub attach_status : Named → ShelfFault → Status
attach_status file shelf_fault.Absent = status.Absent file
attach_status file shelf_fault.Present = status.Present file
attach_status file shelf_fault.Failed = status.ReadFault
attach_status file shelf_fault.NoMemory = status.NoMemory

-- why the file that is meant wasn't made
abbrev pub create_status : Named → ShelfFault → Status
create_status file shelf_fault.Absent = status.Absent file
create_status file shelf_fault.Present = status.Present file
create_status file shelf_fault.Failed = status.WriteFault
create_status file shelf_fault.NoMemory = status.NoMemory

-- the refusals of a file that is attached
abbrev pub AttachRefuses : Named → Status → Type 0
AttachRefuses file (status.Absent other) = other ≡ file
AttachRefuses file status.ReadFault = Unit {0}
AttachRefuses file status.NoMemory = Unit {0}
AttachRefuses file other = ⊥

-- and of a file that is made
abbrev pub CreateRefuses : Named → Bool → Status → Type 0
CreateRefuses file overwrite (status.Present other) = (other ≡ file) × (overwrite ≡ false)
CreateRefuses file overwrite status.WriteFault = Unit {0}
CreateRefuses file overwrite status.NoMemory = Unit {0}
CreateRefuses file overwrite other = ⊥

-- the file that is meant may be made under a name: there is none of it, or it is overwritten
abbrev pub may_make : Named → Bool → List ℕ → Files → Result (Unit {0}) Status
may_make file overwrite name files = must (overwrite || is_none (file_of files name)) (status.Present file)

-- where a refusal comes from
abbrev pub status_origin : Status → Origin
status_origin status.ReadFault = reading
status_origin status.WriteFault = writing
status_origin status.NoMemory = memory
status_origin other = content

-- ---- answers

-- status, output and files are those of the outcome, unless the work was cut off; a prefix of the output was put then
pub record Does (outcome : Outcome) (result : Status) (before after : SinkState) (left : Files) : Type 0 where
  pub status : IsSettled (status_origin result) → result ≡ outcome.status
  pub output : IsSettled (status_origin result) → after ≡ after_put outcome.output before
  pub files : IsSettled (status_origin result) → left ≡ outcome.files
  pub prefix : PutsPrefix outcome.output before after

-- a tool that only shows, with the refusals that it has: every file as before, a fault has its cause, and what was done
-- whole stands flushed
pub record OnlyShows {S F K : Type 0} (s : shelf.Ghosts S F) (k : sink.Ghosts K) (has : Status → Type 0)
    (old new : S) (before after : K) (result : Result (Unit {0}) Status) : Type 0 where
  pub seen : s.seen new ≡ s.seen old
  pub counts : HaveNotFallen (s.faults old) (s.faults new)
  pub puts : SinkHasNotFallen (k.faults before) (k.faults after)
  pub cause : IfErr result (λ fault. Because (status_origin fault) (Rose (s.faults old).reads (s.faults new).reads)
      (Rose (k.faults before).failures (k.faults after).failures) (Unit {0}))
  pub refusal : IfErr result has
  pub flushed : OnOk result (k.is_flushed after ≡ true)

-- a tool that may write files, likewise: the shelf tells its files as before, and has none attached
pub record MayWriteFiles {S F K : Type 0} (s : shelf.Ghosts S F) (k : sink.Ghosts K) (has : Status → Type 0)
    (old new : S) (before after : K) (result : Result (Unit {0}) Status) : Type 0 where
  pub told : (s.seen new).is_told ≡ (s.seen old).is_told
  pub detached : (s.seen new).attached ≡ []
  pub counts : HaveNotFallen (s.faults old) (s.faults new)
  pub puts : SinkHasNotFallen (k.faults before) (k.faults after)
  pub cause : IfErr result (λ fault. Because (status_origin fault) (Rose (s.faults old).reads (s.faults new).reads)
      ((Rose (s.faults old).writes (s.faults new).writes) ⊎ (Rose (k.faults before).failures (k.faults after).failures))
      (Unit {0}))
  pub refusal : IfErr result has
  pub flushed : OnOk result (k.is_flushed after ≡ true)

-- and may read the input
pub record MayReadInput {S F I K : Type 0} (s : shelf.Ghosts S F) (i : source.Ghosts I) (k : sink.Ghosts K)
    (has : Status → Type 0) (old new : S) (from to : I) (before after : K) (result : Result (Unit {0}) Status)
    : Type 0 where
  pub told : (s.seen new).is_told ≡ (s.seen old).is_told
  pub detached : (s.seen new).attached ≡ []
  pub counts : HaveNotFallen (s.faults old) (s.faults new)
  pub takes : i.faults from ≤ i.faults to
  pub puts : SinkHasNotFallen (k.faults before) (k.faults after)
  pub cause : IfErr result (λ fault. Because (status_origin fault)
      ((Rose (s.faults old).reads (s.faults new).reads) ⊎ (Rose (i.faults from) (i.faults to)))
      ((Rose (s.faults old).writes (s.faults new).writes) ⊎ (Rose (k.faults before).failures (k.faults after).failures))
      (Unit {0}))
  pub refusal : IfErr result has
  pub flushed : OnOk result (k.is_flushed after ≡ true)

-- ---- the input

-- where the work was done
abbrev pub IfDone : Status → Type 0 → Type 0
IfDone status.Done is = is
IfDone other is = Unit {0}

-- of the bytes that an input has still to give, where they are told; where they aren't read, nothing need be told
abbrev pub IfInput : {I : Type 0} → source.Ghosts I → Bool → I → (List ℕ → Type 0) → Type 0
IfInput i reads input is = (reads ≡ true → IsTrue (i.seen input).is_told) → is (to_come (i.seen input))

-- what a call takes of an input, which it reads or not: one that isn't read stays as it was; else a front of what
-- it has
-- still to give is given, and all of it where the work was done
pub record TakesInput {I : Type 0} (i : source.Ghosts I) (is_read : Bool) (result : Status) (old new : I) : Type 0 where
  pub kept : is_read ≡ false → i.seen new ≡ i.seen old
  pub given : HasGiven (i.seen old) (i.seen new)
  pub ended : is_read ≡ true → IfDone result (IsTrue (i.seen old).is_told → to_come (i.seen new) ≡ [])
  pub counts : i.faults old ≤ i.faults new

-- ---- files that are made

-- no file differs but the one that is named
abbrev pub KeepsOtherFiles : Option (List ℕ) → Files → Files → Type 0
KeepsOtherFiles None old new = new ≡ old
KeepsOtherFiles (Some output) old new =
    (name : List ℕ) → bytes_eq name output ≡ false → file_of new name ≡ file_of old name

-- of a shelf for which no file may be made, also of one that doesn't tell its files
abbrev pub IfNone : Option (List ℕ) → Type 0 → Type 0
IfNone None unchanged = unchanged
IfNone (Some output) unchanged = Unit {0}

-- no file differs but those of these names
abbrev pub KeepsFilesBut : List (List ℕ) → Files → Files → Type 0
KeepsFilesBut [] old new = new ≡ old
KeepsFilesBut (first ∷ rest) old new =
    (name : List ℕ) → has_name name (first ∷ rest) ≡ false → file_of new name ≡ file_of old name

-- of a shelf for which no file of any name may be made, also of one that doesn't tell its files
abbrev pub IfNoneMade : List (List ℕ) → Type 0 → Type 0
IfNoneMade [] unchanged = unchanged
IfNoneMade (first ∷ rest) unchanged = Unit {0}

-- status and files are those of the outcome, unless the work was cut off
pub record Ends (outcome : Outcome) (result : Status) (left : Files) : Type 0 where
  pub status : IsSettled (status_origin result) → result ≡ outcome.status
  pub files : IsSettled (status_origin result) → left ≡ outcome.files

-- a call over a shelf that releases each file that it makes: names that were attached stay so, and a fault has its
-- cause, which may also be another one of a read
pub record MakesFiles {S F : Type 0} (s : shelf.Ghosts S F) (has : Status → Type 0) (old new : S) (read : Type 0)
    (result : Result (Unit {0}) Status) : Type 0 where
  pub told : (s.seen new).is_told ≡ (s.seen old).is_told
  pub attached : (s.seen new).attached ≡ (s.seen old).attached
  pub counts : HaveNotFallen (s.faults old) (s.faults new)
  pub cause : IfErr result (λ fault. Because (status_origin fault)
      ((Rose (s.faults old).reads (s.faults new).reads) ⊎ read)
      (Rose (s.faults old).writes (s.faults new).writes) (Unit {0}))
  pub refusal : IfErr result has
