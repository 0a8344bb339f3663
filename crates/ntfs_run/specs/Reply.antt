-- What the program replies to the words of a command line, the files of the shelf and the bytes of the input. Each tool
-- has a module of its own. The words are ours.
use Rattle.std.specs.Prelude.{◌≡◌, ◌⊎◌, ◌∷◌, ℕ, Bool, true, false, List, [], Option, Some, Result, Ok, Err}
use Rattle.std.specs.Option.{is_none, option_to_list}
use Rattle.ntfs_base.specs.Causes.{HaveNotFallen, Rose}
use Rattle.ntfs_base.specs.Frames.{Because, IfFiles, IsSettled, PutsPrefix, SinkHasNotFallen}
use Rattle.ntfs_base.specs.Shelf.{Files}
use Rattle.ntfs_base.specs.Sink.{SinkState, after_put}
use Rattle.ntfs_base.specs.declared.fault.SinkFaults.{SinkFaults}
use Rattle.ntfs_base.specs.declared.refusal.UsageKind.{UsageKind}
use Rattle.ntfs_base.specs.declared.refusal.Named.TheVariants as named
use Rattle.ntfs_base.specs.declared.shelf.Shelf as shelf
use Rattle.ntfs_base.specs.declared.sink.Sink as sink
use Rattle.ntfs_base.specs.declared.source.Source as source
use Rattle.ntfs_words.specs.Answers.{CanMisuse}
use Rattle.ntfs_words.specs.declared.request.Request.{Request}
use Rattle.ntfs_words.specs.declared.request.Request.TheVariants as request
use Rattle.ntfs_words.specs.declared.request.WordsFault.{WordsFault}
use Rattle.ntfs_words.specs.declared.request.WordsFault.TheVariants as words_fault
use Rattle.ntfs_words.specs.declared.tool.Tool.{Tool}
use Rattle.ntfs_run.specs.Cat.{PutsStream, stream_name}
use Rattle.ntfs_run.specs.Clone.{LeavesRestored, LeavesSaved, RestoreRefuses, SaveRefuses, restore_work, save_work}
use Rattle.ntfs_run.specs.Command.{request_in, tool_in}
use Rattle.ntfs_run.specs.Headline.{Promises}
use Rattle.ntfs_run.specs.Make.{LeavesFile, MakeRefuses, make_work}
use Rattle.ntfs_run.specs.Message.{file_named, message_of}
use Rattle.ntfs_run.specs.Outcome.{Does, IfDone, IfInput, IfNoneMade, KeepsFilesBut, Outcome, TakesInput}
use Rattle.ntfs_run.specs.Outcome.{outcome_of, outcome_or, refused_with, shows, status_origin, words_status}
use Rattle.ntfs_run.specs.Show.{ShowRefuses, image_printing}
use Rattle.ntfs_run.specs.Shown.{of_file}
use Rattle.ntfs_run.specs.Trial.{LeavesTrial, TrialRefuses, trial_names, trial_outcome}
use Rattle.ntfs_run.specs.declared.status.Status.{Status}
use Rattle.ntfs_run.specs.declared.status.Status.TheVariants as status

-- ---- an arm for each tool

-- what a request does, where the input has these bytes to give: ntfsmake makes, ntfsclone saves, copies and restores,
-- ntfstrial makes, saves and restores, the others show
abbrev pub request_outcome : Request → Files → List ℕ → Outcome
request_outcome (request.Make file seed clusters cluster) files input =
    outcome_of files (make_work file seed clusters cluster files)
request_outcome (request.Clone save true no_action force output overwrite source) files input =
    outcome_or files (restore_work output overwrite source files input)
request_outcome (request.Clone save false no_action force output overwrite source) files input =
    outcome_of files (save_work save force output overwrite source files)
request_outcome (request.Trial seed name) files input = trial_outcome seed name files
request_outcome shown files input = shows files (of_file (file_named shown named.Image) files (image_printing shown))

-- its refusals, once the words are taken
abbrev pub RequestRefuses : Request → Status → Type 0
RequestRefuses (request.Make file seed clusters cluster) fault = MakeRefuses fault
RequestRefuses (request.Clone save true no_action force output overwrite source) fault =
    RestoreRefuses output overwrite source fault
RequestRefuses (request.Clone save false no_action force output overwrite source) fault =
    SaveRefuses force output overwrite fault
RequestRefuses (request.Trial seed name) fault = TrialRefuses fault
RequestRefuses shown fault = ShowRefuses shown fault

-- what any exit leaves of the files: a tool that only shows changes none
abbrev pub RequestLeaves : Request → Files → List ℕ → Files → Type 0
RequestLeaves (request.Make file seed clusters cluster) old input new = LeavesFile file seed clusters cluster old new
RequestLeaves (request.Clone save true no_action force output overwrite source) old input new =
    LeavesRestored output overwrite source old input new
RequestLeaves (request.Clone save false no_action force output overwrite source) old input new =
    LeavesSaved save force output overwrite source old new
RequestLeaves (request.Trial seed name) old input new = LeavesTrial seed name old new
RequestLeaves other old input new = new ≡ old

-- the names of the files that a request may make
abbrev pub files_made_by : Request → List (List ℕ)
files_made_by (request.Make file seed clusters cluster) = file ∷ []
files_made_by (request.Clone save restore no_action force output overwrite source) = option_to_list output
files_made_by (request.Trial seed name) = trial_names name
files_made_by other = []

-- a request that reads the input: a restore of a clone image that isn't read from a file
abbrev pub takes_input : Request → Bool
takes_input (request.Clone save true no_action force output overwrite source) = is_none source
takes_input other = false

-- ---- words that were read so

-- words that are refused do nothing
abbrev pub outcome_for : Result Request WordsFault → Files → List ℕ → Outcome
outcome_for (Ok request) files input = request_outcome request files input
outcome_for (Err fault) files input = refused_with (words_status fault) files

-- the refusals that they have
abbrev pub CanRefuse : Result Request WordsFault → Status → Type 0
CanRefuse (Ok request) fault = RequestRefuses request fault
CanRefuse (Err refusal) fault = fault ≡ words_status refusal

abbrev pub LeavesFiles : Result Request WordsFault → Files → List ℕ → Files → Type 0
LeavesFiles (Ok request) old input new = RequestLeaves request old input new
LeavesFiles (Err fault) old input new = new ≡ old

abbrev pub outputs_of : Result Request WordsFault → List (List ℕ)
outputs_of (Ok request) = files_made_by request
outputs_of (Err fault) = []

abbrev pub reads_input : Result Request WordsFault → Bool
reads_input (Ok request) = takes_input request
reads_input (Err fault) = false

-- where ntfscat has done its work, it has put exactly the bytes of the record's stream
abbrev pub PutsIfCat : Result Request WordsFault → Status → Files → SinkState → SinkState → Type 0
PutsIfCat (Ok (request.Cat place kind name image)) status.Done files old new =
    PutsStream image place kind (stream_name name) files old new
PutsIfCat reading other files old new = Unit {0}

-- the statuses of a command line of a tool; `None` is no tool, and then no memory is taken
abbrev pub CanAnswer : Option Tool → Result Request WordsFault → Status → Type 0
CanAnswer tool reading (status.Usage kind) = CanMisuse tool kind
CanAnswer (Some tool) reading status.NoMemory = Unit {0}
CanAnswer (Some tool) (Ok request) status.Done = Unit {0}
CanAnswer (Some tool) (Ok request) other = RequestRefuses request other
CanAnswer tool reading other = ⊥

-- ---- the reply

pub record Reply : Type 0 where
  pub outcome : Outcome
  pub message : List ℕ

-- the outcome, and the message line
unfoldable pub reply : List (List ℕ) → Files → List ℕ → Reply
reply words files input = record {
  outcome = outcome_for (request_in words) files input;
  message = message_of words (outcome_for (request_in words) files input).status;
}

-- the line was put to the sink of messages whole, unless a count of the sink rose, and then a prefix of it
pub record PutsMessage (line : List ℕ) (old new : SinkState) (before after : SinkFaults) : Type 0 where
  pub whole : (new ≡ after_put line old) ⊎ ((Rose before.failures after.failures) ⊎ (Rose before.wants after.wants))
  pub prefix : PutsPrefix line old new
  pub counts : SinkHasNotFallen before after

-- the program's answer to the words of a command line
pub record Replies {S F I O E : Type 0} (s : shelf.Ghosts S F) (i : source.Ghosts I) (o : sink.Ghosts O)
    (e : sink.Ghosts E) (words : List (List ℕ)) (old new : S) (in_old in_new : I) (out_old out_new : O)
    (err_old err_new : E) (result : Status) : Type 0 where
  -- where the shelf tells its files, and the input its bytes if it is read: status, output, files and line are those of
  -- the reply, unless a fault or want of memory cut the work off; a prefix of the output was put then
  pub does : IfFiles s old (λ files. IfInput i (reads_input (request_in words)) in_old (λ input.
      Does (reply words files input).outcome result (o.seen out_old) (o.seen out_new) (s.seen new).files))
  pub line : IfFiles s old (λ files. IfInput i (reads_input (request_in words)) in_old (λ input.
      IsSettled (status_origin result) → message_of words result ≡ (reply words files input).message))
  pub left : IfFiles s old (λ files. IfInput i (reads_input (request_in words)) in_old (λ input.
      LeavesFiles (request_in words) files input (s.seen new).files))
  pub promise : IfFiles s old (λ files. IfInput i (reads_input (request_in words)) in_old (λ input.
      Promises (request_in words) result files input (o.seen out_old) (s.seen new).files (o.seen out_new)))
  -- where the shelf tells its files, whatever the input tells
  pub stream : IfFiles s old (λ files.
      PutsIfCat (request_in words) result files (o.seen out_old) (o.seen out_new))
  pub others : IfFiles s old (λ files. KeepsFilesBut (outputs_of (request_in words)) files (s.seen new).files)
  -- on every shelf: words are refused exactly where `request_in` refuses them, and with its kind, unless memory is
  -- wanting to read them; further statuses are those of the tool, and a fault has its cause
  pub usage : (kind : UsageKind) → result ≡ status.Usage kind → request_in words ≡ Err (words_fault.Usage kind)
  pub refused : (kind : UsageKind) → request_in words ≡ Err (words_fault.Usage kind)
      → (result ≡ status.Usage kind) ⊎ (result ≡ status.NoMemory)
  pub listed : CanAnswer (tool_in words) (request_in words) result
  pub cause : Because (status_origin result)
      ((Rose (s.faults old).reads (s.faults new).reads) ⊎ (Rose (i.faults in_old) (i.faults in_new)))
      ((Rose (s.faults old).writes (s.faults new).writes)
      ⊎ (Rose (o.faults out_old).failures (o.faults out_new).failures)) (Unit {0})
  pub flushed : IfDone result (o.is_flushed out_new ≡ true)
  pub message : PutsMessage (message_of words result) (e.seen err_old) (e.seen err_new)
      (e.faults err_old) (e.faults err_new)
  pub input : TakesInput i (reads_input (request_in words)) result in_old in_new
  -- what is told stays told, no name stays attached, and no count falls
  pub told : (s.seen new).is_told ≡ (s.seen old).is_told
  pub detached : (s.seen new).attached ≡ []
  pub shows : IfNoneMade (outputs_of (request_in words)) (s.seen new ≡ s.seen old)
  pub counts : HaveNotFallen (s.faults old) (s.faults new)
  pub puts : SinkHasNotFallen (o.faults out_old) (o.faults out_new)
