-- What the answer of a tool says of the program's reply.
use Rattle.std.proofs.Common.{◌≡◌, ◌≤◌, ℕ, Bool, true, false, IsTrue, List, [], ◌∷◌, refl, sym, ap, subst, ◌∙◌, Result, Ok, Err, Option, Some, None}
use Rattle.std.proofs.Common.{IfErr, IfOk, OnOk, is_ok, inl, inr, length, arith}
use Rattle.std.proofs.Math.Seq.{take-nil}
use Rattle.std.proofs.lemmas.List.{take_all}
use Rattle.ntfs_base.specs.Causes.{SinkCause}
use Rattle.ntfs_base.specs.Frames.{Because, IfFiles, PutsPrefix}
use Rattle.ntfs_base.specs.Shelf.{Files}
use Rattle.ntfs_base.specs.Sink.{Put, SinkState, after_put}
use Rattle.ntfs_base.specs.declared.fault.PutFault.{PutFault}
use Rattle.ntfs_base.specs.declared.fault.PutFault.TheVariants as put
use Rattle.ntfs_base.specs.declared.fault.SinkFaults.{SinkFaults}
use Rattle.ntfs_base.specs.declared.refusal.UsageKind.{UsageKind}
use Rattle.ntfs_base.specs.declared.shelf.Shelf as shelf
use Rattle.ntfs_base.specs.declared.sink.Sink as sink
use Rattle.ntfs_base.specs.declared.source.Source as source
use Rattle.ntfs_clone.specs.Taking.{to_come}
use Rattle.ntfs_clone.proofs.TakingLemmas.{after_take-none}
use Rattle.ntfs_words.specs.Answers.{CanFail, CanMisuse, tool_for}
use Rattle.ntfs_words.specs.Line.{Reads}
use Rattle.ntfs_words.specs.declared.request.Request.{Request}
use Rattle.ntfs_words.specs.declared.request.Request.TheVariants as request
use Rattle.ntfs_words.specs.declared.request.WordsFault.{WordsFault}
use Rattle.ntfs_words.specs.declared.request.WordsFault.TheVariants as words_fault
use Rattle.ntfs_words.specs.declared.tool.Tool.{Tool}
use Rattle.ntfs_run.specs.Cat.{CatRefuses}
use Rattle.ntfs_run.specs.Clone.{RestoreRefuses, SaveRefuses}
use Rattle.ntfs_run.specs.Cluster.{ClusterRefuses}
use Rattle.ntfs_run.specs.Command.{is_standing, request_in, tool_in}
use Rattle.ntfs_run.specs.Info.{GeometryRefuses, RecordRefuses}
use Rattle.ntfs_run.specs.Ls.{ListRefuses}
use Rattle.ntfs_run.specs.Make.{MakeRefuses}
use Rattle.ntfs_base.proofs.SinkLemmas.{after_put-nil}
use Rattle.ntfs_run.specs.Outcome.{Does, IfDone, IfInput, IfNoneMade, KeepsFilesBut, MayReadInput, Outcome, TakesInput, refused_with, status_of, status_origin, words_status}
use Rattle.ntfs_run.specs.Message.{line_for, message_for, message_of}
use Rattle.ntfs_run.specs.Reply.{CanAnswer, CanRefuse, LeavesFiles, PutsIfCat, PutsMessage, Replies, RequestRefuses}
use Rattle.ntfs_run.specs.Reply.{outcome_for, outputs_of, reads_input, reply}
use Rattle.ntfs_run.specs.Trial.{TrialRefuses}
use Rattle.ntfs_run.proofs.CatLemmas.{puts_stream}
use Rattle.ntfs_run.proofs.OutputLemmas.{files_same, leaves_same}
use Rattle.ntfs_run.proofs.PromiseLemmas.{no_promise, promise_kept}
use Rattle.ntfs_run.specs.declared.status.Status.{Status}
use Rattle.ntfs_run.specs.declared.status.Status.TheVariants as status

-- ---- refusals of the words

-- a refusal of words that were taken is neither of these
abbrev IsOther : Status → Type 0
IsOther status.Done = ⊥
IsOther (status.Usage kind) = ⊥
IsOther other = Unit {0}

geometry_other : (fault : Status) → GeometryRefuses fault → IsOther fault
geometry_other status.Done is = is
geometry_other (status.Usage kind) is = is
geometry_other other is = tt

record_other : (fault : Status) → RecordRefuses fault → IsOther fault
record_other status.Done is = is
record_other (status.Usage kind) is = is
record_other other is = tt

list_other : (fault : Status) → ListRefuses fault → IsOther fault
list_other status.Done is = is
list_other (status.Usage kind) is = is
list_other other is = tt

cat_other : (fault : Status) → CatRefuses fault → IsOther fault
cat_other status.Done is = is
cat_other (status.Usage kind) is = is
cat_other other is = tt

cluster_other : (fault : Status) → ClusterRefuses fault → IsOther fault
cluster_other status.Done is = is
cluster_other (status.Usage kind) is = is
cluster_other other is = tt

make_other : (fault : Status) → MakeRefuses fault → IsOther fault
make_other status.Done is = is
make_other (status.Usage kind) is = is
make_other other is = tt

restore_other : (output : Option (List ℕ)) (overwrite : Bool) (source : Option (List ℕ)) (fault : Status) → RestoreRefuses output overwrite source fault → IsOther fault
restore_other output overwrite source status.Done is = is
restore_other output overwrite source (status.Usage kind) is = is
restore_other output overwrite source other is = tt

save_other : (force : Bool) (output : Option (List ℕ)) (overwrite : Bool) (fault : Status) → SaveRefuses force output overwrite fault → IsOther fault
save_other force output overwrite status.Done is = is
save_other force output overwrite (status.Usage kind) is = is
save_other force output overwrite other is = tt

trial_other : (fault : Status) → TrialRefuses fault → IsOther fault
trial_other status.Done is = is
trial_other (status.Usage kind) is = is
trial_other other is = tt

is_other : (request : Request) (fault : Status) → is_standing (tool_for request) ≡ true → RequestRefuses request fault → IsOther fault
is_other (request.Info mft None image) fault built is = geometry_other fault is
is_other (request.Info mft (Some number) image) fault built is = record_other fault is
is_other (request.Ls all numbers classify recursive system dos path image) fault built is = list_other fault is
is_other (request.Cat place kind name image) fault built is = cat_other fault is
is_other (request.Cluster question image) fault built is = cluster_other fault is
is_other (request.Clone save true no_action force output overwrite source) fault built is = restore_other output overwrite source fault is
is_other (request.Clone save false no_action force output overwrite source) fault built is = save_other force output overwrite fault is
is_other (request.Make file seed clusters cluster) fault built is = make_other fault is
is_other (request.Trial seed name) fault built is = trial_other fault is
is_other other fault built is = absurd cc

usage_of : (refusal : WordsFault) (kind : UsageKind) → words_status refusal ≡ status.Usage kind → refusal ≡ words_fault.Usage kind
usage_of (words_fault.Usage k) kind is = let same : k ≡ kind = cc in ap words_fault.Usage same
usage_of words_fault.NoMemory kind is = absurd cc

-- Usage comes only where the words are refused
usage_only : (reading : Result Request WordsFault) (result : Result (Unit {0}) Status) → IfOk reading (λ request. is_standing (tool_for request) ≡ true)
    → IfErr result (CanRefuse reading) → (kind : UsageKind) → status_of result ≡ status.Usage kind → reading ≡ Err (words_fault.Usage kind)
usage_only reading (Ok x) built refusal kind is = absurd cc
usage_only (Err k) (Err fault) built refusal kind is = ap Err (usage_of k kind (sym refusal ∙ is))
usage_only (Ok request) (Err fault) built refusal kind is = absurd (subst IsOther is (is_other request fault built refusal))

-- and always there
usage_always : (reading : Result Request WordsFault) (result : Result (Unit {0}) Status) → IfErr result (CanRefuse reading)
    → OnOk result (is_ok reading ≡ true) → (kind : UsageKind) → reading ≡ Err (words_fault.Usage kind) → status_of result ≡ status.Usage kind
usage_always (Ok request) result refusal taken kind is = absurd cc
usage_always (Err k) (Ok x) refusal taken kind is = absurd cc
usage_always (Err k) (Err fault) refusal taken kind is = refusal ∙ (let same : k ≡ words_fault.Usage kind = cc in ap words_status same)

-- ---- the statuses of a tool

can_refuse : (tool : Tool) (request : Request) (fault : Status) → RequestRefuses request fault → IsOther fault → CanAnswer (Some tool) (Ok request) fault
can_refuse tool request status.Done is other = absurd other
can_refuse tool request (status.Usage kind) is other = absurd other
can_refuse tool request status.NoMemory is other = tt
can_refuse tool request fault is other = is

pub wanting : (tool : Option Tool) (reading : Result Request WordsFault) → CanFail tool words_fault.NoMemory → CanAnswer tool reading status.NoMemory
wanting (Some tool) reading is = tt
wanting None reading is = absurd is

misused : (tool : Option Tool) (reading : Result Request WordsFault) (kind : UsageKind) → CanMisuse tool kind → CanAnswer tool reading (status.Usage kind)
misused tool reading kind is = is

listed : (tool : Option Tool) (reading : Result Request WordsFault) (result : Result (Unit {0}) Status)
    → IfOk reading (λ request. is_standing (tool_for request) ≡ true) → IfErr result (CanRefuse reading)
    → OnOk result (is_ok reading ≡ true) → IfErr reading (CanFail tool) → IfOk reading (λ request. tool ≡ Some (tool_for request))
    → CanAnswer tool reading (status_of result)
listed tool (Err fault) (Ok x) built refusal taken kinds named = absurd cc
listed tool (Err (words_fault.Usage kind)) (Err fault) built refusal taken kinds named =
    subst (CanAnswer tool (Err (words_fault.Usage kind))) (sym refusal) (misused tool (Err (words_fault.Usage kind)) kind kinds)
listed tool (Err words_fault.NoMemory) (Err fault) built refusal taken kinds named =
    subst (CanAnswer tool (Err words_fault.NoMemory)) (sym refusal) (wanting tool (Err words_fault.NoMemory) kinds)
listed tool (Ok request) (Ok x) built refusal taken kinds named = subst (λ t. CanAnswer t (Ok request) status.Done) (sym named) tt
listed tool (Ok request) (Err fault) built refusal taken kinds named =
    subst (λ t. CanAnswer t (Ok request) fault) (sym named) (can_refuse (tool_for request) request fault refusal (is_other request fault built refusal))

-- ---- what the program's reply says further

not_done : (reading : Result Request WordsFault) → IfOk reading (λ request. is_standing (tool_for request) ≡ true) → CanRefuse reading status.Done → ⊥
not_done (Err (words_fault.Usage kind)) built is = absurd cc
not_done (Err words_fault.NoMemory) built is = absurd cc
not_done (Ok request) built is = is_other request status.Done built is

if_done : (fault : Status) (P : Type 0) → (fault ≡ status.Done → P) → IfDone fault P
if_done status.Done P f = f refl
if_done other P f = tt

done_flushed : (reading : Result Request WordsFault) (result : Result (Unit {0}) Status) (P : Type 0)
    → IfOk reading (λ request. is_standing (tool_for request) ≡ true) → IfErr result (CanRefuse reading) → OnOk result P
    → IfDone (status_of result) P
done_flushed reading (Ok x) P built refusal flushed = flushed
done_flushed reading (Err fault) P built refusal flushed = if_done fault P (λ is. absurd (not_done reading built (subst (CanRefuse reading) is refusal)))

status_cause : (R W M : Type 0) (result : Result (Unit {0}) Status) → IfErr result (λ fault. Because (status_origin fault) R W M)
    → Because (status_origin (status_of result)) R W M
status_cause R W M (Ok x) cause = tt
status_cause R W M (Err fault) cause = cause

-- a put to the sink of messages, whose refusal the program doesn't answer
puts_message : {T : Type 0} (line : List ℕ) (old new : SinkState) (before after : SinkFaults) (result : Result T PutFault)
    → Put line old result new → SinkCause before after result → PutsMessage line old new before after
puts_message line old new before after (Ok x) is cause = record {
  whole = inl is.whole;
  prefix = (length line, omega arith, is.whole ∙ ap (λ bytes. after_put bytes old) (sym (take_all (length line) line (omega arith))));
  counts = record { failures = cause.failures; wants = cause.wants };
}
puts_message line old new before after (Err put.Failed) is cause =
    record { whole = inr (inl cause.cause); prefix = is.part; counts = record { failures = cause.failures; wants = cause.wants } }
puts_message line old new before after (Err put.NoMemory) is cause =
    record { whole = inr (inr cause.cause); prefix = is.part; counts = record { failures = cause.failures; wants = cause.wants } }

-- what the tool answers, to words that were read or refused
pub record Answered {S F I O : Type 0} (s : shelf.Ghosts S F) (i : source.Ghosts I) (o : sink.Ghosts O) (reading : Result Request WordsFault)
    (old new : S) (in_old in_new : I) (out_old out_new : O) (result : Result (Unit {0}) Status) : Type 0 where
  pub does : IfFiles s old (λ files. IfInput i (reads_input reading) in_old (λ bytes.
      Does (outcome_for reading files bytes) (status_of result) (o.seen out_old) (o.seen out_new) (s.seen new).files))
  pub left : IfFiles s old (λ files. IfInput i (reads_input reading) in_old (λ bytes. LeavesFiles reading files bytes (s.seen new).files))
  pub others : IfFiles s old (λ files. KeepsFilesBut (outputs_of reading) files (s.seen new).files)
  pub input : TakesInput i (reads_input reading) (status_of result) in_old in_new
  pub runs : MayReadInput s i o (CanRefuse reading) old new in_old in_new out_old out_new result
  pub taken : OnOk result (is_ok reading ≡ true)
  pub shows : IfNoneMade (outputs_of reading) (s.seen new ≡ s.seen old)

-- all of it, for words that were read or refused
settled : {S F I O E T : Type 0} (s : shelf.Ghosts S F) (i : source.Ghosts I) (o : sink.Ghosts O) (e : sink.Ghosts E) (words : List (List ℕ))
    (reading : Result Request WordsFault) (old new : S) (in_old in_new : I) (out_old out_new : O) (err_old err_new : E) (result : Result (Unit {0}) Status)
    (put : Result T PutFault) → reading ≡ request_in words → IfErr reading (CanFail (tool_in words))
    → IfOk reading (λ request. tool_in words ≡ Some (tool_for request)) → IfOk reading (λ request. is_standing (tool_for request) ≡ true)
    → Answered s i o reading old new in_old in_new out_old out_new result
    → Put (message_for (tool_in words) reading (status_of result)) (e.seen err_old) put (e.seen err_new)
    → SinkCause (e.faults err_old) (e.faults err_new) put
    → Replies s i o e words old new in_old in_new out_old out_new err_old err_new (status_of result)
unfolding reply
settled s i o e words reading old new in_old in_new out_old out_new err_old err_new result put same kinds named built answered message cause =
    let told = subst (λ r. Answered s i o r old new in_old in_new out_old out_new result) same answered in
    let stands = subst (λ r. IfOk r (λ request. is_standing (tool_for request) ≡ true)) same built in
    record {
      does = told.does;
      line = λ files input settled. ap (message_of words) ((told.does files input).status settled);
      left = told.left;
      promise = λ files input. promise_kept (request_in words) (status_of result) _ _ (to_come (i.seen in_old)) _ _ (told.does files input);
      stream = λ files. puts_stream (request_in words) (status_of result) _ _ (to_come (i.seen in_old)) (IsTrue (i.seen in_old).is_told) _ _ (told.does files);
      others = told.others;
      usage = usage_only (request_in words) result stands told.runs.refusal;
      refused = λ kind is. inl (usage_always (request_in words) result told.runs.refusal told.taken kind is);
      listed = subst (λ r. CanAnswer (tool_in words) r (status_of result)) same (listed (tool_in words) reading result built answered.runs.refusal answered.taken kinds named);
      cause = status_cause _ _ _ result told.runs.cause;
      flushed = done_flushed (request_in words) result _ stands told.runs.refusal told.runs.flushed;
      message = puts_message _ _ _ _ _ put (subst (λ r. Put (message_for (tool_in words) r (status_of result)) (e.seen err_old) put (e.seen err_new)) same message) cause;
      input = told.input;
      told = told.runs.told;
      detached = told.runs.detached;
      shows = told.shows;
      counts = told.runs.counts;
      puts = told.runs.puts;
    }

-- ---- no memory for the words

abbrev no_memory : Result Request WordsFault
no_memory = Err words_fault.NoMemory

ends_wanting : (result : Result (Unit {0}) Status) → IfErr result (CanRefuse no_memory) → OnOk result (is_ok no_memory ≡ true)
    → status_of result ≡ status.NoMemory
ends_wanting (Ok x) refusal taken = absurd cc
ends_wanting (Err fault) refusal taken = refusal

nothing_put : (before after : SinkState) → PutsPrefix [] before after → after ≡ before
nothing_put before after is = is.2 ∙ ap (λ bytes. after_put bytes before) (take-nil is.0) ∙ after_put-nil before

cut_off : (outcome : Outcome) (files : Files) (before after : SinkState) (left : Files) (s : Status) → s ≡ status.NoMemory
    → Does (refused_with status.NoMemory files) s before after left → Does outcome status.NoMemory before after left
cut_off outcome files before after left s is does = record {
  status = λ settled. absurd settled;
  output = λ settled. absurd settled;
  files = λ settled. absurd settled;
  prefix = (0, omega arith, nothing_put before after does.prefix ∙ sym (after_put-nil before));
}

no_stream : (reading : Result Request WordsFault) (files : Files) (before after : SinkState) → PutsIfCat reading status.NoMemory files before after
no_stream (Ok (request.Cat place kind name file)) files before after = tt
no_stream other files before after = tt

same_left : (reading : Result Request WordsFault) (old new : Files) (input : List ℕ) → new ≡ old → LeavesFiles reading old input new
same_left (Ok (request.Make file seed clusters cluster)) old new input is = inl is
same_left (Ok (request.Clone save true no_action force output overwrite source)) old new input is = leaves_same output overwrite _ old new is
same_left (Ok (request.Clone save false no_action force output overwrite source)) old new input is = leaves_same output overwrite _ old new is
same_left (Ok (request.Trial seed name)) old new input is = inl (inl is)
same_left other old new input is = is

same_shelf : (names : List (List ℕ)) (P : Type 0) → P → IfNoneMade names P
same_shelf [] P is = is
same_shelf (first ∷ rest) P is = tt

-- an input that isn't read
same_input : {I : Type 0} (i : source.Ghosts I) (is_read : Bool) (old new : I) → i.seen new ≡ i.seen old → i.faults old ≤ i.faults new
    → TakesInput i is_read status.NoMemory old new
same_input i is_read old new same counts = record {
  kept = λ unread. same;
  given = record { count = 0; given = same ∙ sym (after_take-none (i.seen old)) };
  ended = λ reads. tt;
  counts = counts;
}

same_line : (tool : Option Tool) (reading : Result Request WordsFault)
    → message_for tool (Err words_fault.NoMemory) status.NoMemory ≡ message_for tool reading status.NoMemory
unfolding line_for
same_line tool (Ok request) = refl
same_line tool (Err fault) = refl

unread : {S F I O E T : Type 0} (s : shelf.Ghosts S F) (i : source.Ghosts I) (o : sink.Ghosts O) (e : sink.Ghosts E) (words : List (List ℕ)) (old new : S)
    (in_old in_new : I) (out_old out_new : O) (err_old err_new : E) (result : Result (Unit {0}) Status) (put : Result T PutFault) → status_of result ≡ status.NoMemory
    → CanFail (tool_in words) words_fault.NoMemory → Answered s i o no_memory old new in_old in_new out_old out_new result
    → Put (message_for (tool_in words) no_memory (status_of result)) (e.seen err_old) put (e.seen err_new)
    → SinkCause (e.faults err_old) (e.faults err_new) put
    → Replies s i o e words old new in_old in_new out_old out_new err_old err_new status.NoMemory
unfolding reply
unread s i o e words old new in_old in_new out_old out_new err_old err_new result put is kinds answered message cause =
    let said = subst (λ status. Put (message_for (tool_in words) no_memory status) (e.seen err_old) put (e.seen err_new)) is message in
    record {
      does = λ told input. cut_off _ _ _ _ _ (status_of result) is (answered.does told (λ reads. absurd cc));
      line = λ told input settled. absurd settled;
      left = λ told input. same_left (request_in words) _ _ _ (answered.left told (λ reads. absurd cc));
      promise = λ told input. no_promise (request_in words) _ _ _ _ _;
      stream = λ told. no_stream (request_in words) _ _ _;
      others = λ told. files_same (outputs_of (request_in words)) _ _ (answered.others told);
      usage = λ kind is. absurd cc;
      refused = λ kind is. inr refl;
      listed = wanting (tool_in words) (request_in words) kinds;
      cause = tt;
      flushed = tt;
      message = puts_message _ _ _ _ _ put (subst (λ line. Put line (e.seen err_old) put (e.seen err_new)) (same_line (tool_in words) (request_in words)) said) cause;
      input = same_input i (reads_input (request_in words)) in_old in_new (answered.input.kept refl) answered.input.counts;
      told = answered.runs.told;
      detached = answered.runs.detached;
      shows = same_shelf (outputs_of (request_in words)) _ answered.shows;
      counts = answered.runs.counts;
      puts = answered.runs.puts;
    }

-- ---- all of it

pub replies : {S F I O E T : Type 0} (s : shelf.Ghosts S F) (i : source.Ghosts I) (o : sink.Ghosts O) (e : sink.Ghosts E) (words : List (List ℕ))
    (reading : Result Request WordsFault) (old new : S) (in_old in_new : I) (out_old out_new : O) (err_old err_new : E) (result : Result (Unit {0}) Status)
    (put : Result T PutFault) → Reads (request_in words) reading → IfErr reading (CanFail (tool_in words))
    → IfOk reading (λ request. tool_in words ≡ Some (tool_for request)) → IfOk reading (λ request. is_standing (tool_for request) ≡ true)
    → Answered s i o reading old new in_old in_new out_old out_new result
    → Put (message_for (tool_in words) reading (status_of result)) (e.seen err_old) put (e.seen err_new)
    → SinkCause (e.faults err_old) (e.faults err_new) put
    → Replies s i o e words old new in_old in_new out_old out_new err_old err_new (status_of result)
replies s i o e words (Ok request) old new in_old in_new out_old out_new err_old err_new result put reads kinds named built answered message cause =
    settled s i o e words (Ok request) old new in_old in_new out_old out_new err_old err_new result put (sym reads) kinds named built answered message cause
replies s i o e words (Err (words_fault.Usage kind)) old new in_old in_new out_old out_new err_old err_new result put reads kinds named built answered message cause =
    settled s i o e words (Err (words_fault.Usage kind)) old new in_old in_new out_old out_new err_old err_new result put (sym (reads tt)) kinds named built answered message cause
replies s i o e words (Err words_fault.NoMemory) old new in_old in_new out_old out_new err_old err_new result put reads kinds named built answered message cause =
    let is = ends_wanting result answered.runs.refusal answered.taken in
    subst (λ status. Replies s i o e words old new in_old in_new out_old out_new err_old err_new status) (sym is)
    (unread s i o e words old new in_old in_new out_old out_new err_old err_new result put is kinds answered message cause)
