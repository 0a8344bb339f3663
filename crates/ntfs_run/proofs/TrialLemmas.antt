-- A volume that is tried: jobs one after another, the lines between them, and what is left.
use Rattle.std.proofs.Common.{◌≡◌, ◌+◌, ◌||◌, ◌∷◌, ◌++◌, ℕ, Bool, true, false, cond, IsTrue, List, [], length, take, drop, codes, refl, sym, ap, subst, ◌∙◌}
use Rattle.std.proofs.Common.{inl, inr, arith, append-nil, length-append, Option, Some, None, IsSome, Result, Ok, Err, IfErr, OnOk, is_none, ok_or}
use Rattle.std.specs.Prelude.{not}
use Rattle.std.proofs.Math.Seq.{take-append-add}
use Rattle.std.proofs.lemmas.Cmp.{nat_list_cmp_total}
use Rattle.std.proofs.lemmas.List.{take-append-le, take_all}
use Rattle.std.proofs.lemmas.Option.{same_Some}
use Rattle.std.proofs.lemmas.Result.{IfErr-weaker}
use Rattle.std.specs.Cmp.Lexicographic.{texts_ties}
use Rattle.std.specs.FinMap.{get, insert, get-insert}
use Rattle.std.specs.Str.{bytes_eq}
use Rattle.ntfs_base.specs.Causes.{HaveNotFallen, Rose, SinkCause}
use Rattle.ntfs_base.specs.Frames.{Because, IsSettled, OnlyPuts, Puts, PutsPrefix, SinkHasNotFallen, must, refused_as, ◌>>=◌}
use Rattle.ntfs_base.specs.Shelf.{Files, IsHandedOut, added_count, after_attach, after_release, file_of, has_name}
use Rattle.ntfs_base.specs.Sink.{Put, SinkState, after_put}
use Rattle.ntfs_base.specs.declared.fault.PutFault.{PutFault}
use Rattle.ntfs_base.specs.declared.fault.PutFault.TheVariants as put
use Rattle.ntfs_base.specs.declared.image.Image as image
use Rattle.ntfs_base.specs.declared.refusal.Named.TheVariants as named
use Rattle.ntfs_base.specs.declared.shelf.Shelf as shelf
use Rattle.ntfs_base.specs.declared.sink.Sink as sink
use Rattle.ntfs_base.proofs.ShelfLemmas.{name_same, same_name}
use Rattle.ntfs_base.proofs.SinkLemmas.{after_put-append}
use Rattle.ntfs_bitmap.specs.ClusterSet.{Clusters, count_below, has}
use Rattle.ntfs_clone.specs.CloneOf.{Volume, owned_count}
use Rattle.ntfs_clone.specs.Header.{clone_header}
use Rattle.ntfs_clone.specs.declared.header.CloneHeader.{CloneHeader}
use Rattle.ntfs_clone.proofs.VolumeLemmas.{count-owned}
use Rattle.ntfs_make.specs.Shape.{IsShape, is_cluster_size, shape_of}
use Rattle.ntfs_run.specs.Checked.{CheckRefuses, checked_of}
use Rattle.ntfs_run.specs.Clone.{IsRestoredFrom, IsSavedFrom, LeavesOutput, restored_in, saved_bytes, saved_in, volume_in, volume_to_save}
use Rattle.ntfs_run.specs.Filling.{FileRefuses, HeaderRefuses, OutputRefuses}
use Rattle.ntfs_run.specs.Job.{IsRestoredOf, IsSavedOf, MakesAndPuts, restored_as, restored_behind_line, restored_of, saved_from, saved_of}
use Rattle.ntfs_run.specs.Make.{FillRefuses, MakeRefuses, make_work}
use Rattle.ntfs_run.specs.Message.{with_number}
use Rattle.ntfs_run.specs.Outcome.{AttachRefuses, Does, Ends, KeepsOtherFiles, MakesFiles, MayWriteFiles, Outcome, clone_status, outcome_of, outcome_or}
use Rattle.ntfs_run.specs.Outcome.{put_status, refused_with, status_of, status_origin}
use Rattle.ntfs_run.specs.Trial.{LeavesTrial, TrialRefuses, after_line, back_name, bytes_line, clone_name, in_turn, in_turn_of, made_line, restored_back, restored_trial}
use Rattle.ntfs_run.specs.Trial.{says, saved_trial, trial_image, trial_names, trial_outcome}
use Rattle.ntfs_run.specs.declared.checked.Accepted.{Accepted}
use Rattle.ntfs_run.specs.declared.status.Status.{Status}
use Rattle.ntfs_run.specs.declared.status.Status.TheVariants as status
use Rattle.ntfs_run.proofs.CloneLemmas.{does_ended}
use Rattle.ntfs_run.proofs.OutputLemmas.{leaves_map, rose_since}
use Rattle.ntfs_run.proofs.ReturnLemmas.{held_files, held_told, read_files, read_makes, rose_within}
use Rattle.ntfs_run.proofs.ToolLemmas.{because_map, rose_released}

-- ---- one job after another

abbrev IsRefused : Status → Type 0
IsRefused status.Done = ⊥
IsRefused other = Unit {0}

trial_refused : (fault : Status) → TrialRefuses fault → IsRefused fault
trial_refused status.Done is = is
trial_refused other is = tt

turn_stops : (s : Status) (first : Outcome) (next : Files → Outcome) → IsRefused s → in_turn_of s first next ≡ first
turn_stops status.Done first next is = absurd is
turn_stops other first next is = refl

turn_output : (s : Status) (first : Outcome) (next : Files → Outcome) → (more : List ℕ) × ((in_turn_of s first next).output ≡ first.output ++ more)
turn_output status.Done first next = ((next first.files).output, refl)
turn_output other first next = ([], sym (append-nil first.output))

prefix_more : (bytes more : List ℕ) (before after : SinkState) → PutsPrefix bytes before after → PutsPrefix (bytes ++ more) before after
prefix_more bytes more before after is =
    (is.0, omega (arith, is.1, length-append bytes more), is.2 ∙ ap (λ b. after_put b before) (sym (take-append-le is.0 bytes more is.1)))

turn_prefix : (first : Outcome) (next : Files → Outcome) (before after : SinkState) → PutsPrefix first.output before after
    → PutsPrefix (in_turn first next).output before after
turn_prefix first next before after is =
    let more = turn_output first.status first next in
    subst (λ bytes. PutsPrefix bytes before after) (sym more.1) (prefix_more first.output more.0 before after is)

-- a job that was refused is the last
pub turn_refused : (first : Outcome) (next : Files → Outcome) (fault : Status) (before after : SinkState) (left : Files) → TrialRefuses fault
    → Does first fault before after left → Does (in_turn first next) fault before after left
turn_refused first next fault before after left has does =
    let same : IsSettled (status_origin fault) → in_turn first next ≡ first =
    λ settled. turn_stops first.status first next (subst IsRefused (does.status settled) (trial_refused fault has)) in
    record {
      status = λ settled. does.status settled ∙ sym (ap (λ o. o.status) (same settled));
      output = λ settled. does.output settled ∙ sym (ap (λ o. after_put o.output before) (same settled));
      files = λ settled. does.files settled ∙ sym (ap (λ o. o.files) (same settled));
      prefix = turn_prefix first next before after does.prefix;
    }

-- a line that was put, and what was done behind it
pub line_then : (line : List ℕ) (outcome : Outcome) (s : Status) (before mid after : SinkState) (left : Files) → mid ≡ after_put line before
    → Does outcome s mid after left → Does (after_line line outcome) s before after left
line_then line outcome s before mid after left put does = record {
  status = does.status;
  output = λ settled. does.output settled ∙ ap (after_put outcome.output) put ∙ sym (after_put-append line outcome.output before);
  files = does.files;
  prefix = (
    length line + does.prefix.0,
    omega (arith, does.prefix.1, length-append line outcome.output),
    does.prefix.2 ∙ ap (after_put (take does.prefix.0 outcome.output)) put ∙ sym (after_put-append line (take does.prefix.0 outcome.output) before)
        ∙ ap (λ bytes. after_put bytes before) (sym (take-append-add line outcome.output does.prefix.0)),
  );
}

-- a job that was done, and the next one
pub turn_then : (first : Outcome) (next : Files → Outcome) (s : Status) (before mid after : SinkState) (files left : Files)
    → Does first status.Done before mid files → Does (next files) s mid after left → Does (in_turn first next) s before after left
turn_then first next s before mid after files left one two =
    subst (λ t. Does (in_turn_of t first next) s before after left) (one.status tt)
    (subst (λ f. Does (after_line first.output (next f)) s before after left) (one.files tt)
    (line_then first.output (next files) s before mid after left (one.output tt) two))

-- ---- lines

fill_unsettled : (fault : Status) → FillRefuses fault → IsSettled (status_origin fault) → ⊥
fill_unsettled status.WriteFault is settled = settled
fill_unsettled status.NoMemory is settled = settled
fill_unsettled other is settled = is

-- a line that wasn't put whole
pub line_refused : (line : List ℕ) (outcome : Outcome) (fault : Status) (before after : SinkState) (left : Files) → FillRefuses fault
    → Puts status_origin (Ok line) before (Err fault) after → Does (after_line line outcome) fault before after left
line_refused line outcome fault before after left has puts = record {
  status = λ settled. absurd (fill_unsettled fault has settled);
  output = λ settled. absurd (fill_unsettled fault has settled);
  files = λ settled. absurd (fill_unsettled fault has settled);
  prefix = prefix_more line outcome.output before after puts.prefix;
}

pub says_does : (line : List ℕ) (files : Files) (result : Result (Unit {0}) Status) (before after : SinkState)
    → Puts status_origin (Ok line) before result after → IfErr result FillRefuses → Does (says line files) (status_of result) before after files
says_does line files (Ok x) before after puts has = record {
  status = λ settled. refl;
  output = λ settled. puts.output tt;
  files = λ settled. refl;
  prefix = puts.prefix;
}
says_does line files (Err fault) before after puts has = record {
  status = λ settled. absurd (fill_unsettled fault has settled);
  output = λ settled. absurd (fill_unsettled fault has settled);
  files = λ settled. refl;
  prefix = puts.prefix;
}

-- bytes that were put
pub put_done : (line : List ℕ) (before after : SinkState) (x : Unit {0}) → Put {E = PutFault} line before (Ok x) after
    → Puts status_origin (Ok line) before (Ok tt) after
put_done line before after x put = record {
  answer = λ settled. refl;
  output = λ settled. put.whole;
  prefix = (length line, omega arith, put.whole ∙ ap (λ bytes. after_put bytes before) (sym (take_all (length line) line (omega arith))));
}

put_unsettled : (fault : PutFault) → IsSettled (status_origin (put_status fault)) → ⊥
put_unsettled put.Failed settled = settled
put_unsettled put.NoMemory settled = settled

-- or a front of them
pub put_failed : (line : List ℕ) (before after : SinkState) (fault : PutFault) → Put {T = Unit {0}} line before (Err fault) after
    → Puts status_origin (Ok line) before (Err (put_status fault)) after
put_failed line before after fault put = record {
  answer = λ settled. absurd (put_unsettled fault settled);
  output = λ settled. absurd (put_unsettled fault settled);
  prefix = put.part;
}

pub put_frame : {K : Type 0} (k : sink.Ghosts K) (before after : K) (fault : PutFault) → SinkCause {T = Unit {0}} (k.faults before) (k.faults after) (Err fault)
    → OnlyPuts {T = Unit {0}} k status_origin before after (Err (put_status fault))
put_frame k before after put.Failed is = record { puts = record { failures = is.failures; wants = is.wants }; cause = is.cause }
put_frame k before after put.NoMemory is = record { puts = record { failures = is.failures; wants = is.wants }; cause = is.cause }

pub put_fills : (fault : PutFault) → FillRefuses (put_status fault)
put_fills put.Failed = tt
put_fills put.NoMemory = tt

pub write_fills : (fault : Status) → fault ≡ status.WriteFault → FillRefuses fault
write_fills fault is = subst FillRefuses (sym is) tt

-- a flush behind them
pub puts_after : {K : Type 0} (k : sink.Ghosts K) (before now after : K) (x : Unit {0}) (result : Result (Unit {0}) Status)
    → SinkCause {T = Unit {0}} (k.faults before) (k.faults now) (Ok x) → OnlyPuts k status_origin now after result → OnlyPuts k status_origin before after result
puts_after k before now after x result one two = record {
  puts = record { failures = omega (arith, one.failures, two.puts.failures); wants = omega (arith, one.wants, two.puts.wants) };
  cause = IfErr-weaker result _ _ (λ fault. because_map (status_origin fault) (λ no. no)
      (rose_since _ _ _ one.failures two.puts.failures) (rose_since _ _ _ one.wants two.puts.wants)) two.cause;
}

-- ---- the clone image

-- how many clusters are owned
pub counted : (set : Clusters) (n : ℕ) → count_below set n ≡ owned_count (has set) 0 n
unfolding count_below
counted set n = count-owned (has set) n

pub unchecked : (clone image : List ℕ) (files : Files) (fault : Status) → checked_of image ≡ Err fault
    → outcome_or files (saved_from clone image files) ≡ refused_with fault files
unfolding saved_from
unchecked clone image files fault is =
    ap (λ r. outcome_or files (r >>= (λ checked. Ok (after_line (made_line (volume_in checked image))
    (outcome_of files (saved_in named.Clone true clone false (volume_in checked image) files)))))) is

pub checked_then : (clone image : List ℕ) (files : Files) (checked : Accepted) → checked_of image ≡ Ok checked
    → outcome_or files (saved_from clone image files)
    ≡ after_line (made_line (volume_in checked image)) (outcome_of files (saved_in named.Clone true clone false (volume_in checked image) files))
unfolding saved_from
checked_then clone image files checked is =
    ap (λ r. outcome_or files (r >>= (λ checked. Ok (after_line (made_line (volume_in checked image))
    (outcome_of files (saved_in named.Clone true clone false (volume_in checked image) files)))))) is

-- the line of a checked volume, by the number that the code has
abbrev counted_line : ℕ → List ℕ
counted_line count = (with_number (codes "made: 16384 clusters, ") count ++ codes " owned") ++ (10 ∷ [])

abbrev owned_in : Accepted → ℕ
owned_in checked = owned_count (has checked.findings.owned) 0 checked.table.geometry.clusters

-- it wasn't put whole
pub unsaid : (clone image : List ℕ) (files : Files) (checked : Accepted) (count : ℕ) (fault : Status) (before after : SinkState)
    → checked_of image ≡ Ok checked → count ≡ owned_in checked → FillRefuses fault → Puts status_origin (Ok (counted_line count)) before (Err fault) after
    → Does (outcome_or files (saved_from clone image files)) fault before after files
unsaid clone image files checked count fault before after is many has puts =
    subst (λ o. Does o fault before after files) (sym (checked_then clone image files checked is))
    (line_refused (made_line (volume_in checked image)) (outcome_of files (saved_in named.Clone true clone false (volume_in checked image) files))
    fault before after files has (subst (λ n. Puts status_origin (Ok (counted_line n)) before (Err fault) after) many puts))

pub forced : (image : List ℕ) (checked : Accepted) → checked_of image ≡ Ok checked → volume_to_save true image ≡ Ok (volume_in checked image)
unfolding volume_to_save
forced image checked is =
    ap (λ r. r >>= (λ checked. must (true || not checked.findings.facts.dirty) status.Dirty >>= (λ clean. Ok (volume_in checked image)))) is

-- a save puts nothing of its own
pub saved_none : (clone : List ℕ) (volume : Volume) (files : Files) → (outcome_of files (saved_in named.Clone true clone false volume files)).output ≡ []
saved_none clone volume files = of (is_none (file_of files clone))
  where
    of : (b : Bool)
        → (outcome_of files (must b (status.Present named.Clone) >>= (λ free. Ok (record { output = []; files = insert files clone (saved_bytes true volume) })))).output ≡ []
    of true = refl
    of false = refl

-- it was, and the clone image is saved behind it
pub said_saved : (clone image : List ℕ) (files left : Files) (checked : Accepted) (count : ℕ) (s : Status) (before after : SinkState) (x : Unit {0})
    → checked_of image ≡ Ok checked → count ≡ owned_in checked → Puts status_origin (Ok (counted_line count)) before (Ok x) after
    → Ends (outcome_of files (saved_in named.Clone true clone false (volume_in checked image) files)) s left
    → Does (outcome_or files (saved_from clone image files)) s before after left
said_saved clone image files left checked count s before after x is many puts ends =
    let volume = volume_in checked image in
    let outcome = outcome_of files (saved_in named.Clone true clone false volume files) in
    subst (λ o. Does o s before after left) (sym (checked_then clone image files checked is))
    (line_then (made_line volume) outcome s before after after left
    (puts.output tt ∙ ap (λ n. after_put (counted_line n) before) many)
    (does_ended outcome s after after left ends refl (saved_none clone volume files)))

-- a file that was put into the map is there
insert_here : (files : Files) (name bytes : List ℕ) → file_of (insert files name bytes) name ≡ Some bytes
insert_here files name bytes =
    get-insert nat_list_cmp_total files name bytes name
    ∙ ap (λ b. cond b (Some bytes) (get files name)) (sym (texts_ties name name) ∙ name_same name name refl)

is_there : (o : Option (List ℕ)) (bytes : List ℕ) → o ≡ Some bytes → IsSome o
is_there o bytes is = subst IsSome (sym is) refl

pub saved_there : (clone : List ℕ) (volume : Volume) (files left : Files) (result : Result (Unit {0}) Status)
    → (IsSettled (status_origin (status_of result)) → status_of result ≡ (outcome_of files (saved_in named.Clone true clone false volume files)).status)
    → (IsSettled (status_origin (status_of result)) → left ≡ (outcome_of files (saved_in named.Clone true clone false volume files)).files)
    → OnOk result (IsSome (file_of left clone))
saved_there clone volume files left (Err fault) ends is = tt
saved_there clone volume files left (Ok x) ends is = of (is_none (file_of files clone)) (ends tt) (is tt)
  where
    of : (b : Bool)
        → status.Done ≡ (outcome_of files (must b (status.Present named.Clone) >>= (λ free. Ok (record { output = []; files = insert files clone (saved_bytes true volume) })))).status
        → left ≡ (outcome_of files (must b (status.Present named.Clone) >>= (λ free. Ok (record { output = []; files = insert files clone (saved_bytes true volume) })))).files
        → IsSome (file_of left clone)
    of true done same = is_there (file_of left clone) (saved_bytes true volume) (ap (λ f. file_of f clone) same ∙ insert_here files clone (saved_bytes true volume))
    of false done same = absurd cc

pub none_saved : (name clone : List ℕ) (files : Files) (fault : Status) → ok_or (file_of files name) (status.Absent named.Output) ≡ Err fault
    → outcome_or files (saved_of name clone files) ≡ refused_with fault files
unfolding saved_of
none_saved name clone files fault is = ap (λ r. outcome_or files (r >>= (λ image. saved_from clone image files))) is

pub file_saved : (name clone : List ℕ) (files : Files) (image : List ℕ) → ok_or (file_of files name) (status.Absent named.Output) ≡ Ok image
    → saved_of name clone files ≡ saved_from clone image files
unfolding saved_of
file_saved name clone files image is = ap (λ r. r >>= (λ image. saved_from clone image files)) is

-- ---- what it restores

pub unread : (back clone : List ℕ) (files : Files) (fault : Status) → refused_as clone_status (clone_header clone) ≡ Err fault
    → restored_as back clone files ≡ refused_with fault files
unfolding restored_as
unread back clone files fault is =
    ap (λ r. outcome_or files (r >>= (λ header. restored_in named.Back back false header (drop header.offset clone) files
    >>= (λ outcome. Ok (in_turn outcome (says (bytes_line (codes "restored: ") header.device))))))) is

-- a file that is there ends it; one that was made is the first of two
made_turn : (files : Files) (b : Bool) (made : Outcome) (next : Files → Outcome)
    → outcome_or files ((must b (status.Present named.Back) >>= (λ free. Ok made)) >>= (λ outcome. Ok (in_turn outcome next)))
    ≡ in_turn (outcome_or files (must b (status.Present named.Back) >>= (λ free. Ok made))) next
made_turn files true made next = refl
made_turn files false made next = refl

pub read_then : (back clone : List ℕ) (files : Files) (header : CloneHeader) → refused_as clone_status (clone_header clone) ≡ Ok header
    → restored_as back clone files
    ≡ in_turn (outcome_or files (restored_in named.Back back false header (drop header.offset clone) files)) (says (bytes_line (codes "restored: ") header.device))
unfolding restored_as
read_then back clone files header is =
    ap (λ r. outcome_or files (r >>= (λ header. restored_in named.Back back false header (drop header.offset clone) files
    >>= (λ outcome. Ok (in_turn outcome (says (bytes_line (codes "restored: ") header.device))))))) is
    ∙ made_turn files (is_none (file_of files back)) _ (says (bytes_line (codes "restored: ") header.device))

-- a restore puts nothing of its own
pub restored_none : (back : List ℕ) (header : CloneHeader) (rest : List ℕ) (files : Files)
    → (outcome_or files (restored_in named.Back back false header rest files)).output ≡ []
restored_none back header rest files = of (is_none (file_of files back)) _ refl
  where
    of : (b : Bool) (made : Outcome) → made.output ≡ [] → (outcome_or files (must b (status.Present named.Back) >>= (λ free. Ok made))).output ≡ []
    of true made none = none
    of false made none = refl

pub behind_line : (len : ℕ) (back clone : List ℕ) (files : Files)
    → restored_behind_line len back clone files ≡ after_line (bytes_line (codes "clone: ") len) (restored_as back clone files)
unfolding restored_behind_line
behind_line len back clone files = refl

pub none_restored : (name back : List ℕ) (files : Files) (fault : Status) → ok_or (file_of files name) (status.Absent named.Clone) ≡ Err fault
    → outcome_or files (restored_of name back files) ≡ refused_with fault files
unfolding restored_of
none_restored name back files fault is = ap (λ r. outcome_or files (r >>= (λ clone. Ok (restored_behind_line (length clone) back clone files)))) is

pub file_restored : (name back : List ℕ) (files : Files) (clone : List ℕ) → ok_or (file_of files name) (status.Absent named.Clone) ≡ Ok clone
    → outcome_or files (restored_of name back files) ≡ restored_behind_line (length clone) back clone files
unfolding restored_of
file_restored name back files clone is = ap (λ r. outcome_or files (r >>= (λ clone. Ok (restored_behind_line (length clone) back clone files)))) is

-- the bytes of a file that is there
pub found : (o : Option (List ℕ)) (fault : Status) (bytes : List ℕ) → ok_or o fault ≡ Ok bytes → o ≡ Some bytes
found (Some x) fault bytes is = let same : x ≡ bytes = cc in ap Some same
found None fault bytes is = absurd cc

-- ---- what a call keeps

-- files that are made, after a line
pub put_then_made : {S F K : Type 0} (s : shelf.Ghosts S F) (k : sink.Ghosts K) (has : Status → Type 0) (read cause : Type 0) (old new : S) (before after : K)
    (result : Result (Unit {0}) Status) → ((fault : Status) → has fault → TrialRefuses fault) → (read → cause)
    → SinkHasNotFallen (k.faults before) (k.faults after) → OnOk result (k.is_flushed after ≡ true) → MakesFiles s has old new read result
    → MakesAndPuts s k old new before after cause result
put_then_made s k has read cause old new before after result more from puts flushed makes = record {
  told = makes.told;
  attached = makes.attached;
  counts = makes.counts;
  puts = puts;
  cause = IfErr-weaker result _ _ (λ fault. because_map (status_origin fault) (λ rose. elim rose [ inl here ↦ inl here | inr other ↦ inr (from other) ])
      (λ rose. inl rose) (λ want. want)) makes.cause;
  refusal = IfErr-weaker result _ _ more makes.refusal;
  flushed = flushed;
}

fill_tries : (fault : Status) → FillRefuses fault → TrialRefuses fault
fill_tries status.WriteFault is = tt
fill_tries status.NoMemory is = tt
fill_tries other is = absurd is

-- a line, after files that were made
pub made_then_put : {S F K : Type 0} (s : shelf.Ghosts S F) (k : sink.Ghosts K) (has : Status → Type 0) (read cause : Type 0) (old new : S) (before after : K)
    (x : Unit {0}) (result : Result (Unit {0}) Status) → MakesFiles s has old new read (Ok x) → OnlyPuts k status_origin before after result
    → IfErr result FillRefuses → OnOk result (k.is_flushed after ≡ true) → MakesAndPuts s k old new before after cause result
made_then_put s k has read cause old new before after x result makes puts refusal flushed = record {
  told = makes.told;
  attached = makes.attached;
  counts = makes.counts;
  puts = puts.puts;
  cause = IfErr-weaker result _ _ (λ fault. because_map (status_origin fault) (λ no. absurd no) (λ rose. inr rose) (λ want. tt)) puts.cause;
  refusal = IfErr-weaker result _ _ fill_tries refusal;
  flushed = flushed;
}

pub sink_still : {K : Type 0} (k : sink.Ghosts K) (sink : K) → SinkHasNotFallen (k.faults sink) (k.faults sink)
sink_still k sink = record { failures = omega arith; wants = omega arith }

-- a line, and then the rest
pub puts_first : {S F K : Type 0} (s : shelf.Ghosts S F) (k : sink.Ghosts K) (old new : S) (before now after : K) (read : Type 0)
    (result : Result (Unit {0}) Status) → SinkHasNotFallen (k.faults before) (k.faults now) → MakesAndPuts s k old new now after read result
    → MakesAndPuts s k old new before after read result
puts_first s k old new before now after read result puts makes = record {
  told = makes.told;
  attached = makes.attached;
  counts = makes.counts;
  puts = record { failures = omega (arith, puts.failures, makes.puts.failures); wants = omega (arith, puts.wants, makes.puts.wants) };
  cause = IfErr-weaker result _ _ (λ fault. because_map (status_origin fault) (λ rose. rose)
      (λ rose. elim rose [ inl here ↦ inl here | inr put ↦ inr (rose_since _ _ _ puts.failures makes.puts.failures put) ]) (λ want. want)) makes.cause;
  refusal = makes.refusal;
  flushed = makes.flushed;
}

-- with a file that was attached, read and released
pub read_runs : {S F K : Type 0} (s : shelf.Ghosts S F) (f : image.Ghosts F) (k : sink.Ghosts K) (old held mid new : S) (file read : F) (before after : K)
    (name : List ℕ) (result : Result (Unit {0}) Status) → (s.seen old).attached ≡ [] → IsHandedOut (s.seen old) name (f.seen file) (f.faults file)
    → s.seen held ≡ after_attach name (s.seen old) → (f.seen read).name ≡ (f.seen file).name → (f.seen read).content ≡ (f.seen file).content
    → HaveNotFallen (s.faults old) (s.faults held) → MakesAndPuts s k held mid before after (Rose (f.faults file).reads (f.faults read).reads) result
    → s.seen new ≡ after_release (f.seen read) (s.seen mid) → (s.faults new).reads ≡ added_count (s.faults mid).reads (f.faults read).reads
    → HaveNotFallen (s.faults mid) (s.faults new) → MayWriteFiles s k TrialRefuses old new before after result
read_runs s f k old held mid new file read before after name result none out attached bears holds kept makes released reads counts =
    let files = read_makes s f old held mid new file read name out attached bears holds TrialRefuses TrialRefuses (Ok tt) (λ fault is. is) kept
    (record { told = makes.told; attached = makes.attached; counts = makes.counts; cause = tt; refusal = tt }) released reads counts in
    record {
      told = files.told;
      detached = files.attached ∙ none;
      counts = files.counts;
      puts = makes.puts;
      cause = IfErr-weaker result _ _ (λ fault. because_map (status_origin fault)
          (λ rose. elim rose [
            | inl here ↦ rose_within _ _ _ _ kept.reads makes.counts.reads counts.reads here
            | inr inside ↦ rose_released _ (s.faults mid).reads _ (f.faults file).reads (f.faults read).reads (omega (arith, kept.reads, makes.counts.reads)) reads out.reads inside
          ])
          (λ rose. elim rose [
            | inl here ↦ inl (rose_within _ _ _ _ kept.writes makes.counts.writes counts.writes here)
            | inr put ↦ inr put
          ])
          (λ want. want)) makes.cause;
      refusal = makes.refusal;
      flushed = makes.flushed;
    }

-- what holds of the files while it was attached holds of those before and behind
pub through : {S F : Type 0} (s : shelf.Ghosts S F) (f : image.Ghosts F) (old held mid new : S) (file read : F) (name : List ℕ) (P : Files → Files → Type 0)
    → IsHandedOut (s.seen old) name (f.seen file) (f.faults file) → s.seen held ≡ after_attach name (s.seen old)
    → (f.seen read).name ≡ (f.seen file).name → (f.seen read).content ≡ (f.seen file).content → (s.seen mid).is_told ≡ (s.seen held).is_told
    → s.seen new ≡ after_release (f.seen read) (s.seen mid)
    → (IsTrue (s.seen held).is_told → file_of (s.seen mid).files name ≡ file_of (s.seen held).files name)
    → (IsTrue (s.seen held).is_told → P (s.seen held).files (s.seen mid).files) → IsTrue (s.seen old).is_told → P (s.seen old).files (s.seen new).files
through s f old held mid new file read name P out attached bears holds same released kept inside told =
    let shelf : (s.seen held).is_told ≡ (s.seen old).is_told = held_told s f old held mid new file read name out attached bears holds in
    let begins : (s.seen held).files ≡ (s.seen old).files = held_files s f old held mid new file read name out attached bears holds in
    let ends : (s.seen new).files ≡ (s.seen mid).files = read_files s f old held mid new file read name out attached bears holds (λ told. kept (shelf ∙ told)) same released in
    subst (λ left. P (s.seen old).files left) (sym ends) (subst (λ files. P files (s.seen mid).files) begins (inside (shelf ∙ told)))

pub attach_runs : {S F K : Type 0} (s : shelf.Ghosts S F) (k : sink.Ghosts K) (old new : S) (out : K) (result : Result (Unit {0}) Status)
    → (s.seen old).attached ≡ [] → s.seen new ≡ s.seen old → HaveNotFallen (s.faults old) (s.faults new)
    → IfErr result (λ fault. Because (status_origin fault) (Rose (s.faults old).reads (s.faults new).reads) ⊥ (Unit {0}))
    → IfErr result TrialRefuses → OnOk result (k.is_flushed out ≡ true) → MayWriteFiles s k TrialRefuses old new out out result
attach_runs s k old new out result none same counts cause refusal flushed = record {
  told = ap (λ shelf. shelf.is_told) same;
  detached = ap (λ shelf. shelf.attached) same ∙ none;
  counts = counts;
  puts = sink_still k out;
  cause = IfErr-weaker result _ _ (λ fault. because_map (status_origin fault) (λ rose. rose) (λ no. absurd no) (λ want. want)) cause;
  refusal = refusal;
  flushed = flushed;
}

-- ---- all jobs

pub runs_map : {S F K : Type 0} (s : shelf.Ghosts S F) (k : sink.Ghosts K) (has may : Status → Type 0) (old new : S) (before after : K)
    (result : Result (Unit {0}) Status) → ((fault : Status) → has fault → may fault) → MayWriteFiles s k has old new before after result
    → MayWriteFiles s k may old new before after result
runs_map s k has may old new before after result more is = record {
  told = is.told;
  detached = is.detached;
  counts = is.counts;
  puts = is.puts;
  cause = is.cause;
  refusal = IfErr-weaker result _ _ more is.refusal;
  flushed = is.flushed;
}

pub runs_then : {S F K : Type 0} (s : shelf.Ghosts S F) (k : sink.Ghosts K) (has may : Status → Type 0) (old mid new : S) (before now after : K)
    (x : Unit {0}) (result : Result (Unit {0}) Status) → MayWriteFiles s k has old mid before now (Ok x) → MayWriteFiles s k may mid new now after result
    → MayWriteFiles s k may old new before after result
runs_then s k has may old mid new before now after x result one two = record {
  told = two.told ∙ one.told;
  detached = two.detached;
  counts = record { reads = omega (arith, one.counts.reads, two.counts.reads); writes = omega (arith, one.counts.writes, two.counts.writes) };
  puts = record { failures = omega (arith, one.puts.failures, two.puts.failures); wants = omega (arith, one.puts.wants, two.puts.wants) };
  cause = IfErr-weaker result _ _ (λ fault. because_map (status_origin fault)
      (rose_since _ _ _ one.counts.reads two.counts.reads)
      (λ rose. elim rose [
        | inl here ↦ inl (rose_since _ _ _ one.counts.writes two.counts.writes here)
        | inr put ↦ inr (rose_since _ _ _ one.puts.failures two.puts.failures put)
      ])
      (λ want. want)) two.cause;
  refusal = two.refusal;
  flushed = two.flushed;
}

abbrev made_first : ℕ → List ℕ → Files → Outcome
made_first seed name files = outcome_of files (make_work name seed 16384 4096 files)

abbrev jobs_behind : List ℕ → List ℕ → List ℕ → Files → Outcome
jobs_behind name clone back made = in_turn (outcome_or made (saved_of name clone made)) (λ saved. outcome_or saved (restored_of clone back saved))

saved_same : (name : List ℕ) (files : Files) → saved_trial name files ≡ outcome_or files (saved_of name (clone_name name) files)
unfolding saved_trial saved_of saved_from
saved_same name files = refl

trial_of : (seed : ℕ) (name clone back : List ℕ) (files : Files) → clone ≡ clone_name name → back ≡ back_name name
    → in_turn (made_first seed name files) (jobs_behind name clone back) ≡ trial_outcome seed name files
unfolding trial_outcome saved_trial saved_of saved_from restored_trial restored_of restored_behind_line restored_back restored_as
trial_of seed name clone back files is there =
    ap (λ clone. in_turn (made_first seed name files) (jobs_behind name clone back)) is
    ∙ ap (λ back. in_turn (made_first seed name files) (jobs_behind name (clone_name name) back)) there

pub make_tries : (fault : Status) → MakeRefuses fault → TrialRefuses fault
make_tries (status.Present named.Output) is = tt
make_tries (status.Present named.Image) is = absurd is
make_tries (status.Present named.Source) is = absurd is
make_tries (status.Present named.Clone) is = absurd is
make_tries (status.Present named.Back) is = absurd is
make_tries status.WriteFault is = tt
make_tries status.NoMemory is = tt
make_tries other is = absurd is

-- how they end
pub unmade : (seed : ℕ) (name clone back : List ℕ) (files left : Files) (fault : Status) (before after : SinkState) → clone ≡ clone_name name
    → back ≡ back_name name → MakeRefuses fault → Does (made_first seed name files) fault before after left
    → Does (trial_outcome seed name files) fault before after left
unmade seed name clone back files left fault before after is there has does =
    subst (λ o. Does o fault before after left) (trial_of seed name clone back files is there)
    (turn_refused (made_first seed name files) (jobs_behind name clone back) fault before after left (make_tries fault has) does)

pub unsaved : (seed : ℕ) (name clone back : List ℕ) (files made left : Files) (fault : Status) (before mid after : SinkState) → clone ≡ clone_name name
    → back ≡ back_name name → TrialRefuses fault → Does (made_first seed name files) status.Done before mid made
    → Does (outcome_or made (saved_of name clone made)) fault mid after left → Does (trial_outcome seed name files) fault before after left
unsaved seed name clone back files made left fault before mid after is there has one two =
    subst (λ o. Does o fault before after left) (trial_of seed name clone back files is there)
    (turn_then (made_first seed name files) (jobs_behind name clone back) fault before mid after made left one
    (turn_refused (outcome_or made (saved_of name clone made)) (λ saved. outcome_or saved (restored_of clone back saved)) fault mid after left has two))

pub tried : (seed : ℕ) (name clone back : List ℕ) (files made saved left : Files) (s : Status) (before mid now after : SinkState) → clone ≡ clone_name name
    → back ≡ back_name name → Does (made_first seed name files) status.Done before mid made
    → Does (outcome_or made (saved_of name clone made)) status.Done mid now saved → Does (outcome_or saved (restored_of clone back saved)) s now after left
    → Does (trial_outcome seed name files) s before after left
tried seed name clone back files made saved left s before mid now after is there one two three =
    subst (λ o. Does o s before after left) (trial_of seed name clone back files is there)
    (turn_then (made_first seed name files) (jobs_behind name clone back) s before mid after made left one
    (turn_then (outcome_or made (saved_of name clone made)) (λ saved. outcome_or saved (restored_of clone back saved)) s mid now after saved left two three))

-- a volume that was made is new
make_done : (seed : ℕ) (name : List ℕ) (old made : Files) → status.Done ≡ (made_first seed name old).status → made ≡ (made_first seed name old).files
    → (file_of old name ≡ None) × (made ≡ insert old name (trial_image seed))
unfolding make_work
make_done seed name old made = of (file_of old name)
  where
    of : (o : Option (List ℕ))
        → status.Done ≡ (outcome_of old (must (is_none o) (status.Present named.Output) >>= (λ free. Ok (record { output = []; files = insert old name (trial_image seed) })))).status
        → made ≡ (outcome_of old (must (is_none o) (status.Present named.Output) >>= (λ free. Ok (record { output = []; files = insert old name (trial_image seed) })))).files
        → (o ≡ None) × (made ≡ insert old name (trial_image seed))
    of None done same = (refl, same)
    of (Some x) done same = absurd cc

-- what they leave
pub leaves_saved : (seed : ℕ) (name clone : List ℕ) (old made new : Files) (before mid : SinkState) → clone ≡ clone_name name
    → Does (made_first seed name old) status.Done before mid made → LeavesOutput (Some clone) false (IsSavedOf name made) made new
    → LeavesTrial seed name old new
leaves_saved seed name clone old made new before mid is does left =
    let done = make_done seed name old made (does.status tt) (does.files tt) in
    let image = trial_image seed in
    let there : file_of made name ≡ Some image = ap (λ f. file_of f name) done.1 ∙ insert_here old name image in
    let saved : LeavesOutput (Some clone) false (IsSavedFrom true true image) made new =
    leaves_map (Some clone) false (IsSavedOf name made) (IsSavedFrom true true image) made new
    (λ bytes held. subst (λ i. IsSavedFrom true true i bytes) (same_Some held.0 image (sym held.1 ∙ there)) held.2) left in
    inr (inl (record {
      free = done.0;
      saved = subst (λ f. LeavesOutput (Some (clone_name name)) false (IsSavedFrom true true image) f new) done.1
          (subst (λ c. LeavesOutput (Some c) false (IsSavedFrom true true image) made new) is saved);
    }))

some_bytes : (o : Option (List ℕ)) → IsSome o → (bytes : List ℕ) × (o ≡ Some bytes)
some_bytes (Some bytes) is = (bytes, refl)
some_bytes None is = absurd cc

pub leaves_restored : (seed : ℕ) (name clone back : List ℕ) (old made saved new : Files) (before mid now : SinkState) → clone ≡ clone_name name
    → back ≡ back_name name → Does (made_first seed name old) status.Done before mid made
    → Does (outcome_or made (saved_of name clone made)) status.Done mid now saved → IsSome (file_of saved clone)
    → LeavesOutput (Some back) false (IsRestoredOf clone saved) saved new → LeavesTrial seed name old new
leaves_restored seed name clone back old made saved new before mid now is there does saves some left =
    let done = make_done seed name old made (does.status tt) (does.files tt) in
    let image = trial_image seed in
    let bytes = some_bytes (file_of saved clone) some in
    let same : outcome_or made (saved_of name clone made) ≡ saved_trial name (insert old name image) =
    ap (λ c. outcome_or made (saved_of name c made)) is ∙ sym (saved_same name made) ∙ ap (saved_trial name) done.1 in
    let files : saved ≡ (saved_trial name (insert old name image)).files = saves.files tt ∙ ap (λ o. o.files) same in
    let restored : LeavesOutput (Some back) false (IsRestoredFrom bytes.0) saved new =
    leaves_map (Some back) false (IsRestoredOf clone saved) (IsRestoredFrom bytes.0) saved new
    (λ b held. subst (λ c. IsRestoredFrom c b) (same_Some held.0 bytes.0 (sym held.1 ∙ bytes.1)) held.2) left in
    inr (inr (record {
      clone = bytes.0;
      free = done.0;
      whole = sym (saves.status tt ∙ ap (λ o. o.status) same);
      held = subst (λ f. file_of f (clone_name name) ≡ Some bytes.0) files (subst (λ c. file_of saved c ≡ Some bytes.0) is bytes.1);
      restored = subst (λ f. LeavesOutput (Some (back_name name)) false (IsRestoredFrom bytes.0) f new) files
          (subst (λ b. LeavesOutput (Some b) false (IsRestoredFrom bytes.0) saved new) there restored);
    }))

-- ---- names

or_false : (a b : Bool) → (a || b) ≡ false → (a ≡ false) × (b ≡ false)
or_false false b is = (refl, is)
or_false true b is = absurd cc

-- a file of none of the names
pub others_made : (name : List ℕ) (old new : Files) → KeepsOtherFiles (Some name) old new → (other : List ℕ)
    → has_name other (trial_names name) ≡ false → file_of new other ≡ file_of old other
others_made name old new one other apart = one other (or_false (bytes_eq other name) _ apart).0

pub others_saved : (name clone : List ℕ) (old made new : Files) → clone ≡ clone_name name → KeepsOtherFiles (Some name) old made
    → KeepsOtherFiles (Some clone) made new → (other : List ℕ) → has_name other (trial_names name) ≡ false → file_of new other ≡ file_of old other
others_saved name clone old made new is one two other apart =
    let first = or_false (bytes_eq other name) _ apart in
    let second = or_false (bytes_eq other (clone_name name)) _ first.1 in
    two other (ap (bytes_eq other) is ∙ second.0) ∙ one other first.0

pub others_tried : (name clone back : List ℕ) (old made saved new : Files) → clone ≡ clone_name name → back ≡ back_name name
    → KeepsOtherFiles (Some name) old made → KeepsOtherFiles (Some clone) made saved → KeepsOtherFiles (Some back) saved new → (other : List ℕ)
    → has_name other (trial_names name) ≡ false → file_of new other ≡ file_of old other
others_tried name clone back old made saved new is there one two three other apart =
    let first = or_false (bytes_eq other name) _ apart in
    let second = or_false (bytes_eq other (clone_name name)) _ first.1 in
    let third = or_false (bytes_eq other (back_name name)) _ second.1 in
    three other (ap (bytes_eq other) there ∙ third.0) ∙ two other (ap (bytes_eq other) is ∙ second.0) ∙ one other first.0

apart_by : (a b : List ℕ) (t : Bool) → bytes_eq a b ≡ t → (length a ≡ length b → ⊥) → bytes_eq a b ≡ false
apart_by a b false is never = is
apart_by a b true is never = absurd (never (ap length (same_name a b is)))

pub clone_apart : (name clone : List ℕ) → clone ≡ clone_name name → bytes_eq name clone ≡ false
clone_apart name clone is =
    let long : length clone ≡ length name + 6 = ap length is ∙ length-append name (codes ".clone") in
    apart_by name clone (bytes_eq name clone) refl (λ same. omega (arith, long, same))

pub back_apart : (name clone back : List ℕ) → clone ≡ clone_name name → back ≡ back_name name → bytes_eq clone back ≡ false
back_apart name clone back is there =
    let long : length clone ≡ length name + 6 = ap length is ∙ length-append name (codes ".clone") in
    let short : length back ≡ length name + 5 = ap length there ∙ length-append name (codes ".back") in
    apart_by clone back (bytes_eq clone back) refl (λ same. omega (arith, long, short, same))

pub trial_shape : (seed : ℕ) → IsShape (shape_of seed 16384 4096)
unfolding is_cluster_size
trial_shape seed = record { cluster = refl; least = omega arith; most = omega arith }

-- ---- refusals

pub check_tries : (fault : Status) → CheckRefuses fault → TrialRefuses fault
check_tries status.NotNtfs is = tt
check_tries (status.BadGeometry field value) is = tt
check_tries (status.ImageShort len need) is = tt
check_tries (status.Damaged rule number) is = tt
check_tries status.ReadFault is = tt
check_tries status.NoMemory is = tt
check_tries other is = absurd is

pub save_tries : (fault : Status) → OutputRefuses named.Clone false fault → TrialRefuses fault
save_tries (status.Present named.Clone) is = tt
save_tries (status.Present named.Image) is = absurd cc
save_tries (status.Present named.Source) is = absurd cc
save_tries (status.Present named.Output) is = absurd cc
save_tries (status.Present named.Back) is = absurd cc
save_tries status.ReadFault is = tt
save_tries status.WriteFault is = tt
save_tries status.NoMemory is = tt
save_tries other is = absurd is

pub header_tries : (fault : Status) → HeaderRefuses fault → TrialRefuses fault
header_tries (status.BadClone place) is = tt
header_tries status.ReadFault is = tt
header_tries other is = absurd is

pub restore_tries : (fault : Status) → FileRefuses named.Back false fault → TrialRefuses fault
restore_tries (status.Present named.Back) is = tt
restore_tries (status.Present named.Image) is = absurd cc
restore_tries (status.Present named.Source) is = absurd cc
restore_tries (status.Present named.Output) is = absurd cc
restore_tries (status.Present named.Clone) is = absurd cc
restore_tries (status.BadClone place) is = tt
restore_tries status.ReadFault is = tt
restore_tries status.WriteFault is = tt
restore_tries status.NoMemory is = tt
restore_tries other is = absurd is

pub output_absent : (fault : Status) → AttachRefuses named.Output fault → TrialRefuses fault
output_absent (status.Absent named.Output) is = tt
output_absent (status.Absent named.Image) is = absurd cc
output_absent (status.Absent named.Source) is = absurd cc
output_absent (status.Absent named.Clone) is = absurd cc
output_absent (status.Absent named.Back) is = absurd cc
output_absent status.ReadFault is = tt
output_absent status.NoMemory is = tt
output_absent other is = absurd is

pub clone_absent : (fault : Status) → AttachRefuses named.Clone fault → TrialRefuses fault
clone_absent (status.Absent named.Clone) is = tt
clone_absent (status.Absent named.Image) is = absurd cc
clone_absent (status.Absent named.Source) is = absurd cc
clone_absent (status.Absent named.Output) is = absurd cc
clone_absent (status.Absent named.Back) is = absurd cc
clone_absent status.ReadFault is = tt
clone_absent status.NoMemory is = tt
clone_absent other is = absurd is
