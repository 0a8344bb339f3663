-- What a writer promises, step by step.
use Rattle.std.proofs.Common.{◌≡◌, ◌≤◌, ◌<◌, ◌+◌, ◌-◌, ◌^◌, ℕ, List, [], ◌∷◌, ◌++◌, length, take, drop, Bool, true, false, cond, refl, sym, ap, subst, ◌∙◌, append_assoc, arith, length-append}
use Rattle.std.specs.Prelude.{Option, Some, None, IfSome, unwrap_or}
use Rattle.std.specs.Option.{SomeIff, OnSome}
use Rattle.std.proofs.lemmas.List.{length-take, drop-drop}
use Rattle.ntfs_runs.specs.declared.run.Run.{Run}
use Rattle.ntfs_runs.specs.declared.writer.Writer.{Writer}
use Rattle.ntfs_runs.specs.Spelling.{last_after}
use Rattle.ntfs_runs.specs.Clusters.{vcns, FitFrom, AreSpellable}
use Rattle.ntfs_runs.specs.Canon.{goes_on, both, run_text, text_from, canon}
use Rattle.ntfs_runs.proofs.ReadingLemmas.{last_after-unwrap_or}
use Rattle.ntfs_runs.proofs.JoinLemmas.{joined_from-is}
use Rattle.ntfs_runs.specs.Writing.{put, join_onto, joined_from, promise_of, IsSmall, IsSound, Adds, waiting_of}
use Rattle.ntfs_runs.proofs.WritingLemmas.{take-put, drop-put, length-put, put-put}

abbrev pub writer_with : ℕ → ℕ → Option Run → Writer
writer_with at last pending = record { at = at; last = last; pending = pending }

-- what a writer promises, by what waits
promised-of : (w : Writer) (pending : Option Run) (bytes : List ℕ) (runs : List Run) → w.pending ≡ pending → promise_of w bytes runs ≡ take w.at bytes ++ text_from w.last (joined_from pending runs)
unfolding promise_of
promised-of w pending bytes runs is = ap (λ (p : Option Run). take w.at bytes ++ text_from w.last (joined_from p runs)) is

pub promised-start : (bytes : List ℕ) (runs : List Run) → promise_of (writer_with 0 0 None) bytes runs ≡ text_from 0 (joined_from None runs)
unfolding promise_of
promised-start bytes runs = refl

-- no run waited
pub waits-first : (w : Writer) (bytes : List ℕ) (run : Run) → IsSound w bytes → IsSmall run → w.pending ≡ None → Adds w (writer_with w.at w.last (Some run)) bytes bytes run
unfolding promise_of
waits-first w bytes run sound small is = record {
  sound = record { at = sound.at; last = sound.last; pending = small };
  same = λ runs. sym (promised-of w None bytes (run ∷ runs) is);
  rest = refl;
  on = omega arith;
  waits = omega arith;
}

-- the run that waited is the first of what follows
small-waiting : (w : Writer) (bytes : List ℕ) (waiting : Run) → IsSound w bytes → w.pending ≡ Some waiting → IsSmall waiting
small-waiting w bytes waiting sound is = subst (λ (p : Option Run). IfSome p IsSmall) is sound.pending

waiting-is : (w : Writer) (waiting : Run) → w.pending ≡ Some waiting → waiting_of w.pending ≡ waiting.length
waiting-is w waiting is = ap waiting_of is

-- the run goes on from the one that waited
pub waits-joined : (w : Writer) (bytes : List ℕ) (waiting run : Run) → IsSound w bytes → IsSmall run → waiting_of w.pending + run.length ≤ 2 ^ 48 → w.pending ≡ Some waiting → goes_on waiting run ≡ true
    → Adds w (writer_with w.at w.last (Some (both waiting run))) bytes bytes run
unfolding promise_of
waits-joined w bytes waiting run sound small together is joins =
    let count = waiting-is w waiting is in
    record {
      sound = record { at = sound.at; last = sound.last; pending = (omega arith, (small-waiting w bytes waiting sound is).1) };
      same = λ runs. sym (promised-of w (Some waiting) bytes (run ∷ runs) is ∙ ap (λ (t : Bool). take w.at bytes ++ text_from w.last (cond t (join_onto (both waiting run) runs) (waiting ∷ join_onto run runs))) joins);
      rest = refl;
      on = omega arith;
      waits = omega arith;
    }

-- what is promised where a run that waited comes to an end
promised-apart : (w : Writer) (bytes : List ℕ) (waiting run : Run) (runs : List Run) → w.pending ≡ Some waiting → goes_on waiting run ≡ false
    → promise_of w bytes (run ∷ runs) ≡ take w.at bytes ++ (run_text w.last waiting ++ text_from (last_after w.last waiting.lcn) (join_onto run runs))
unfolding promise_of text_from
promised-apart w bytes waiting run runs is apart =
    promised-of w (Some waiting) bytes (run ∷ runs) is ∙ ap (λ (t : Bool). take w.at bytes ++ text_from w.last (cond t (join_onto (both waiting run) runs) (waiting ∷ join_onto run runs))) apart

-- the last LCN stays in its limit
pub last_after-small : (last : ℕ) (lcn : Option ℕ) → last ≤ 2 ^ 48 → IfSome lcn (λ l. l ≤ 2 ^ 48) → last_after last lcn ≤ 2 ^ 48
last_after-small last None low small = low
last_after-small last (Some lcn) low small = small

-- the run that waited was written
pub waits-put : (w : Writer) (bytes : List ℕ) (waiting run : Run) → IsSound w bytes → IsSmall run → w.pending ≡ Some waiting → goes_on waiting run ≡ false
    → w.at + length (run_text w.last waiting) ≤ length bytes
    → Adds w (writer_with (w.at + length (run_text w.last waiting)) (unwrap_or waiting.lcn w.last) (Some run)) bytes (put (run_text w.last waiting) w.at bytes) run
unfolding promise_of
waits-put w bytes waiting run sound small is apart within =
    let text = run_text w.last waiting in
    let len = length-put text w.at bytes within in
    let last-is = last_after-unwrap_or w.last waiting.lcn in
    record {
      sound = record { at = omega arith; last = rw (← last-is) (last_after-small w.last waiting.lcn sound.last (small-waiting w bytes waiting sound is).1); pending = small };
      same = λ runs. rw (take-put text w.at bytes sound.at, ← last-is)
          (append_assoc (take w.at bytes) text (text_from (last_after w.last waiting.lcn) (join_onto run runs)) ∙ sym (promised-apart w bytes waiting run runs is apart));
      rest = drop-put text w.at bytes sound.at;
      on = omega arith;
      waits = omega arith;
    }

-- the run that waited doesn't fit
pub waits-full : (w : Writer) (bytes : List ℕ) (waiting run : Run) → IsSound w bytes → w.pending ≡ Some waiting → goes_on waiting run ≡ false
    → (w.at + length (run_text w.last waiting) ≤ length bytes → ⊥) → (runs : List Run) → length bytes < length (promise_of w bytes (run ∷ runs))
waits-full w bytes waiting run sound is apart full runs =
    let text = run_text w.last waiting in
    let behind = text_from (last_after w.last waiting.lcn) (join_onto run runs) in
    let at = sound.at in
    let len : length (promise_of w bytes (run ∷ runs)) ≡ w.at + (length text + length behind) =
    ap length (promised-apart w bytes waiting run runs is apart) ∙ length-append (take w.at bytes) (text ++ behind) ∙ omega (arith, length-take w.at bytes, length-append text behind) in
    omega (arith, full)

-- ---- the end

-- a writer came to its end: it wrote what it promised, or that doesn't fit
pub record Finishes (w : Writer) (before after : List ℕ) (result : Option ℕ) : Type 0 where
  pub fits : SomeIff result (length (promise_of w before []) ≤ length before) (length (promise_of w before []))
  pub written : IfSome result (λ n. after ≡ promise_of w before [] ++ drop n before)

-- a text that is written behind the place ends the promise
ends : (w : Writer) (before after text : List ℕ) (result : Option ℕ) → promise_of w before [] ≡ take w.at before ++ text → w.at ≤ length before
    → SomeIff result (w.at + length text ≤ length before) (w.at + length text) → OnSome result (after ≡ put text w.at before) → Finishes w before after result
ends w before after text result is at fits written =
    let len : length (promise_of w before []) ≡ w.at + length text = ap length is ∙ length-append (take w.at before) text ∙ omega (arith, length-take w.at before) in
    record {
      fits = rw len fits;
      written = rw is (of result fits written);
    }
  where
    of : (r : Option ℕ) → SomeIff r (w.at + length text ≤ length before) (w.at + length text) → OnSome r (after ≡ put text w.at before) → IfSome r (λ n. after ≡ (take w.at before ++ text) ++ drop n before)
    of None fits written = tt
    of (Some n) fits written = written ∙ ap (λ (k : ℕ). (take w.at before ++ text) ++ drop k before) (sym fits.1)

pub ends-first : (w : Writer) (before after : List ℕ) (result : Option ℕ) → IsSound w before → w.pending ≡ None
    → SomeIff result (w.at + 1 ≤ length before) (w.at + 1) → OnSome result (after ≡ put (0 ∷ []) w.at before) → Finishes w before after result
unfolding text_from
ends-first w before after result sound is fits written = ends w before after (0 ∷ []) result (promised-of w None before [] is) sound.at fits written

-- what is promised where a run waits at the end
promised-last : (w : Writer) (before : List ℕ) (waiting : Run) → w.pending ≡ Some waiting → promise_of w before [] ≡ take w.at before ++ (run_text w.last waiting ++ (0 ∷ []))
unfolding text_from
promised-last w before waiting is = promised-of w (Some waiting) before [] is

pub ends-put : (w : Writer) (before middle after : List ℕ) (waiting : Run) (at : ℕ) (result : Option ℕ) → IsSound w before → w.pending ≡ Some waiting
    → w.at + length (run_text w.last waiting) ≤ length before → at ≡ w.at + length (run_text w.last waiting) → middle ≡ put (run_text w.last waiting) w.at before
    → SomeIff result (at + 1 ≤ length middle) (at + 1) → OnSome result (after ≡ put (0 ∷ []) at middle) → Finishes w before after result
ends-put w before middle after waiting at result sound is within at-is middle-is fits written =
    let text = run_text w.last waiting in
    let count : w.at + length (text ++ (0 ∷ [])) ≡ at + 1 = omega (arith, at-is, length-append text (0 ∷ [])) in
    let len : length before ≡ length middle = sym (ap length middle-is ∙ length-put text w.at before within) in
    let both-is : put (0 ∷ []) at middle ≡ put (text ++ (0 ∷ [])) w.at before =
    ap (put (0 ∷ []) at) middle-is ∙ ap (λ (p : ℕ). put (0 ∷ []) p (put text w.at before)) at-is ∙ put-put text (0 ∷ []) w.at before sound.at in
    ends w before after (text ++ (0 ∷ [])) result (promised-last w before waiting is) sound.at (rw (count, len) fits)
    (subst (λ (bytes : List ℕ). OnSome result (after ≡ bytes)) both-is written)

pub ends-full : (w : Writer) (before after : List ℕ) (waiting : Run) → IsSound w before → w.pending ≡ Some waiting
    → (w.at + length (run_text w.last waiting) ≤ length before → ⊥) → Finishes w before after None
ends-full w before after waiting sound is full =
    let text = run_text w.last waiting in
    let len : length (promise_of w before []) ≡ w.at + (length text + 1) =
    ap length (promised-last w before waiting is) ∙ length-append (take w.at before) (text ++ (0 ∷ [])) ∙ omega (arith, length-take w.at before, length-append text (0 ∷ []), sound.at) in
    record { fits = λ within. full (omega arith); written = tt }

-- ---- a list of runs

-- with these runs the writer comes to the whole spelling; behind its place nothing has changed
pub record GoesOn (w : Writer) (before bytes : List ℕ) (runs : List Run) (whole : List ℕ) : Type 0 where
  pub sound : IsSound w bytes
  pub whole-is : promise_of w bytes runs ≡ whole
  pub rest : drop w.at bytes ≡ drop w.at before
  pub fits : FitFrom (2 ^ 48 - waiting_of w.pending) runs

pub goes-on-first : (bytes : List ℕ) (runs : List Run) → AreSpellable runs → GoesOn (writer_with 0 0 None) bytes bytes runs (canon (vcns runs))
unfolding canon
goes-on-first bytes runs fits = record {
  sound = record { at = omega arith; last = omega arith; pending = tt };
  whole-is = promised-start bytes runs ∙ ap (text_from 0) (joined_from-is (2 ^ 48) runs fits);
  rest = refl;
  fits = fits;
}

-- what fits in a room fits in a larger one
FitFrom-room : (room more : ℕ) (runs : List Run) → room ≤ more → FitFrom room runs → FitFrom more runs
FitFrom-room room more [] le fits = tt
FitFrom-room room more (run ∷ runs) le fits = (fits.0, omega (arith, fits.1), fits.2, FitFrom-room (room - run.length) (more - run.length) runs (omega arith) fits.3)

-- what a next run needs
pub goes-on-needs : (w : Writer) (before bytes whole : List ℕ) (runs : List Run) (run : Run) (rest : List Run) → GoesOn w before bytes runs whole → runs ≡ run ∷ rest → IsSmall run × (waiting_of w.pending + run.length ≤ 2 ^ 48)
goes-on-needs w before bytes whole runs run rest on is =
    let fits = subst (λ (r : List Run). FitFrom (2 ^ 48 - waiting_of w.pending) r) is on.fits in
    ((omega (arith, fits.0, fits.1), fits.2), omega (arith, fits.0, fits.1))

pub goes-on-next : (old new : Writer) (before bytes after whole : List ℕ) (runs : List Run) (run : Run) (rest : List Run) → GoesOn old before bytes runs whole → runs ≡ run ∷ rest
    → Adds old new bytes after run → GoesOn new before after rest whole
goes-on-next old new before bytes after whole runs run rest on is adds =
    let fits = subst (λ (r : List Run). FitFrom (2 ^ 48 - waiting_of old.pending) r) is on.fits in
    let waits = adds.waits in
    let behind : new.at ≡ old.at + (new.at - old.at) = omega (arith, adds.on) in
    record {
      sound = adds.sound;
      whole-is = adds.same rest ∙ ap (promise_of old bytes) (sym is) ∙ on.whole-is;
      rest = adds.rest ∙ ap (λ (n : ℕ). drop n bytes) behind ∙ sym (drop-drop (new.at - old.at) old.at bytes) ∙ ap (drop (new.at - old.at)) on.rest ∙ drop-drop (new.at - old.at) old.at before ∙ ap (λ (n : ℕ). drop n before) (sym behind);
      fits = FitFrom-room (2 ^ 48 - waiting_of old.pending - run.length) (2 ^ 48 - waiting_of new.pending) rest (omega arith) fits.3;
    }

-- the whole doesn't fit
pub goes-on-full : (w : Writer) (before bytes whole : List ℕ) (runs : List Run) (run : Run) (rest : List Run) → GoesOn w before bytes runs whole → runs ≡ run ∷ rest → length bytes ≡ length before
    → ((more : List Run) → length bytes < length (promise_of w bytes (run ∷ more))) → length whole ≤ length before → ⊥
goes-on-full w before bytes whole runs run rest on is len full within =
    let more = full rest in
    let same : length (promise_of w bytes (run ∷ rest)) ≡ length whole = ap (λ (r : List Run). length (promise_of w bytes r)) (sym is) ∙ ap length on.whole-is in
    omega arith

promised-long : (w : Writer) (bytes : List ℕ) (runs : List Run) → w.at ≤ length bytes → w.at ≤ length (promise_of w bytes runs)
unfolding promise_of
promised-long w bytes runs within =
    let text = text_from w.last (joined_from w.pending runs) in
    omega (arith, length-append (take w.at bytes) text, length-take w.at bytes)

-- the whole is written
pub goes-on-ends : (w : Writer) (before bytes after whole : List ℕ) (runs : List Run) (result : Option ℕ) → GoesOn w before bytes runs whole → runs ≡ [] → length bytes ≡ length before
    → SomeIff result (length (promise_of w bytes []) ≤ length bytes) (length (promise_of w bytes [])) → IfSome result (λ n. after ≡ promise_of w bytes [] ++ drop n bytes)
    → SomeIff result (length whole ≤ length before) (length whole) × IfSome result (λ n. after ≡ whole ++ drop n before)
goes-on-ends w before bytes after whole runs result on is len fits written =
    let same : promise_of w bytes [] ≡ whole = ap (promise_of w bytes) (sym is) ∙ on.whole-is in
    (rw (← same, ← len) fits, of result fits written)
  where
    of : (r : Option ℕ) → SomeIff r (length (promise_of w bytes []) ≤ length bytes) (length (promise_of w bytes [])) → IfSome r (λ n. after ≡ promise_of w bytes [] ++ drop n bytes) → IfSome r (λ n. after ≡ whole ++ drop n before)
    of None fits written = tt
    of (Some n) fits written =
        let same : promise_of w bytes [] ≡ whole = ap (promise_of w bytes) (sym is) ∙ on.whole-is in
        let long = promised-long w bytes [] on.sound.at in
        let behind : n ≡ w.at + (n - w.at) = omega (arith, fits.1) in
        written ∙ ap (λ (text : List ℕ). text ++ drop n bytes) same ∙ ap (λ (rest : List ℕ). whole ++ rest)
        (ap (λ (k : ℕ). drop k bytes) behind ∙ sym (drop-drop (n - w.at) w.at bytes) ∙ ap (drop (n - w.at)) on.rest ∙ drop-drop (n - w.at) w.at before ∙ ap (λ (k : ℕ). drop k before) (sym behind))
