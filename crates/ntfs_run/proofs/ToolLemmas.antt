-- What the tools share: refusals with their causes, and files that are released.
use Rattle.std.proofs.Common.{◌≡◌, ◌≤◌, ℕ, Bool, true, false, List, refl, sym, ap, subst, ◌∙◌, arith}
use Rattle.std.proofs.Common.{Result, Ok, Err, IfErr, OnOk}
use Rattle.std.proofs.lemmas.Result.{IfErr-weaker}
use Rattle.ntfs_base.specs.Causes.{HaveNotFallen, Rose}
use Rattle.ntfs_base.specs.Frames.{Because, Copies, IsSettled, Origin, content, reading, writing, memory}
use Rattle.ntfs_base.specs.Frames.{Puts, PutsPrefix, bytes_in, must, refused_as, without_bytes, ◌>>=◌}
use Rattle.ntfs_base.specs.Shelf.{Files, IsHandedOut}
use Rattle.ntfs_base.specs.Shelf.{added_count, after_attach, after_release, has_name}
use Rattle.ntfs_base.specs.Sink.{SinkState, after_put}
use Rattle.ntfs_base.specs.declared.image.Image as image
use Rattle.ntfs_base.specs.declared.shelf.Shelf as shelf
use Rattle.ntfs_base.specs.declared.sink.Sink as sink
use Rattle.ntfs_base.proofs.AttachLemmas.{Rose-added, after_release-attached, has_name-attached}
use Rattle.ntfs_base.proofs.SinkLemmas.{after_put-nil}
use Rattle.ntfs_print.specs.Printing.{Prints, end_of, printing_of}
use Rattle.ntfs_run.specs.Outcome.{Does, Outcome, OnlyShows, refused_with, status_origin}
use Rattle.ntfs_run.specs.declared.status.Status.{Status}

-- ---- refusals

pub because_map : {R W M r w m : Type 0} (origin : Origin) → (R → r) → (W → w) → (M → m) → Because origin R W M → Because origin r w m
because_map content read write want is = tt
because_map reading read write want is = read is
because_map writing read write want is = write is
because_map memory read write want is = want is

-- a fault of a file that was handed out without one is the shelf's
pub rose_released : (before old new from more : ℕ) → before ≤ old → new ≡ added_count old more → from ≡ 0 → Rose from more → Rose before new
rose_released before old new from more kept is none rose = Rose-added before old new more kept is (subst (λ n. Rose n more) none rose)

-- ---- definitions that refuse, where they give a value

pub bind_ok : {A B E : Type 0} (r : Result A E) (f : A → Result B E) (y : B) → (r >>= f) ≡ Ok y → (x : A) × (r ≡ Ok x) × (f x ≡ Ok y)
bind_ok (Ok x) f y is = (x, refl, is)
bind_ok (Err fault) f y is = absurd cc

pub refused_ok : {A E F : Type 0} (over : E → F) (r : Result A E) (x : A) → refused_as over r ≡ Ok x → r ≡ Ok x
refused_ok over (Ok y) x is = let same : y ≡ x = cc in ap Ok same
refused_ok over (Err fault) x is = absurd cc

pub must_ok : {E : Type 0} (b : Bool) (fault : E) (x : Unit {0}) → must b fault ≡ Ok x → b ≡ true
must_ok true fault x is = refl
must_ok false fault x is = absurd cc

-- ---- an image that is only read

-- its name is attached until it is released
pub shown_is_attached : {S F K : Type 0} (s : shelf.Ghosts S F) (f : image.Ghosts F) (k : sink.Ghosts K) (old held : S) (file shown : F)
    (before after : K) (name : List ℕ) (result : Result (Unit {0}) Status) → IsHandedOut (s.seen old) name (f.seen file) (f.faults file)
    → s.seen held ≡ after_attach name (s.seen old) → Copies f k status_origin file shown before after result
    → has_name (f.seen shown).name (s.seen held).attached ≡ true
shown_is_attached s f k old held file shown before after name result out attached copies =
    ap (λ image. has_name image.name (s.seen held).attached) copies.seen
    ∙ ap (λ shelf. has_name (f.seen file).name shelf.attached) attached
    ∙ has_name-attached name (s.seen old) (f.seen file) out.bears

-- and then the shelf is as before
pub shows_released : {S F K : Type 0} (s : shelf.Ghosts S F) (f : image.Ghosts F) (k : sink.Ghosts K) (has : Status → Type 0)
    (old held new : S) (file shown : F) (before after : K) (name : List ℕ) (result : Result (Unit {0}) Status)
    → IsHandedOut (s.seen old) name (f.seen file) (f.faults file) → s.seen held ≡ after_attach name (s.seen old)
    → HaveNotFallen (s.faults old) (s.faults held) → Copies f k status_origin file shown before after result → IfErr result has
    → OnOk result (k.is_flushed after ≡ true) → s.seen new ≡ after_release (f.seen shown) (s.seen held)
    → (s.faults new).reads ≡ added_count (s.faults held).reads (f.faults shown).reads → HaveNotFallen (s.faults held) (s.faults new)
    → OnlyShows s k has old new before after result
shows_released s f k has old held new file shown before after name result out attached kept copies refusal flushed released reads counts = record {
  seen = released ∙ ap (λ image. after_release image (s.seen held)) copies.seen ∙ ap (after_release (f.seen file)) attached
      ∙ after_release-attached name (s.seen old) (f.seen file) out.bears out.bytes;
  counts = record { reads = omega (arith, kept.reads, counts.reads); writes = omega (arith, kept.writes, counts.writes) };
  puts = copies.puts;
  cause = IfErr-weaker result _ _ (λ fault. because_map (status_origin fault)
      (rose_released _ (s.faults held).reads _ (f.faults file).reads (f.faults shown).reads kept.reads reads out.reads) (λ rose. rose) (λ want. want)) copies.cause;
  refusal = refusal;
  flushed = flushed;
}

shown_answer : (expected : Result (List ℕ) Status) → without_bytes expected ≡ end_of (printing_of expected).fault
shown_answer (Ok bytes) = refl
shown_answer (Err fault) = refl

shown_bytes : (expected : Result (List ℕ) Status) → bytes_in expected ≡ (printing_of expected).output
shown_bytes (Ok bytes) = refl
shown_bytes (Err fault) = refl

-- bytes that are put or refused, as what is printed
pub prints_of : (expected : Result (List ℕ) Status) (result : Result (Unit {0}) Status) (before after : SinkState)
    → Puts status_origin expected before result after → Prints status_origin (printing_of expected) before result after
prints_of expected result before after is = record {
  answer = λ settled. is.answer settled ∙ shown_answer expected;
  output = λ settled. is.output settled ∙ ap (λ bytes. after_put bytes before) (shown_bytes expected);
  prefix = subst (λ bytes. PutsPrefix bytes before after) (shown_bytes expected) is.prefix;
}

-- a refusal that puts nothing and changes no file
pub does_refused : (outcome : Outcome) (fault : Status) (files left : Files) (before after : SinkState) → after ≡ before → left ≡ files
    → (IsSettled (status_origin fault) → outcome ≡ refused_with fault files) → Does outcome fault before after left
does_refused outcome fault files left before after same kept is = record {
  status = λ settled. sym (ap (λ o. o.status) (is settled));
  output = λ settled. same ∙ sym (ap (λ o. after_put o.output before) (is settled) ∙ after_put-nil before);
  files = λ settled. kept ∙ sym (ap (λ o. o.files) (is settled));
  prefix = (0, omega arith, same ∙ sym (after_put-nil before));
}
