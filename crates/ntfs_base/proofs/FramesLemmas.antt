-- Lemmas on frames and on answers that a definition gives.
use Rattle.std.proofs.Common.{◌≡◌, ℕ, List, sym, ap, subst, ◌∙◌, arith, Result, Ok, Err, Option, Some, None}
use Rattle.std.specs.Prelude.{IsTrue}
use Rattle.std.specs.Option.{option_map, ok_or}
use Rattle.ntfs_base.specs.Frames.{Origin, IsSettled, Gives, Puts, IfTold, refused_as, without_bytes, bytes_in}
use Rattle.ntfs_base.specs.Image.{ImageState}
use Rattle.ntfs_base.specs.Sink.{SinkState, after_put}
use Rattle.ntfs_base.specs.declared.image.Image as image
use Rattle.ntfs_base.proofs.SinkLemmas.{after_put-nil}

pub gives_same : {T E : Type 0} (origin : E → Origin) (expected result : Result T E) → expected ≡ result → Gives origin (λ x. x) expected result
gives_same origin expected (Ok x) is = is
gives_same origin expected (Err fault) is = λ settled. is

-- what the callee says of its refusal, for the caller's, at a `?` with `From`
pub gives_as : {T E F : Type 0} (inner : E → Origin) (outer : F → Origin) (over : E → F) → ((e : E) → outer (over e) ≡ inner e)
    → (expected : Result T E) (fault : E) → (IsSettled (inner fault) → expected ≡ Err fault)
    → IsSettled (outer (over fault)) → refused_as over expected ≡ Err (over fault)
gives_as inner outer over same expected fault is settled = ap (refused_as over) (is (subst IsSettled (same fault) settled))

-- nothing was put, and where the work wasn't cut off, nothing was to be put
pub puts_none : {E : Type 0} (origin : E → Origin) (expected : Result (List ℕ) E) (fault : E) (sink : SinkState)
    → (IsSettled (origin fault) → expected ≡ Err fault) → Puts origin expected sink (Err fault) sink
puts_none origin expected fault sink is = record {
  answer = λ settled. sym (ap without_bytes (is settled));
  output = λ settled. sym (ap (λ o. after_put (bytes_in o) sink) (is settled) ∙ after_put-nil sink);
  prefix = (0, omega arith, sym (after_put-nil sink));
}

-- what holds of an image's content after a call that only reads held before
pub told_still : {G : Type 0} (g : image.Ghosts G) (old new : G) (P : List ℕ → Type 0) → g.seen new ≡ g.seen old → IfTold g new P → IfTold g old P
told_still g old new P same is = subst (λ (s : ImageState). IsTrue s.is_told → P s.content) same is

-- a value that must be there, through a view of it
pub needs_given : {A B E : Type 0} (view : A → B) (o : Option A) (expected : Option B) (fault : E) (x : A)
    → option_map view o ≡ expected → Ok x ≡ ok_or o fault → ok_or expected fault ≡ Ok (view x)
needs_given view None expected fault x shown is = absurd cc
needs_given view (Some y) expected fault x shown is = ap (λ x. ok_or x fault) (sym shown) ∙ (let same : y ≡ x = cc in ap (λ z. Ok (view z)) same)

pub needs_refused : {A B E : Type 0} (view : A → B) (o : Option A) (expected : Option B) (fault e : E)
    → option_map view o ≡ expected → Err e ≡ ok_or o fault → ok_or expected fault ≡ Err fault
needs_refused view None expected fault e shown is = ap (λ x. ok_or x fault) (sym shown)
needs_refused view (Some y) expected fault e shown is = absurd cc
