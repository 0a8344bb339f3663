-- Answers that a definition gives, in the words of the caller.
use Rattle.std.proofs.Common.{◌≡◌, List, ℕ, refl, ap, sym, subst, ◌∙◌, Result, Ok, Err}
use Rattle.ntfs_base.specs.Frames.{Origin, IsSettled, Puts, PutsPrefix, bytes_in, refused_as, without_bytes}
use Rattle.ntfs_base.specs.Sink.{SinkState, after_put}

pub puts_by : {E : Type 0} (origin : E → Origin) (a b : Result (List ℕ) E) (old : SinkState) (result : Result (Unit {0}) E) (new : SinkState) → a ≡ b
    → Puts origin b old result new → Puts origin a old result new
puts_by {E = E} origin a b old result new is = subst (λ (e : Result (List ℕ) E). Puts origin e old result new) (sym is)

bytes_refused : {E F : Type 0} (over : E → F) (expected : Result (List ℕ) E) → bytes_in expected ≡ bytes_in (refused_as over expected)
bytes_refused over (Ok bytes) = refl
bytes_refused over (Err fault) = refl

answer_refused : {E F : Type 0} (over : E → F) (fault : E) (expected : Result (List ℕ) E) → Err fault ≡ without_bytes expected → Err (over fault) ≡ without_bytes (refused_as over expected)
answer_refused over fault (Ok bytes) is = absurd cc
answer_refused over fault (Err other) is = let same : fault ≡ other = cc in ap (λ e. Err (over e)) same

-- what a callee puts before it refuses, for its caller
pub puts_refused : {E F : Type 0} (inner : E → Origin) (outer : F → Origin) (over : E → F) → ((e : E) → outer (over e) ≡ inner e)
    → (expected : Result (List ℕ) E) (old : SinkState) (fault : E) (new : SinkState) → Puts inner expected old (Err fault) new
    → Puts outer (refused_as over expected) old (Err (over fault)) new
puts_refused inner outer over same expected old fault new puts = record {
  answer = λ settled. answer_refused over fault expected (puts.answer (subst IsSettled (same fault) settled));
  output = λ settled. puts.output (subst IsSettled (same fault) settled) ∙ ap (λ bytes. after_put bytes old) (bytes_refused over expected);
  prefix = subst (λ bytes. PutsPrefix bytes old new) (bytes_refused over expected) puts.prefix;
}
