-- How a printing goes on or stops that is put by way of a buffer. The words are ours.
use Rattle.std.specs.Prelude.{◌≡◌, ◌++◌, List, ℕ, Result, Ok, Err}
use Rattle.ntfs_base.specs.Frames.{IsSettled}
use Rattle.ntfs_base.specs.Sink.{SinkState, after_put}
use Rattle.ntfs_print.specs.Fault.{show_origin}
use Rattle.ntfs_print.specs.Printing.{Printing, before, stops}
use Rattle.ntfs_print.specs.declared.fault.ShowFault.{ShowFault}

-- a front of what was to be printed was put, and the rest is left; each by whatever is around
pub record Goes {I : Type 0} (told : Type 0) (old new : I → Printing ShowFault) (was now : SinkState) : Type 0 where
  pub front : List ℕ
  pub put : now ≡ after_put front was
  pub rest : told → (i : I) → old i ≡ before front (new i)

-- a front was put and some waits when it stops; that is all, and the refusal comes then, unless the work was cut off
pub record Stops {I : Type 0} (told : Type 0) (old : I → Printing ShowFault) (fault : ShowFault) (was : SinkState)
    (waiting : List ℕ) (now : SinkState) : Type 0 where
  pub front : List ℕ
  pub put : now ≡ after_put front was
  pub cut : told → (i : I) → (rest : List ℕ) × ((old i).output ≡ (front ++ waiting) ++ rest)
  pub end : told → IsSettled (show_origin fault) → (i : I) → old i ≡ before (front ++ waiting) (stops fault)

-- one of both, by the answer
abbrev pub ListsOrStops : {T I : Type 0} → Type 0 → (I → Printing ShowFault) → SinkState → Result T ShowFault
    → (T → I → Printing ShowFault) → List ℕ → SinkState → Type 0
ListsOrStops told old was (Ok x) new waiting now = Goes told old (new x) was now
ListsOrStops told old was (Err fault) new waiting now = Stops told old fault was waiting now
