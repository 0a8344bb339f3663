-- What a spelling that is being written stands for; the words of this file are ours.
use Rattle.std.specs.Prelude.{◌≡◌, ◌+◌, ◌≤◌, ◌^◌, ℕ, List, [], ◌∷◌, ◌++◌, length, take, drop, Option, Some, None, IfSome, if◌then◌else◌}
use Rattle.ntfs_runs.specs.declared.run.Run.{Run}
use Rattle.ntfs_runs.specs.declared.writer.Writer.{Writer}
use Rattle.ntfs_runs.specs.Canon.{goes_on, both, text_from}

-- the bytes with a text written at a place
abbrev pub put : List ℕ → ℕ → List ℕ → List ℕ
put text place bytes = take place bytes ++ text ++ drop (place + length text) bytes

-- a pending run and the runs that follow it, joined from left to right
abbrev pub join_onto : Run → List Run → List Run
join_onto pending [] = pending ∷ []
join_onto pending (run ∷ runs) =
    if goes_on pending run then join_onto (both pending run) runs else pending ∷ join_onto run runs

-- the same where no run may be pending yet
abbrev pub joined_from : Option Run → List Run → List Run
joined_from None [] = []
joined_from None (run ∷ runs) = join_onto run runs
joined_from (Some pending) runs = join_onto pending runs

-- the whole spelling if these runs follow: what is written, and the text of what is pending and what follows
unfoldable pub promise_of : Writer → List ℕ → List Run → List ℕ
promise_of writer bytes runs = take writer.at bytes ++ text_from writer.last (joined_from writer.pending runs)

-- a run whose pair can be written
abbrev pub IsSmall : Run → Type 0
IsSmall run = (run.length ≤ 2 ^ 48) × IfSome run.lcn (λ lcn. lcn ≤ 2 ^ 48)

-- the length of the run that waits
abbrev pub waiting_of : Option Run → ℕ
waiting_of None = 0
waiting_of (Some run) = run.length

-- a writer within its bytes
pub record IsSound (writer : Writer) (bytes : List ℕ) : Type 0 where
  pub at : writer.at ≤ length bytes
  pub last : writer.last ≤ 2 ^ 48
  pub pending : IfSome writer.pending IsSmall

-- a writer took a run: for whatever follows it promises what it promised before for this run and what follows, and has
-- changed nothing behind its place
pub record Adds (old new : Writer) (before after : List ℕ) (run : Run) : Type 0 where
  pub sound : IsSound new after
  pub same : (runs : List Run) → promise_of new after runs ≡ promise_of old before (run ∷ runs)
  pub rest : drop new.at after ≡ drop new.at before
  pub on : old.at ≤ new.at
  pub waits : waiting_of new.pending ≤ waiting_of old.pending + run.length
