-- How a volume is walked while it is saved, and what waits to be put. The words are ours.
use Rattle.std.specs.Prelude.{◌≡◌, ◌≤◌, ◌<◌, ◌+◌, ◌==◌, ℕ, zero, suc, Bool, true, false, List, [], ◌∷◌, ◌++◌, IfErr, OnErr, OnOk, Result, if◌then◌else◌}
use Rattle.ntfs_base.specs.Bytes.{cluster_at}
use Rattle.ntfs_base.specs.Causes.{Rose}
use Rattle.ntfs_base.specs.Frames.{Because, PutsPrefix, SinkHasNotFallen}
use Rattle.ntfs_base.specs.Sink.{SinkState, after_put}
use Rattle.ntfs_base.specs.declared.sink.Sink as sink
use Rattle.ntfs_clone.specs.declared.fault.CloneFault.{CloneFault}
use Rattle.ntfs_clone.specs.declared.stretch.Stretch.{Stretch}
use Rattle.ntfs_clone.specs.Commands.{command_bytes, gap}
use Rattle.ntfs_clone.specs.Fault.{clone_origin}

-- from a cluster on the clusters up to a place are owned, and those from there up to an end aren't, as many as there
-- are
pub record IsOwnedStretch (owned : ℕ → Bool) (clusters from : ℕ) (stretch : Stretch) : Type 0 where
  pub order : from ≤ stretch.free
  pub behind : stretch.free ≤ stretch.end
  pub within : stretch.end ≤ clusters
  pub some : from < stretch.end
  pub is_owned : (k : ℕ) → from ≤ k → k < stretch.free → owned k ≡ true
  pub is_free : (k : ℕ) → stretch.free ≤ k → k < stretch.end → owned k ≡ false
  pub whole : stretch.end < clusters → owned stretch.end ≡ true

-- so many clusters from one on as commands are spelled: before the bytes of each a byte 1
abbrev pub spelled_row : List ℕ → ℕ → ℕ → ℕ → List ℕ
spelled_row image c from zero = []
spelled_row image c from (suc n) = spelled_row image c from n ++ (1 ∷ cluster_at image c (from + n))

-- the command of so many clusters that are left out; none where there are none
abbrev pub spelled_gap : ℕ → List ℕ
spelled_gap count = if count == 0 then [] else command_bytes (gap count)

-- these bytes were saved to a sink that was as it was before: a front of them was put, and the rest waits
pub record IsSaved (saved : List ℕ) (before : SinkState) (waiting : List ℕ) (after : SinkState) : Type 0 where
  pub front : List ℕ
  pub parts : saved ≡ front ++ waiting
  pub put : after ≡ after_put front before

-- a call that had to save these bytes behind those that waited did, or, where it failed, a prefix of both was put
pub record Saves {T E : Type 0} (bytes waiting : List ℕ) (before : SinkState) (result : Result T E) (held : List ℕ)
    (after : SinkState) : Type 0 where
  pub whole : OnOk result (IsSaved (waiting ++ bytes) before held after)
  pub part : OnErr result (PutsPrefix (waiting ++ bytes) before after)

-- some bytes were put, and all else is as before
pub record HasPut (old new : SinkState) : Type 0 where
  pub bytes : List ℕ
  pub put : new ≡ after_put bytes old

-- a call over a sink that takes memory too: want of memory needs no cause
pub record OnlySaves {K T : Type 0} (k : sink.Ghosts K) (before after : K) (result : Result T CloneFault) : Type 0 where
  pub puts : SinkHasNotFallen (k.faults before) (k.faults after)
  pub cause : IfErr result (λ fault. Because (clone_origin fault) ⊥
      (Rose (k.faults before).failures (k.faults after).failures) (Unit {0}))
