-- What is printed by way of a buffer: a front of it is on the sink, and the rest waits. The words are ours.
use Rattle.std.specs.Prelude.{◌≡◌, ℕ, List, ◌++◌, IfErr, OnErr, OnOk, Result}
use Rattle.ntfs_base.specs.Causes.{Rose}
use Rattle.ntfs_base.specs.Frames.{Because, Origin, PutsPrefix, SinkHasNotFallen}
use Rattle.ntfs_base.specs.Sink.{SinkState, after_put}
use Rattle.ntfs_base.specs.declared.fault.PutFault.{PutFault}
use Rattle.ntfs_base.specs.declared.sink.Sink as sink
use Rattle.ntfs_print.specs.Fault.{show_fault, show_origin}

-- where a refusal of the sink comes from
abbrev pub put_origin : PutFault → Origin
put_origin fault = show_origin (show_fault fault)

-- these bytes were printed to a sink that was as it was before: a front of them was put, and the rest waits
pub record IsPrinted (printed : List ℕ) (before : SinkState) (waiting : List ℕ) (after : SinkState) : Type 0 where
  pub front : List ℕ
  pub parts : printed ≡ front ++ waiting
  pub put : after ≡ after_put front before

-- a call that had to print these bytes behind those that waited did, or, where it was refused, a prefix of both was put
pub record Pushes {T E : Type 0} (text waiting : List ℕ) (before : SinkState) (result : Result T E) (held : List ℕ)
    (after : SinkState) : Type 0 where
  pub whole : OnOk result (IsPrinted (waiting ++ text) before held after)
  pub part : OnErr result (PutsPrefix (waiting ++ text) before after)

-- a call over a sink that takes memory too: want of memory needs no cause
pub record OnlyPrints {K T E : Type 0} (k : sink.Ghosts K) (origin : E → Origin) (before after : K)
    (result : Result T E) : Type 0 where
  pub puts : SinkHasNotFallen (k.faults before) (k.faults after)
  pub cause : IfErr result (λ fault. Because (origin fault) ⊥
      (Rose (k.faults before).failures (k.faults after).failures) (Unit {0}))
