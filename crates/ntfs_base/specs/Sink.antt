-- What contracts see of a sink of bytes. The words are ours.
use Rattle.std.specs.Prelude.{◌≡◌, ◌≤◌, ℕ, Bool, List, ◌++◌, length, take, OnOk, OnErr, Result, if◌then◌else◌}
use Rattle.ntfs_base.specs.declared.fault.PutFault.{PutFault}
use Rattle.ntfs_base.specs.declared.fault.PutFault.TheVariants as put

pub record SinkState : Type 0 where
  -- whether the content is told
  pub is_told : Bool
  -- the bytes that were put, where they are told
  pub content : List ℕ
  -- its name, as an image has it
  pub name : List ℕ

-- the sink after it has taken these bytes
unfoldable pub after_put : List ℕ → SinkState → SinkState
after_put bytes sink = record sink { content = if sink.is_told then sink.content ++ bytes else sink.content }

-- a call that had to put these bytes put all of them, or, where it was refused, a front
pub record Put {T E : Type 0} (bytes : List ℕ) (old : SinkState) (result : Result T E) (new : SinkState) : Type 0 where
  pub whole : OnOk result (new ≡ after_put bytes old)
  pub part : OnErr result ((k : ℕ) × (k ≤ length bytes) × (new ≡ after_put (take k bytes) old))

-- where memory was wanting, nothing was put
abbrev pub PutsNothing : PutFault → SinkState → SinkState → Type 0
PutsNothing put.Failed old new = Unit {0}
PutsNothing put.NoMemory old new = new ≡ old
