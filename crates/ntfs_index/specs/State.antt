-- A walk as contracts see it: what it has left over each map of blocks, the last key, and the fault that it has
-- answered. The words are ours.
use Rattle.std.specs.Prelude.{◌≡◌, ℕ, List, [], Option, Some, None, Result, Ok, Err}
use Rattle.ntfs_base.specs.Frames.{IsSettled}
use Rattle.ntfs_index.specs.Blocks.{BlockMap}
use Rattle.ntfs_index.specs.Fetches.{index_origin}
use Rattle.ntfs_index.specs.Most.{most_left}
use Rattle.ntfs_index.specs.Node.{Visit}
use Rattle.ntfs_index.specs.Walk.{Listing, before, listing}
use Rattle.ntfs_index.specs.Path.{left_of_nodes, nothing, only_fault}
use Rattle.ntfs_index.specs.declared.entry.Entry.{Entry}
use Rattle.ntfs_index.specs.declared.fault.IndexFault.{IndexFault}

pub record WalkState : Type 0 where
  -- the size of the blocks
  pub size : ℕ
  -- what is left of the present node, and of the nodes above it, from the root on
  pub present : List Visit
  pub above : List (List Visit)
  -- the VCNs of the blocks that were met, ascending
  pub met : List ℕ
  -- the key of the last entry; empty before the first
  pub key : List ℕ
  -- the fault that was answered
  pub fault : Option IndexFault

-- what is left of the walk over these blocks
abbrev pub left : WalkState → BlockMap → Listing
left state blocks = listing (left_of_nodes blocks state.present state.above state.met)

-- how many entries the walk can still give at most, over whatever blocks: the measure of a loop to its end
abbrev pub entries_most : WalkState → ℕ
entries_most state = most_left state.present state.above state.met

-- where an entry is given
abbrev pub IfGiven : {E : Type 0} → Result (Option Entry) E → Type 0 → Type 0
IfGiven (Ok (Some entry)) is = is
IfGiven (Ok None) is = Unit {0}
IfGiven (Err fault) is = Unit {0}

-- a walk over blocks of this size has met no block, shown no key and answered no fault
pub record IsBegun (size : ℕ) (state : WalkState) : Type 0 where
  pub sized : state.size ≡ size
  pub none : state.met ≡ []
  pub shows : state.key ≡ []
  pub sound : state.fault ≡ None

-- an answer by what was left before and what is left then, with the key that is shown then: the next entry; nothing,
-- where the walk is whole; else the fault that comes next
abbrev pub IsNext : Listing → Result (Option Entry) IndexFault → Listing → List ℕ → Type 0
IsNext old (Ok (Some entry)) new key = old ≡ before (record { reference = entry.reference; key = key }) new
IsNext old (Ok None) new key = (old ≡ nothing) × (new ≡ nothing)
IsNext old (Err fault) new key = IsSettled (index_origin fault) → old ≡ only_fault fault

-- the key stays unless an entry is given
abbrev pub ShowsKey : Result (Option Entry) IndexFault → List ℕ → List ℕ → Type 0
ShowsKey (Ok (Some entry)) old new = Unit {0}
ShowsKey (Ok None) old new = new ≡ old
ShowsKey (Err fault) old new = new ≡ old
