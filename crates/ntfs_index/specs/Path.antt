-- Open nodes, and the path of them from the root on: what each has left, and what is left of the walk. The words are
-- ours.
use Rattle.std.specs.Prelude.{◌≡◌, ◌+◌, ◌-◌, ◌<◌, ◌≤◌, ◌++◌, ℕ, true, false, List, [], ◌∷◌, length, drop, map, Result, Ok, Err, Some, None, if◌then◌else◌}
use Rattle.ntfs_base.specs.Frames.{IsSettled}
use Rattle.ntfs_index.specs.Blocks.{BlockMap}
use Rattle.ntfs_index.specs.Node.{Visit, block_node}
use Rattle.ntfs_index.specs.Entry.{visits_left}
use Rattle.ntfs_index.specs.Fetches.{index_origin}
use Rattle.ntfs_index.specs.Walk.{Walked, Whole, Listing, before, listing, and_then, is_met, walk_visits, walk_child}
use Rattle.ntfs_index.specs.declared.fault.IndexFault.{IndexFault}
use Rattle.ntfs_index.specs.declared.node.OpenNode.{OpenNode}
use Rattle.ntfs_index.specs.declared.path.Path.{Path}
use Rattle.ntfs_index.specs.declared.path.Turn.{Turn}
use Rattle.ntfs_index.specs.declared.path.Turn.TheVariants as turn

-- the bytes in use of a node, from its present entry on
abbrev pub entry_at : OpenNode → List ℕ
entry_at node = drop node.place node.bytes.items

-- what is left of a node
abbrev pub left_in : OpenNode → List Visit
left_in node = visits_left node.vcn node.entered (entry_at node)

-- the node of a VCN stands at an entry whose child wasn't entered
pub record IsFirst (vcn : ℕ) (node : OpenNode) : Type 0 where
  pub bears : node.vcn ≡ vcn
  pub first : node.entered ≡ false

-- the node has gone on by so many bytes
pub record IsPassed (old : OpenNode) (len : ℕ) (new : OpenNode) : Type 0 where
  pub bears : new.vcn ≡ old.vcn
  pub first : new.entered ≡ false
  pub rest : entry_at new ≡ drop len (entry_at old)

-- ---- what is left of a walk, by what is left of its nodes and by the blocks that it met

-- after the present node, of the nodes above it, from the first of them on, which has so many levels below it
abbrev pub left_above : BlockMap → ℕ → List (List Visit) → List ℕ → Walked
left_above blocks levels [] met = Whole met
left_above blocks levels (node ∷ above) met =
    and_then (left_above blocks (levels - 1) above met) (walk_visits (walk_child blocks levels) node)

-- of the present node, and then of those above it, from the root on
abbrev pub left_of_nodes : BlockMap → List Visit → List (List Visit) → List ℕ → Walked
left_of_nodes blocks present above met =
    and_then (walk_visits (walk_child blocks (15 - length above)) present met) (left_above blocks 15 above)

abbrev pub left_of_path : BlockMap → Path → Listing
left_of_path blocks path =
    listing (left_of_nodes blocks (left_in path.present) (map left_in path.above.items) path.met.keys)

-- ---- one path

-- a child was entered in each of these nodes
abbrev pub AreEntered : List OpenNode → Type 0
AreEntered [] = Unit {0}
AreEntered (node ∷ nodes) = (node.entered ≡ true) × AreEntered nodes

-- 16 nodes at most, and the child of each but the present one was entered
pub record IsPath (path : Path) : Type 0 where
  pub few : length path.above.items ≤ 15
  pub entered : AreEntered path.above.items

-- the present node has become the child of what it was
pub record IsDown (old new : Path) : Type 0 where
  pub above : new.above.items ≡ old.above.items ++ record old.present { entered = true } ∷ []
  pub first : new.present.entered ≡ false

-- the present node has become the node above it
pub record IsUp (old new : Path) : Type 0 where
  pub above : old.above.items ≡ new.above.items ++ new.present ∷ []
  pub entered : new.present.entered ≡ true

-- the present node is the root, and stays so
pub record IsAtRoot (old new : Path) : Type 0 where
  pub none : old.above.items ≡ []
  pub still : new.above.items ≡ []
  pub same : new.present ≡ old.present

-- both lists have the same VCNs
pub record SameMet (a b : List ℕ) : Type 0 where
  pub alike : (vcn : ℕ) → is_met vcn a ≡ is_met vcn b

-- the child of a VCN was entered, and met thereby
pub record IsIn (blocks : BlockMap) (vcn : ℕ) (old new : Path) : Type 0 where
  pub within : length old.above.items < 15
  pub twice : is_met vcn old.met.keys ≡ false
  pub met : SameMet (old.met.keys ++ vcn ∷ []) new.met.keys
  pub node : block_node blocks vcn ≡ Ok (entry_at new.present)
  pub bears : new.present.vcn ≡ vcn

-- how many turns can follow without an entry: down to a leaf and up again
abbrev pub turns_left : Path → ℕ
turns_left path = if path.present.entered then length path.above.items else 33 - length path.above.items

-- how many blocks can be asked for without an entry: none on the way up
abbrev pub asks_left : Path → ℕ
asks_left path = if path.present.entered then 0 else 15 - length path.above.items

-- ---- a walk that has nothing left, or meets a fault next

abbrev pub nothing : Listing
nothing = record { entries = []; fault = None }

abbrev pub only_fault : IndexFault → Listing
only_fault fault = record { entries = []; fault = Some fault }

-- the child of a VCN was entered, or its walk is nothing but this fault
abbrev pub IsEntered : BlockMap → ℕ → Path → Result (Unit {0}) IndexFault → Path → Type 0
IsEntered blocks vcn old (Ok done) new = IsIn blocks vcn old new
IsEntered blocks vcn old (Err fault) new =
    IsSettled (index_origin fault)
    → listing (walk_child blocks (15 - length old.above.items) old.met.keys vcn) ≡ only_fault fault

-- what a turn of a walk over these blocks has done, with the key that it shows then
abbrev pub IsTurn : BlockMap → Path → Result Turn IndexFault → Path → List ℕ → Type 0
IsTurn blocks old (Ok (turn.Gave reference)) new key =
    left_of_path blocks old ≡ before (record { reference = reference; key = key }) (left_of_path blocks new)
IsTurn blocks old (Ok turn.Moved) new key = left_of_path blocks old ≡ left_of_path blocks new
IsTurn blocks old (Ok turn.Ended) new key = (left_of_path blocks old ≡ nothing) × (left_of_path blocks new ≡ nothing)
IsTurn blocks old (Err fault) new key = IsSettled (index_origin fault) → left_of_path blocks old ≡ only_fault fault

-- the key stays unless an entry is given
abbrev pub KeepsKey : Result Turn IndexFault → List ℕ → List ℕ → Type 0
KeepsKey (Ok (turn.Gave reference)) old new = Unit {0}
KeepsKey (Ok turn.Moved) old new = new ≡ old
KeepsKey (Ok turn.Ended) old new = new ≡ old
KeepsKey (Err fault) old new = new ≡ old

-- the path has moved: fewer turns and fewer blocks are left
abbrev pub HasMoved : Result Turn IndexFault → Path → Path → ℕ → ℕ → Type 0
HasMoved (Ok (turn.Gave reference)) old new before after = Unit {0}
HasMoved (Ok turn.Moved) old new before after =
    (turns_left new < turns_left old) × (after + asks_left new ≤ before + asks_left old)
HasMoved (Ok turn.Ended) old new before after = Unit {0}
HasMoved (Err fault) old new before after = Unit {0}
