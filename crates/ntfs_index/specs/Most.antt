-- How many entries a walk can still give at most, over whatever blocks: those of the nodes that it is in, and as many
-- for each block that it hasn't met as a block has bytes at most. A set has fewer than 2^63 blocks. The words are ours.
use Rattle.std.specs.Prelude.{◌+◌, ◌-◌, ◌*◌, ◌^◌, ℕ, List, [], ◌∷◌, length, map, Result, Ok, Err}
use Rattle.ntfs_index.specs.Laws.{own_entries}
use Rattle.ntfs_index.specs.Node.{Visit}
use Rattle.ntfs_index.specs.Path.{left_in}
use Rattle.ntfs_index.specs.declared.fault.IndexFault.{IndexFault}
use Rattle.ntfs_index.specs.declared.path.Path.{Path}
use Rattle.ntfs_index.specs.declared.path.Turn.{Turn}
use Rattle.ntfs_index.specs.declared.path.Turn.TheVariants as turn

-- how many entries are left in a node
abbrev pub entries_in_node : List Visit → ℕ
entries_in_node node = length (own_entries node)

-- and in the nodes above
abbrev pub entries_above : List (List Visit) → ℕ
entries_above [] = 0
entries_above (node ∷ above) = entries_in_node node + entries_above above

-- how many can be given at most, by what is left of the present node and of those above it and by the blocks met
unfoldable pub most_left : List Visit → List (List Visit) → List ℕ → ℕ
most_left present above met =
    entries_in_node present + entries_above above + (2 ^ 63 - length met) * 65536

abbrev pub path_most : Path → ℕ
path_most path = most_left (left_in path.present) (map left_in path.above.items) path.met.keys

-- where a turn gave an entry
abbrev pub IfGave : Result Turn IndexFault → Type 0 → Type 0
IfGave (Ok (turn.Gave reference)) is = is
IfGave (Ok turn.Moved) is = Unit {0}
IfGave (Ok turn.Ended) is = Unit {0}
IfGave (Err fault) is = Unit {0}
