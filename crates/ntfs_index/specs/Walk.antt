-- The walk of an index: the entries of its tree of nodes in order, and whether it was whole or met a fault. The second
-- of two steps, over what is met in each node (`Node`). On entering a node the depth comes first, then rules 6, 7, 1,
-- 2, 3; at an entry rules 4 and 5, its child, and then itself; the child of the entry that ends a node comes last (the
-- Linux-NTFS documentation, "B*Trees" and "Directory"; rules and words are ours). A walk depends on the root's bytes,
-- the blocks and their size, and on nothing else.
use Rattle.std.specs.Prelude.{◌==◌, ◌++◌, ℕ, zero, suc, Bool, List, [], ◌∷◌, Option, Some, None, Result, Ok, Err, if◌then◌else◌}
use Rattle.std.specs.List.{list_any}
use Rattle.ntfs_index.specs.Blocks.{BlockMap, allocation_blocks}
use Rattle.ntfs_index.specs.Node.{IndexEntry, Visit, Child, Own, Damage, visits, root_node, root_vcn, block_node}
use Rattle.ntfs_index.specs.declared.fault.IndexFault.{IndexFault}
use Rattle.ntfs_index.specs.declared.fault.IndexFault.TheVariants.{BadNode, TooDeep}

-- a walk: an entry and what follows it; or its end, whole or by a fault, with the VCNs of the blocks that it met, in
-- order
pub data Walked : Type 0 where
  Gave : IndexEntry → Walked → Walked
  Whole : List ℕ → Walked
  Broke : List ℕ → IndexFault → Walked

-- what a walk shows: its entries, and the fault at its end; none where it is whole
pub record Listing : Type 0 where
  pub entries : List IndexEntry
  pub fault : Option IndexFault

abbrev pub before : IndexEntry → Listing → Listing
before entry rest = record { entries = entry ∷ rest.entries; fault = rest.fault }

abbrev pub listing : Walked → Listing
listing (Gave entry rest) = before entry (listing rest)
listing (Whole met) = record { entries = []; fault = None }
listing (Broke met fault) = record { entries = []; fault = Some fault }

-- the VCNs of the blocks that it met
abbrev pub blocks_met : Walked → List ℕ
blocks_met (Gave entry rest) = blocks_met rest
blocks_met (Whole met) = met
blocks_met (Broke met fault) = met

-- a walk, and after it, where it is whole, another one, with the blocks met so far
abbrev pub and_then : Walked → (List ℕ → Walked) → Walked
and_then (Gave entry rest) next = Gave entry (and_then rest next)
and_then (Whole met) next = next met
and_then (Broke met fault) next = Broke met fault

abbrev pub is_met : ℕ → List ℕ → Bool
is_met vcn met = list_any (λ m. vcn == m) met

-- what is met in a node, in order, where `enter` walks a child with the blocks met so far
abbrev pub walk_visits : (List ℕ → ℕ → Walked) → List Visit → List ℕ → Walked
walk_visits enter [] met = Whole met
walk_visits enter (Child vcn ∷ rest) met = and_then (enter met vcn) (walk_visits enter rest)
walk_visits enter (Own entry ∷ rest) met = Gave entry (walk_visits enter rest met)
walk_visits enter (Damage fault ∷ rest) met = Broke met fault

-- a node by the bytes of its entries, or by the rule that it breaks
abbrev pub walk_node : (List ℕ → ℕ → Walked) → ℕ → List ℕ → Result (List ℕ) IndexFault → Walked
walk_node enter vcn met (Ok entries) = walk_visits enter (visits vcn 0 entries) met
walk_node enter vcn met (Err fault) = Broke met fault

-- the node of a VCN, with so many levels left: too deep; else met already, rule 6; else its block, which is met now
abbrev pub walk_child : BlockMap → ℕ → List ℕ → ℕ → Walked
walk_child blocks zero met vcn = Broke met TooDeep
walk_child blocks (suc levels) met vcn =
    if is_met vcn met then Broke met (BadNode vcn 6)
    else walk_node (walk_child blocks levels) vcn (met ++ vcn ∷ []) (block_node blocks vcn)

-- the index of a root, over these blocks of a size: 16 levels at most
unfoldable pub walk : ℕ → List ℕ → BlockMap → Walked
walk size root blocks = walk_node (walk_child blocks 15) root_vcn [] (root_node size root)

-- the index of a root and the bytes of an allocation, on a volume of this cluster and block size
unfoldable pub walk_allocation : ℕ → ℕ → List ℕ → List ℕ → Walked
walk_allocation cluster size root bytes = walk size root (allocation_blocks cluster size bytes)
