-- What an index is: a root and blocks that form a tree without damage, in which no block stands twice. Its entries are
-- those of the tree in order. Three plain recursions, in which no walk is. (The Linux-NTFS documentation, "B*Trees" and
-- "Directory"; the words are ours.)
use Rattle.std.specs.Prelude.{◌≡◌, ◌++◌, ℕ, zero, suc, false, List, [], ◌∷◌, Result, Ok, Err}
use Rattle.ntfs_index.specs.Blocks.{BlockMap}
use Rattle.ntfs_index.specs.Node.{IndexEntry, Visit, Child, Own, Damage, visits, root_node, root_vcn, block_node}
use Rattle.ntfs_index.specs.Walk.{is_met}
use Rattle.ntfs_index.specs.declared.fault.IndexFault.{IndexFault}

-- what is met in a node, where there is one
abbrev pub visits_in : ℕ → Result (List ℕ) IndexFault → List Visit
visits_in vcn (Ok entries) = visits vcn 0 entries
visits_in vcn (Err fault) = Damage fault ∷ []

-- ---- the entries of the tree, in order

abbrev pub entries_among : (ℕ → List IndexEntry) → List Visit → List IndexEntry
entries_among below [] = []
entries_among below (Child vcn ∷ rest) = below vcn ++ entries_among below rest
entries_among below (Own entry ∷ rest) = entry ∷ entries_among below rest
entries_among below (Damage fault ∷ rest) = []

-- those of the block of a VCN and of its children, down to so many levels
abbrev pub entries_below : BlockMap → ℕ → ℕ → List IndexEntry
entries_below blocks zero vcn = []
entries_below blocks (suc levels) vcn =
    entries_among (entries_below blocks levels) (visits_in vcn (block_node blocks vcn))

unfoldable pub index_entries : ℕ → List ℕ → BlockMap → List IndexEntry
index_entries size root blocks = entries_among (entries_below blocks 15) (visits_in root_vcn (root_node size root))

-- ---- the blocks of the tree, each before its children

abbrev pub blocks_among : (ℕ → List ℕ) → List Visit → List ℕ
blocks_among below [] = []
blocks_among below (Child vcn ∷ rest) = below vcn ++ blocks_among below rest
blocks_among below (Own entry ∷ rest) = blocks_among below rest
blocks_among below (Damage fault ∷ rest) = []

abbrev pub blocks_below : BlockMap → ℕ → ℕ → List ℕ
blocks_below blocks zero vcn = []
blocks_below blocks (suc levels) vcn =
    vcn ∷ blocks_among (blocks_below blocks levels) (visits_in vcn (block_node blocks vcn))

unfoldable pub index_blocks : ℕ → List ℕ → BlockMap → List ℕ
index_blocks size root blocks = blocks_among (blocks_below blocks 15) (visits_in root_vcn (root_node size root))

-- ---- no damage in the tree

abbrev pub AreUndamaged : (ℕ → Type 0) → List Visit → Type 0
AreUndamaged below [] = Unit {0}
AreUndamaged below (Child vcn ∷ rest) = below vcn × AreUndamaged below rest
AreUndamaged below (Own entry ∷ rest) = AreUndamaged below rest
AreUndamaged below (Damage fault ∷ rest) = ⊥

-- neither in the block of a VCN nor in its children, of which no more than so many levels are there
abbrev pub IsUndamaged : BlockMap → ℕ → ℕ → Type 0
IsUndamaged blocks zero vcn = ⊥
IsUndamaged blocks (suc levels) vcn = AreUndamaged (IsUndamaged blocks levels) (visits_in vcn (block_node blocks vcn))

-- ---- no block stands twice

abbrev pub AreDistinct : List ℕ → Type 0
AreDistinct [] = Unit {0}
AreDistinct (vcn ∷ rest) = (is_met vcn rest ≡ false) × AreDistinct rest

-- ---- the whole

-- root and blocks form an index: 16 levels at most without damage, and no block twice
pub record IsIndex (size : ℕ) (root : List ℕ) (blocks : BlockMap) : Type 0 where
  pub sound : AreUndamaged (IsUndamaged blocks 15) (visits_in root_vcn (root_node size root))
  pub distinct : AreDistinct (index_blocks size root blocks)
