-- What is left of a walk that begins, and of one over blocks that stay.
use Rattle.std.proofs.Common.{◌≡◌, ℕ, List, [], Ok, false, IsTrue, sym, ap, subst}
use Rattle.ntfs_index.specs.Blocks.{BlockMap, BlocksState}
use Rattle.ntfs_index.specs.Fetches.{IfBlocks}
use Rattle.ntfs_index.specs.Node.{root_node, root_vcn}
use Rattle.ntfs_index.specs.Entry.{visits_left}
use Rattle.ntfs_index.specs.Walk.{listing, walk, walk_visits, walk_child}
use Rattle.ntfs_index.specs.Path.{IsFirst, entry_at, left_in, left_of_nodes}
use Rattle.ntfs_index.specs.declared.blocks.Blocks as blocks
use Rattle.ntfs_index.specs.declared.node.OpenNode.{OpenNode}
use Rattle.ntfs_index.proofs.WalkLemmas.{and_then-whole}
use Rattle.ntfs_index.proofs.NodeLemmas.{visits-left}

-- at the root's first entry the whole walk is left
pub left-begun : (size : ℕ) (root : List ℕ) (node : OpenNode) → root_node size root ≡ Ok (entry_at node)
    → IsFirst root_vcn node
    → (blocks : BlockMap) → listing (left_of_nodes blocks (left_in node) [] []) ≡ listing (walk size root blocks)
unfolding walk
left-begun size root node is first blocks =
    let bears = first.bears in
    let start = first.first in
    let whole = and_then-whole (walk_visits (walk_child blocks 15) (visits_left root_vcn false (entry_at node)) []) in
    rw (bears, start, is, visits-left root_vcn (entry_at node)) (ap listing whole)

-- what holds of a map that is told holds where the same is seen
pub blocks_still : {B : Type 0} (b : blocks.Ghosts B) (old new : B) (P : BlockMap → Type 0) → b.seen new ≡ b.seen old
    → IfBlocks b old P → IfBlocks b new P
blocks_still b old new P same is = subst (λ (s : BlocksState). IsTrue s.is_told → P s.blocks) (sym same) is
