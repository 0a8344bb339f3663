use Rattle.std.proofs.Common.{◌≡◌, ◌+◌, ◌≤◌, length}
use Rattle.ntfs_index.specs.Fetches.{IfBlocks}
use Rattle.ntfs_index.specs.Most.{path_most}
use Rattle.ntfs_index.specs.Path.{IsPath, asks_left, left_of_path, turns_left}
use Rattle.ntfs_index.proofs.walk.advance.Given as goal

abbrev pub invariant-turns : goal.invariant-turns
invariant-turns g l = record {
  path : IsPath l.path;
  left : IfBlocks g.B.Blocks l.blocks (λ map. left_of_path map l.initial.path ≡ left_of_path map l.path);
  seen : g.B.Blocks.seen l.blocks ≡ g.B.Blocks.seen l.initial.blocks;
  faults : g.B.Blocks.faults l.initial.blocks ≤ g.B.Blocks.faults l.blocks;
  asks : g.B.Blocks.asked l.blocks + asks_left l.path ≤ g.B.Blocks.asked l.initial.blocks + asks_left l.initial.path;
  once : g.B.Blocks.asked l.blocks + length l.initial.path.met.keys
      ≤ g.B.Blocks.asked l.initial.blocks + length l.path.met.keys;
  most : path_most l.path ≤ path_most l.initial.path;
  key : l.key.items ≡ l.initial.key.items;
}

abbrev pub decreases-turns : goal.decreases-turns
decreases-turns g l = turns_left l.path
