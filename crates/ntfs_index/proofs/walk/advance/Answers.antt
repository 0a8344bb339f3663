use Rattle.std.proofs.Common.{◌≡◌, ◌∙◌, arith}
use Rattle.ntfs_index.specs.Path.{left_of_path}
use Rattle.ntfs_index.proofs.WalkStateLemmas.{blocks_still}
use Rattle.ntfs_index.proofs.walk.advance.Goals as goal

pub turns-preserved : goal.turns-preserved
turns-preserved g c =
    let turned = c.in_ok-reference.ensures in
    let moves = rw c.in-Moved.is at turned.moves in
    let shown = rw c.in-Moved.is at turned.key in
    record {
      path = turned.path;
      left = blocks_still g.B.Blocks c.turns.blocks c.take_turn.new.blocks (λ map. left_of_path map c.args.path.now
          ≡ left_of_path map c.take_turn.new.self) turned.fetches.seen
          (λ told. c.turns.invariant.left told ∙ (rw c.in-Moved.is at (turned.told told)));
      seen = turned.fetches.seen ∙ c.turns.invariant.seen;
      faults = omega (arith, turned.fetches.counts, c.turns.invariant.faults);
      asks = omega (arith, moves.1, c.turns.invariant.asks);
      once = omega (arith, turned.once, c.turns.invariant.once);
      most = omega (arith, turned.most, c.turns.invariant.most);
      key = shown ∙ c.turns.invariant.key;
    }
