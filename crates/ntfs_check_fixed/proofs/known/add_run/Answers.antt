use Rattle.std.proofs.Common.{◌+◌, arith, refl}
use Rattle.ntfs_check_fixed.proofs.FactLemmas.{adds-none, piece-added}
use Rattle.ntfs_check_fixed.proofs.known.add_run.Goals as goal

pub overflow_add-end : goal.overflow_add-end
overflow_add-end c = omega (arith, c.requires.within, c.requires.few)

pub overflow_add-at : goal.overflow_add-at
overflow_add-at c = omega (arith, c.in-Some.ensures.run.within, c.requires.within, c.requires.few)

pub pieces-init : goal.pieces-init
pieces-init c = record { from = omega arith; reached = omega arith; row = adds-none c.args.set.now c.args.first c.args.first refl }

pub pieces-preserved : goal.pieces-preserved
pieces-preserved c = record {
  from = omega (arith, c.pieces.invariant.from, c.in-Some.ensures.first.holds.reached);
  reached = c.in-Some.ensures.run.within;
  row = piece-added c.args.set.now c.pieces.set c.claim.new.set c.args.first c.pieces.at (c.args.first + c.args.length) c.in-Some.free.first c.in-Some.free.length c.pieces.invariant.from c.in-Some.ensures.first
      c.pieces.invariant.row c.in_default-claim.ensures;
}
