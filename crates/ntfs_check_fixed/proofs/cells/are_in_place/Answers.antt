use Rattle.std.proofs.Common.{◌+◌, ◌-◌, ◌^◌, arith, get_or}
use Rattle.ntfs_check_fixed.proofs.PlaceLemmas.{cells-behind, place-all, place-right, place-wrong}
use Rattle.ntfs_check_fixed.proofs.cells.are_in_place.Goals as goal
use Rattle.ntfs_runs.proofs.CellsLemmas.{no_run}

pub returns-then-not-is_in_place : goal.returns-then-not-is_in_place
returns-then-not-is_in_place c =
    let at = c.runs.invariant.place in
    place-wrong c.args.runs.now c.runs.run-index at.0 (2 ^ 64 - 1) c.runs.vcn c.args.clusters c.is_in_place.result _ c.runs-test.true c.runs.invariant.below (omega (arith, c.requires.few)) at.1
    c.is_in_place.ensures c.if-not-is_in_place.true at.2

pub runs-preserved : goal.runs-preserved
runs-preserved c =
    let at = c.runs.invariant.place in
    let n = (get_or c.args.runs.now c.runs.run-index no_run).length in
    record {
      below = cells-behind c.args.runs.now c.runs.run-index c.args.clusters c.runs-test.true c.runs.invariant.below;
      place = (
        at.0 + n,
        omega (arith, at.1, c.saturating_add-vcn.ensures),
        place-right c.args.runs.now c.runs.run-index at.0 (2 ^ 64 - 1) c.runs.vcn c.args.clusters c.is_in_place.result _ c.runs-test.true c.runs.invariant.below (omega (arith, c.requires.few)) at.1
            c.is_in_place.ensures c.if-not-is_in_place.false at.2,
      );
    }

pub returns : goal.returns
returns c = place-all c.args.runs.now c.runs.run-index c.runs.invariant.place.0 _ c.runs-test.false c.runs.invariant.place.2
