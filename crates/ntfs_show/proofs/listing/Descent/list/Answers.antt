use Rattle.std.proofs.Common.{refl, ◌∙◌, arith}
use Rattle.std.proofs.lemmas.Result.{err_from_is_err_and}
use Rattle.ntfs_show.proofs.ListLemmas.{goes-none, goes-then, stops-then}
use Rattle.ntfs_show.proofs.listing.Descent.list.Goals as goal

pub directories-init : goal.directories-init
directories-init g c = record {
  lists = goes-none _ _ _ _ (λ told all. refl);
  descent = c.requires.descent;
  desk = record { options = refl; block = refl };
  seen = refl;
  counts = record { reads = omega arith; writes = omega arith };
  puts = record { failures = omega arith; wants = omega arith };
}

pub directories-preserved : goal.directories-preserved
directories-preserved g c =
    let is = c.directories.invariant in
    let turned = c.in_ok-turn.ensures in
    let copied = turned.copies in
    let turn = rw (is.seen, is.desk.options, c.if-not-branch.false) at turned.lists in
    record {
      lists = goes-then _ _ _ _ _ _ _ is.lists turn;
      descent = turned.descent c.if-not-branch.false;
      desk = record { options = turned.desk.options ∙ is.desk.options; block = turned.desk.block ∙ is.desk.block };
      seen = copied.seen ∙ is.seen;
      counts = record {
        reads = omega (arith, copied.counts.reads, is.counts.reads);
        writes = omega (arith, copied.counts.writes, is.counts.writes);
      };
      puts = record {
        failures = omega (arith, copied.puts.failures, is.puts.failures);
        wants = omega (arith, copied.puts.wants, is.puts.wants);
      };
    }

pub returns-in_err-turn-clause-lists : goal.returns-in_err-turn-clause-lists
returns-in_err-turn-clause-lists g c =
    let is = c.directories.invariant in
    let p = err_from_is_err_and c.from_residual.result c.from_residual.ensures.1 in
    let turn = rw (is.seen, is.desk.options) at c.in_err-turn.ensures.lists in
    rw (p.1, p.2) (stops-then _ _ _ _ _ _ _ _ is.lists turn)

pub returns-then-not-branch-clause-lists : goal.returns-then-not-branch-clause-lists
returns-then-not-branch-clause-lists g c =
    let is = c.directories.invariant in
    let turn = rw (is.seen, is.desk.options, c.if-not-branch.true) at c.in_ok-turn.ensures.lists in
    goes-then _ _ _ _ _ _ _ is.lists turn
