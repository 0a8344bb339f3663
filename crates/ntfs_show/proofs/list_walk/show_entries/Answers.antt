use Rattle.std.proofs.Common.{IsTrue, refl, ◌∙◌, arith, rules}
use Rattle.std.proofs.lemmas.Result.{err_from_is_err_and}
use Rattle.ntfs_show.proofs.ListLemmas.{goes-none, goes-then, stops-then}
use Rattle.ntfs_show.proofs.list_walk.show_entries.Goals as goal

pub entries-init : goal.entries-init
entries-init g c = record {
  lists = goes-none _ _ _ _ (λ told around. refl);
  walked = c.requires.walked;
  desk = record { options = refl; block = refl };
  seen = refl;
  counts = record { reads = omega arith; writes = omega arith };
  puts = record { failures = omega arith; wants = omega arith };
}

pub entries-preserved : goal.entries-preserved
entries-preserved g c =
    let is = c.entries.invariant in
    let given = c.in_ok-show_next.ensures in
    let copied = given.copies in
    let turn =
    rw (is.seen, is.desk.options, c.in-Given-None.is, c.in-Given-None.below-is) at given.lists in
    record {
      lists = goes-then _ _ _ _ _ _ _ is.lists turn;
      walked = given.walked;
      desk = record { options = given.desk.options ∙ is.desk.options; block = given.desk.block ∙ is.desk.block };
      seen = copied.seen ∙ is.seen;
      counts = record {
        reads = omega (arith, copied.counts.reads, is.counts.reads);
        writes = omega (arith, copied.counts.writes, is.counts.writes);
      };
      puts = record {
        failures = omega (arith, copied.puts.failures, is.puts.failures);
        wants = omega (arith, copied.puts.wants, is.puts.wants);
      };
    }

pub returns-in_err-show_next-clause-lists : goal.returns-in_err-show_next-clause-lists
returns-in_err-show_next-clause-lists g c =
    let is = c.entries.invariant in
    let p = err_from_is_err_and c.from_residual.result c.from_residual.ensures.1 in
    let turn = rw (is.seen, is.desk.options) at c.in_err-show_next.ensures.lists in
    rw (p.1, p.2) (stops-then _ _ _ _ _ _ _ _ is.lists turn)

pub returns-in-Ended-clause-lists : goal.returns-in-Ended-clause-lists
returns-in-Ended-clause-lists g c =
    let is = c.entries.invariant in
    let turn = rw (is.seen, is.desk.options, c.in-Ended.is) at c.in_ok-show_next.ensures.lists in
    goes-then _ _ _ _ _ _ _ is.lists turn

pub returns-in-Given-Some-clause-lists : goal.returns-in-Given-Some-clause-lists
returns-in-Given-Some-clause-lists g c =
    let is = c.entries.invariant in
    let turn =
    rw (is.seen, is.desk.options, c.in-Given-Some.is, c.in-Given-Some.below-is) at c.in_ok-show_next.ensures.lists in
    goes-then _ _ _ _ _ _ _ is.lists turn
