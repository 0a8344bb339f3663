use Rattle.std.proofs.Common.{arith}
use Rattle.std.proofs.lemmas.Map.Keys.{le_from_not_gt, ge_from_not_lt}
use Rattle.ntfs_bitmap.proofs.KeyLemmas.{none-from-not_some, not_gt-from-le}
use Rattle.ntfs_bitmap.proofs.runs.last_up_to.Goals as goal

pub returns-in-Some-clause-run : goal.returns-in-Some-clause-run
returns-in-Some-clause-run c =
    let part = c.range.ensures.in_range tt in
    let is = c.in-Some.ensures.steps in
    let entry = part.3 (c.in-Some.first.now, c.in-Some.length.now) c.next_back.new.self is in
    record {
      begins = le_from_not_gt _ _ entry.0.1;
      is = entry.1;
      last = λ next up later. none-from-not_some _ (λ some.
          let from = ge_from_not_lt c.in-Some.first.now next
          (part.4 (c.in-Some.first.now, c.in-Some.length.now) c.next_back.new.self is next
          (tt, not_gt-from-le _ _ up) some) in omega (arith, from, later));
    }
