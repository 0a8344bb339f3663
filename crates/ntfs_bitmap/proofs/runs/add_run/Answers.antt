use Rattle.std.proofs.Common.{◌≢◌, ◌+◌, ◌-◌, sym, ◌∙◌, arith}
use Rattle.ntfs_bitmap.proofs.KeyLemmas.{not_at}
use Rattle.ntfs_bitmap.proofs.runs.add_run.Goals as goal

pub returns-clause-joined : goal.returns-clause-joined
returns-clause-joined c =
    let first = c.args.first in
    let end = first + c.args.length in
    let before = c.length_before-before.result in
    let begins : end ≢ first - before = λ same. omega (arith, same, c.requires.some) in
    record {
      before = before;
      after = c.length_from-after.result;
      is_before = c.length_before-before.ensures;
      is_after = c.length_from-after.ensures;
      gone = c.remove.ensures.updates.1;
      run = c.remove.ensures.updates.2 (first - before) (not_at end (first - before) begins)
          ∙ c.in_ok-insert.ensures.updates.1;
      others = λ n not_end not_first.
          c.remove.ensures.updates.2 n (not_at end n (λ same. not_end (sym same)))
          ∙ c.in_ok-insert.ensures.updates.2 n (not_at (first - before) n (λ same. not_first (sym same)));
    }
