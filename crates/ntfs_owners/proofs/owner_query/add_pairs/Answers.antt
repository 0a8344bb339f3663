use Rattle.std.proofs.Common.{subst, ap, ◌∙◌, ◌||◌}
use Rattle.ntfs_bitmap.specs.ClusterSet.{has}
use Rattle.ntfs_runs.specs.Decoding.{IsFaultOf}
use Rattle.ntfs_runs.specs.Reading.{reading}
use Rattle.ntfs_owners.specs.Owners.{runs_have}
use Rattle.ntfs_owners.proofs.OwnersLemmas.{on-ok, pairs-right, pairs-wrong}
use Rattle.ntfs_owners.proofs.owner_query.add_pairs.Goals as goal

pub returns-in-Err-BadPairs-clause-added : goal.returns-in-Err-BadPairs-clause-added
returns-in-Err-BadPairs-clause-added c = λ k below.
    let wrong = subst (λ fault. IsFaultOf fault (reading c.args.pairs.now)) c.in-Err-BadPairs.field-0-is c.in-Err-BadPairs.ensures.exact in
    pairs-wrong c.args.pairs.now k (has c.args.set.now k) wrong.0

pub returns-in-Ok-clause-added : goal.returns-in-Ok-clause-added
returns-in-Ok-clause-added c =
    on-ok c.add_runs.result (λ added k below. pairs-right c.args.pairs.now c.in-Ok.list k _ _ c.in-Ok.ensures.exact.0 c.in-Ok.ensures.exact.1
    (added k below ∙ ap (λ runs. has c.args.set.now k || runs_have runs k) c.runs.ensures)) c.add_runs.ensures.added
