use Rattle.std.proofs.Common.{sym, ◌∙◌}
use Rattle.ntfs_record.specs.Views.{shown_view}
use Rattle.ntfs_owners.proofs.OwnersLemmas.{bad-stream, on-ok, other-stream}
use Rattle.ntfs_owners.proofs.owner_query.add_bad_attribute.Goals as goal

pub returns-then-not-is_bad_stream-clause-added : goal.returns-then-not-is_bad_stream-clause-added
returns-then-not-is_bad_stream-clause-added c = λ k below.
    other-stream k (shown_view c.args.attribute.now) _ (sym c.is_bad_stream.ensures ∙ c.if-not-is_bad_stream.true)

pub returns-clause-added : goal.returns-clause-added
returns-clause-added c =
    on-ok c.add_pairs.result (λ added k below. bad-stream k (shown_view c.args.attribute.now) c.pairs_of.result.now _ _
    (sym c.is_bad_stream.ensures ∙ c.if-not-is_bad_stream.false) c.pairs_of.ensures (added k below)) c.add_pairs.ensures.added
