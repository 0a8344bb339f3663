use Rattle.std.proofs.Common.{rules, arith, sym, ap, ◌∙◌, map}
use Rattle.std.proofs.lemmas.List.{length-map}
use Rattle.std.proofs.lemmas.List.Sorted.{IsNonDecreasingBy-from_sort_by_key}
use Rattle.ntfs_owners.specs.Sweep.{Span, row_span}
use Rattle.ntfs_owners.specs.declared.row.Row.{Row}
use Rattle.ntfs_owners.proofs.StartLemmas.{span-at, starts-next}
use Rattle.ntfs_owners.proofs.sweep.starts_of.Goals as goal

pub rows-preserved : goal.rows-preserved
rows-preserved c =
    let rows = c.args.rows.now in
    let spans = map row_span rows in
    let long = length-map rows row_span in
    starts-next c.rows.number spans c.rows.starts.items c.push.new.self.items _ _ (omega (arith, long, c.rows-test.true))
    (ap (λ (r : Row). r.first) (sym c.index-rows-number.is) ∙ sym (ap (λ (s : Span). s.first) (span-at rows c.rows.number c.index-rows-number.result c.rows-test.true c.index-rows-number.is))) c.in_ok-push.ensures.items c.rows.invariant

pub returns-clause-sorted : goal.returns-clause-sorted
returns-clause-sorted c = IsNonDecreasingBy-from_sort_by_key (λ s. s.0) _ c.sort_unstable_by_key.ensures.sorted (λ a r q k. search rules)
