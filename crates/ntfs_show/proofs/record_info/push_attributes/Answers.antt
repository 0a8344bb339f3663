use Rattle.std.proofs.Common.{◌++◌, ◌∙◌, ap, arith, map, refl, subst, sym}
use Rattle.std.proofs.lemmas.Result.{err_from_is_err_and}
use Rattle.ntfs_record.specs.Views.{shown_placed, shown_view}
use Rattle.ntfs_print.specs.Pending.{IsPrinted}
use Rattle.ntfs_show.specs.RecordInfo.{all_keep_cells, attribute_lines, line_if_right, shown_attributes}
use Rattle.ntfs_print.proofs.PendingLemmas.{printed-cut, printed-kept, printed-step}
use Rattle.ntfs_show.proofs.RecordInfoLemmas.{keep-end, keep-next, keep-stop, left-cut, left-end, left-next, left-stop, lines_behind}
use Rattle.ntfs_show.proofs.record_info.push_attributes.Goals as goal

pub attributes-init : goal.attributes-init
attributes-init g c =
    let placed = c.into_iter-attribute-iterator.ensures.into_iter_gives ∙ c.attributes-attribute-items.ensures.placed in
    record {
      can = tt;
      finite = tt;
      lines = (
        c.args.pending.now,
        printed-kept c.args.pending.now c.args.pending.now (g.K.Sink.seen c.args.out.now) refl,
        ap (λ ps. c.args.pending.now ++ attribute_lines c.args.clusters (map shown_placed ps)) placed,
      );
      keep = ap (λ ps. all_keep_cells c.args.clusters (map shown_placed ps)) placed;
      puts = record { failures = omega arith; wants = omega arith };
    }

pub returns-in_err-push_attribute-clause-pushes : goal.returns-in_err-push_attribute-clause-pushes
returns-in_err-push_attribute-clause-pushes g c =
    let n = c.args.clusters in
    let so_far = c.attributes.invariant.lines in
    let shown = shown_view c.in-Some.attribute in
    let p = err_from_is_err_and c.from_residual.result c.from_residual.ensures.1 in
    rw p.1 (record {
      whole = tt;
      part = printed-cut (c.args.pending.now ++ attribute_lines n (shown_attributes c.args.view.now)) so_far.0 (line_if_right n shown) (lines_behind n shown (map shown_placed c.next.new.self)) c.attributes.pending
          (g.K.Sink.seen c.args.out.now) (g.K.Sink.seen c.attributes.out) (g.K.Sink.seen c.push_attribute.new.out)
          (left-cut n (map shown_placed c.attributes.attribute-iterator) (map shown_placed c.next.new.self) shown so_far.0 _ c.in-Some.ensures.steps so_far.2) so_far.1
          c.in_err-push_attribute.ensures.pushes.part;
    })

pub returns-then-not-branch-clause-pushes : goal.returns-then-not-branch-clause-pushes
returns-then-not-branch-clause-pushes g c =
    let n = c.args.clusters in
    let so_far = c.attributes.invariant.lines in
    let shown = shown_view c.in-Some.attribute in
    record {
      whole = subst (λ xs. IsPrinted xs (g.K.Sink.seen c.args.out.now) c.push_attribute.new.pending (g.K.Sink.seen c.push_attribute.new.out))
          (left-stop n (map shown_placed c.attributes.attribute-iterator) (map shown_placed c.next.new.self) shown so_far.0 _ c.in-Some.ensures.steps
          (sym c.in_ok-push_attribute.ensures.keeps ∙ c.if-not-branch.true) so_far.2)
          (printed-step so_far.0 (line_if_right n shown) c.attributes.pending c.push_attribute.new.pending (g.K.Sink.seen c.args.out.now) (g.K.Sink.seen c.attributes.out) (g.K.Sink.seen c.push_attribute.new.out)
          so_far.1 c.in_ok-push_attribute.ensures.pushes.whole);
      part = tt;
    }

pub returns-then-not-branch-clause-keep : goal.returns-then-not-branch-clause-keep
returns-then-not-branch-clause-keep g c =
    keep-stop c.args.clusters (map shown_placed c.attributes.attribute-iterator) (map shown_placed c.next.new.self) (shown_view c.in-Some.attribute) _ c.in-Some.ensures.steps
    (sym c.in_ok-push_attribute.ensures.keeps ∙ c.if-not-branch.true) c.attributes.invariant.keep

pub attributes-preserved : goal.attributes-preserved
attributes-preserved g c =
    let n = c.args.clusters in
    let so_far = c.attributes.invariant.lines in
    let shown = shown_view c.in-Some.attribute in
    let right = sym c.in_ok-push_attribute.ensures.keeps ∙ c.if-not-branch.false in
    record {
      can = tt;
      finite = tt;
      lines = (
        so_far.0 ++ line_if_right n shown,
        printed-step so_far.0 (line_if_right n shown) c.attributes.pending c.push_attribute.new.pending (g.K.Sink.seen c.args.out.now) (g.K.Sink.seen c.attributes.out) (g.K.Sink.seen c.push_attribute.new.out)
            so_far.1 c.in_ok-push_attribute.ensures.pushes.whole,
        left-next n (map shown_placed c.attributes.attribute-iterator) (map shown_placed c.next.new.self) shown so_far.0 _ c.in-Some.ensures.steps right so_far.2,
      );
      keep = keep-next n (map shown_placed c.attributes.attribute-iterator) (map shown_placed c.next.new.self) shown _ c.in-Some.ensures.steps right c.attributes.invariant.keep;
      puts = record {
        failures = omega (arith, c.in_ok-push_attribute.ensures.prints.puts.failures, c.attributes.invariant.puts.failures);
        wants = omega (arith, c.in_ok-push_attribute.ensures.prints.puts.wants, c.attributes.invariant.puts.wants);
      };
    }

pub returns-clause-pushes : goal.returns-clause-pushes
returns-clause-pushes g c =
    let so_far = c.attributes.invariant.lines in
    record {
      whole = subst (λ xs. IsPrinted xs (g.K.Sink.seen c.args.out.now) c.attributes.pending (g.K.Sink.seen c.attributes.out))
          (left-end c.args.clusters (map shown_placed c.attributes.attribute-iterator) so_far.0 _ c.in-None.ensures.steps.0 so_far.2) so_far.1;
      part = tt;
    }

pub returns-clause-keep : goal.returns-clause-keep
returns-clause-keep g c =
    keep-end c.args.clusters (map shown_placed c.attributes.attribute-iterator) _ c.in-None.ensures.steps.0 c.attributes.invariant.keep
