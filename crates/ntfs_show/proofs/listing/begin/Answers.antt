use Rattle.std.proofs.Common.{ap, ◌∙◌}
use Rattle.std.proofs.lemmas.Result.{err_from_is_err_and}
use Rattle.ntfs_show.specs.Listing.{also_met, record_numbers}
use Rattle.ntfs_show.specs.declared.listing.Descent.{Descent}
use Rattle.ntfs_show.proofs.DescentLemmas.{descent-begun, start-kept, start-refused}
use Rattle.ntfs_show.proofs.listing.begin.Goals as goal

pub returns-clause-told : goal.returns-clause-told
returns-clause-told g c o told =
    let made : Descent =
    record {
      alloc = c.args.alloc;
      present = c.in_ok-present.present;
      above = c.new-2.result;
      path = c.new-3.result;
      met = c.meet.new.met;
    } in
    descent-begun o c.args.table.now (g.G.Image.seen c.args.image.now).content record_numbers c.args.start made
    c.new-2.ensures.items c.new-3.ensures.items
    (c.in_ok-meet.ensures.also ∙ ap (also_met c.args.start) c.new-met.ensures.empty)
    c.in_ok-present.ensures.walked.bears (c.in_ok-present.ensures.gives told)

pub returns-in_err-present-clause-told : goal.returns-in_err-present-clause-told
returns-in_err-present-clause-told g c o told =
    let p = err_from_is_err_and c.from_residual-in_err-present.result c.from_residual-in_err-present.ensures.1 in
    rw (p.1, p.2)
    (λ settled. start-refused o c.args.table.now (g.G.Image.seen c.args.image.now).content record_numbers c.args.start
    c.in_err-present.field-0.0 (c.in_err-present.ensures.gives told settled))

pub returns-clause-descent : goal.returns-clause-descent
returns-clause-descent g c =
    let made : Descent =
    record {
      alloc = c.args.alloc;
      present = c.in_ok-present.present;
      above = c.new-2.result;
      path = c.new-3.result;
      met = c.meet.new.met;
    } in
    start-kept c.args.table.now record_numbers made c.new-2.ensures.items c.new-3.ensures.items
    (ap (λ name. name.items) c.in_ok-present.ensures.named ∙ c.new.ensures.items)
    (rw c.in_ok-present.ensures.bears c.in_ok-present.ensures.walked)
