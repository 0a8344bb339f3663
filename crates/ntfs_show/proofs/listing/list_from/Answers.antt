use Rattle.std.proofs.Common.{IsTrue, ap, ◌∙◌}
use Rattle.std.proofs.lemmas.Result.{err_from_is_err_and}
use Rattle.ntfs_show.specs.Descent.{left_of_descent}
use Rattle.ntfs_show.specs.Listing.{list_of, record_numbers}
use Rattle.ntfs_print.specs.Printing.{before}
use Rattle.ntfs_show.proofs.DescentLemmas.{list-begins}
use Rattle.ntfs_show.proofs.ListLemmas.{lists-as, stops-here}
use Rattle.ntfs_show.proofs.listing.list_from.Goals as goal

pub returns-in_err-descent-clause-lists : goal.returns-in_err-descent-clause-lists
returns-in_err-descent-clause-lists g c =
    let seen = g.G.Image.seen c.args.image.now in
    let o = c.args.desk.now.options in
    let p = err_from_is_err_and c.from_residual.result c.from_residual.ensures.1 in
    rw (p.1, p.2)
    (stops-here {I = Unit {0}} (IsTrue seen.is_told) (λ all. list_of o c.args.table.now seen.content c.args.start) _ _ _
    (λ told settled all. list-begins o c.args.table.now seen.content c.args.start
    ∙ c.in_err-descent.ensures.told o told settled))

pub returns-clause-lists : goal.returns-clause-lists
returns-clause-lists g c =
    let seen = g.G.Image.seen c.args.image.now in
    let o = c.args.desk.now.options in
    let begun = c.in_ok-descent.ensures in
    lists-as {I = Unit {0}} (IsTrue seen.is_told)
    (λ all. before c.args.desk.now.pending (list_of o c.args.table.now seen.content c.args.start))
    (λ all. before c.args.desk.now.pending (left_of_descent o c.args.table.now seen.content record_numbers
    c.in_ok-descent.descent)) _ _ _ _ _
    (λ told all. ap (before c.args.desk.now.pending) (list-begins o c.args.table.now seen.content c.args.start
    ∙ begun.told o told))
    (rw begun.reads.seen at c.list.ensures.lists)
