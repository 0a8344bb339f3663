use Rattle.std.proofs.Common.{IsTrue, ap}
use Rattle.std.proofs.lemmas.Result.{err_from_is_err_and}
use Rattle.ntfs_show.specs.ListPath.{list_outcome}
use Rattle.ntfs_show.specs.Listing.{list_of}
use Rattle.ntfs_print.specs.Printing.{before}
use Rattle.ntfs_show.proofs.ListLemmas.{lists-as, stops-here}
use Rattle.ntfs_show.proofs.ListPathLemmas.{path-found, path-refused, path-settled}
use Rattle.ntfs_show.proofs.list_path.list_path.Goals as goal

pub returns-in_err-start-clause-lists : goal.returns-in_err-start-clause-lists
returns-in_err-start-clause-lists g c =
    let seen = g.G.Image.seen c.args.image.now in
    let o = c.args.desk.now.options in
    let fault = c.in_err-start.field-0.0 in
    let p = err_from_is_err_and c.from_residual.result c.from_residual.ensures.1 in
    rw (p.1, p.2)
    (stops-here {I = Unit {0}} (IsTrue seen.is_told)
    (λ all. list_outcome o c.args.table.now seen.content c.args.path.now) _ _ _
    (λ told settled all. path-refused o c.args.table.now seen.content c.args.path.now fault
    (c.in_err-start.ensures.gives told (path-settled fault settled))))

pub returns-clause-lists : goal.returns-clause-lists
returns-clause-lists g c =
    let seen = g.G.Image.seen c.args.image.now in
    let o = c.args.desk.now.options in
    let found = c.in_ok-start.ensures in
    lists-as {I = Unit {0}} (IsTrue seen.is_told)
    (λ all. before c.args.desk.now.pending (list_outcome o c.args.table.now seen.content c.args.path.now))
    (λ all. before c.args.desk.now.pending (list_of o c.args.table.now seen.content c.in_ok-start.start)) _ _ _ _ _
    (λ told all. ap (before c.args.desk.now.pending) (path-found o c.args.table.now seen.content c.args.path.now
    c.in_ok-start.start (found.gives told)))
    (rw found.reads.seen at c.list_from.ensures.lists)
