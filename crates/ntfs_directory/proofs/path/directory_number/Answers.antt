use Rattle.std.proofs.Common.{ap, ◌∙◌}
use Rattle.std.proofs.lemmas.Bool.{not-false, not-true}
use Rattle.ntfs_directory.specs.Paths.{no_part}
use Rattle.ntfs_directory.proofs.PathLemmas.{directory-found, directory-other, directory-refused}
use Rattle.ntfs_directory.proofs.path.directory_number.Goals as goal

pub returns-then-not-found-clause-gives : goal.returns-then-not-found-clause-gives
returns-then-not-found-clause-gives g c told settled =
    let o = c.args.table.now in
    let fault = c.no_part.ensures ∙ ap no_part c.count_parts.ensures in
    rw fault
    (directory-other o.geometry o.map (g.G.Image.seen c.args.image.now).content c.args.path.now c.in-Ok.found
    (c.in-Ok.ensures.gives told) (not-true c.in-Ok.found.is_directory c.if-not-found.true))

pub returns-in-Err-clause-gives : goal.returns-in-Err-clause-gives
returns-in-Err-clause-gives g c told settled =
    let o = c.args.table.now in
    directory-refused o.geometry o.map (g.G.Image.seen c.args.image.now).content c.args.path.now c.in-Err.fault
    (c.in-Err.ensures.gives told settled)

pub returns-else-not-found-clause-gives : goal.returns-else-not-found-clause-gives
returns-else-not-found-clause-gives g c told =
    let o = c.args.table.now in
    directory-found o.geometry o.map (g.G.Image.seen c.args.image.now).content c.args.path.now c.in-Ok.found
    (c.in-Ok.ensures.gives told) (not-false c.in-Ok.found.is_directory c.if-not-found.false)
