use Rattle.std.proofs.Common.{refl}
use Rattle.ntfs_directory.specs.Paths.{path_parts}
use Rattle.ntfs_directory.proofs.PathLemmas.{number-none, number-refused, number-some}
use Rattle.ntfs_directory.proofs.path.number_of.Goals as goal

pub returns-in-None-clause-gives : goal.returns-in-None-clause-gives
returns-in-None-clause-gives g c told =
    let o = c.args.table.now in
    number-none o.geometry o.map (g.G.Image.seen c.args.image.now).content c.args.path.now (c.in-None.ensures.none refl)

pub returns-in-Err-clause-gives : goal.returns-in-Err-clause-gives
returns-in-Err-clause-gives g c told settled =
    let o = c.args.table.now in
    number-refused o.geometry o.map (g.G.Image.seen c.args.image.now).content c.args.path.now c.in-Some.field-0.0.now
    (path_parts c.in-Some.field-0.1.now) c.in-Err.fault c.in-Some.ensures.part (c.in-Err.ensures.gives told settled)

pub returns-in-Ok-clause-gives : goal.returns-in-Ok-clause-gives
returns-in-Ok-clause-gives g c told =
    let o = c.args.table.now in
    number-some o.geometry o.map (g.G.Image.seen c.args.image.now).content c.args.path.now c.in-Some.field-0.0.now
    (path_parts c.in-Some.field-0.1.now) c.in-Ok.found c.in-Some.ensures.part (c.in-Ok.ensures.gives told)
