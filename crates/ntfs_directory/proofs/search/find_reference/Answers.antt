use Rattle.std.proofs.Common.{ℕ, Option, Result, subst}
use Rattle.ntfs_base.specs.Frames.{Gives}
use Rattle.ntfs_base.proofs.FramesLemmas.{told_still}
use Rattle.ntfs_directory.specs.Paths.{named_in}
use Rattle.ntfs_directory.specs.State.{left_of}
use Rattle.ntfs_directory.proofs.PathLemmas.{reference-refused, reference-walked}
use Rattle.ntfs_volume.specs.Fault.{volume_origin}
use Rattle.ntfs_volume.specs.declared.fault.VolumeFault.{VolumeFault}
use Rattle.ntfs_directory.proofs.search.find_reference.Goals as goal

pub returns-in-Err-clause-gives : goal.returns-in-Err-clause-gives
returns-in-Err-clause-gives g c told settled =
    let o = c.args.table.now in
    reference-refused o.geometry o.map (g.G.Image.seen c.args.image.now).content c.args.upper.now c.args.number c.args.name.now
    _ (c.in-Err.ensures.gives told settled)

pub returns-in-Ok-clause-gives : goal.returns-in-Ok-clause-gives
returns-in-Ok-clause-gives g c told =
    let o = c.args.table.now in
    let content = (g.G.Image.seen c.args.image.now).content in
    let found = told_still g.G.Image c.args.image.now c.open_directory.new.image
    (λ content. Gives volume_origin (λ x. x) (named_in c.args.upper.now c.args.name.now (left_of o.geometry content c.in-Ok.directory))
    c.find_name.result) c.in-Ok.ensures.reads.seen c.find_name.ensures.gives in
    subst (λ (e : Result (Option ℕ) VolumeFault). Gives volume_origin (λ x. x) e c.find_name.result)
    (reference-walked o.geometry o.map content c.args.upper.now c.args.number c.args.name.now _ (c.in-Ok.ensures.gives told))
    (found told)
