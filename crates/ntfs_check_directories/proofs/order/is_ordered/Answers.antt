use Rattle.std.proofs.Common.{◌≡◌, ◌∙◌, sym}
use Rattle.std.specs.Prelude.{IfOk}
use Rattle.ntfs_base.proofs.FramesLemmas.{told_still}
use Rattle.ntfs_check_directories.proofs.RuleLemmas.{ordered-begun, ordered-refused}
use Rattle.ntfs_check_directories.proofs.order.is_ordered.Goals as goal
use Rattle.ntfs_directory.specs.State.{left_of}
use Rattle.ntfs_rules.proofs.ListLemmas.{uncut}
use Rattle.ntfs_rules.specs.Directories.{is_ordered}

pub returns-in-None-clause-found : goal.returns-in-None-clause-found
returns-in-None-clause-found g c told =
    let o = c.args.table.now in
    ordered-refused o.geometry o.map (g.G.Image.seen c.args.image.now).content c.args.number c.args.upper.now c.in-Err.fault
    (c.in-Err.ensures.gives told (uncut c.in-Err.fault (sym c.cut_of.ensures ∙ c.in-None.is)))

pub returns-in-Ok-clause-found : goal.returns-in-Ok-clause-found
returns-in-Ok-clause-found g c told =
    let o = c.args.table.now in
    ordered-begun o.geometry o.map (g.G.Image.seen c.args.image.now).content c.args.number c.args.upper.now _ c.is_rest_ordered.result
    (c.in-Ok.ensures.gives told)
    (told_still g.G.Image c.args.image.now c.open_directory.new.image (λ content. IfOk c.is_rest_ordered.result (λ is. is ≡ is_ordered c.args.upper.now (left_of o.geometry content c.in-Ok.directory)))
    c.in-Ok.ensures.reads.seen c.is_rest_ordered.ensures.found told)
