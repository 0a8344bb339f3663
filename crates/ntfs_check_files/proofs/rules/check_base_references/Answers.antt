use Rattle.ntfs_base.specs.Bytes.{cluster_at}
use Rattle.ntfs_check_files.proofs.RuleLemmas.{bases-given, bases-presumed}
use Rattle.ntfs_check_files.proofs.rules.check_base_references.Goals as goal

pub returns-clause-gives : goal.returns-clause-gives
returns-clause-gives g c told whole =
    let o = c.args.table.now in
    let f = cluster_at (g.G.Image.seen c.args.image.now).content o.geometry.cluster in
    bases-given o f c.ask_all.result (c.ask_all.ensures.gives told (bases-presumed o f whole))
