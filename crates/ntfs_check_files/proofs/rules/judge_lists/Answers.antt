use Rattle.std.proofs.Common.{refl}
use Rattle.ntfs_base.specs.Bytes.{cluster_at}
use Rattle.ntfs_check_files.proofs.RuleLemmas.{lists-given, lists-presumed}
use Rattle.ntfs_check_files.proofs.rules.judge_lists.Goals as goal
use Rattle.ntfs_check_files.specs.declared.asked.Asked.TheVariants as asked

pub returns-clause-gives : goal.returns-clause-gives
returns-clause-gives g c told keeps all =
    let o = c.args.table.now in
    let f = cluster_at (g.G.Image.seen c.args.image.now).content o.geometry.cluster in
    lists-given o f (asked.List c.args.extensions) c.args.extensions c.ask_all.result refl (c.ask_all.ensures.gives told (lists-presumed o f c.args.extensions keeps all))
