use Rattle.ntfs_base.specs.Bytes.{cluster_at}
use Rattle.ntfs_check_clusters.proofs.MarkLemmas.{names-given}
use Rattle.ntfs_check_clusters.proofs.marks.check_names.Goals as goal

pub returns-clause-gives : goal.returns-clause-gives
returns-clause-gives g c told = names-given c.args.table.now (cluster_at (g.G.Image.seen c.args.image.now).content c.args.table.now.geometry.cluster) c.ask_all.result (c.ask_all.ensures.gives told tt)
