use Rattle.ntfs_base.specs.Bytes.{cluster_at}
use Rattle.ntfs_check_fixed.proofs.FixedLemmas.{fixed-given}
use Rattle.ntfs_check_fixed.proofs.fixed.check_fixed_records.Goals as goal

pub returns-clause-gives : goal.returns-clause-gives
returns-clause-gives g c told = fixed-given c.args.table.now (cluster_at (g.G.Image.seen c.args.image.now).content c.args.table.now.geometry.cluster) c.check_rows.result (c.check_rows.ensures.gives told)
