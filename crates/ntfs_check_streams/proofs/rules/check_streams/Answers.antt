use Rattle.ntfs_base.specs.Bytes.{cluster_at}
use Rattle.ntfs_check_streams.proofs.RuleLemmas.{presumed, streams-given}
use Rattle.ntfs_check_streams.proofs.rules.check_streams.Goals as goal
use Rattle.ntfs_rules.specs.VolumeData.{volume_data}

pub returns-clause-gives : goal.returns-clause-gives
returns-clause-gives g c told whole cells listed =
    let o = c.args.table.now in
    let f = cluster_at (g.G.Image.seen c.args.image.now).content o.geometry.cluster in
    streams-given o f c.ask_all.result (c.ask_all.ensures.gives told (presumed (volume_data o f) whole cells listed))
