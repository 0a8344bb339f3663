use Rattle.std.proofs.Common.{ap, Ok}
use Rattle.ntfs_base.specs.Bytes.{cluster_at}
use Rattle.ntfs_runs.specs.Cells.{map_cells}
use Rattle.ntfs_runs.specs.Clusters.{vcns}
use Rattle.ntfs_volume.specs.StreamBytes.{cells_bytes, runs_bytes}
use Rattle.ntfs_volume.proofs.AnswerLemmas.{given}
use Rattle.ntfs_volume.proofs.ListLemmas.{front-read}
use Rattle.ntfs_volume.proofs.list.read_front.Goals as goal

pub returns-clause-gives : goal.returns-clause-gives
unfolding runs_bytes
returns-clause-gives g c told =
    let k = c.args.geometry.now in
    ap Ok (front-read c.args.bytes.now c.read_from.new.block (cells_bytes k.cluster (map_cells (cluster_at (g.G.Image.seen c.args.image.now).content k.cluster) (vcns c.args.runs.now))) c.args.valid c.requires.zeros c.requires.valid
    (given _ _ (c.in_ok-read_from.ensures.gives told)))
