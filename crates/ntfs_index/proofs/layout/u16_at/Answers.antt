use Rattle.ntfs_index.proofs.NodeLemmas.{number_at-slice}
use Rattle.ntfs_index.proofs.layout.u16_at.Goals as goal

pub returns : goal.returns
returns c = number_at-slice 2 c.args.place c.read_u16.result c.args.bytes.now c.read_u16.ensures
