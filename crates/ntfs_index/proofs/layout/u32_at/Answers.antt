use Rattle.ntfs_index.proofs.NodeLemmas.{number_at-slice}
use Rattle.ntfs_index.proofs.layout.u32_at.Goals as goal

pub returns : goal.returns
returns c = number_at-slice 4 c.args.place c.read_u32.result c.args.bytes.now c.read_u32.ensures
