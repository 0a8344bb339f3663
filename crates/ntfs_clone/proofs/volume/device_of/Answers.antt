use Rattle.ntfs_clone.proofs.VolumeLemmas.{device-least, device-most}
use Rattle.ntfs_clone.proofs.volume.device_of.Goals as goal

pub returns-clause-least : goal.returns-clause-least
returns-clause-least c = rw c.from.ensures (device-least c.args.geometry.now c.requires)

pub returns-clause-most : goal.returns-clause-most
returns-clause-most c = rw c.from.ensures (device-most c.args.geometry.now c.requires)
