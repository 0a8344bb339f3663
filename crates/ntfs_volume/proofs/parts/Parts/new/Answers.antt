use Rattle.ntfs_volume.proofs.PartsLemmas.{parts-none, parts-start}
use Rattle.ntfs_volume.proofs.parts.Parts.new.Goals as goal

pub returns-clause-shown : goal.returns-clause-shown
returns-clause-shown c = parts-none c.new.result c.new.ensures

pub returns-clause-parts : goal.returns-clause-parts
returns-clause-parts c n = parts-start n c.new.result c.new.ensures
