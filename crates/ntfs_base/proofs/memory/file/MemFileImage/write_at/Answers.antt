use Rattle.ntfs_base.proofs.MemoryLemmas.{wrote_memory}
use Rattle.ntfs_base.proofs.memory.file.MemFileImage.write_at.Goals as goal

pub returns-clause-wrote : goal.returns-clause-wrote
returns-clause-wrote c = wrote_memory _ _ _ _ _ c.write.ensures.memory
