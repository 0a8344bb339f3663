use Rattle.std.proofs.Common.{refl}
use Rattle.ntfs_base.specs.MemShelf.{files_of}
use Rattle.ntfs_base.proofs.memory.shelf.MemShelf.new.Goals as goal

pub returns-clause-files : goal.returns-clause-files
unfolding files_of
returns-clause-files c = rw c.new.ensures.items refl
