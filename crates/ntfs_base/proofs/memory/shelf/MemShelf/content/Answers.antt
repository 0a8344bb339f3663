use Rattle.std.proofs.Common.{sym, ap, ◌∙◌}
use Rattle.ntfs_base.specs.MemShelf.{index_of}
use Rattle.ntfs_base.proofs.ShelfLemmas.{file_absent}
use Rattle.ntfs_base.proofs.memory.shelf.MemShelf.content.Goals as goal

pub returns-in-None : goal.returns-in-None
returns-in-None c =
    sym (file_absent c.args.name.now c.args.self.now.places.items (ap (index_of c.args.name.now) (sym c.deref.ensures.value) ∙ sym c.in-None.ensures))
