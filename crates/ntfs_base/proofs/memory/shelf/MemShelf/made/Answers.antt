use Rattle.std.proofs.Common.{sym, ap, ◌∙◌}
use Rattle.ntfs_base.specs.MemShelf.{index_of, made_by}
use Rattle.ntfs_base.proofs.ShelfLemmas.{place_of-none}
use Rattle.ntfs_base.proofs.memory.shelf.MemShelf.made.Goals as goal

pub returns-in-None : goal.returns-in-None
returns-in-None c =
    sym (ap made_by (place_of-none c.args.name.now c.args.self.now.places.items (ap (index_of c.args.name.now) (sym c.deref.ensures.value) ∙ sym c.in-None.ensures)))
