use Rattle.std.proofs.Common.{rules, sym, ap}
use Rattle.ntfs_base.specs.MemShelf.{made_by}
use Rattle.ntfs_base.proofs.ShelfLemmas.{stands_at, place_of-there}
use Rattle.ntfs_base.proofs.memory.place.made_at.Goals as goal

pub index-requires : goal.index-requires
index-requires c =
    let there =
    stands_at c.args.name.now c.args.places.now.items c.args.index c.requires in search (rules, there.within)

pub returns : goal.returns
returns c =
    sym (ap made_by (place_of-there c.args.name.now c.args.places.now.items c.args.index c.index.result.now c.requires c.index.ensures))
