use Rattle.std.proofs.Common.{map, string_bytes}
use Rattle.ntfs_base.proofs.ShelfLemmas.{all_placed-kept, is_some-place_of}
use Rattle.ntfs_base.proofs.memory.shelf.MemShelf.add.Goals as goal

pub invariant_of-self : goal.invariant_of-self
invariant_of-self c =
    record {
      held =
          all_placed-kept c.args.self.now.places.items c.index_for.new.places.items
          (map string_bytes c.args.self.now.attached.items) c.index_for.ensures.files.places c.args.self.now.held;
    }

pub put_back-requires : goal.put_back-requires
put_back-requires c = is_some-place_of c.args.name.now c.index_for.new.places.items _ c.in_ok-index_for.ensures.found

pub invariant_of-self-2 : goal.invariant_of-self-2
invariant_of-self-2 c =
    record {
      held =
          all_placed-kept c.index_for.new.places.items c.put_back.new.places.items
          (map string_bytes c.args.self.now.attached.items) c.put_back.ensures.kept
          (all_placed-kept c.args.self.now.places.items c.index_for.new.places.items (map string_bytes c.args.self.now.attached.items) c.index_for.ensures.files.places c.args.self.now.held);
    }
