use Rattle.std.proofs.Common.{map, string_bytes}
use Rattle.ntfs_base.proofs.ShelfLemmas.{all_placed-kept}
use Rattle.ntfs_base.proofs.memory.shelf.MemShelf.fail.Goals as goal

pub invariant_of-self : goal.invariant_of-self
invariant_of-self c =
    record {
      held =
          all_placed-kept c.args.self.now.places.items c.index_for.new.places.items
          (map string_bytes c.args.self.now.attached.items) c.index_for.ensures.files.places c.args.self.now.held;
    }

pub invariant_of-self-2 : goal.invariant_of-self-2
invariant_of-self-2 c =
    record {
      held =
          all_placed-kept c.index_for.new.places.items c.fail_at.new.places.items
          (map string_bytes c.args.self.now.attached.items) c.fail_at.ensures.files.places
          (all_placed-kept c.args.self.now.places.items c.index_for.new.places.items (map string_bytes c.args.self.now.attached.items) c.index_for.ensures.files.places c.args.self.now.held);
    }
