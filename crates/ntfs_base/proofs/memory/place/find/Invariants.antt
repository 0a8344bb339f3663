use Rattle.std.proofs.Common.{◌≡◌, ◌+◌, drop}
use Rattle.std.specs.Option.{option_map}
use Rattle.ntfs_base.specs.MemShelf.{index_of}
use Rattle.ntfs_base.proofs.memory.place.find.Given as goal

-- no place before this one has the name
abbrev pub invariant-loop-index : goal.invariant-loop-index
invariant-loop-index l =
    index_of l.name l.places ≡ option_map (λ i. i + l.index) (index_of l.name (drop l.index l.places))
