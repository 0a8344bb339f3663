use Rattle.std.proofs.Common.{◌≡◌, ◌++◌, take}
use Rattle.std.specs.Prelude.{flat_map}
use Rattle.byteorder.specs.Endian.{little_bytes}
use Rattle.ntfs_make.proofs.field.put_letters.Given as goal

abbrev pub invariant-letters : goal.invariant-letters
invariant-letters l = l.out.items ≡ l.fn.out.items ++ flat_map (λ letter. little_bytes 2 letter) (take l.letter-index l.letters)
