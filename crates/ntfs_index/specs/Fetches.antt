-- Where the refusals of a walk come from, and what a call that fetches blocks keeps. The words are ours.
use Rattle.std.specs.Prelude.{◌≡◌, ◌+◌, ◌≤◌, ℕ, Result, IfErr, IsTrue}
use Rattle.ntfs_base.specs.Causes.{Rose}
use Rattle.ntfs_base.specs.Frames.{Origin, content, reading, memory, Because}
use Rattle.ntfs_index.specs.Blocks.{BlockMap}
use Rattle.ntfs_index.specs.declared.blocks.Blocks as blocks
use Rattle.ntfs_index.specs.declared.fault.IndexFault.{IndexFault}
use Rattle.ntfs_index.specs.declared.fault.IndexFault.TheVariants as index

abbrev pub index_origin : IndexFault → Origin
index_origin (index.BadNode vcn rule) = content
index_origin index.TooDeep = content
index_origin index.BlockFault = reading
index_origin index.NoMemory = memory

-- of the map of blocks, where it is told
abbrev pub IfBlocks : {B : Type 0} → blocks.Ghosts B → B → (BlockMap → Type 0) → Type 0
IfBlocks b blocks is = IsTrue (b.seen blocks).is_told → is (b.seen blocks).blocks

-- a call over blocks, which asks for so many of them at most, and over nothing else outside
pub record OnlyFetches {B T E : Type 0} (b : blocks.Ghosts B) (origin : E → Origin) (most : ℕ) (old new : B)
    (result : Result T E) : Type 0 where
  pub seen : b.seen new ≡ b.seen old
  pub counts : b.faults old ≤ b.faults new
  pub asks : b.asked new ≤ b.asked old + most
  pub cause : IfErr result (λ fault. Because (origin fault) (Rose (b.faults old) (b.faults new)) ⊥ (Unit {0}))
