-- The blocks of an allocation in memory. The words are ours.
use Rattle.std.specs.Prelude.{◌≡◌, ◌||◌, ℕ, Bool, true, false, None, Result, Ok, Err, is_err, is_none, is_some, if◌then◌else◌}
use Rattle.ntfs_base.specs.Calls.{next_failing, one_more}
use Rattle.ntfs_index.specs.Blocks.{BlocksState, blocks_of}
use Rattle.ntfs_index.specs.declared.fault.BlockFault.{BlockFault}
use Rattle.ntfs_index.specs.declared.fault.BlockFault.TheVariants as fault
use Rattle.ntfs_index.specs.declared.memory.MemBlocks.{MemBlocks}

-- they tell their map, and stand over no image
abbrev pub seen_blocks : MemBlocks → BlocksState
seen_blocks blocks = record {
  is_told = true;
  blocks = blocks_of blocks.unit blocks.size blocks.bytes.items;
  size = blocks.size;
  footing = None;
}

-- the outside failed
abbrev pub has_failed : Result (Unit {0}) BlockFault → Bool
has_failed (Ok done) = false
has_failed (Err fault.Outside) = false
has_failed (Err fault.Failed) = true

-- a call is counted, and gives the block of a VCN that is there, unless it is to fail, which is counted too
pub record FetchesAsPlanned (vcn : ℕ) (old : MemBlocks) (result : Result (Unit {0}) BlockFault) (new : MemBlocks)
    : Type 0 where
  pub fails : is_err result
      ≡ (is_some (next_failing old.calls) || is_none (blocks_of old.unit old.size old.bytes.items vcn))
  pub made : new.calls.made ≡ one_more old.calls.made
  pub failing : new.calls.failing ≡ old.calls.failing
  pub counted : new.faults ≡ (if has_failed result then one_more old.faults else old.faults)
