use Rattle.std.proofs.Common.{arith, refl, ◌*◌, ◌+◌}
use Rattle.std.proofs.lemmas.List.{get_or-set_other}
use Rattle.ntfs_fixup.proofs.StepLemmas.{restored}
use Rattle.ntfs_fixup.proofs.unfixing.restore.Goals as goal

pub strides-preserved : goal.strides-preserved
strides-preserved c =
    restored c.args.block.now c.strides.block c.args.offset c.strides.stride _ _ c.requires.array (omega arith)
    (omega arith) refl
    (get_or-set_other c.strides.block (512 * c.strides.stride + 510)
    (c.args.offset + 2 * (c.strides.stride + 1) + 1) _ 0 (λ e. omega arith))
    c.strides.invariant
