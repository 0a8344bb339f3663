use Rattle.std.proofs.Common.{◌+◌, ◌*◌, ap, length, refl}
use Rattle.ntfs_check_fixed.proofs.MirrorLemmas.{take-short, take-torn, take-whole}
use Rattle.ntfs_check_fixed.proofs.mirror.take_record.Goals as goal

pub returns-then-bytes-end : goal.returns-then-bytes-end
returns-then-bytes-end c =
    let n = length c.args.into.now in
    take-short n c.args.number (c.from.result * n) (c.from.result * n + n) c.args.bytes.now (ap (λ k. k * n) c.from.ensures) refl c.if-bytes-end.true

pub returns-in-Ok : goal.returns-in-Ok
returns-in-Ok c =
    let n = length c.args.into.now in
    take-whole n c.args.number (c.from.result * n) (c.from.result * n + n) c.args.bytes.now c.copy_from_slice.new.self c.unfix.new.block (ap (λ k. k * n) c.from.ensures) refl c.if-bytes-end.false
    c.copy_from_slice.ensures.after c.in-Ok.ensures.exact

pub returns-in-Err : goal.returns-in-Err
returns-in-Err c =
    let n = length c.args.into.now in
    take-torn n c.args.number (c.from.result * n) (c.from.result * n + n) c.args.bytes.now c.copy_from_slice.new.self c.in-Err.field-0 (ap (λ k. k * n) c.from.ensures) refl c.if-bytes-end.false
    c.copy_from_slice.ensures.after c.in-Err.ensures.exact
