use Rattle.std.proofs.Common.{◌≡◌, ◌-◌, length, take, drop, arith}
use Rattle.ntfs_clone.specs.Taking.{to_come}
use Rattle.ntfs_clone.proofs.TakingLemmas.{to_come-after, refill-bytes, refill-end, moved-front}
use Rattle.ntfs_clone.proofs.taking.refill.Goals as goal

pub returns-clause-bytes : goal.returns-clause-bytes
returns-clause-bytes g c told =
    let count = c.args.end - c.args.start in
    let long : length c.move_piece.new.bytes ≡ length c.args.buffer.now = c.move_piece.auto.bytes in
    let size : length c.fill.new.into ≡ length (take (length c.move_piece.new.bytes - count) (drop count c.move_piece.new.bytes)) = c.fill.auto.into in
    refill-bytes count c.in_ok-more.more c.move_piece.new.bytes c.fill.new.into (to_come (g.I.Source.seen c.args.source.now)) (to_come (g.I.Source.seen c.fill.new.source))
    (take count (drop c.args.start c.args.buffer.now)) (omega (arith, c.requires.order, c.requires.within, long))
    (moved-front c.args.start count c.args.buffer.now c.move_piece.new.bytes (omega (arith, c.requires.order, c.requires.within)) c.move_piece.ensures)
    size c.in_ok-more.ensures.room (c.in_ok-more.ensures.bytes told)
    (to_come-after c.in_ok-more.more _ _ told c.in_ok-more.ensures.given)

pub returns-clause-end : goal.returns-clause-end
returns-clause-end g c told less =
    let count = c.args.end - c.args.start in
    let long : length c.move_piece.new.bytes ≡ length c.args.buffer.now = c.move_piece.auto.bytes in
    refill-end count c.in_ok-more.more c.move_piece.new.bytes c.fill.new.into (to_come (g.I.Source.seen c.args.source.now)) (to_come (g.I.Source.seen c.fill.new.source))
    (omega (arith, c.requires.order, c.requires.within, long)) (omega (arith, less, long)) c.fill.auto.into c.in_ok-more.ensures.room (c.in_ok-more.ensures.bytes told)
    (to_come-after c.in_ok-more.more _ _ told c.in_ok-more.ensures.given)
