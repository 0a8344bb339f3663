use Rattle.std.proofs.Common.{◌+◌, ◌*◌, ap}
use Rattle.ntfs_clone.proofs.WritingLemmas.{held-gap}
use Rattle.ntfs_clone.proofs.writing.put_gap.Goals as goal

pub returns-clause-held : goal.returns-clause-held
returns-clause-held g c read told held =
    held-gap c.args.header.now read c.flush.new.row _ _ c.args.count (c.in_ok-flush.ensures.held read told held) c.in_ok-flush.ensures.empty c.in_ok-flush.ensures.empty
    (ap (λ n. c.flush.new.row.place + c.args.count * n) c.from.ensures)
