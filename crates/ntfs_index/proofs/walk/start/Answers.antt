use Rattle.ntfs_index.proofs.WalkStateLemmas.{left-begun}
use Rattle.ntfs_index.proofs.walk.start.Goals as goal

pub returns-clause-walk : goal.returns-clause-walk
returns-clause-walk c =
    let opened = c.in_ok-present.ensures in
    rw (c.new.ensures.items, c.new-2.ensures.empty)
    (left-begun c.args.geometry.now.block c.args.root.now c.in_ok-present.present opened.gives opened.first)
