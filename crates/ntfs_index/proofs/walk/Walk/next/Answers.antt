use Rattle.std.proofs.Common.{Ok, subst}
use Rattle.ntfs_index.specs.State.{IsNext, WalkState, left}
use Rattle.ntfs_index.specs.Path.{left_of_path}
use Rattle.ntfs_index.proofs.walk.Walk.next.Goals as goal

pub returns-in-Ok-clause-told : goal.returns-in-Ok-clause-told
returns-in-Ok-clause-told g c sound told =
    let map = (g.B.Blocks.seen c.args.blocks.now).blocks in
    subst (λ (state : WalkState). IsNext (left state map) (Ok c.in-Ok.found) (left_of_path map c.advance.new.path)
    c.advance.new.key.items)
    c.self.view_is (c.in-Ok.ensures.told told)
