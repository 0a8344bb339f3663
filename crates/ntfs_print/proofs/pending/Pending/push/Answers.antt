use Rattle.std.proofs.Common.{◌++◌}
use Rattle.ntfs_print.proofs.PendingLemmas.{printed-kept, pushes-behind}
use Rattle.ntfs_print.proofs.pending.Pending.push.Goals as goal

pub returns-then-text-len-clause-pushes : goal.returns-then-text-len-clause-pushes
returns-then-text-len-clause-pushes g c = record {
  whole = printed-kept (c.args.self.now ++ c.args.text.now) c.keep.new.self (g.K.Sink.seen c.args.out.now) c.keep.ensures;
  part = tt;
}

pub returns-clause-pushes : goal.returns-clause-pushes
returns-clause-pushes g c =
    pushes-behind c.args.self.now c.args.text.now c.begin.new.self (g.K.Sink.seen c.args.out.now) (g.K.Sink.seen c.put_rest.new.out) (g.K.Sink.seen c.begin.new.out) c.begin.result
    c.in_ok-put_rest.ensures.put.whole c.begin.ensures.pushes
