use Rattle.std.proofs.Common.{ap, ◌∙◌, ◌++◌}
use Rattle.ntfs_print.proofs.PendingLemmas.{printed-kept}
use Rattle.ntfs_print.proofs.pending.Pending.begin.Goals as goal

pub returns-clause-pushes : goal.returns-clause-pushes
returns-clause-pushes g c = record {
  whole = printed-kept c.args.text.now c.keep.new.self (g.K.Sink.seen c.args.out.now) (c.keep.ensures ∙ ap (λ xs. xs ++ c.args.text.now) c.requires);
  part = tt;
}
