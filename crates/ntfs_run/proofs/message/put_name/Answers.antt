use Rattle.std.proofs.Common.{◌++◌, ◌∷◌, [], subst}
use Rattle.ntfs_base.proofs.SinkLemmas.{put_then}
use Rattle.ntfs_base.specs.Sink.{Put}
use Rattle.ntfs_run.proofs.MessageLemmas.{pieces}
use Rattle.ntfs_run.proofs.message.put_name.Goals as goal

pub returns-clause-put : goal.returns-clause-put
returns-clause-put g c =
    subst (λ name. Put (name ++ (10 ∷ [])) (g.E.Sink.seen c.args.err.now) c.put.result (g.E.Sink.seen c.put.new.self))
    (pieces c.args.request.now c.args.status.now)
    (put_then _ _ _ _ _ _ _ (rw (c.word_in.ensures, c.end_in.ensures) at c.in_ok-put_two.ensures.put) c.put.ensures.put)
