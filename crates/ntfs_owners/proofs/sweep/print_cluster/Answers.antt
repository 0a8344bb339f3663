use Rattle.std.proofs.Common.{◌+◌, ◌-◌, ◌∙◌}
use Rattle.std.proofs.lemmas.Result.{err_from_is_err_and}
use Rattle.ntfs_owners.specs.OwnerLines.{cluster_head, cluster_tail}
use Rattle.ntfs_print.proofs.PendingLemmas.{pushes-second, pushes-three}
use Rattle.ntfs_owners.proofs.sweep.print_cluster.Goals as goal

pub returns-in_err-push-2-clause-pushes : goal.returns-in_err-push-2-clause-pushes
returns-in_err-push-2-clause-pushes g c =
    let row = c.args.row.now in
    let p = err_from_is_err_and c.from_residual-in_err-push-2.result c.from_residual-in_err-push-2.ensures.1 in
    rw p.1 (pushes-second (cluster_head c.args.cluster) row.text.now (cluster_tail (row.vcn + (c.args.cluster - row.first))) c.as_bytes.result.now c.as_bytes-2.result.now
    c.args.pending.now c.push.new.self c.push-2.new.self c.push-2.new.self (g.K.Sink.seen c.args.out.now) (g.K.Sink.seen c.push.new.out) (g.K.Sink.seen c.push-2.new.out) tt _ _
    (c.as_bytes.ensures ∙ c.cluster_head-head.ensures) c.as_bytes-2.ensures.value c.in_ok-push.ensures.pushes c.in_err-push-2.ensures.pushes)

pub returns-clause-pushes : goal.returns-clause-pushes
returns-clause-pushes g c =
    let row = c.args.row.now in
    pushes-three (cluster_head c.args.cluster) row.text.now (cluster_tail (row.vcn + (c.args.cluster - row.first))) c.as_bytes.result.now c.as_bytes-2.result.now c.as_bytes-3.result.now
    c.args.pending.now c.push.new.self c.push-2.new.self c.push-3.new.self (g.K.Sink.seen c.args.out.now) (g.K.Sink.seen c.push.new.out) (g.K.Sink.seen c.push-2.new.out) (g.K.Sink.seen c.push-3.new.out)
    tt c.push-3.result (c.as_bytes.ensures ∙ c.cluster_head-head.ensures) c.as_bytes-2.ensures.value (c.as_bytes-3.ensures ∙ c.cluster_tail-tail.ensures)
    c.in_ok-push.ensures.pushes c.in_ok-push-2.ensures.pushes c.push-3.ensures.pushes
