use Rattle.std.proofs.Common.{◌∙◌}
use Rattle.ntfs_owners.specs.OwnerLines.{run_numbers}
use Rattle.ntfs_print.proofs.PendingLemmas.{pushes-same}
use Rattle.ntfs_owners.proofs.owner_lines.print_run.Goals as goal

pub returns-clause-pushes : goal.returns-clause-pushes
returns-clause-pushes g c =
    pushes-same c.args.text.now (run_numbers c.args.vcn c.args.run.now) c.as_bytes.result.now c.as_bytes-2.result.now c.args.pending.now c.push.new.self c.push-2.new.self
    (g.K.Sink.seen c.args.out.now) (g.K.Sink.seen c.push.new.out) (g.K.Sink.seen c.push-2.new.out) tt c.push-2.result
    c.as_bytes.ensures.value (c.as_bytes-2.ensures ∙ c.run_numbers-numbers.ensures) c.in_ok-push.ensures.pushes c.push-2.ensures.pushes
