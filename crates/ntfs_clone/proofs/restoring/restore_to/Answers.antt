use Rattle.std.proofs.Common.{◌∙◌, sym}
use Rattle.std.proofs.lemmas.Result.{err_from_is_err_and}
use Rattle.ntfs_clone.specs.Taking.{to_come}
use Rattle.ntfs_clone.proofs.WritingLemmas.{part-laid, restored-cut, restored-last, restored-tail, restored-written, write-unsettled}
use Rattle.ntfs_clone.proofs.restoring.restore_to.Goals as goal

pub returns-in_err-lay_out-clause-restored : goal.returns-in_err-lay_out-clause-restored
returns-in_err-lay_out-clause-restored g c told told_target =
    let p = err_from_is_err_and c.from_residual.result c.from_residual.ensures.1 in
    let all = to_come (g.I.Source.seen c.args.source.now) in
    rw (p.1, p.2) (restored-cut c.args.header.now all _ _ (write-unsettled _ c.in_err-lay_out.ensures.fails) (part-laid c.args.header.now all _ (c.in_err-lay_out.ensures.makes told_target).part))

pub returns-in_err-write_commands-clause-restored : goal.returns-in_err-write_commands-clause-restored
returns-in_err-write_commands-clause-restored g c told told_target =
    let p = err_from_is_err_and c.from_residual-in_err-write_commands.result c.from_residual-in_err-write_commands.ensures.1 in
    rw (p.1, p.2) (restored-written c.args.header.now (to_come (g.I.Source.seen c.args.source.now)) _ _ (c.in_err-write_commands.ensures.written told (c.lay_out.ensures.same.told ∙ told_target)))

pub returns-then-branch-clause-restored : goal.returns-then-branch-clause-restored
returns-then-branch-clause-restored g c told told_target =
    let laid = c.lay_out.ensures.same.told ∙ told_target in
    let written = c.in_ok-write_commands.ensures.written told laid in
    restored-last c.args.header.now (to_come (g.I.Source.seen c.args.source.now)) _ _ c.back_up.result written.0 (sym c.if-branch.true ∙ written.1)
    (c.back_up.ensures.makes (c.write_commands.ensures.same.same.told ∙ laid)) c.back_up.ensures.fails

pub returns-else-branch-clause-restored : goal.returns-else-branch-clause-restored
returns-else-branch-clause-restored g c told told_target =
    let written = c.in_ok-write_commands.ensures.written told (c.lay_out.ensures.same.told ∙ told_target) in
    restored-tail c.args.header.now (to_come (g.I.Source.seen c.args.source.now)) _ written.0 (sym c.if-branch.false ∙ written.1)
