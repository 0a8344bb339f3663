use Rattle.std.proofs.Common.{Err, Ok, Some, codes, drop, false, refl, subst, sym}
use Rattle.std.proofs.lemmas.Result.{err_from_is_err_and}
use Rattle.ntfs_base.specs.Causes.{Rose}
use Rattle.ntfs_base.specs.declared.refusal.Named.TheVariants as named
use Rattle.ntfs_clone.specs.Header.{clone_header}
use Rattle.ntfs_clone.specs.Restored.{IsPartOf}
use Rattle.ntfs_clone.specs.Taking.{to_come}
use Rattle.ntfs_clone.proofs.TakingLemmas.{given-then, to_come-after, told-after}
use Rattle.ntfs_run.specs.Clone.{IsRestoredFrom, LeavesOutput, restored_in}
use Rattle.ntfs_run.specs.Filling.{FileRefuses}
use Rattle.ntfs_run.specs.Outcome.{Does, Ends, clone_status, outcome_or, status_of}
use Rattle.ntfs_run.specs.Trial.{TrialRefuses, bytes_line, says}
use Rattle.ntfs_run.proofs.CloneLemmas.{does_ended}
use Rattle.ntfs_run.proofs.OutputLemmas.{leaves_map, makes_none, rose_since}
use Rattle.ntfs_run.proofs.ToolLemmas.{does_refused, refused_ok}
use Rattle.ntfs_run.proofs.TrialLemmas.{header_tries, made_then_put, put_then_made, read_then, restore_tries, restored_none, says_does, sink_still, turn_refused, turn_then, unread}
use Rattle.ntfs_run.proofs.trial.restore_back.Goals as goal

pub returns-in_err-header-clause-does : goal.returns-in_err-header-clause-does
returns-in_err-header-clause-does g c shelf told =
    let p = err_from_is_err_and c.from_residual.result c.from_residual.ensures.1 in
    rw (p.1, p.2) (does_refused _ _ _ _ _ _ refl refl (λ settled. unread c.args.back.now (to_come (g.I.Source.seen c.args.source.now)) _ _
    (c.in_err-header.ensures.gives told settled)))

pub returns-in_err-header-clause-makes : goal.returns-in_err-header-clause-makes
returns-in_err-header-clause-makes g c =
    let p = err_from_is_err_and c.from_residual.result c.from_residual.ensures.1 in
    let read = Rose (g.I.Source.faults c.args.source.now) (g.I.Source.faults c.read_clone_header.new.source) in
    rw (p.1, p.2) (put_then_made g.S.Shelf g.O.Sink TrialRefuses read read c.args.shelf.now c.args.shelf.now c.args.out.now c.args.out.now (Err _) (λ fault is. is) (λ rose. rose)
    (sink_still g.O.Sink c.args.out.now) tt
    (makes_none g.S.Shelf TrialRefuses read c.args.shelf.now (Err _) c.in_err-header.ensures.takes.cause (header_tries _ c.in_err-header.ensures.refusal)))

pub returns-in_err-restore_behind-clause-does : goal.returns-in_err-restore_behind-clause-does
returns-in_err-restore_behind-clause-does g c shelf told =
    let p = err_from_is_err_and c.from_residual-in_err-restore_behind.result c.from_residual-in_err-restore_behind.ensures.1 in
    let header = c.in_ok-header.header in
    let back = c.args.back.now in
    let image = to_come (g.I.Source.seen c.args.source.now) in
    let files = (g.S.Shelf.seen c.args.shelf.now).files in
    let left = (g.S.Shelf.seen c.restore_behind.new.shelf).files in
    let fault = c.in_err-restore_behind.field-0.0 in
    let out = g.O.Sink.seen c.args.out.now in
    let here = told-after header.offset (g.I.Source.seen c.args.source.now) (g.I.Source.seen c.read_clone_header.new.source) told c.in_ok-header.ensures.given in
    let rest = to_come-after header.offset (g.I.Source.seen c.args.source.now) (g.I.Source.seen c.read_clone_header.new.source) told c.in_ok-header.ensures.given in
    let ends = subst (λ rest. Ends (outcome_or files (restored_in named.Back back false header rest files)) fault left) rest (c.in_err-restore_behind.ensures.ends shelf here) in
    rw (p.1, p.2) (subst (λ o. Does o fault out out left) (sym (read_then back image files header (c.in_ok-header.ensures.gives told)))
    (turn_refused (outcome_or files (restored_in named.Back back false header (drop header.offset image) files)) (says (bytes_line (codes "restored: ") header.device))
    fault out out left (restore_tries fault c.in_err-restore_behind.ensures.makes.refusal)
    (does_ended _ fault out out left ends refl (restored_none back header (drop header.offset image) files))))

pub returns-in_err-restore_behind-clause-left : goal.returns-in_err-restore_behind-clause-left
returns-in_err-restore_behind-clause-left g c shelf told =
    let header = c.in_ok-header.header in
    let image = to_come (g.I.Source.seen c.args.source.now) in
    let files = (g.S.Shelf.seen c.args.shelf.now).files in
    let left = (g.S.Shelf.seen c.restore_behind.new.shelf).files in
    let here = told-after header.offset (g.I.Source.seen c.args.source.now) (g.I.Source.seen c.read_clone_header.new.source) told c.in_ok-header.ensures.given in
    let rest = to_come-after header.offset (g.I.Source.seen c.args.source.now) (g.I.Source.seen c.read_clone_header.new.source) told c.in_ok-header.ensures.given in
    leaves_map (Some c.args.back.now) false (IsPartOf header (drop header.offset image)) (IsRestoredFrom image) files left
    (λ bytes part. record { header = header; begins = refused_ok clone_status (clone_header image) header (c.in_ok-header.ensures.gives told); part = part })
    (subst (λ rest. LeavesOutput (Some c.args.back.now) false (IsPartOf header rest) files left) rest (c.in_err-restore_behind.ensures.left shelf here))

pub returns-in_err-restore_behind-clause-kept : goal.returns-in_err-restore_behind-clause-kept
returns-in_err-restore_behind-clause-kept g c = given-then _ _ _ c.in_ok-header.ensures.kept c.in_err-restore_behind.ensures.kept

pub returns-in_err-restore_behind-clause-makes : goal.returns-in_err-restore_behind-clause-makes
returns-in_err-restore_behind-clause-makes g c =
    let p = err_from_is_err_and c.from_residual-in_err-restore_behind.result c.from_residual-in_err-restore_behind.ensures.1 in
    rw (p.1, p.2) (put_then_made g.S.Shelf g.O.Sink (FileRefuses named.Back false) _
    (Rose (g.I.Source.faults c.args.source.now) (g.I.Source.faults c.restore_behind.new.source))
    c.args.shelf.now c.restore_behind.new.shelf c.args.out.now c.args.out.now (Err c.in_err-restore_behind.field-0.0) restore_tries
    (rose_since _ _ _ c.in_ok-header.ensures.takes.counts c.in_err-restore_behind.ensures.takes) (sink_still g.O.Sink c.args.out.now) tt c.in_err-restore_behind.ensures.makes)

pub returns-clause-does : goal.returns-clause-does
returns-clause-does g c shelf told =
    let header = c.in_ok-header.header in
    let back = c.args.back.now in
    let image = to_come (g.I.Source.seen c.args.source.now) in
    let files = (g.S.Shelf.seen c.args.shelf.now).files in
    let left = (g.S.Shelf.seen c.restore_behind.new.shelf).files in
    let out = g.O.Sink.seen c.args.out.now in
    let after = g.O.Sink.seen c.put_count.new.out in
    let status = status_of c.put_count.result in
    let first = outcome_or files (restored_in named.Back back false header (drop header.offset image) files) in
    let line = bytes_line (codes "restored: ") header.device in
    let here = told-after header.offset (g.I.Source.seen c.args.source.now) (g.I.Source.seen c.read_clone_header.new.source) told c.in_ok-header.ensures.given in
    let rest = to_come-after header.offset (g.I.Source.seen c.args.source.now) (g.I.Source.seen c.read_clone_header.new.source) told c.in_ok-header.ensures.given in
    let ends = subst (λ rest. Ends (outcome_or files (restored_in named.Back back false header rest files)) (status_of (Ok tt)) left) rest (c.in_ok-restore_behind.ensures.ends shelf here) in
    subst (λ o. Does o status out after left) (sym (read_then back image files header (c.in_ok-header.ensures.gives told)))
    (turn_then first (says line) status out out after left left (does_ended first (status_of (Ok tt)) out out left ends refl (restored_none back header (drop header.offset image) files))
    (says_does line left c.put_count.result out after c.put_count.ensures.puts c.put_count.ensures.refusal))

pub returns-clause-left : goal.returns-clause-left
returns-clause-left g c shelf told =
    let header = c.in_ok-header.header in
    let image = to_come (g.I.Source.seen c.args.source.now) in
    let files = (g.S.Shelf.seen c.args.shelf.now).files in
    let left = (g.S.Shelf.seen c.restore_behind.new.shelf).files in
    let here = told-after header.offset (g.I.Source.seen c.args.source.now) (g.I.Source.seen c.read_clone_header.new.source) told c.in_ok-header.ensures.given in
    let rest = to_come-after header.offset (g.I.Source.seen c.args.source.now) (g.I.Source.seen c.read_clone_header.new.source) told c.in_ok-header.ensures.given in
    leaves_map (Some c.args.back.now) false (IsPartOf header (drop header.offset image)) (IsRestoredFrom image) files left
    (λ bytes part. record { header = header; begins = refused_ok clone_status (clone_header image) header (c.in_ok-header.ensures.gives told); part = part })
    (subst (λ rest. LeavesOutput (Some c.args.back.now) false (IsPartOf header rest) files left) rest (c.in_ok-restore_behind.ensures.left shelf here))

pub returns-clause-kept : goal.returns-clause-kept
returns-clause-kept g c = given-then _ _ _ c.in_ok-header.ensures.kept c.in_ok-restore_behind.ensures.kept

pub returns-clause-makes : goal.returns-clause-makes
returns-clause-makes g c =
    made_then_put g.S.Shelf g.O.Sink (FileRefuses named.Back false) _ (Rose (g.I.Source.faults c.args.source.now) (g.I.Source.faults c.restore_behind.new.source))
    c.args.shelf.now c.restore_behind.new.shelf c.args.out.now c.put_count.new.out c.in_ok-restore_behind.field-0 c.put_count.result
    c.in_ok-restore_behind.ensures.makes c.put_count.ensures.frame c.put_count.ensures.refusal c.put_count.ensures.flushed
