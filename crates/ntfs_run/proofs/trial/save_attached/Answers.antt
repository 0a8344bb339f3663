use Rattle.std.proofs.Common.{Err, Ok, Some, false, refl, true}
use Rattle.std.proofs.lemmas.Result.{err_from_is_err_and}
use Rattle.ntfs_base.specs.Causes.{Rose}
use Rattle.ntfs_base.specs.Frames.{IfFiles}
use Rattle.ntfs_base.specs.declared.refusal.Named.TheVariants as named
use Rattle.ntfs_base.proofs.FramesLemmas.{told_still}
use Rattle.ntfs_run.specs.Clone.{IsPartSaved, IsSavedFrom, LeavesOutput, saved_in, volume_in}
use Rattle.ntfs_run.specs.Filling.{OutputRefuses}
use Rattle.ntfs_run.specs.Outcome.{Ends, outcome_of, status_of}
use Rattle.ntfs_run.specs.Trial.{TrialRefuses}
use Rattle.ntfs_run.proofs.OutputLemmas.{leaves_map, makes_none, rose_since}
use Rattle.ntfs_run.proofs.MakeLemmas.{on_ok}
use Rattle.ntfs_run.proofs.ToolLemmas.{does_refused}
use Rattle.ntfs_run.proofs.TrialLemmas.{check_tries, forced, made_then_put, put_then_made, said_saved, save_tries, saved_there, sink_still, unchecked, unsaid}
use Rattle.ntfs_run.proofs.trial.save_attached.Goals as goal

pub returns-in_err-checked-clause-does : goal.returns-in_err-checked-clause-does
returns-in_err-checked-clause-does g c told shelf =
    let p = err_from_is_err_and c.from_residual.result c.from_residual.ensures.1 in
    rw (p.1, p.2) (does_refused _ _ _ _ _ _ refl refl (λ settled. unchecked c.args.clone.now (g.G.Image.seen c.args.image.now).content _ _
    (c.in_err-checked.ensures.gives told settled)))

pub returns-in_err-checked-clause-makes : goal.returns-in_err-checked-clause-makes
returns-in_err-checked-clause-makes g c =
    let p = err_from_is_err_and c.from_residual.result c.from_residual.ensures.1 in
    let read = Rose (g.G.Image.faults c.args.image.now).reads (g.G.Image.faults c.check_volume.new.image).reads in
    rw (p.1, p.2) (put_then_made g.S.Shelf g.O.Sink TrialRefuses read read c.args.shelf.now c.args.shelf.now c.args.out.now c.args.out.now (Err _) (λ fault is. is) (λ rose. rose)
    (sink_still g.O.Sink c.args.out.now) tt
    (makes_none g.S.Shelf TrialRefuses read c.args.shelf.now (Err _) c.in_err-checked.ensures.reads.cause (check_tries _ c.in_err-checked.ensures.refusal)))

pub returns-in_err-put_count-clause-does : goal.returns-in_err-put_count-clause-does
returns-in_err-put_count-clause-does g c told shelf =
    let p = err_from_is_err_and c.from_residual-in_err-put_count.result c.from_residual-in_err-put_count.ensures.1 in
    rw (p.1, p.2) (unsaid c.args.clone.now (g.G.Image.seen c.args.image.now).content (g.S.Shelf.seen c.args.shelf.now).files c.in_ok-checked.checked c.owned_clusters.result _ _ _
    (c.in_ok-checked.ensures.gives told) c.owned_clusters.ensures c.in_err-put_count.ensures.refusal c.in_err-put_count.ensures.puts)

pub returns-in_err-put_count-clause-makes : goal.returns-in_err-put_count-clause-makes
returns-in_err-put_count-clause-makes g c =
    let p = err_from_is_err_and c.from_residual-in_err-put_count.result c.from_residual-in_err-put_count.ensures.1 in
    let read = Rose (g.G.Image.faults c.args.image.now).reads (g.G.Image.faults c.check_volume.new.image).reads in
    rw (p.1, p.2) (made_then_put g.S.Shelf g.O.Sink TrialRefuses read read c.args.shelf.now c.args.shelf.now c.args.out.now c.put_count.new.out tt (Err _)
    (makes_none g.S.Shelf TrialRefuses read c.args.shelf.now (Ok tt) tt tt) c.in_err-put_count.ensures.frame c.in_err-put_count.ensures.refusal tt)

pub returns-clause-does : goal.returns-clause-does
returns-clause-does g c told shelf =
    let checked = c.in_ok-checked.checked in
    let image = (g.G.Image.seen c.args.image.now).content in
    let ends = told_still g.G.Image c.args.image.now c.check_volume.new.image
    (λ content. IfFiles g.S.Shelf c.args.shelf.now (λ files.
    Ends (outcome_of files (saved_in named.Clone true c.args.clone.now false (volume_in checked content) files)) (status_of c.save_checked.result)
    (g.S.Shelf.seen c.save_checked.new.shelf).files))
    c.in_ok-checked.ensures.reads.seen c.save_checked.ensures.ends in
    said_saved c.args.clone.now image (g.S.Shelf.seen c.args.shelf.now).files _ checked c.owned_clusters.result (status_of c.save_checked.result) _ _ c.in_ok-put_count.field-0
    (c.in_ok-checked.ensures.gives told) c.owned_clusters.ensures c.in_ok-put_count.ensures.puts (ends told shelf)

pub returns-clause-left : goal.returns-clause-left
returns-clause-left g c told shelf =
    let checked = c.in_ok-checked.checked in
    let image = (g.G.Image.seen c.args.image.now).content in
    let left = told_still g.G.Image c.args.image.now c.check_volume.new.image
    (λ content. IfFiles g.S.Shelf c.args.shelf.now (λ files.
    LeavesOutput (Some c.args.clone.now) false (IsPartSaved true (volume_in checked content)) files (g.S.Shelf.seen c.save_checked.new.shelf).files))
    c.in_ok-checked.ensures.reads.seen c.save_checked.ensures.left in
    leaves_map (Some c.args.clone.now) false (IsPartSaved true (volume_in checked image)) (IsSavedFrom true true image) _ _
    (λ bytes part. record { volume = volume_in checked image; saved = forced image checked (c.in_ok-checked.ensures.gives told); part = part }) (left told shelf)

pub returns-clause-made : goal.returns-clause-made
returns-clause-made g c told shelf =
    let checked = c.in_ok-checked.checked in
    let ends = told_still g.G.Image c.args.image.now c.check_volume.new.image
    (λ content. IfFiles g.S.Shelf c.args.shelf.now (λ files.
    Ends (outcome_of files (saved_in named.Clone true c.args.clone.now false (volume_in checked content) files)) (status_of c.save_checked.result)
    (g.S.Shelf.seen c.save_checked.new.shelf).files))
    c.in_ok-checked.ensures.reads.seen c.save_checked.ensures.ends in
    saved_there c.args.clone.now (volume_in checked (g.G.Image.seen c.args.image.now).content) (g.S.Shelf.seen c.args.shelf.now).files _ c.save_checked.result
    (ends told shelf).status (ends told shelf).files

pub returns-clause-makes : goal.returns-clause-makes
returns-clause-makes g c =
    put_then_made g.S.Shelf g.O.Sink (OutputRefuses named.Clone false) _ (Rose (g.G.Image.faults c.args.image.now).reads (g.G.Image.faults c.save_checked.new.image).reads)
    c.args.shelf.now _ c.args.out.now _ c.save_checked.result save_tries
    (rose_since _ _ _ c.in_ok-checked.ensures.reads.counts.reads c.save_checked.ensures.counts.reads) c.in_ok-put_count.ensures.frame.puts
    (on_ok c.save_checked.result c.in_ok-put_count.ensures.flushed) c.save_checked.ensures.makes
