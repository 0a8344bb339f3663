use Rattle.std.proofs.Common.{Err, inl, ◌∙◌}
use Rattle.std.proofs.lemmas.Result.{err_from_is_err_and}
use Rattle.ntfs_run.specs.Make.{MakeRefuses}
use Rattle.ntfs_run.specs.Outcome.{status_of}
use Rattle.ntfs_run.specs.Trial.{TrialRefuses}
use Rattle.ntfs_run.proofs.OutputLemmas.{made_others}
use Rattle.ntfs_run.proofs.TrialLemmas.{back_apart, clone_apart, leaves_restored, leaves_saved, make_tries, others_made, others_saved, others_tried, runs_map, runs_then, trial_shape, tried, unmade, unsaved}
use Rattle.ntfs_run.proofs.trial.do_jobs.Goals as goal

pub make_file-requires-clause-shape : goal.make_file-requires-clause-shape
make_file-requires-clause-shape g c = trial_shape c.args.seed

pub save_trial-requires-clause-attached : goal.save_trial-requires-clause-attached
save_trial-requires-clause-attached g c = c.in_ok-make_file.ensures.runs.detached

pub save_trial-requires-clause-apart : goal.save_trial-requires-clause-apart
save_trial-requires-clause-apart g c = clone_apart c.args.name.now c.args.clone.now c.requires.clone

pub restore_trial-requires-clause-attached : goal.restore_trial-requires-clause-attached
restore_trial-requires-clause-attached g c = c.in_ok-save_trial.ensures.runs.detached

pub restore_trial-requires-clause-apart : goal.restore_trial-requires-clause-apart
restore_trial-requires-clause-apart g c = back_apart c.args.name.now c.args.clone.now c.args.back.now c.requires.clone c.requires.back

-- the volume wasn't made

pub returns-in_err-make_file-clause-does : goal.returns-in_err-make_file-clause-does
returns-in_err-make_file-clause-does g c told =
    let p = err_from_is_err_and c.from_residual.result c.from_residual.ensures.1 in
    rw (p.1, p.2) (unmade c.args.seed c.args.name.now c.args.clone.now c.args.back.now _ _ c.in_err-make_file.field-0.0 _ _ c.requires.clone c.requires.back
    c.in_err-make_file.ensures.runs.refusal (c.in_err-make_file.ensures.does told))

pub returns-in_err-make_file-clause-left : goal.returns-in_err-make_file-clause-left
returns-in_err-make_file-clause-left g c told = inl (c.in_err-make_file.ensures.left told)

pub returns-in_err-make_file-clause-others : goal.returns-in_err-make_file-clause-others
returns-in_err-make_file-clause-others g c told =
    others_made c.args.name.now _ _ (made_others c.args.name.now c.args.seed 16384 4096 _ _ (c.in_err-make_file.ensures.left told))

pub returns-in_err-make_file-clause-runs : goal.returns-in_err-make_file-clause-runs
returns-in_err-make_file-clause-runs g c =
    let p = err_from_is_err_and c.from_residual.result c.from_residual.ensures.1 in
    rw (p.1, p.2) (runs_map g.S.Shelf g.O.Sink MakeRefuses TrialRefuses _ _ _ _ (Err c.in_err-make_file.field-0.0) make_tries c.in_err-make_file.ensures.runs)

-- its clone image wasn't saved

pub returns-in_err-save_trial-clause-does : goal.returns-in_err-save_trial-clause-does
returns-in_err-save_trial-clause-does g c told =
    let p = err_from_is_err_and c.from_residual-in_err-save_trial.result c.from_residual-in_err-save_trial.ensures.1 in
    rw (p.1, p.2) (unsaved c.args.seed c.args.name.now c.args.clone.now c.args.back.now _ _ _ c.in_err-save_trial.field-0.0 _ _ _ c.requires.clone c.requires.back
    c.in_err-save_trial.ensures.runs.refusal (c.in_ok-make_file.ensures.does told) (c.in_err-save_trial.ensures.does (c.in_ok-make_file.ensures.runs.told ∙ told)))

pub returns-in_err-save_trial-clause-left : goal.returns-in_err-save_trial-clause-left
returns-in_err-save_trial-clause-left g c told =
    leaves_saved c.args.seed c.args.name.now c.args.clone.now _ _ _ _ _ c.requires.clone (c.in_ok-make_file.ensures.does told)
    (c.in_err-save_trial.ensures.left (c.in_ok-make_file.ensures.runs.told ∙ told))

pub returns-in_err-save_trial-clause-others : goal.returns-in_err-save_trial-clause-others
returns-in_err-save_trial-clause-others g c told =
    others_saved c.args.name.now c.args.clone.now _ _ _ c.requires.clone (made_others c.args.name.now c.args.seed 16384 4096 _ _ (c.in_ok-make_file.ensures.left told))
    (c.in_err-save_trial.ensures.others (c.in_ok-make_file.ensures.runs.told ∙ told))

pub returns-in_err-save_trial-clause-runs : goal.returns-in_err-save_trial-clause-runs
returns-in_err-save_trial-clause-runs g c =
    let p = err_from_is_err_and c.from_residual-in_err-save_trial.result c.from_residual-in_err-save_trial.ensures.1 in
    rw (p.1, p.2) (runs_then g.S.Shelf g.O.Sink MakeRefuses TrialRefuses _ c.make_file.new.shelf _ _ c.make_file.new.out _ c.in_ok-make_file.field-0
    (Err c.in_err-save_trial.field-0.0) c.in_ok-make_file.ensures.runs c.in_err-save_trial.ensures.runs)

-- both stand

pub returns-clause-does : goal.returns-clause-does
returns-clause-does g c told =
    let made = c.in_ok-make_file.ensures.runs.told ∙ told in
    let saved = c.in_ok-save_trial.ensures.runs.told ∙ made in
    tried c.args.seed c.args.name.now c.args.clone.now c.args.back.now _ _ _ _ (status_of c.restore_trial.result) _ _ _ _ c.requires.clone c.requires.back
    (c.in_ok-make_file.ensures.does told) (c.in_ok-save_trial.ensures.does made) (c.restore_trial.ensures.does saved)

pub returns-clause-left : goal.returns-clause-left
returns-clause-left g c told =
    let made = c.in_ok-make_file.ensures.runs.told ∙ told in
    let saved = c.in_ok-save_trial.ensures.runs.told ∙ made in
    leaves_restored c.args.seed c.args.name.now c.args.clone.now c.args.back.now _ _ _ _ _ _ _ c.requires.clone c.requires.back
    (c.in_ok-make_file.ensures.does told) (c.in_ok-save_trial.ensures.does made) (c.in_ok-save_trial.ensures.made made) (c.restore_trial.ensures.left saved)

pub returns-clause-others : goal.returns-clause-others
returns-clause-others g c told =
    let made = c.in_ok-make_file.ensures.runs.told ∙ told in
    let saved = c.in_ok-save_trial.ensures.runs.told ∙ made in
    others_tried c.args.name.now c.args.clone.now c.args.back.now _ _ _ _ c.requires.clone c.requires.back
    (made_others c.args.name.now c.args.seed 16384 4096 _ _ (c.in_ok-make_file.ensures.left told)) (c.in_ok-save_trial.ensures.others made) (c.restore_trial.ensures.others saved)

pub returns-clause-runs : goal.returns-clause-runs
returns-clause-runs g c =
    runs_then g.S.Shelf g.O.Sink MakeRefuses TrialRefuses _ c.make_file.new.shelf _ _ c.make_file.new.out _ c.in_ok-make_file.field-0 c.restore_trial.result
    c.in_ok-make_file.ensures.runs
    (runs_then g.S.Shelf g.O.Sink TrialRefuses TrialRefuses c.make_file.new.shelf c.save_trial.new.shelf _ c.make_file.new.out c.save_trial.new.out _ c.in_ok-save_trial.field-0
    c.restore_trial.result c.in_ok-save_trial.ensures.runs c.restore_trial.ensures.runs)
