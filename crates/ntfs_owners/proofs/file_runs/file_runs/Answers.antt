use Rattle.std.proofs.Common.{◌≡◌, ℕ, List, ◌∙◌, Ok, Err, IfOk, Result, Vec, Global, map}
use Rattle.std.proofs.lemmas.Result.{err_from_is_err_and}
use Rattle.ntfs_base.specs.Bytes.{cluster_at}
use Rattle.ntfs_base.specs.Frames.{Gives}
use Rattle.ntfs_base.proofs.FramesLemmas.{told_still}
use Rattle.ntfs_survey.specs.Owned.{volume_survey}
use Rattle.ntfs_survey.specs.declared.owners.Owner.{Owner}
use Rattle.ntfs_volume.specs.Located.{slots_of}
use Rattle.ntfs_volume.specs.Opened.{Opened}
use Rattle.ntfs_print.specs.Fault.{show_origin}
use Rattle.ntfs_owners.specs.Held.{held_of, slots_held}
use Rattle.ntfs_owners.specs.Owners.{all_runs, file_runs, is_of_file, live_sequence}
use Rattle.ntfs_print.specs.declared.fault.ShowFault.{ShowFault}
use Rattle.ntfs_owners.specs.declared.holding.Holding.{Holding}
use Rattle.ntfs_owners.specs.declared.owner_query.OwnerQuery.TheVariants as query
use Rattle.ntfs_owners.proofs.FileLemmas.{file-found, file-missing, file-unsurveyed, gives-cut, if-ok}
use Rattle.ntfs_owners.proofs.file_runs.file_runs.Goals as goal

abbrev Tells : Opened → ℕ → Result ℕ ShowFault → List ℕ → Type 0
Tells o r result content =
    (owners : List Owner) → volume_survey o (cluster_at content o.geometry.cluster) ≡ Ok owners → Gives show_origin (λ s. s) (live_sequence o (cluster_at content o.geometry.cluster) r) result

-- what is kept holds the runs of a file
abbrev Holds : Opened → ℕ → ℕ → List ℕ → Vec Holding Global → Type 0
Holds o r sequence content held =
    map held_of held.items ≡ slots_held (is_of_file r sequence) all_runs 0 (slots_of o.geometry o.map (cluster_at content o.geometry.cluster))

pub returns-in_err-survey_all-clause-gives : goal.returns-in_err-survey_all-clause-gives
returns-in_err-survey_all-clause-gives g c told =
    let o = c.args.table.now in
    let p = err_from_is_err_and c.from_residual.result c.from_residual.ensures.1 in
    rw (p.1, p.2) (λ settled. file-unsurveyed o (cluster_at (g.G.Image.seen c.args.image.now).content o.geometry.cluster) c.args.number _ (c.in_err-survey_all.ensures.wrong told settled))

pub returns-in_err-sequence-clause-gives : goal.returns-in_err-sequence-clause-gives
returns-in_err-sequence-clause-gives g c told =
    let o = c.args.table.now in
    let right = c.in_ok-survey_all.ensures.right told in
    let live = told_still g.G.Image _ _ (Tells o c.args.number (Err c.in_err-sequence.field-0.0)) c.in_ok-survey_all.ensures.reads.seen c.in_err-sequence.ensures.gives told right.0 right.1 in
    let p = err_from_is_err_and c.from_residual-in_err-sequence.result c.from_residual-in_err-sequence.ensures.1 in
    rw (p.1, p.2) (λ settled. file-missing o (cluster_at (g.G.Image.seen c.args.image.now).content o.geometry.cluster) c.args.number right.0 _ right.1 (live settled))

pub returns-in_err-survey_all-clause-listed : goal.returns-in_err-survey_all-clause-listed
returns-in_err-survey_all-clause-listed g c =
    let p = err_from_is_err_and c.from_residual.result c.from_residual.ensures.1 in
    rw (p.1, p.2) (c.in_err-survey_all.ensures.listed (query.Number c.args.number))

pub returns-clause-gives : goal.returns-clause-gives
returns-clause-gives g c told =
    let o = c.args.table.now in
    let f = cluster_at (g.G.Image.seen c.args.image.now).content o.geometry.cluster in
    let n = c.args.number in
    let s = c.in_ok-sequence.sequence in
    let right = c.in_ok-survey_all.ensures.right told in
    let live = told_still g.G.Image _ _ (Tells o n (Ok s)) c.in_ok-survey_all.ensures.reads.seen c.in_ok-sequence.ensures.gives told right.0 right.1 in
    let held = told_still g.G.Image _ _ (λ content. IfOk c.collect.result (Holds o n s content)) (c.in_ok-sequence.ensures.reads.seen ∙ c.in_ok-survey_all.ensures.reads.seen) c.collect.ensures.held told in
    gives-cut (λ held. map held_of held.items) (file_runs o f n) c.collect.result
    (if-ok (Holds o n s (g.G.Image.seen c.args.image.now).content) (λ held. file_runs o f n ≡ Ok (map held_of held.items)) c.collect.result
    (λ held is. file-found o f n s right.0 (map held_of held.items) right.1 live is) held)
    c.collect.ensures.cuts
