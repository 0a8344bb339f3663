use Rattle.std.proofs.Common.{ap, ◌∙◌, subst, List, Option}
use Rattle.std.proofs.lemmas.Result.{on_ok_weaker}
use Rattle.ntfs_runs.specs.declared.run.Run.{Run}
use Rattle.ntfs_survey.specs.Owned.{run_owners}
use Rattle.ntfs_survey.specs.Surveying.{AreRunsOf, with_owners}
use Rattle.ntfs_survey.proofs.FoundLemmas.{pairs-right, pairs-wrong}
use Rattle.ntfs_survey.proofs.findings.Findings.take_pairs.Goals as goal

pub returns-in-None : goal.returns-in-None
returns-in-None c =
    c.mark_wrong.ensures
    ∙ pairs-wrong c.args.clusters c.args.holder.number c.args.holder.place c.args.lowest c.args.next c.saturating_sub.result c.args.pairs.now c.args.self.now c.saturating_sub.ensures
    (subst (λ (found : Option (List Run)). AreRunsOf c.args.clusters c.saturating_sub.result c.args.pairs.now found) c.in-None.is c.in_ok-read_runs.ensures)

pub returns-in-Some : goal.returns-in-Some
returns-in-Some c =
    let right = subst (λ (found : Option (List Run)). AreRunsOf c.args.clusters c.saturating_sub.result c.args.pairs.now found) c.in-Some.is c.in_ok-read_runs.ensures in
    let taken = pairs-right c.args.clusters c.args.holder.number c.args.holder.place c.args.lowest c.args.next c.saturating_sub.result c.args.pairs.now c.in-Some.list c.args.self.now c.saturating_sub.ensures right.0 right.1 in
    on_ok_weaker c.add_runs.result (λ added. added ∙ ap (λ runs. with_owners (run_owners c.args.holder.number c.args.holder.place c.args.lowest runs) c.args.self.now) c.runs.ensures ∙ taken) c.add_runs.ensures
