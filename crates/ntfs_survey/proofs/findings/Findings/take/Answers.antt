use Rattle.std.proofs.Common.{ap, sym, ◌∙◌}
use Rattle.std.proofs.lemmas.Result.{on_ok_weaker}
use Rattle.ntfs_record.specs.Views.{shown_body, shown_view}
use Rattle.ntfs_record.specs.declared.attribute.Body.{Body}
use Rattle.ntfs_survey.specs.Surveying.{pairs_taken}
use Rattle.ntfs_survey.proofs.FoundLemmas.{shown-resident, shown-runs, shown-wrong}
use Rattle.ntfs_survey.proofs.findings.Findings.take.Goals as goal

pub returns-then-is_wrong : goal.returns-then-is_wrong
returns-then-is_wrong c = shown-wrong c.args.clusters c.args.number c.args.self.now (shown_view c.args.attribute.now) (sym c.is_wrong.ensures ∙ c.if-is_wrong.true)

pub returns-in-Resident : goal.returns-in-Resident
returns-in-Resident c = shown-resident c.args.clusters c.args.number c.args.self.now c.args.attribute.now (ap (λ (b : Body). (shown_body b).is_resident) c.in-Resident.is)

pub returns-in-Runs : goal.returns-in-Runs
returns-in-Runs c =
    let body = c.in-Runs.is in
    let n = c.args.clusters in
    let r = c.args.number in
    let place = c.args.attribute.now.place in
    let found = c.args.self.now in
    let runs = shown-runs n r found c.args.attribute.now (sym c.is_wrong.ensures ∙ c.if-is_wrong.false) (ap (λ (b : Body). (shown_body b).is_resident) body) in
    let taken = ap (λ (b : Body). pairs_taken n r place (shown_body b).lowest (shown_body b).next (shown_body b).pairs found) body in
    on_ok_weaker c.take_pairs.result (λ is. is ∙ sym taken ∙ runs) c.take_pairs.ensures
