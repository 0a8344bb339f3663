use Rattle.std.proofs.Common.{◌-◌, ap, sym, ◌∙◌, subst, List, Option}
use Rattle.ntfs_record.specs.Views.{shown_body}
use Rattle.ntfs_record.specs.declared.attribute.Body.{Body}
use Rattle.ntfs_runs.specs.Clusters.{vcns}
use Rattle.ntfs_runs.specs.declared.run.Run.{Run}
use Rattle.ntfs_volume.specs.Gathering.{AreRuns, joined, shown_parts}
use Rattle.ntfs_volume.proofs.PartsLemmas.{add-resident, add-right, add-wrong, on_ok_map}
use Rattle.ntfs_volume.proofs.parts.Parts.add.Goals as goal

pub returns-in-Resident-clause-shown : goal.returns-in-Resident-clause-shown
returns-in-Resident-clause-shown c =
    add-resident c.args.clusters c.args.number (shown_parts c.args.self.now) c.args.extent.now (ap (λ (b : Body). (shown_body b).is_resident) c.in-Resident.is)

pub returns-in-None-clause-shown : goal.returns-in-None-clause-shown
returns-in-None-clause-shown c =
    let body = c.in-Runs.is in
    add-wrong c.args.clusters c.args.number (shown_parts c.args.self.now) c.args.extent.now c.saturating_sub.result c.in-Runs.pairs.now
    (ap (λ (b : Body). (shown_body b).is_resident) body)
    (c.saturating_sub.ensures ∙ sym (ap (λ (b : Body). (shown_body b).next - (shown_body b).lowest) body))
    (sym (ap (λ (b : Body). (shown_body b).pairs) body))
    (subst (λ (found : Option (List Run)). AreRuns c.args.clusters c.saturating_sub.result c.in-Runs.pairs.now found) c.in-None.is c.in_ok-read_runs-in-Runs.ensures)

pub returns-in-Some-clause-shown : goal.returns-in-Some-clause-shown
returns-in-Some-clause-shown c =
    let body = c.in-Runs.is in
    let right = add-right c.args.clusters c.args.number (shown_parts c.args.self.now) c.args.extent.now c.saturating_sub.result c.in-Runs.lowest c.in-Runs.next c.in-Runs.pairs.now c.in-Some.list
    (ap (λ (b : Body). (shown_body b).is_resident) body)
    (c.saturating_sub.ensures ∙ sym (ap (λ (b : Body). (shown_body b).next - (shown_body b).lowest) body))
    (sym (ap (λ (b : Body). (shown_body b).pairs) body))
    (sym (ap (λ (b : Body). (shown_body b).lowest) body)) (sym (ap (λ (b : Body). (shown_body b).next) body))
    (subst (λ (found : Option (List Run)). AreRuns c.args.clusters c.saturating_sub.result c.in-Runs.pairs.now found) c.in-Some.is c.in_ok-read_runs-in-Runs.ensures) in
    on_ok_map c.join.result (λ same. same ∙ ap (λ runs. joined (shown_parts c.args.self.now) c.in-Runs.lowest c.in-Runs.next (vcns runs)) c.runs.ensures ∙ right) c.join.ensures.shown
