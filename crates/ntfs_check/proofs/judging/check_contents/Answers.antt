use Rattle.std.proofs.Common.{◌∙◌, subst, Err, Ok}
use Rattle.std.proofs.lemmas.Result.{err_from_is_err_and}
use Rattle.std.specs.Prelude.{Result}
use Rattle.ntfs_base.specs.Frames.{Gives}
use Rattle.ntfs_base.specs.declared.refusal.Rule.TheVariants as rule
use Rattle.ntfs_check.proofs.JudgedLemmas.{GivesAt, fixed, fourth-judges, mirror, names, number-none, third-refused, volume_seen}
use Rattle.ntfs_check.proofs.judging.check_contents.Goals as goal
use Rattle.ntfs_check.specs.Judged.{rule_15}
use Rattle.ntfs_rules.specs.Directories.{c13, c14}
use Rattle.ntfs_rules.specs.Outcome.{check_origin}
use Rattle.ntfs_rules.specs.VolumeData.{contents, listings}
use Rattle.ntfs_rules.specs.declared.fault.CheckFault.{CheckFault}

pub returns-in_err-check_fixed_records-clause-gives : goal.returns-in_err-check_fixed_records-clause-gives
returns-in_err-check_fixed_records-clause-gives g c told =
    let o = c.args.table.now in
    let v = volume_seen o (g.G.Image.seen c.args.image.now) in
    let p = err_from_is_err_and c.from_residual-in_err-check_fixed_records.result c.from_residual-in_err-check_fixed_records.ensures.1 in
    let first = number-none rule.C13 (c13 v.geometry (listings v) (contents v)) c.in_ok-check_orders.field-0 (c.in_ok-check_orders.ensures.gives told) in
    let at_names = subst (GivesAt o names (Ok c.in_ok-check_names_of_entries.field-0)) c.in_ok-check_orders.ensures.reads.seen c.in_ok-check_names_of_entries.ensures.gives in
    let second = number-none rule.C14 (c14 v.geometry (listings v) (contents v)) c.in_ok-check_names_of_entries.field-0 (at_names told) in
    let at_fixed = subst (GivesAt o fixed (Err c.in_err-check_fixed_records.field-0.0)) (c.in_ok-check_names_of_entries.ensures.reads.seen ∙ c.in_ok-check_orders.ensures.reads.seen) c.in_err-check_fixed_records.ensures.gives in
    rw (p.1, p.2) (λ settled. third-refused v c.in_err-check_fixed_records.field-0.0 first second (at_fixed told settled))

pub returns-clause-gives : goal.returns-clause-gives
returns-clause-gives g c told =
    let o = c.args.table.now in
    let v = volume_seen o (g.G.Image.seen c.args.image.now) in
    let before = c.in_ok-check_names_of_entries.ensures.reads.seen ∙ c.in_ok-check_orders.ensures.reads.seen in
    let first = number-none rule.C13 (c13 v.geometry (listings v) (contents v)) c.in_ok-check_orders.field-0 (c.in_ok-check_orders.ensures.gives told) in
    let at_names = subst (GivesAt o names (Ok c.in_ok-check_names_of_entries.field-0)) c.in_ok-check_orders.ensures.reads.seen c.in_ok-check_names_of_entries.ensures.gives in
    let second = number-none rule.C14 (c14 v.geometry (listings v) (contents v)) c.in_ok-check_names_of_entries.field-0 (at_names told) in
    let at_fixed = subst (GivesAt o fixed (Ok c.in_ok-check_fixed_records.field-0)) before c.in_ok-check_fixed_records.ensures.gives in
    let third = number-none rule.C15 (rule_15 v) c.in_ok-check_fixed_records.field-0 (at_fixed told) in
    let at_mirror = subst (GivesAt o mirror c.check_mirror.result) (c.in_ok-check_fixed_records.ensures.reads.seen ∙ before) c.check_mirror.ensures.gives in
    subst (λ (expected : Result (Unit {0}) CheckFault). Gives check_origin (λ done. done) expected c.check_mirror.result) (fourth-judges v first second third) (at_mirror told)
