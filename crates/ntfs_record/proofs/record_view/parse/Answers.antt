use Rattle.std.proofs.Common.{◌∙◌, arith}
use Rattle.ntfs_record.proofs.RawLemmas.{kept_lem}
use Rattle.ntfs_record.proofs.RecordLemmas.{record_from, fault_from, found_lem, cause_lem}
use Rattle.ntfs_record.proofs.record_view.parse.Goals as goal

pub returns-clause-found : goal.returns-clause-found
returns-clause-found c = found_lem c.args.bytes.now c.view_of.result c.view_of.ensures

pub returns-clause-only : goal.returns-clause-only
returns-clause-only c = λ r is. c.view_of.ensures ∙ record_from c.args.bytes.now r is

pub returns-clause-cause : goal.returns-clause-cause
returns-clause-cause c = cause_lem c.args.bytes.now c.view_of.result c.view_of.ensures

pub returns-clause-kept : goal.returns-clause-kept
returns-clause-kept c =
    kept_lem c.args.bytes.now c.view_of.result (λ i. omega (arith, c.type_inv.bytes i))
    (found_lem c.args.bytes.now c.view_of.result c.view_of.ensures)

pub returns-clause-only_cause : goal.returns-clause-only_cause
returns-clause-only_cause c = λ fault cause. c.view_of.ensures ∙ fault_from c.args.bytes.now fault cause
