use Rattle.std.proofs.Common.{ap, sym, ◌∙◌, Err}
use Rattle.ntfs_volume.specs.Fault.{volume_origin}
use Rattle.ntfs_survey.proofs.RecordLemmas.{take-baad, take-idle, take-live}
use Rattle.ntfs_survey.proofs.SlotsLemmas.{gives-by}
use Rattle.ntfs_survey.proofs.records.take_record.Goals as goal

pub returns-then-is_in_use-clause-gives : goal.returns-then-is_in_use-clause-gives
returns-then-is_in_use-clause-gives c =
    gives-by volume_origin _ _ _ _ (take-live c.args.clusters c.args.number c.args.findings.now c.args.raw.now (sym c.is_in_use.ensures ∙ c.if-is_in_use.true)) c.take_live.ensures.gives

pub returns-then-begins_baad-clause-gives : goal.returns-then-begins_baad-clause-gives
returns-then-begins_baad-clause-gives c settled =
    take-baad c.args.clusters c.args.number c.args.findings.now c.args.raw.now (sym c.is_in_use.ensures ∙ c.if-is_in_use.false) (sym c.begins_baad.ensures ∙ c.if-begins_baad.true)
    ∙ ap Err (sym c.unsound.ensures)

pub returns-clause-gives : goal.returns-clause-gives
returns-clause-gives c =
    take-idle c.args.clusters c.args.number c.args.findings.now c.args.raw.now (sym c.is_in_use.ensures ∙ c.if-is_in_use.false) (sym c.begins_baad.ensures ∙ c.if-begins_baad.false)
