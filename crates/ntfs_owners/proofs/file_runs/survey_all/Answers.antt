use Rattle.std.proofs.lemmas.Result.{err_from_is_err_and}
use Rattle.ntfs_owners.proofs.file_runs.survey_all.Goals as goal

pub returns-in_err-surveyed-clause-listed : goal.returns-in_err-surveyed-clause-listed
returns-in_err-surveyed-clause-listed g c query =
    let p = err_from_is_err_and c.from_residual.result c.from_residual.ensures.1 in
    rw (p.1, p.2) (c.in_err-surveyed.ensures.listed query)
