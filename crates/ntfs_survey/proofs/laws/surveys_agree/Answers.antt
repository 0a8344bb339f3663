use Rattle.std.proofs.Common.{ap}
use Rattle.ntfs_survey.specs.Owned.{survey_of}
use Rattle.ntfs_survey.proofs.AgreeLemmas.{agree-volume}
use Rattle.ntfs_survey.proofs.laws.surveys_agree.Goals as goal

pub returns : goal.returns
returns c o f h are = ap (survey_of o.geometry.clusters) (agree-volume o.geometry o.map f h are)
