use Rattle.ntfs_volume.proofs.ExtentsLemmas.{listed-only, of-base, of-listed, of-own}
use Rattle.ntfs_volume.proofs.laws.extents_are_of_the_base.Goals as goal

pub returns-clause-base : goal.returns-clause-base
returns-clause-base g c = of-base

pub returns-clause-own : goal.returns-clause-own
returns-clause-own g c = of-own

pub returns-clause-listed : goal.returns-clause-listed
returns-clause-listed g c = of-listed

pub returns-clause-only : goal.returns-clause-only
returns-clause-only g c = listed-only
