use Rattle.ntfs_upcase.proofs.NamesLemmas.{length-units, units-index}
use Rattle.ntfs_upcase.proofs.laws.names_are_units.Goals as goal

pub returns-clause-count : goal.returns-clause-count
returns-clause-count c = length-units

pub returns-clause-unit : goal.returns-clause-unit
returns-clause-unit c = units-index
