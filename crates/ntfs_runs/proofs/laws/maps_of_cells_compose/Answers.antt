use Rattle.ntfs_runs.proofs.CellsLemmas.{map_cells-map_cells, map_cells-agree}
use Rattle.ntfs_runs.proofs.laws.maps_of_cells_compose.Goals as goal

pub returns-clause-twice : goal.returns-clause-twice
returns-clause-twice c f g cells = map_cells-map_cells g f cells

pub returns-clause-alike : goal.returns-clause-alike
returns-clause-alike c f g cells = map_cells-agree f g cells
