use Rattle.std.proofs.Common.{sym, ◌∙◌, length}
use Rattle.ntfs_runs.specs.Cells.{are_cells}
use Rattle.ntfs_runs.specs.Clusters.{vcns}
use Rattle.ntfs_volume.specs.MftMap.{is_table}
use Rattle.ntfs_volume.proofs.AnswerLemmas.{and-left, and-right}
use Rattle.std.proofs.Common.{false}
use Rattle.ntfs_volume.proofs.table.Table.fitting.Goals as goal

pub new-requires : goal.new-requires
new-requires c =
    let fits = sym c.fits_table.ensures ∙ c.if-not-fits_table.false in
    let g = c.args.geometry in
    let cells = vcns c.args.runs in
    record {
      good = c.requires.good;
      table = record {
        cells = and-left (are_cells false g.clusters cells) (is_table g (length cells) c.args.size c.args.valid) fits;
        within = c.requires.within;
      };
      fits = and-right (are_cells false g.clusters cells) (is_table g (length cells) c.args.size c.args.valid) fits;
    }
