use Rattle.std.proofs.Common.{◌≡◌, ◌≤◌, sym, subst, length, ℕ}
use Rattle.ntfs_boot.specs.Geometry.{bytes_of_clusters}
use Rattle.ntfs_rules.proofs.ContentLemmas.{cell-below, left-is, vcn-read}
use Rattle.ntfs_rules.proofs.content.read_vcn.Goals as goal
use Rattle.ntfs_runs.specs.Clusters.{vcns}

pub read_cell-requires-clause-below : goal.read_cell-requires-clause-below
read_cell-requires-clause-below g c = cell-below c.args.geometry.now.clusters (vcns c.args.runs.now) c.args.vcn c.cell_of.result c.requires.readable.cells c.cell_of.ensures

pub returns-clause-bytes : goal.returns-clause-bytes
returns-clause-bytes g c told =
    let k = c.args.geometry.now in
    let image = g.G.Image.seen c.args.image.now in
    let size : length image.content ≡ image.size = g.met.G.Image.told_size c.args.image.now told in
    let held = subst (λ (n : ℕ). bytes_of_clusters k ≤ n) (sym size) c.requires.readable.opened.held in
    vcn-read image.content c.read_cell.new.into k.cluster k.clusters c.args.valid c.args.vcn c.saturating_sub-left.result (vcns c.args.runs.now) c.cell_of.result held c.requires.readable.cells c.cell_of.ensures
    (left-is c.args.vcn k.cluster c.from.result c.saturating_mul-before.result c.args.valid c.saturating_sub-left.result c.from.ensures c.saturating_mul-before.ensures c.saturating_sub-left.ensures c.ranges.valid.fits)
    (c.in_ok-read_cell.ensures.bytes told)
