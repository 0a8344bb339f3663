use Rattle.std.proofs.Common.{◌≡◌, drop, map}
use Rattle.std.specs.Prelude.{IsTrue}
use Rattle.ntfs_base.specs.Bytes.{cluster_at}
use Rattle.ntfs_base.specs.Causes.{HaveNotFallen}
use Rattle.ntfs_base.specs.Checks.{first_wrong}
use Rattle.ntfs_check_fixed.specs.Rows.{row_check}
use Rattle.ntfs_check_fixed.proofs.fixed.check_rows.Given as goal

abbrev pub invariant-rows : goal.invariant-rows
invariant-rows g l = record {
  seen : g.G.Image.seen l.image ≡ g.G.Image.seen l.initial.image;
  counts : HaveNotFallen (g.G.Image.faults l.initial.image) (g.G.Image.faults l.image);
  left : IsTrue (g.G.Image.seen l.initial.image).is_told
      → first_wrong (map (row_check l.table (cluster_at (g.G.Image.seen l.initial.image).content l.table.geometry.cluster)) l.rows)
      ≡ first_wrong (map (row_check l.table (cluster_at (g.G.Image.seen l.initial.image).content l.table.geometry.cluster)) (drop l.row-index l.rows));
}
