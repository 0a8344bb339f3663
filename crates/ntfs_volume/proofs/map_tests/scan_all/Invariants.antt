use Rattle.std.proofs.Common.{◌≡◌}
use Rattle.ntfs_volume.proofs.map_tests.scan_all.Given as goal

abbrev pub invariant-fills : goal.invariant-fills
invariant-fills g l = record {
  seen : g.G.Image.seen l.image ≡ g.G.Image.seen l.initial.image;
  table : l.scan.table ≡ l.table;
}
