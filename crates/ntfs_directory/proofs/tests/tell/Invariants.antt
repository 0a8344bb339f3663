use Rattle.std.proofs.Common.{◌≡◌, None}
use Rattle.ntfs_volume.specs.Opened.{HasClusters}
use Rattle.ntfs_directory.specs.State.{IsOn, answered}
use Rattle.ntfs_directory.proofs.tests.tell.Given as goal

abbrev pub invariant-calls : goal.invariant-calls
invariant-calls g l = record {
  held : HasClusters (g.G.Image.seen l.image).size l.table;
  on : IsOn l.table.geometry l.found;
  sound : answered l.found ≡ None;
}
