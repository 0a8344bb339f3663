use Rattle.std.proofs.Common.{◌≡◌, ◌≤◌, ◌-◌, ◌++◌, map}
use Rattle.std.specs.Prelude.{IsTrue, vec_len}
use Rattle.ntfs_base.specs.Bytes.{cluster_at}
use Rattle.ntfs_base.specs.Causes.{HaveNotFallen}
use Rattle.ntfs_volume.specs.Located.{slots_of}
use Rattle.ntfs_volume.specs.Scan.{initialised_count}
use Rattle.ntfs_owners.proofs.ScanLemmas.{rest_of}
use Rattle.ntfs_owners.specs.Held.{held_of, slots_held, wants_record, wants_runs}
use Rattle.ntfs_owners.proofs.reread.add_all.Given as goal

abbrev pub invariant-fills : goal.invariant-fills
invariant-fills g l = record {
  seen : g.G.Image.seen l.image ≡ g.G.Image.seen l.initial.image;
  counts : HaveNotFallen (g.G.Image.faults l.initial.image) (g.G.Image.faults l.image);
  table : l.scan.table ≡ l.table;
  room : vec_len l.buffer ≡ vec_len l.initial.buffer;
  there : l.scan.next ≤ initialised_count l.table.geometry l.table.map;
  same : IsTrue (g.G.Image.seen l.initial.image).is_told
      → map held_of l.held.items ++ slots_held (wants_record l.wanted) (wants_runs l.wanted) l.scan.next
      (rest_of l.table (cluster_at (g.G.Image.seen l.initial.image).content l.table.geometry.cluster) l.scan.next)
      ≡ map held_of l.initial.held.items ++ slots_held (wants_record l.wanted) (wants_runs l.wanted) 0
      (slots_of l.table.geometry l.table.map (cluster_at (g.G.Image.seen l.initial.image).content l.table.geometry.cluster));
}

abbrev pub decreases-fills : goal.decreases-fills
decreases-fills g l = initialised_count l.table.geometry l.table.map - l.scan.next
