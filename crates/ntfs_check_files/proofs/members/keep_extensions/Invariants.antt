use Rattle.std.proofs.Common.{◌≡◌, ◌++◌, drop, map}
use Rattle.std.specs.Prelude.{IsTrue, vec_len}
use Rattle.ntfs_base.specs.Bytes.{cluster_at}
use Rattle.ntfs_base.specs.Causes.{HaveNotFallen}
use Rattle.ntfs_check_records.specs.Reading.{records_of}
use Rattle.ntfs_check_files.specs.Members.{members_in, told_member}
use Rattle.ntfs_check_files.proofs.members.keep_extensions.Given as goal

abbrev pub invariant-numbers : goal.invariant-numbers
invariant-numbers g l = record {
  seen : g.G.Image.seen l.image ≡ g.G.Image.seen l.initial.image;
  counts : HaveNotFallen (g.G.Image.faults l.initial.image) (g.G.Image.faults l.image);
  block : vec_len l.block ≡ vec_len l.initial.block;
  kept : IsTrue (g.G.Image.seen l.initial.image).is_told
      → map told_member l.kept.items ++ members_in (records_of l.table (cluster_at (g.G.Image.seen l.initial.image).content l.table.geometry.cluster)) (drop l.number-index l.numbers)
      ≡ map told_member l.initial.kept.items ++ members_in (records_of l.table (cluster_at (g.G.Image.seen l.initial.image).content l.table.geometry.cluster)) l.numbers;
}
