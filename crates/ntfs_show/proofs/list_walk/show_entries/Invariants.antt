use Rattle.std.proofs.Common.{◌≡◌, IsTrue}
use Rattle.ntfs_base.specs.Causes.{HaveNotFallen}
use Rattle.ntfs_base.specs.Frames.{SinkHasNotFallen}
use Rattle.ntfs_index.specs.State.{entries_most}
use Rattle.ntfs_show.specs.ListState.{Around, IsSameDesk, IsWalked, left_to_list}
use Rattle.ntfs_print.specs.Printing.{before}
use Rattle.ntfs_show.specs.Progress.{Goes}
use Rattle.ntfs_show.proofs.list_walk.show_entries.Given as goal

abbrev pub invariant-entries : goal.invariant-entries
invariant-entries g l = record {
  lists : Goes {I = Around} (IsTrue (g.G.Image.seen l.initial.image).is_told)
      (λ around. before l.initial.desk.pending (left_to_list l.initial.desk.options l.table
      (g.G.Image.seen l.initial.image).content around l.front l.initial.directory l.met.keys))
      (λ around. before l.desk.pending (left_to_list l.initial.desk.options l.table
      (g.G.Image.seen l.initial.image).content around l.front l.directory l.met.keys))
      (g.K.Sink.seen l.initial.out) (g.K.Sink.seen l.out);
  walked : IsWalked l.table l.number l.directory;
  desk : IsSameDesk l.initial.desk l.desk;
  seen : g.G.Image.seen l.image ≡ g.G.Image.seen l.initial.image;
  counts : HaveNotFallen (g.G.Image.faults l.initial.image) (g.G.Image.faults l.image);
  puts : SinkHasNotFallen (g.K.Sink.faults l.initial.out) (g.K.Sink.faults l.out);
}

abbrev pub decreases-entries : goal.decreases-entries
decreases-entries g l = entries_most l.directory.walk
