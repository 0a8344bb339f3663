use Rattle.std.proofs.Common.{◌≡◌, IsTrue}
use Rattle.ntfs_base.specs.Causes.{HaveNotFallen}
use Rattle.ntfs_base.specs.Frames.{SinkHasNotFallen}
use Rattle.ntfs_show.specs.Descent.{IsDescent, descent_most, left_of_descent}
use Rattle.ntfs_show.specs.ListState.{IsSameDesk}
use Rattle.ntfs_show.specs.Listing.{record_numbers}
use Rattle.ntfs_print.specs.Printing.{before}
use Rattle.ntfs_show.specs.Progress.{Goes}
use Rattle.ntfs_show.proofs.listing.Descent.list.Given as goal

abbrev pub invariant-directories : goal.invariant-directories
invariant-directories g l = record {
  lists : Goes {I = Unit {0}} (IsTrue (g.G.Image.seen l.initial.image).is_told)
      (λ all. before l.initial.desk.pending (left_of_descent l.initial.desk.options l.table
      (g.G.Image.seen l.initial.image).content record_numbers l.initial.self))
      (λ all. before l.desk.pending (left_of_descent l.initial.desk.options l.table
      (g.G.Image.seen l.initial.image).content record_numbers l.self))
      (g.K.Sink.seen l.initial.out) (g.K.Sink.seen l.out);
  descent : IsDescent l.table record_numbers l.self;
  desk : IsSameDesk l.initial.desk l.desk;
  seen : g.G.Image.seen l.image ≡ g.G.Image.seen l.initial.image;
  counts : HaveNotFallen (g.G.Image.faults l.initial.image) (g.G.Image.faults l.image);
  puts : SinkHasNotFallen (g.K.Sink.faults l.initial.out) (g.K.Sink.faults l.out);
}

abbrev pub decreases-directories : goal.decreases-directories
decreases-directories g l = descent_most record_numbers l.self
