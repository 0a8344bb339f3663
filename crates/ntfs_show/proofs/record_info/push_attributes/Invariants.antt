use Rattle.std.proofs.Common.{◌≡◌, ℕ, List, ◌++◌, map}
use Rattle.ntfs_base.specs.Frames.{SinkHasNotFallen}
use Rattle.ntfs_record.specs.Views.{shown_placed}
use Rattle.ntfs_print.specs.Pending.{IsPrinted}
use Rattle.ntfs_show.specs.RecordInfo.{all_keep_cells, attribute_lines, shown_attributes}
use Rattle.ntfs_show.proofs.record_info.push_attributes.Given as goal

abbrev pub invariant-attributes : goal.invariant-attributes
invariant-attributes g l = record {
  can : (goal.iterator-attributes g).can_next l.attribute-iterator;
  finite : (goal.iterator-attributes g).is_finite l.attribute-iterator;
  lines : (printed : List ℕ) × IsPrinted printed (g.K.Sink.seen l.initial.out) l.pending (g.K.Sink.seen l.out)
      × (printed ++ attribute_lines l.clusters (map shown_placed l.attribute-iterator) ≡ l.initial.pending ++ attribute_lines l.clusters (shown_attributes l.view));
  keep : all_keep_cells l.clusters (map shown_placed l.attribute-iterator) ≡ all_keep_cells l.clusters (shown_attributes l.view);
  puts : SinkHasNotFallen (g.K.Sink.faults l.initial.out) (g.K.Sink.faults l.out);
}
