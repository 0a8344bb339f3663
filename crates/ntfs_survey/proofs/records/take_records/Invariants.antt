use Rattle.std.proofs.Common.{◌≡◌, ◌+◌, ◌*◌, ◌<◌, ◌^◌, ℕ, length}
use Rattle.std.specs.Slice.Iter.{chunks_exact_mut_rest, chunks_exact_mut_size}
use Rattle.ntfs_survey.specs.Surveying.{slots_in, slots_taken}
use Rattle.ntfs_survey.proofs.RecordLemmas.{Leads}
use Rattle.ntfs_survey.proofs.records.take_records.Given as goal

abbrev pub invariant-records : goal.invariant-records
invariant-records l = record {
  can : (goal.iterator-records).can_next l.raw-iterator;
  finite : (goal.iterator-records).is_finite l.raw-iterator;
  size : chunks_exact_mut_size l.raw-iterator ≡ l.geometry.record_size;
  few : l.next + length (chunks_exact_mut_rest l.raw-iterator) < 2 ^ 64;
  same : (count : ℕ) → length l.fn.raws ≡ count * l.geometry.record_size
      → Leads l.geometry.clusters l.geometry.record_size l.next (chunks_exact_mut_rest l.raw-iterator) l.findings
      (slots_taken l.geometry.clusters l.number l.initial.findings (slots_in l.geometry.record_size l.fn.raws l.number count));
}
