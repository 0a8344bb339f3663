use Rattle.std.proofs.Common.{◌≡◌, ◌+◌, ◌*◌, ◌<◌, ◌^◌, ◌++◌, ℕ, length, map}
use Rattle.std.specs.Slice.Iter.{chunks_exact_mut_rest, chunks_exact_mut_size}
use Rattle.ntfs_survey.specs.Surveying.{slots_in}
use Rattle.ntfs_owners.specs.Held.{held_of, slots_held, wants_record, wants_runs}
use Rattle.ntfs_owners.proofs.HeldLemmas.{Leads}
use Rattle.ntfs_owners.proofs.reread.add_records.Given as goal

abbrev pub invariant-records : goal.invariant-records
invariant-records l = record {
  can : (goal.iterator-records).can_next l.raw-iterator;
  finite : (goal.iterator-records).is_finite l.raw-iterator;
  size : chunks_exact_mut_size l.raw-iterator ≡ l.geometry.record_size;
  few : l.next + length (chunks_exact_mut_rest l.raw-iterator) < 2 ^ 64;
  same : (count : ℕ) → length l.fn.raws ≡ count * l.geometry.record_size
      → Leads (wants_record l.wanted) (wants_runs l.wanted) l.geometry.record_size l.next (chunks_exact_mut_rest l.raw-iterator) (map held_of l.held.items)
      (map held_of l.initial.held.items ++ slots_held (wants_record l.wanted) (wants_runs l.wanted) l.number (slots_in l.geometry.record_size l.fn.raws l.number count));
}
