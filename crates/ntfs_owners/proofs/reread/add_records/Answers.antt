use Rattle.std.proofs.Common.{◌%◌, ◌++◌, ap, ◌∙◌, arith, length, length-append, map}
use Rattle.std.specs.Slice.Iter.{chunks_exact_mut_rest, chunks_exact_mut_size}
use Rattle.ntfs_survey.specs.Surveying.{slots_in}
use Rattle.ntfs_owners.specs.Held.{held_of, slots_held, wants_record, wants_runs}
use Rattle.ntfs_owners.proofs.HeldLemmas.{leads-last, leads-next}
use Rattle.ntfs_owners.proofs.reread.add_records.Goals as goal

pub records-init : goal.records-init
records-init c =
    let into = c.into_iter-raw-iterator.ensures.into_iter_gives in
    let rest = ap chunks_exact_mut_rest into ∙ c.chunks_exact_mut-raw-items.ensures.rest in
    let size = ap chunks_exact_mut_size into ∙ c.chunks_exact_mut-raw-items.ensures.size in
    record {
      can = omega (arith, size, c.requires.good.least_record);
      finite = tt;
      size = size;
      few = omega (arith, ap length rest, c.requires.few);
      same = λ count long. (
        count,
        ap length rest ∙ long,
        ap (λ raws. map held_of c.args.held.now.items ++ slots_held (wants_record c.args.wanted.now) (wants_runs c.args.wanted.now) c.args.number (slots_in c.args.geometry.now.record_size raws c.args.number count)) rest,
      );
    }

pub add_record-requires : goal.add_record-requires
add_record-requires c =
    let long = c.in-Some.ensures.steps.1.1 ∙ c.records.invariant.size in
    record {
      whole = ap (λ n. n % 512) long ∙ c.requires.good.record_strides;
      least = omega (arith, long, c.requires.good.least_record);
      most = omega (arith, long, c.requires.good.most_record);
    }

pub overflow_add-next : goal.overflow_add-next
overflow_add-next c =
    let steps = c.in-Some.ensures.steps.1 in
    let long = ap length steps.0 ∙ length-append c.in-Some.raw.now (chunks_exact_mut_rest c.next.new.self) in
    omega (arith, long, steps.1, c.records.invariant.size, c.records.invariant.few, c.requires.good.least_record)

pub records-preserved : goal.records-preserved
records-preserved c =
    let steps = c.in-Some.ensures.steps.1 in
    let long = ap length steps.0 ∙ length-append c.in-Some.raw.now (chunks_exact_mut_rest c.next.new.self) in
    let size = c.in-Some.ensures.steps.0 ∙ c.records.invariant.size in
    record {
      can = omega (arith, size, c.requires.good.least_record);
      finite = tt;
      size = size;
      few = omega (arith, long, steps.1, c.records.invariant.size, c.records.invariant.few, c.requires.good.least_record);
      same = λ count all.
          leads-next (wants_record c.args.wanted.now) (wants_runs c.args.wanted.now) c.args.geometry.now.record_size c.records.next (chunks_exact_mut_rest c.records.raw-iterator) c.in-Some.raw.now (chunks_exact_mut_rest c.next.new.self)
          (map held_of c.records.held.items) (map held_of c.add_record.new.held.items) _ (omega (arith, c.requires.good.least_record)) steps.0 (steps.1 ∙ c.records.invariant.size) c.in_ok-add_record.ensures (c.records.invariant.same count all);
    }

pub returns : goal.returns
returns c count all =
    leads-last (wants_record c.args.wanted.now) (wants_runs c.args.wanted.now) c.args.geometry.now.record_size c.records.next (chunks_exact_mut_rest c.records.raw-iterator) (map held_of c.records.held.items) _
    (omega (arith, c.in-None.ensures.steps.1.0, c.records.invariant.size)) (c.records.invariant.same count all)
