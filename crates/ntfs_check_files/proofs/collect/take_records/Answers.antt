use Rattle.std.proofs.Common.{◌+◌, ◌∙◌, arith, length, refl, Some}
use Rattle.ntfs_check_files.proofs.CollectLemmas.{held-slot, taken-none, taken-one}
use Rattle.ntfs_check_records.proofs.SearchLemmas.{copied-is}
use Rattle.ntfs_check_files.proofs.collect.take_records.Goals as goal
use Rattle.ntfs_survey.specs.Surveying.{record_at}
use Rattle.ntfs_volume.specs.Located.{located_slot}

pub records-init : goal.records-init
records-init c = record {
  long = refl;
  most = omega arith;
  taken = λ o f long holds. taken-none (record_at o f) c.args.number c.args.extensions.now;
}

pub records-preserved : goal.records-preserved
records-preserved c = record {
  long = c.take_record.auto.raw ∙ c.copy_from_slice.ensures.len ∙ c.records.invariant.long;
  most = omega (arith, c.records-test.true);
  taken = λ o f long holds.
      let n = c.args.number + c.records.index in
      let held = copied-is o f c.args.number c.args.count c.records.index (length c.args.block.now) c.args.raws.now c.copy_from_slice.new.self long c.records-test.true c.requires.room c.copy_from_slice.ensures.after holds in
      taken-one (record_at o f) c.args.number c.records.index c.args.extensions.now c.records.extensions c.take_record.new.extensions (located_slot n (Some c.copy_from_slice.new.self)) (held-slot o f n c.copy_from_slice.new.self held)
      (c.records.invariant.taken o f long holds) c.in_ok-take_record.ensures;
}
