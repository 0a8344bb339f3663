use Rattle.std.proofs.Common.{◌≡◌, ◌<◌, ◌-◌, ◌∙◌, ap, arith, length, refl}
use Rattle.ntfs_base.proofs.FramesLemmas.{told_still}
use Rattle.ntfs_base.specs.Bytes.{cluster_at}
use Rattle.ntfs_boot.specs.declared.geometry.Geometry.{Geometry}
use Rattle.ntfs_check_files.proofs.CollectLemmas.{all-taken, taken-from, taken-more}
use Rattle.ntfs_check_records.proofs.SearchLemmas.{scan-fits, scan-some}
use Rattle.ntfs_check_files.proofs.collect.collect_extensions.Goals as goal
use Rattle.ntfs_check_files.specs.Extending.{HasTaken}
use Rattle.ntfs_survey.specs.Surveying.{record_at}
use Rattle.ntfs_volume.specs.Scan.{Scanning, initialised_count, taken_count}

pub fills-init : goal.fills-init
fills-init g c = record {
  seen = refl;
  counts = record { reads = omega arith; writes = omega arith };
  table = ap (λ (s : Scanning). s.table) c.scan-scan.ensures;
  room = refl;
  block = refl;
  there = let next = ap (λ (s : Scanning). s.next) c.scan-scan.ensures in omega (arith, next);
  taken = λ told.
      let o = c.args.table.now in
      taken-from (record_at o (cluster_at (g.G.Image.seen c.args.image.now).content o.geometry.cluster)) c.scan-scan.result.next c.new-extensions.result (ap (λ (s : Scanning). s.next) c.scan-scan.ensures);
}

pub fills-smaller : goal.fills-smaller
fills-smaller g c =
    let o = c.args.table.now in
    let s = c.fills.scan in
    let size : c.from.result ≡ o.geometry.record_size = c.from.ensures ∙ ap (λ (k : Geometry). k.record_size) c.geometry.ensures.kept in
    let some = scan-some o s (length c.deref_mut.result.now) c.initialised_count-count.result c.from.result c.fills.invariant.table
    (omega (arith, size, c.geometry.ensures.good.least_record)) (omega (arith, size, c.geometry.ensures.good.most_record)) size c.initialised_count-count.ensures.count
    (c.deref_mut.ensures.len ∙ c.fills.invariant.room ∙ c.in_ok-buffer.ensures.room) (omega (arith, c.fills-test.true, c.next_number.ensures.next)) in
    let next = ap (λ (s : Scanning). s.next) c.in_default.ensures.next in
    let left : s.next < initialised_count o.geometry o.map = omega (arith, c.fills-test.true, c.next_number.ensures.next, c.initialised_count-count.ensures.count) in
    let fewer : initialised_count o.geometry o.map - c.take_next.new.scan.next < initialised_count o.geometry o.map - s.next = omega (arith, some, next, left) in
    fewer

pub fills-preserved : goal.fills-preserved
fills-preserved g c =
    let o = c.args.table.now in
    let s = c.fills.scan in
    let count = taken_count s (length c.deref_mut.result.now) in
    let fits = scan-fits o s (length c.deref_mut.result.now) c.fills.invariant.table c.fills.invariant.there in
    let next = ap (λ (s : Scanning). s.next) c.in_default.ensures.next in
    record {
      seen = c.in_default.ensures.reads.seen ∙ c.fills.invariant.seen;
      counts = record { reads = omega (arith, c.in_default.ensures.reads.counts.reads, c.fills.invariant.counts.reads); writes = omega (arith, c.in_default.ensures.reads.counts.writes, c.fills.invariant.counts.writes) };
      table = ap (λ (s : Scanning). s.table) c.in_default.ensures.next;
      room = c.fills.invariant.room;
      block = c.fills.invariant.block;
      there = omega (arith, next, fits);
      taken = λ told.
          let more = told_still g.G.Image _ _ (λ content. HasTaken (record_at o (cluster_at content o.geometry.cluster)) s.next count c.fills.extensions c.take_next.new.extensions) c.fills.invariant.seen
          c.in_default.ensures.taken in
          taken-more (record_at o (cluster_at (g.G.Image.seen c.args.image.now).content o.geometry.cluster)) s.next count c.take_next.new.scan.next c.new-extensions.result c.fills.extensions c.take_next.new.extensions next
          (c.fills.invariant.taken told) (more told);
    }

pub returns-clause-all : goal.returns-clause-all
returns-clause-all g c told =
    let o = c.args.table.now in
    all-taken o (cluster_at (g.G.Image.seen c.args.image.now).content o.geometry.cluster) c.fills.scan.next c.new-extensions.result c.fills.extensions
    (omega (arith, c.fills-test.false, c.next_number.ensures.next, c.initialised_count-count.ensures.count, c.fills.invariant.there)) c.new-extensions.ensures (c.fills.invariant.taken told)
