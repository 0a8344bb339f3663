use Rattle.std.proofs.Common.{◌≡◌, ◌<◌, ◌-◌, ◌∙◌, ◌++◌, ap, length, map, refl, arith}
use Rattle.ntfs_base.specs.Bytes.{cluster_at}
use Rattle.ntfs_base.proofs.FramesLemmas.{told_still}
use Rattle.ntfs_boot.specs.declared.geometry.Geometry.{Geometry}
use Rattle.ntfs_volume.specs.Located.{slots_from}
use Rattle.ntfs_volume.specs.Scan.{Scanning, initialised_count, taken_count}
use Rattle.ntfs_survey.specs.Surveying.{record_at}
use Rattle.ntfs_owners.proofs.ScanLemmas.{scan-fits, scan-some}
use Rattle.ntfs_owners.specs.Held.{held_of, slots_held, wants_record, wants_runs}
use Rattle.ntfs_owners.proofs.HeldLemmas.{rest-first, rest-last, rest-next}
use Rattle.ntfs_owners.proofs.reread.add_all.Goals as goal

pub fills-init : goal.fills-init
fills-init g c =
    let next = ap (λ (s : Scanning). s.next) c.scan-scan.ensures in
    record {
      seen = refl;
      counts = record { reads = omega arith; writes = omega arith };
      table = ap (λ (s : Scanning). s.table) c.scan-scan.ensures;
      room = refl;
      there = omega (arith, next);
      same = λ told. ap (λ xs. map held_of c.args.held.now.items ++ xs) (rest-first (wants_record c.args.wanted.now) (wants_runs c.args.wanted.now) c.args.table.now
          (cluster_at (g.G.Image.seen c.args.image.now).content c.args.table.now.geometry.cluster) c.scan-scan.result.next next);
    }

pub fills-smaller : goal.fills-smaller
fills-smaller g c =
    let o = c.args.table.now in
    let s = c.fills.scan in
    let size : c.from.result ≡ o.geometry.record_size = c.from.ensures ∙ ap (λ (k : Geometry). k.record_size) c.geometry.ensures.kept in
    let some = scan-some o s (length c.deref_mut.result.now) c.initialised_count-count.result c.from.result c.fills.invariant.table
    (omega (arith, size, c.geometry.ensures.good.least_record)) (omega (arith, size, c.geometry.ensures.good.most_record)) size c.initialised_count-count.ensures.count
    (c.deref_mut.ensures.len ∙ c.fills.invariant.room ∙ c.in_ok-buffer.ensures.room) (omega (arith, c.fills-test.true, c.next_number.ensures.next)) in
    let next = ap (λ (s : Scanning). s.next) c.in_ok-add_next.ensures.next in
    let left : s.next < initialised_count o.geometry o.map = omega (arith, c.fills-test.true, c.next_number.ensures.next, c.initialised_count-count.ensures.count) in
    let fewer : initialised_count o.geometry o.map - c.add_next.new.scan.next < initialised_count o.geometry o.map - s.next = omega (arith, some, next, left) in
    fewer

pub fills-preserved : goal.fills-preserved
fills-preserved g c =
    let o = c.args.table.now in
    let p = wants_record c.args.wanted.now in
    let q = wants_runs c.args.wanted.now in
    let s = c.fills.scan in
    let count = taken_count s (length c.deref_mut.result.now) in
    let fits = scan-fits o s (length c.deref_mut.result.now) c.fills.invariant.table c.fills.invariant.there in
    let next = ap (λ (s : Scanning). s.next) c.in_ok-add_next.ensures.next in
    record {
      seen = c.in_ok-add_next.ensures.reads.seen ∙ c.fills.invariant.seen;
      counts = record { reads = omega (arith, c.in_ok-add_next.ensures.reads.counts.reads, c.fills.invariant.counts.reads); writes = omega (arith, c.in_ok-add_next.ensures.reads.counts.writes, c.fills.invariant.counts.writes) };
      table = ap (λ (s : Scanning). s.table) c.in_ok-add_next.ensures.next;
      room = c.fills.invariant.room;
      there = omega (arith, next, fits);
      same = λ told.
          let added = told_still g.G.Image _ _ (λ content. map held_of c.add_next.new.held.items ≡ map held_of c.fills.held.items ++ slots_held p q s.next
          (slots_from (record_at o (cluster_at content o.geometry.cluster)) s.next count)) c.fills.invariant.seen c.in_ok-add_next.ensures.added told in
          rest-next p q o (cluster_at (g.G.Image.seen c.args.image.now).content o.geometry.cluster) s.next count c.add_next.new.scan.next (map held_of c.fills.held.items) (map held_of c.add_next.new.held.items) _ fits next added
          (c.fills.invariant.same told);
    }

pub returns-clause-added : goal.returns-clause-added
returns-clause-added g c told =
    let o = c.args.table.now in
    rest-last (wants_record c.args.wanted.now) (wants_runs c.args.wanted.now) o (cluster_at (g.G.Image.seen c.args.image.now).content o.geometry.cluster) c.fills.scan.next (map held_of c.fills.held.items) _
    (omega (arith, c.fills-test.false, c.next_number.ensures.next, c.initialised_count-count.ensures.count)) (c.fills.invariant.same told)
