use Rattle.std.proofs.Common.{◌≡◌, ◌<◌, ◌-◌, ◌+◌, ◌∙◌, ap, sym, arith, length}
use Rattle.ntfs_base.proofs.FramesLemmas.{told_still}
use Rattle.ntfs_base.specs.Bytes.{cluster_at}
use Rattle.ntfs_boot.specs.declared.geometry.Geometry.{Geometry}
use Rattle.ntfs_check_records.proofs.SearchLemmas.{none-refused, passed-more, scan-fits, scan-some, some-refused}
use Rattle.ntfs_check_records.proofs.search.first_failing.Goals as goal
use Rattle.ntfs_check_records.specs.Asked.{FindsFailing, asked_at}
use Rattle.ntfs_volume.specs.Scan.{Scanning, initialised_count, taken_count}

pub returns-then-is_some-clause-found : goal.returns-then-is_some-clause-found
returns-then-is_some-clause-found g c told presumed =
    let o = c.args.table.now in
    let s = c.fills.scan in
    let count = taken_count s (length c.deref_mut.result.now) in
    let found = told_still g.G.Image _ _ (λ content. g.Q.Question.presumes c.args.asked.now o content → FindsFailing (asked_at (g.Q.Question.answer c.args.asked.now o content) o (cluster_at content o.geometry.cluster)) s.next (s.next + count) c.in_ok-found.found) c.fills.invariant.seen
    c.in_ok-found.ensures.found told presumed in
    some-refused o (cluster_at (g.G.Image.seen c.args.image.now).content o.geometry.cluster) (g.Q.Question.answer c.args.asked.now o (g.G.Image.seen c.args.image.now).content) c.in_ok-found.found s.next count
    (scan-fits o s (length c.deref_mut.result.now) c.fills.invariant.table c.fills.invariant.there) (sym c.if-is_some.ensures) (c.fills.invariant.before told presumed) found

pub fills-smaller : goal.fills-smaller
fills-smaller g c =
    let o = c.args.table.now in
    let s = c.fills.scan in
    let size : c.from.result ≡ o.geometry.record_size = c.from.ensures ∙ ap (λ (k : Geometry). k.record_size) c.geometry.ensures.kept in
    let some = scan-some o s (length c.deref_mut.result.now) c.initialised_count-count.result c.from.result c.fills.invariant.table
    (omega (arith, size, c.geometry.ensures.good.least_record)) (omega (arith, size, c.geometry.ensures.good.most_record)) size c.initialised_count-count.ensures.count
    (c.deref_mut.ensures.len ∙ c.fills.invariant.room ∙ c.in_ok-buffer.ensures.room) (omega (arith, c.fills-test.true, c.next_number.ensures.next)) in
    let next = ap (λ (s : Scanning). s.next) c.in_ok-found.ensures.next in
    let left : s.next < initialised_count o.geometry o.map = omega (arith, c.fills-test.true, c.next_number.ensures.next, c.initialised_count-count.ensures.count) in
    let fewer : initialised_count o.geometry o.map - c.next_failing.new.scan.next < initialised_count o.geometry o.map - s.next = omega (arith, some, next, left) in
    fewer

pub fills-preserved : goal.fills-preserved
fills-preserved g c =
    let o = c.args.table.now in
    let s = c.fills.scan in
    let count = taken_count s (length c.deref_mut.result.now) in
    let fits = scan-fits o s (length c.deref_mut.result.now) c.fills.invariant.table c.fills.invariant.there in
    let next = ap (λ (s : Scanning). s.next) c.in_ok-found.ensures.next in
    record {
      seen = c.in_ok-found.ensures.reads.seen ∙ c.fills.invariant.seen;
      counts = record { reads = omega (arith, c.in_ok-found.ensures.reads.counts.reads, c.fills.invariant.counts.reads); writes = omega (arith, c.in_ok-found.ensures.reads.counts.writes, c.fills.invariant.counts.writes) };
      table = ap (λ (s : Scanning). s.table) c.in_ok-found.ensures.next;
      room = c.fills.invariant.room;
      block = c.fills.invariant.block;
      there = omega (arith, next, fits);
      before = λ told presumed.
          let found = told_still g.G.Image _ _ (λ content. g.Q.Question.presumes c.args.asked.now o content → FindsFailing (asked_at (g.Q.Question.answer c.args.asked.now o content) o (cluster_at content o.geometry.cluster)) s.next (s.next + count) c.in_ok-found.found) c.fills.invariant.seen
          c.in_ok-found.ensures.found told presumed in
          passed-more o (cluster_at (g.G.Image.seen c.args.image.now).content o.geometry.cluster) (g.Q.Question.answer c.args.asked.now o (g.G.Image.seen c.args.image.now).content) c.in_ok-found.found s.next count c.next_failing.new.scan.next (sym c.if-is_some.ensures) next
          (c.fills.invariant.before told presumed) found;
    }

pub returns-clause-found : goal.returns-clause-found
returns-clause-found g c told presumed =
    let o = c.args.table.now in
    sym (none-refused o (cluster_at (g.G.Image.seen c.args.image.now).content o.geometry.cluster) (g.Q.Question.answer c.args.asked.now o (g.G.Image.seen c.args.image.now).content) c.fills.scan.next
    (omega (arith, c.fills-test.false, c.next_number.ensures.next, c.initialised_count-count.ensures.count)) (c.fills.invariant.before told presumed))
