use Rattle.std.proofs.Common.{◌≡◌, ◌+◌, ◌∙◌, arith, length, Some}
use Rattle.ntfs_base.proofs.FramesLemmas.{told_still}
use Rattle.ntfs_base.specs.Bytes.{cluster_at}
use Rattle.ntfs_base.specs.Frames.{IsSettled}
use Rattle.ntfs_check_records.proofs.SearchLemmas.{copied-is, found-at, passed-at}
use Rattle.ntfs_check_records.proofs.search.first_in.Goals as goal
use Rattle.ntfs_check_records.specs.Asked.{asked_at}
use Rattle.ntfs_rules.specs.Outcome.{check_origin}
use Rattle.ntfs_volume.specs.Records.{raw_record}

pub returns-in-Err-clause-found : goal.returns-in-Err-clause-found
returns-in-Err-clause-found g c told presumed holds =
    let o = c.args.table.now in
    let f = cluster_at (g.G.Image.seen c.args.image.now).content o.geometry.cluster in
    let n = c.args.number + c.records.index in
    let answers = told_still g.G.Image _ _ (λ content. g.Q.Question.presumes c.args.asked.now o content
    → raw_record o.geometry o.map (cluster_at content o.geometry.cluster) n ≡ Some c.copy_from_slice.new.self
    → IsSettled (check_origin c.in-Err.fault) → ⊥) c.records.invariant.seen c.in-Err.ensures.answers in
    answers told presumed (copied-is o f c.args.number c.args.count c.records.index (length c.args.block.now) c.args.raws.now c.copy_from_slice.new.self c.requires.block c.records-test.true c.requires.room c.copy_from_slice.ensures.after holds)

pub returns-then-not-passed-clause-found : goal.returns-then-not-passed-clause-found
returns-then-not-passed-clause-found g c told presumed holds =
    let o = c.args.table.now in
    let f = cluster_at (g.G.Image.seen c.args.image.now).content o.geometry.cluster in
    let n = c.args.number + c.records.index in
    let answers = told_still g.G.Image _ _ (λ content. g.Q.Question.presumes c.args.asked.now o content
    → raw_record o.geometry o.map (cluster_at content o.geometry.cluster) n ≡ Some c.copy_from_slice.new.self
    → c.in-Ok.passed ≡ asked_at (g.Q.Question.answer c.args.asked.now o content) o (cluster_at content o.geometry.cluster) n) c.records.invariant.seen c.in-Ok.ensures.answers in
    found-at (asked_at (g.Q.Question.answer c.args.asked.now o (g.G.Image.seen c.args.image.now).content) o f) c.args.number c.records.index c.args.count c.in-Ok.passed c.records-test.true (c.records.invariant.before told presumed holds)
    (answers told presumed (copied-is o f c.args.number c.args.count c.records.index (length c.args.block.now) c.args.raws.now c.copy_from_slice.new.self c.requires.block c.records-test.true c.requires.room c.copy_from_slice.ensures.after holds))
    c.if-not-passed.true

pub records-preserved : goal.records-preserved
records-preserved g c =
    let o = c.args.table.now in
    let f = cluster_at (g.G.Image.seen c.args.image.now).content o.geometry.cluster in
    let n = c.args.number + c.records.index in
    let answers = told_still g.G.Image _ _ (λ content. g.Q.Question.presumes c.args.asked.now o content
    → raw_record o.geometry o.map (cluster_at content o.geometry.cluster) n ≡ Some c.copy_from_slice.new.self
    → c.in-Ok.passed ≡ asked_at (g.Q.Question.answer c.args.asked.now o content) o (cluster_at content o.geometry.cluster) n) c.records.invariant.seen c.in-Ok.ensures.answers in
    record {
      seen = c.in-Ok.ensures.reads.seen ∙ c.records.invariant.seen;
      counts = record { reads = omega (arith, c.in-Ok.ensures.reads.counts.reads, c.records.invariant.counts.reads); writes = omega (arith, c.in-Ok.ensures.reads.counts.writes, c.records.invariant.counts.writes) };
      long = c.passes.auto.raw ∙ c.copy_from_slice.ensures.len ∙ c.records.invariant.long;
      most = omega (arith, c.records-test.true);
      before = λ told presumed holds. passed-at (asked_at (g.Q.Question.answer c.args.asked.now o (g.G.Image.seen c.args.image.now).content) o f) c.args.number c.records.index c.in-Ok.passed (c.records.invariant.before told presumed holds)
          (answers told presumed (copied-is o f c.args.number c.args.count c.records.index (length c.args.block.now) c.args.raws.now c.copy_from_slice.new.self c.requires.block c.records-test.true c.requires.room c.copy_from_slice.ensures.after holds))
          c.if-not-passed.false;
    }
