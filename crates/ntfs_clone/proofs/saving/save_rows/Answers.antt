use Rattle.std.proofs.Common.{◌≤◌, ◌+◌, ◌∙◌, refl, arith, Ok, Err}
use Rattle.std.proofs.lemmas.Result.{err_from_is_err_and}
use Rattle.ntfs_base.proofs.FramesLemmas.{told_still}
use Rattle.ntfs_clone.specs.declared.fault.CloneFault.{CloneFault}
use Rattle.ntfs_clone.specs.Saving.{Saves, spelled_row}
use Rattle.ntfs_clone.proofs.SavingLemmas.{kept-none, kept-then, way-cut, way-end, way-next, way-start}
use Rattle.ntfs_clone.proofs.WalkLemmas.{row-more, row-none}
use Rattle.ntfs_clone.proofs.saving.save_rows.Goals as goal

pub rows-init : goal.rows-init
rows-init g c = record {
  most = c.requires.order;
  seen = refl;
  counts = record { reads = omega arith; writes = omega arith };
  puts = record { failures = omega arith; wants = omega arith };
  kept = kept-none _;
  saved = λ told. way-start _ _ _;
}

pub returns-in_err-save_row-clause-saved : goal.returns-in_err-save_row-clause-saved
returns-in_err-save_row-clause-saved g c told =
    let k = c.args.geometry.now in
    let content = (g.G.Image.seen c.args.image.now).content in
    let p = err_from_is_err_and c.from_residual.result c.from_residual.ensures.1 in
    let within : c.rows.at + c.min-count.result ≤ c.args.end = omega (arith, c.min-count.ensures, c.rows-test.true) in
    let saves = told_still g.G.Image _ _ (λ content. Saves {T = Unit {0}} {E = CloneFault} (spelled_row content k.cluster c.rows.at c.min-count.result) c.rows.waiting.items (g.K.Sink.seen c.rows.sink)
    (Err c.in_err-save_row.field-0.0) c.save_row.new.waiting.items (g.K.Sink.seen c.save_row.new.sink)) c.rows.invariant.seen c.in_err-save_row.ensures.saved in
    rw (p.1, p.2) (way-cut _ _ _ _ _ _ _ _ _ _ _ _ _ (row-more content k.cluster c.rows.at c.min-count.result c.args.end within) (c.rows.invariant.saved told) (saves told))

pub rows-preserved : goal.rows-preserved
rows-preserved g c =
    let k = c.args.geometry.now in
    let content = (g.G.Image.seen c.args.image.now).content in
    let within : c.rows.at + c.min-count.result ≤ c.args.end = omega (arith, c.min-count.ensures, c.rows-test.true) in
    let saves = told_still g.G.Image _ _ (λ content. Saves {T = Unit {0}} {E = CloneFault} (spelled_row content k.cluster c.rows.at c.min-count.result) c.rows.waiting.items (g.K.Sink.seen c.rows.sink)
    (Ok tt) c.save_row.new.waiting.items (g.K.Sink.seen c.save_row.new.sink)) c.rows.invariant.seen c.in_ok-save_row.ensures.saved in
    let copies = c.in_ok-save_row.ensures.copies in
    record {
      most = within;
      seen = copies.seen ∙ c.rows.invariant.seen;
      counts = record { reads = omega (arith, copies.counts.reads, c.rows.invariant.counts.reads); writes = omega (arith, copies.counts.writes, c.rows.invariant.counts.writes) };
      puts = record { failures = omega (arith, copies.puts.failures, c.rows.invariant.puts.failures); wants = omega (arith, copies.puts.wants, c.rows.invariant.puts.wants) };
      kept = kept-then _ _ _ c.rows.invariant.kept c.in_ok-save_row.ensures.kept;
      saved = λ told. way-next _ _ _ _ _ _ _ _ _ _ _ (row-more content k.cluster c.rows.at c.min-count.result c.args.end within) (c.rows.invariant.saved told) (saves told);
    }

pub returns-clause-saved : goal.returns-clause-saved
returns-clause-saved g c told =
    way-end _ _ _ _ _ _ _ (row-none (g.G.Image.seen c.args.image.now).content c.args.geometry.now.cluster c.rows.at c.args.end c.rows-test.false) (c.rows.invariant.saved told)

pub returns-in_err-save_row-clause-kept : goal.returns-in_err-save_row-clause-kept
returns-in_err-save_row-clause-kept g c = kept-then _ _ _ c.rows.invariant.kept c.in_err-save_row.ensures.kept
