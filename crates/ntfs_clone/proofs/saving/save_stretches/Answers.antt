use Rattle.std.proofs.Common.{◌-◌, ◌++◌, ◌∙◌, refl, arith, Ok, Err}
use Rattle.std.proofs.lemmas.Result.{err_from_is_err_and}
use Rattle.ntfs_base.proofs.FramesLemmas.{told_still}
use Rattle.ntfs_clone.specs.CloneOf.{volume_of}
use Rattle.ntfs_clone.specs.Saving.{Saves, spelled_gap, spelled_row}
use Rattle.ntfs_clone.specs.declared.fault.CloneFault.{CloneFault}
use Rattle.ntfs_clone.proofs.SavingLemmas.{kept-none, kept-then, way-cut, way-end, way-next, way-same}
use Rattle.ntfs_clone.proofs.WalkLemmas.{commands-first, commands-none, stretch-commands}
use Rattle.ntfs_clone.proofs.saving.save_stretches.Goals as goal

pub stretches-init : goal.stretches-init
stretches-init g c = record {
  seen = refl;
  counts = record { reads = omega arith; writes = omega arith };
  puts = record { failures = omega arith; wants = omega arith };
  kept = kept-none _;
  saved = λ told. way-same _ _ _ _ (commands-first (volume_of c.args.geometry.now c.args.owned.now (g.G.Image.seen c.args.image.now).content));
}

pub returns-in_err-save_stretch-clause-saved : goal.returns-in_err-save_stretch-clause-saved
returns-in_err-save_stretch-clause-saved g c told =
    let k = c.args.geometry.now in
    let v = volume_of k c.args.owned.now (g.G.Image.seen c.args.image.now).content in
    let s = c.stretch_from-stretch.result in
    let p = err_from_is_err_and c.from_residual.result c.from_residual.ensures.1 in
    let saves = told_still g.G.Image _ _ (λ content. Saves {T = Unit {0}} {E = CloneFault}
    (spelled_row content k.cluster c.stretches.from (s.free - c.stretches.from) ++ spelled_gap (s.end - s.free)) c.stretches.waiting.items (g.K.Sink.seen c.stretches.sink)
    (Err c.in_err-save_stretch.field-0.0) c.save_stretch.new.waiting.items (g.K.Sink.seen c.save_stretch.new.sink)) c.stretches.invariant.seen c.in_err-save_stretch.ensures.saved in
    rw (p.1, p.2) (way-cut _ _ _ _ _ _ _ _ _ _ _ _ _ (stretch-commands v c.stretches.from s c.stretch_from-stretch.ensures) (c.stretches.invariant.saved told) (saves told))

pub stretches-preserved : goal.stretches-preserved
stretches-preserved g c =
    let k = c.args.geometry.now in
    let v = volume_of k c.args.owned.now (g.G.Image.seen c.args.image.now).content in
    let s = c.stretch_from-stretch.result in
    let saves = told_still g.G.Image _ _ (λ content. Saves {T = Unit {0}} {E = CloneFault}
    (spelled_row content k.cluster c.stretches.from (s.free - c.stretches.from) ++ spelled_gap (s.end - s.free)) c.stretches.waiting.items (g.K.Sink.seen c.stretches.sink)
    (Ok tt) c.save_stretch.new.waiting.items (g.K.Sink.seen c.save_stretch.new.sink)) c.stretches.invariant.seen c.in_ok-save_stretch.ensures.saved in
    let copies = c.in_ok-save_stretch.ensures.copies in
    record {
      seen = copies.seen ∙ c.stretches.invariant.seen;
      counts = record { reads = omega (arith, copies.counts.reads, c.stretches.invariant.counts.reads); writes = omega (arith, copies.counts.writes, c.stretches.invariant.counts.writes) };
      puts = record { failures = omega (arith, copies.puts.failures, c.stretches.invariant.puts.failures); wants = omega (arith, copies.puts.wants, c.stretches.invariant.puts.wants) };
      kept = kept-then _ _ _ c.stretches.invariant.kept c.in_ok-save_stretch.ensures.kept;
      saved = λ told. way-next _ _ _ _ _ _ _ _ _ _ _ (stretch-commands v c.stretches.from s c.stretch_from-stretch.ensures) (c.stretches.invariant.saved told) (saves told);
    }

pub returns-clause-saved : goal.returns-clause-saved
returns-clause-saved g c told =
    way-end _ _ _ _ _ _ _ (commands-none (volume_of c.args.geometry.now c.args.owned.now (g.G.Image.seen c.args.image.now).content) c.stretches.from c.stretches-test.false) (c.stretches.invariant.saved told)

pub returns-in_err-save_stretch-clause-kept : goal.returns-in_err-save_stretch-clause-kept
returns-in_err-save_stretch-clause-kept g c = kept-then _ _ _ c.stretches.invariant.kept c.in_err-save_stretch.ensures.kept
