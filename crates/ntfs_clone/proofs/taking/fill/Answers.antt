use Rattle.std.proofs.Common.{◌≡◌, ◌≤◌, IsTrue, sym, ap, ◌∙◌, arith, subst, length, ℕ, drop, take}
use Rattle.ntfs_base.specs.Source.{SourceState, after_take, GivesNext}
use Rattle.ntfs_clone.proofs.TakingLemmas.{after_take-more, after_take-given, fill-step, length-behind}
use Rattle.ntfs_clone.proofs.taking.fill.Goals as goal

pub pieces-preserved : goal.pieces-preserved
pieces-preserved g c =
    let old = g.I.Source.seen c.args.source.now in
    let count = c.pieces.count in
    let more = c.in_ok-more.more in
    let kept = length-behind count c.pieces.into c.take.new.into c.pieces.invariant.room c.take.auto.into in
    let room : more ≤ length c.take.new.into = omega (arith, c.in_ok-more.ensures.room, c.take.auto.into) in
    record {
      len = kept ∙ c.pieces.invariant.len;
      room = let r = length-behind count c.pieces.into c.take.new.into c.pieces.invariant.room c.take.auto.into in omega (arith, c.in_ok-more.ensures.room, c.take.auto.into, r);
      seen = c.in_ok-more.ensures.given ∙ ap (after_take more) c.pieces.invariant.seen ∙ after_take-more count more old;
      bytes = λ told.
          let there : GivesNext (after_take count old) more c.take.new.into = subst (λ (s : SourceState). GivesNext s more c.take.new.into) c.pieces.invariant.seen (c.in_ok-more.ensures.gives (subst (λ (s : SourceState). IsTrue s.is_told) (sym c.pieces.invariant.seen) told)) in
          fill-step old.bytes old.given count more c.pieces.into c.take.new.into c.pieces.invariant.room room (c.pieces.invariant.bytes told)
          (subst (λ (n : ℕ). take more c.take.new.into ≡ take more (drop n old.bytes)) (after_take-given count old told) there.bytes);
      faults = omega (arith, c.pieces.invariant.faults, c.in_ok-more.ensures.cause.faults);
    }
