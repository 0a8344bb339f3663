use Rattle.std.proofs.Common.{List, map, refl, ap, sym, subst, ◌∙◌, arith}
use Rattle.ntfs_base.proofs.WritesLemmas.{after_writes-nil}
use Rattle.ntfs_base.specs.Writes.{Wrote}
use Rattle.ntfs_make.specs.declared.table.Area.{Area}
use Rattle.ntfs_make.specs.Volume.{area_write, LiesInVolume}
use Rattle.ntfs_make.proofs.AreaLemmas.{AllAreas, all-lie, area-in}
use Rattle.ntfs_base.proofs.WroteLemmas.{wrote-as, each-done, each-cut, after_writes-size}
use Rattle.ntfs_make.proofs.making.write_areas.Goals as goal

pub areas-init : goal.areas-init
areas-init g c = (sym (after_writes-nil (g.G.Image.seen c.args.image.now)), record { reads = omega arith; writes = omega arith })

pub write_area-requires-clause-lies : goal.write_area-requires-clause-lies
write_area-requires-clause-lies g c =
    let lie : AllAreas (LiesInVolume c.args.layout.now) c.areas-areas.result.now
    = subst (AllAreas (LiesInVolume c.args.layout.now)) (sym c.areas-areas.ensures.are) (all-lie c.args.layout.now c.areas-areas.ensures.range) in
    area-in (LiesInVolume c.args.layout.now) c.areas-areas.result.now c.areas.area-index _ lie c.areas-test.true

pub write_area-requires-clause-size : goal.write_area-requires-clause-size
write_area-requires-clause-size g c =
    ap (λ state. state.size) c.areas.invariant.0 ∙ after_writes-size _ (g.G.Image.seen c.args.image.now) ∙ c.requires

pub returns-in_err-write_area-clause-wrote : goal.returns-in_err-write_area-clause-wrote
returns-in_err-write_area-clause-wrote g c =
    subst (λ (all : List Area). Wrote (map (area_write c.args.layout.now) all) (g.G.Image.seen c.args.image.now) c.from_residual.result (g.G.Image.seen c.write_area.new.image)) c.areas-areas.ensures.are
    (wrote-as _ _ _ _ _ c.from_residual.ensures.0
    (each-cut (area_write c.args.layout.now) c.areas-areas.result.now c.areas.area-index _ _ _ _ _ _ c.areas-test.true refl c.areas.invariant.0 c.in_err-write_area.ensures.wrote))

pub areas-preserved : goal.areas-preserved
areas-preserved g c =
    let before = c.areas.invariant.1 in
    let step = c.in_ok-write_area.ensures.writes.counts in (
      each-done (area_write c.args.layout.now) c.areas-areas.result.now c.areas.area-index _ _ _ _ _ c.areas-test.true refl c.areas.invariant.0 c.in_ok-write_area.ensures.wrote.whole,
      record { reads = omega (arith, before.reads, step.reads); writes = omega (arith, before.writes, step.writes) },
    )
