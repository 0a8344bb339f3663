use Rattle.std.proofs.Common.{◌≡◌, ◌+◌, ◌*◌, refl, ap, sym, ◌∙◌}
use Rattle.ntfs_make.specs.declared.shape.Shape.{Shape}
use Rattle.ntfs_make.specs.Shape.{shape_of}
use Rattle.ntfs_base.proofs.WroteLemmas.{wrote-as, wrote-none-as, after_writes-size}
use Rattle.ntfs_make.proofs.LawLemmas.{made-given}
use Rattle.ntfs_make.proofs.FrontLemmas.{left-given}
use Rattle.ntfs_make.proofs.VolumeLemmas.{volume-cut, volume-then}
use Rattle.ntfs_make.proofs.making.make.Goals as goal

pub returns-in_err-layout-clause-wrote : goal.returns-in_err-layout-clause-wrote
returns-in_err-layout-clause-wrote g c = wrote-none-as _ _ _ c.from_residual.ensures.0

pub returns-in_err-write_areas-clause-wrote : goal.returns-in_err-write_areas-clause-wrote
returns-in_err-write_areas-clause-wrote g c =
    let same : c.in_ok-layout.layout ≡ shape_of c.args.seed c.args.clusters c.args.cluster = c.in_ok-layout.ensures ∙ rw (c.from.ensures, c.from-2.ensures) refl in
    wrote-as _ _ _ _ _ c.from_residual-in_err-write_areas.ensures.0
    (volume-cut c.args.seed c.args.clusters c.args.cluster c.in_ok-layout.layout _ _ _ same c.in_err-write_areas.ensures.wrote)

pub write_copy-requires : goal.write_copy-requires
write_copy-requires g c =
    let same : c.in_ok-layout.layout ≡ shape_of c.args.seed c.args.clusters c.args.cluster = c.in_ok-layout.ensures ∙ rw (c.from.ensures, c.from-2.ensures) refl in
    record {
      size = ap (λ state. state.size) c.in_ok-write_areas.ensures.wrote.whole ∙ after_writes-size _ (g.G.Image.seen c.args.image.now) ∙ c.requires.size
          ∙ ap (λ (s : Shape). (s.clusters + 1) * s.cluster) (sym same);
    }

pub returns-clause-wrote : goal.returns-clause-wrote
returns-clause-wrote g c =
    let same : c.in_ok-layout.layout ≡ shape_of c.args.seed c.args.clusters c.args.cluster = c.in_ok-layout.ensures ∙ rw (c.from.ensures, c.from-2.ensures) refl in
    volume-then c.args.seed c.args.clusters c.args.cluster c.in_ok-layout.layout _ _ _ c.write_copy.result same c.in_ok-write_areas.ensures.wrote.whole c.write_copy.ensures.wrote

pub returns-clause-made : goal.returns-clause-made
returns-clause-made g c = made-given c.args.seed c.args.clusters c.args.cluster _ _ c.write_copy.result c.requires.range (returns-clause-wrote g c) c.requires.zeros

pub returns-in_err-write_areas-clause-left : goal.returns-in_err-write_areas-clause-left
returns-in_err-write_areas-clause-left g c = left-given c.args.seed c.args.clusters c.args.cluster _ _ c.from_residual-in_err-write_areas.result c.requires.range (returns-in_err-write_areas-clause-wrote g c) c.requires.zeros

pub returns-clause-left : goal.returns-clause-left
returns-clause-left g c = left-given c.args.seed c.args.clusters c.args.cluster _ _ c.write_copy.result c.requires.range (returns-clause-wrote g c) c.requires.zeros
