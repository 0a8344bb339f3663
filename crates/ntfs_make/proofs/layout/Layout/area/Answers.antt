use Rattle.std.proofs.Common.{◌≡◌, sym, ap, ◌∙◌, subst}
use Rattle.ntfs_make.specs.declared.shape.Shape.{Shape}
use Rattle.ntfs_make.specs.Areas.{area_at}
use Rattle.ntfs_make.proofs.AreaLemmas.{area-of, small-area, IsSmall}
use Rattle.ntfs_make.proofs.layout.Layout.area.Goals as goal

pub returns : goal.returns
returns c =
    let is : c.area_or_none.result ≡ area_at c.self.inside.shape c.args.number
    = c.area_or_none.ensures ∙ area-of c.self.inside.shape c.deref.result.now c.args.number (c.deref.ensures.value ∙ c.self.invariant.areas_are) in
    let small : IsSmall c.area_or_none.result = subst IsSmall (sym is) (small-area c.self.inside.shape c.args.number c.self.invariant.range) in
    record { is = is ∙ ap (λ (s : Shape). area_at s c.args.number) c.self.view_is; start = small.start; length = small.length }
