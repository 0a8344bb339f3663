use Rattle.std.proofs.Common.{◌≡◌, ◌+◌, ◌*◌, ◌≤◌, length, ap, subst, ◌∙◌, arith}
use Rattle.ntfs_make.specs.declared.shape.Shape.{Shape}
use Rattle.ntfs_make.specs.Shape.{sectors}
use Rattle.ntfs_make.proofs.ShapeLemmas.{bounds, times-fits, sectors-end}
use Rattle.ntfs_base.proofs.WroteLemmas.{wrote-none-as}
use Rattle.ntfs_make.proofs.StreamLemmas.{length-boot}
use Rattle.ntfs_make.proofs.making.write_copy.Goals as goal

pub returns-in_err-boot-clause-wrote : goal.returns-in_err-boot-clause-wrote
returns-in_err-boot-clause-wrote g c = wrote-none-as _ _ _ c.from_residual.ensures.0

pub overflow_mul-sectors : goal.overflow_mul-sectors
overflow_mul-sectors g c =
    let b = bounds _ c.shape.ensures.range in
    let fits = times-fits (c.shape.result.clusters + 1) c.shape.result.cluster (omega arith) b.most in
    let last = sectors-end _ c.shape.ensures.range in
    let is = c.sectors.ensures in
    omega arith

pub write_at-requires : goal.write_at-requires
write_at-requires g c =
    let shape = c.args.layout.now in
    let bytes : length c.deref.result.now ≡ 512 = ap length (c.deref.ensures.value ∙ c.in_ok-boot.ensures) ∙ length-boot shape in
    let last : sectors shape * 512 + 512 ≤ (shape.clusters + 1) * shape.cluster
    = subst (λ (s : Shape). sectors s * 512 + 512 ≤ (s.clusters + 1) * s.cluster) c.shape.ensures.is (sectors-end _ c.shape.ensures.range) in
    let is : c.sectors.result ≡ sectors shape = c.sectors.ensures ∙ ap sectors c.shape.ensures.is in
    let size = c.requires.size in
    omega (arith, last, is, bytes, size)
