use Rattle.std.proofs.Common.{ap, ◌∙◌}
use Rattle.ntfs_base.specs.Shelf.{has_name}
use Rattle.ntfs_base.proofs.AttachLemmas.{has_name-attached}
use Rattle.ntfs_host.proofs.tests.len_any.Goals as goal

pub release-requires : goal.release-requires
release-requires g c =
    ap (λ shelf. has_name (g.S.File.Image.seen c.in_ok-file.file).name shelf.attached) c.in_ok-file.ensures.attached
    ∙ has_name-attached c.args.name.now (g.S.Shelf.seen c.args.shelf.now)
    (g.S.File.Image.seen c.in_ok-file.file) c.in_ok-file.ensures.file.bears
