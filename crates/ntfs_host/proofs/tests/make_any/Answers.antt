use Rattle.std.proofs.Common.{ap, ◌∙◌}
use Rattle.ntfs_base.specs.Shelf.{has_name}
use Rattle.ntfs_base.proofs.AttachLemmas.{has_name-created}
use Rattle.ntfs_host.proofs.tests.make_any.Goals as goal

pub release-requires : goal.release-requires
release-requires g c =
    ap (λ name. has_name name (g.S.Shelf.seen c.create.new.self).attached) c.append_any-appended.ensures
    ∙ ap (λ shelf. has_name (g.S.File.Image.seen c.in_ok-file.file).name shelf.attached) c.in_ok-file.ensures.created
    ∙ has_name-created c.args.name.now (g.S.Shelf.seen c.args.shelf.now)
    (g.S.File.Image.seen c.in_ok-file.file) c.in_ok-file.ensures.file.bears
