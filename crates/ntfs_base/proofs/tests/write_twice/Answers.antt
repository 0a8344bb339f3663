use Rattle.std.proofs.Common.{ap, ◌∙◌}
use Rattle.ntfs_base.specs.Shelf.{has_name}
use Rattle.ntfs_base.proofs.AttachLemmas.{has_name-attached}
use Rattle.ntfs_base.proofs.tests.write_twice.Goals as goal

pub release-requires : goal.release-requires
release-requires g c =
    ap (λ name. has_name name (g.S.Shelf.seen c.attach.new.self).attached) (c.write-two.ensures ∙ c.write-one.ensures)
    ∙ ap (λ shelf. has_name (g.S.File.Image.seen c.in_ok-file.file).name shelf.attached) c.in_ok-file.ensures.attached
    ∙ has_name-attached c.args.name.now (g.S.Shelf.seen c.args.shelf.now) (g.S.File.Image.seen c.in_ok-file.file)
    c.in_ok-file.ensures.file.bears
