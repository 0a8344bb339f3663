use Rattle.std.proofs.Common.{◌∙◌, ap, map, string_bytes}
use Rattle.ntfs_base.specs.Shelf.{without}
use Rattle.ntfs_host.proofs.UntoldLemmas.{released_untold}
use Rattle.ntfs_host.proofs.disk_shelf.DiskShelfShelf.release.Goals as goal

pub returns-clause-released : goal.returns-clause-released
returns-clause-released g c =
    released_untold _ _ _ (c.remove_name.ensures
    ∙ ap (λ name. without name (map string_bytes c.args.self.now.attached.items)) c.as_str.ensures.value)
