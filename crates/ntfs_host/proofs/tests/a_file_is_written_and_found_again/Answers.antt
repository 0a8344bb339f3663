use Rattle.std.proofs.Common.{ap, ◌∙◌, string_bytes}
use Rattle.ntfs_base.specs.Image.{ImageState}
use Rattle.ntfs_base.specs.Shelf.{ShelfState, has_name}
use Rattle.ntfs_base.proofs.AttachLemmas.{has_name-attached}
use Rattle.ntfs_host.specs.Seen.{seen_file}
use Rattle.ntfs_host.proofs.tests.a_file_is_written_and_found_again.Goals as goal

pub release-requires : goal.release-requires
release-requires c c' =
    let attached = λ (shelf : ShelfState). has_name (string_bytes c'.sync_any.new.image.name) shelf.attached in
    let name = λ (image : ImageState). image.name in
    ap attached c'.in_ok-file.ensures.attached
    ∙ has_name-attached _ _ (seen_file c'.sync_any.new.image)
    (ap name c'.sync_any.ensures ∙ ap name c'.write_at.ensures.seen ∙ c'.in_ok-file.ensures.file.bears)
