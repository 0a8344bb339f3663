use Rattle.std.proofs.Common.{rules, ◌≡◌, ◌∷◌, ◌∙◌, ap, map, string_bytes}
use Rattle.ntfs_host.proofs.UntoldLemmas.{created_untold}
use Rattle.ntfs_host.proofs.disk_shelf.DiskShelfShelf.create.Goals as goal

pub returns-in-Ok-clause-created : goal.returns-in-Ok-clause-created
returns-in-Ok-clause-created g c =
    let names : c.insert.new.self.items ≡ c.in_ok-text.text ∷ c.args.self.now.attached.items = search rules in
    created_untold _ _ _ (ap (map string_bytes) names
    ∙ ap (λ name. name ∷ map string_bytes c.args.self.now.attached.items) c.in_ok-text.ensures.ok)
