use Rattle.std.proofs.Common.{rules, ◌≡◌, ◌∷◌, ap, ◌∙◌, map, string_bytes, true, is_some}
use Rattle.ntfs_base.specs.MemShelf.{all_placed, place_of}
use Rattle.ntfs_base.proofs.ShelfLemmas.{all_placed-kept, all_placed-cons, seen-created}
use Rattle.ntfs_base.proofs.memory.shelf.MemShelfShelf.create.Goals as goal

pub invariant_of-self-in-Ok : goal.invariant_of-self-in-Ok
invariant_of-self-in-Ok c =
    let names : c.insert.new.self.items ≡ c.in_ok-text.text ∷ c.args.self.now.attached.items = search rules in
    let here : is_some (place_of (string_bytes c.in_ok-text.text) c.create_in.new.places.items) ≡ true =
    ap (λ name. is_some (place_of name c.create_in.new.places.items)) c.in_ok-text.ensures.ok
    ∙ c.in-Ok.ensures.placed in
    record {
      held = ap (λ items. all_placed c.create_in.new.places.items (map string_bytes items)) names
          ∙ all_placed-cons c.create_in.new.places.items (string_bytes c.in_ok-text.text) (map string_bytes c.args.self.now.attached.items) here (all_placed-kept c.args.self.now.places.items c.create_in.new.places.items (map string_bytes c.args.self.now.attached.items) c.in-Ok.ensures.files.places c.args.self.now.held);
    }

pub returns-in-Ok-clause-created : goal.returns-in-Ok-clause-created
returns-in-Ok-clause-created c =
    let names : c.insert.new.self.items ≡ c.in_ok-text.text ∷ c.args.self.now.attached.items = search rules in
    seen-created _ _ _ _ _ _ c.in-Ok.ensures.files.created names c.in_ok-text.ensures.ok

pub invariant_of-self-in-Absent-1 : goal.invariant_of-self-in-Absent-1
invariant_of-self-in-Absent-1 c =
    record {
      held =
          ap (λ items. all_placed c.create_in.new.places.items (map string_bytes items)) c.in_ok-reserve.ensures.items
          ∙ all_placed-kept c.args.self.now.places.items c.create_in.new.places.items
          (map string_bytes c.args.self.now.attached.items) c.in-Err.ensures.files.places c.args.self.now.held;
    }
