use Rattle.std.proofs.Common.{ap, ◌∙◌, map, string_bytes, is_some}
use Rattle.std.specs.FinMap.{insert}
use Rattle.ntfs_base.specs.MemShelf.{all_placed, place_of, files_of}
use Rattle.ntfs_base.specs.Shelf.{without}
use Rattle.ntfs_base.proofs.ShelfLemmas.{all_placed-kept, all_placed-without, all_placed-has, seen-released}
use Rattle.ntfs_base.proofs.memory.shelf.MemShelfShelf.release.Goals as goal

pub put_back-requires : goal.put_back-requires
put_back-requires c =
    ap (λ name. is_some (place_of name c.args.self.now.places.items)) c.as_str.ensures.value
    ∙ all_placed-has c.args.self.now.places.items (string_bytes c.args.file.name)
    (map string_bytes c.args.self.now.attached.items) c.args.self.now.held c.requires

pub invariant_of-self : goal.invariant_of-self
invariant_of-self c =
    record {
      held = ap (all_placed c.put_back.new.places.items) c.remove_name.ensures
          ∙ all_placed-without c.put_back.new.places.items c.as_str-2.result.now (map string_bytes c.args.self.now.attached.items) (all_placed-kept c.args.self.now.places.items c.put_back.new.places.items (map string_bytes c.args.self.now.attached.items) c.put_back.ensures.kept c.args.self.now.held);
    }

pub returns-clause-released : goal.returns-clause-released
returns-clause-released c =
    seen-released _ _ _ _ _ (c.put_back.ensures.files ∙ ap (λ name. insert (files_of c.args.self.now.places.items) name c.args.file.inside.bytes.items) c.as_str.ensures.value)
    (c.remove_name.ensures ∙ ap (λ name. without name (map string_bytes c.args.self.now.attached.items)) c.as_str-2.ensures.value)
