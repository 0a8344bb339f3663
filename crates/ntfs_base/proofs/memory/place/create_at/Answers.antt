use Rattle.std.proofs.Common.{rules, sym, ap, ◌∙◌, ℕ, List, string_bytes, is_some, subst, IfOk, IsSome}
use Rattle.ntfs_base.specs.MemShelf.{place_bytes, IsEmptyFile}
use Rattle.ntfs_base.proofs.ShelfLemmas.{stands_at, named_there, place_of-there, file_there, place_of-set, place_there, created_by_set, OnOk-then, OnErr-then}
use Rattle.std.specs.Option.{option_map, option_and_then}
use Rattle.ntfs_base.proofs.memory.place.create_at.Goals as goal

pub index_mut-requires : goal.index_mut-requires
index_mut-requires c =
    let there = stands_at c.args.name.now c.args.places.now.items c.args.index c.requires in
    search (rules, there.within)

pub returns : goal.returns
returns c =
    let was =
    named_there c.args.name.now c.args.places.now.items c.args.index c.index_mut.result.now c.requires
    c.index_mut.ensures.value in
    let named = ap string_bytes c.make.ensures.name ∙ was in
    let before =
    place_of-there c.args.name.now c.args.places.now.items c.args.index c.index_mut.result.now c.requires
    c.index_mut.ensures.value in
    let file =
    file_there c.args.name.now c.args.places.now.items c.args.index c.index_mut.result.now c.requires
    c.index_mut.ensures.value in
    let is =
    λ (q : List ℕ). place_of-set c.args.name.now q c.args.places.now.items c.args.index c.make.new.place c.requires
    named in
    let after = place_there _ _ _ _ named is in
    record {
      files =
          created_by_set _ _ _ _ c.make.result named is c.make.ensures.created (OnErr-then _ _ c.make.result (λ same. ap (option_map (λ v. v.items)) same ∙ sym (ap (option_and_then place_bytes) before)) c.make.ensures.refused);
      planned = rw (before, after) c.make.ensures.planned;
      placed = ap is_some after;
      file = subst (λ name. IfOk c.make.result (IsEmptyFile name)) was c.make.ensures.file;
      fresh = λ must. OnOk-then _ _ c.make.result (λ none. file ∙ none) (c.make.ensures.fresh must);
      present = λ is. let there = c.make.ensures.present is in (there.0, subst IsSome (sym file) there.1);
    }
