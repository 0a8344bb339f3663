use Rattle.std.proofs.Common.{rules, ◌≡◌, sym, ap, ◌∙◌, ℕ, List, string_bytes, subst, IsSomeAnd}
use Rattle.std.specs.FinMap.{insert}
use Rattle.ntfs_base.specs.MemShelf.{index_of, files_of}
use Rattle.ntfs_base.proofs.ShelfLemmas.{IsSome-index_of, stands_at, named_there, place_of-set, files_of-insert, place_there, others_kept, places_kept}
use Rattle.ntfs_base.proofs.memory.place.put_back.Goals as goal

pub unwrap-index-requires : goal.unwrap-index-requires
unwrap-index-requires c =
    rw (c.find.ensures, c.deref.ensures.value) (IsSome-index_of c.args.name.now c.args.places.now.items c.requires)

pub index_mut-requires : goal.index_mut-requires
index_mut-requires c =
    let found = ap (index_of c.args.name.now) (sym c.deref.ensures.value) ∙ sym c.find.ensures
    ∙ c.unwrap-index.ensures in
    let there = stands_at c.args.name.now c.args.places.now.items c.unwrap-index.result found in
    search (rules, there.within)

pub returns : goal.returns
returns c =
    let found = ap (index_of c.args.name.now) (sym c.deref.ensures.value) ∙ sym c.find.ensures
    ∙ c.unwrap-index.ensures in
    let named = ap string_bytes c.fill.ensures.name
    ∙ named_there c.args.name.now c.args.places.now.items c.unwrap-index.result c.index_mut.result.now found
    c.index_mut.ensures.value in
    let is =
    λ (q : List ℕ). place_of-set c.args.name.now q c.args.places.now.items c.unwrap-index.result c.fill.new.place
    found named in
    record {
      files =
          files_of-insert _ _ _ _ is c.fill.ensures.bytes
          ∙ ap (λ name. insert (files_of c.args.places.now.items) name c.args.bytes.items) named;
      calls =
          subst (λ o. IsSomeAnd o (λ place. place.calls ≡ c.args.calls)) (sym (place_there _ _ _ _ named is))
          c.fill.ensures.calls;
      others = others_kept _ _ _ _ named is;
      kept = places_kept _ _ _ is;
    }
