use Rattle.std.proofs.Common.{rules, sym, ap, ◌∙◌, Some}
use Rattle.std.specs.Option.{option_map}
use Rattle.ntfs_base.proofs.ShelfLemmas.{stands_at, file_there}
use Rattle.ntfs_base.proofs.memory.place.content_at.Goals as goal

pub index-requires : goal.index-requires
index-requires c =
    let there =
    stands_at c.args.name.now c.args.places.now.items c.args.index c.requires in search (rules, there.within)

pub returns-in-Some : goal.returns-in-Some
returns-in-Some c =
    ap Some c.as_slice.ensures.value
    ∙ sym (file_there c.args.name.now c.args.places.now.items c.args.index c.index.result.now c.requires c.index.ensures ∙ ap (option_map (λ v. v.items)) c.in-Some.is)

pub returns-in-None : goal.returns-in-None
returns-in-None c =
    sym (file_there c.args.name.now c.args.places.now.items c.args.index c.index.result.now c.requires c.index.ensures ∙ ap (option_map (λ v. v.items)) c.in-None.is)
