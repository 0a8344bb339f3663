use Rattle.std.proofs.Common.{rules, sym, ap, ◌∙◌, ℕ, List, string_bytes, is_some}
use Rattle.ntfs_base.specs.MemShelf.{place_bytes}
use Rattle.ntfs_base.proofs.ShelfLemmas.{stands_at, named_there, place_of-there, file_there, place_of-set, place_there, kept_by_set, IfOk-then}
use Rattle.std.specs.Option.{option_map, option_and_then}
use Rattle.ntfs_base.proofs.memory.place.attach_at.Goals as goal

pub index_mut-requires : goal.index_mut-requires
index_mut-requires c =
    let there = stands_at c.args.name.now c.args.places.now.items c.args.index c.requires in
    search (rules, there.within)

pub returns : goal.returns
returns c =
    let was =
    named_there c.args.name.now c.args.places.now.items c.args.index c.index_mut.result.now c.requires
    c.index_mut.ensures.value in
    let named = ap string_bytes c.hand_out.ensures.name ∙ was in
    let before =
    place_of-there c.args.name.now c.args.places.now.items c.args.index c.index_mut.result.now c.requires
    c.index_mut.ensures.value in
    let file =
    file_there c.args.name.now c.args.places.now.items c.args.index c.index_mut.result.now c.requires
    c.index_mut.ensures.value in
    let is =
    λ (q : List ℕ). place_of-set c.args.name.now q c.args.places.now.items c.args.index c.hand_out.new.place
    c.requires named in
    let after = place_there _ _ _ _ named is in
    record {
      files =
          kept_by_set _ _ _ _ named is
          (ap (option_map (λ v. v.items)) c.hand_out.ensures.content ∙ sym (ap (option_and_then place_bytes) before));
      planned = rw (before, after) c.hand_out.ensures.planned;
      placed = ap is_some after;
      bears = IfOk-then _ _ c.hand_out.result (λ file is. is ∙ was) c.hand_out.ensures.bears;
      bytes = IfOk-then _ _ c.hand_out.result (λ handed is. file ∙ is) c.hand_out.ensures.bytes;
      reads = c.hand_out.ensures.reads;
      writes = c.hand_out.ensures.writes;
      absent = λ is. file ∙ c.hand_out.ensures.absent is;
    }
