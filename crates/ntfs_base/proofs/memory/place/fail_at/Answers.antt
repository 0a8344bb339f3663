use Rattle.std.proofs.Common.{rules, sym, ap, ◌∙◌, ℕ, List, string_bytes}
use Rattle.std.specs.Option.{option_map, option_and_then}
use Rattle.ntfs_base.specs.Calls.{plan_call}
use Rattle.ntfs_base.specs.MemShelf.{place_bytes, made_by, failing_by}
use Rattle.ntfs_base.proofs.ShelfLemmas.{stands_at, named_there, place_of-there, place_of-set, place_there, kept_by_set, OnOk-then, OnErr-then}
use Rattle.ntfs_base.proofs.memory.place.fail_at.Goals as goal

pub index_mut-requires : goal.index_mut-requires
index_mut-requires c =
    let there =
    stands_at c.args.name.now c.args.places.now.items c.args.index c.requires in search (rules, there.within)

pub returns : goal.returns
returns c =
    let named = ap string_bytes c.fail_here.ensures.name
    ∙ named_there c.args.name.now c.args.places.now.items c.args.index c.index_mut.result.now c.requires
    c.index_mut.ensures.value in
    let before =
    place_of-there c.args.name.now c.args.places.now.items c.args.index c.index_mut.result.now c.requires
    c.index_mut.ensures.value in
    let is =
    λ (q : List ℕ). place_of-set c.args.name.now q c.args.places.now.items c.args.index c.fail_here.new.place
    c.requires named in
    let after = place_there _ _ _ _ named is in
    let made = ap made_by after ∙ c.fail_here.ensures.made ∙ sym (ap made_by before) in
    let kept = kept_by_set _ _ _ _ named is
    (ap (option_map (λ v. v.items)) c.fail_here.ensures.content ∙ sym (ap (option_and_then place_bytes) before)) in
    record {
      files = kept;
      added = OnOk-then _ _ c.fail_here.result
          (λ added. record {
            files = kept.files;
            made = made;
            failing = ap failing_by after ∙ added ∙ sym (ap (λ p. plan_call c.args.number c.args.leaves (failing_by p)) before);
            others = kept.others;
          }) c.fail_here.ensures.added;
      refused = OnErr-then _ _ c.fail_here.result
          (λ same. record { made = made; failing = ap failing_by after ∙ same ∙ sym (ap failing_by before) })
          c.fail_here.ensures.refused;
    }
