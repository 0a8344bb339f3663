use Rattle.std.proofs.Common.{◌≡◌, ◌+◌, ◌==◌, sym, ap, ◌∙◌, List, map, length, arith}
use Rattle.std.specs.Prelude.{filter}
use Rattle.std.proofs.lemmas.List.{length-map}
use Rattle.ntfs_record.specs.FileRecord.{attributes_of}
use Rattle.ntfs_record.specs.Views.{Placed, shown_placed}
use Rattle.ntfs_volume.specs.Listing.{lists_named}
use Rattle.ntfs_volume.specs.Views.{is_shown_list, told_view, unplaced}
use Rattle.ntfs_volume.proofs.ListLemmas.{count-step, counted-most, lists-told, placed-told}
use Rattle.ntfs_volume.proofs.list.is_only_list.Goals as goal

pub attributes-init : goal.attributes-init
attributes-init c =
    let into = ap (λ (ps : List Placed). length (map shown_placed ps)) c.into_iter-attribute-iterator.ensures.into_iter_gives in
    let size = length-map c.attributes-attribute-items.result shown_placed in
    record {
      can = tt;
      finite = tt;
      few = omega (arith, into, size, c.attributes-attribute-items.ensures.few);
      same = omega (
        arith,
        ap (λ (ps : List Placed). length (filter (is_shown_list c.args.name.now) (map unplaced (map shown_placed ps)))) c.into_iter-attribute-iterator.ensures.into_iter_gives
            ∙ ap (λ xs. length (filter (is_shown_list c.args.name.now) xs)) (placed-told c.attributes-attribute-items.result c.args.view.now c.attributes-attribute-items.ensures.raws),
      );
    }

pub counted-count-requires : goal.counted-count-requires
counted-count-requires c = omega (arith, ap length c.in-Some.ensures.steps, c.attributes.invariant.few)

pub attributes-preserved : goal.attributes-preserved
attributes-preserved c =
    let steps = c.in-Some.ensures.steps in
    let p = is_shown_list c.args.name.now in
    record {
      can = tt;
      finite = tt;
      few = omega (arith, ap length steps, c.attributes.invariant.few, counted-most c.attributes.count c.is_list_named.result, c.counted-count.ensures);
      same = ap (λ n. n + length (filter p (map unplaced (map shown_placed c.next.new.self)))) c.counted-count.ensures
          ∙ count-step p _ (map unplaced (map shown_placed c.next.new.self)) (told_view c.in-Some.attribute) c.attributes.count _ c.is_list_named.result (ap (map unplaced) steps) (sym c.is_list_named.ensures) c.attributes.invariant.same;
    }

pub returns : goal.returns
returns c =
    let all = ap (λ xs. length (filter (is_shown_list c.args.name.now) (map unplaced xs))) c.in-None.ensures.steps.0 in
    let same : c.attributes.count ≡ lists_named c.args.name.now (attributes_of c.args.view.now) = omega (arith, all, c.attributes.invariant.same, lists-told c.args.name.now (attributes_of c.args.view.now)) in
    ap (λ n. n == 1) same
