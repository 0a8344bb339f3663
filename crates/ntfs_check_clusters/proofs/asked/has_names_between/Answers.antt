use Rattle.std.proofs.Common.{◌∙◌, ap, sym, subst, arith, map, List}
use Rattle.ntfs_check_clusters.proofs.NameLemmas.{all-names, next-name, no-names, own-bytes, own-within}
use Rattle.ntfs_check_clusters.proofs.asked.has_names_between.Goals as goal
use Rattle.ntfs_check_clusters.specs.Asked.{is_name_between}
use Rattle.ntfs_record.specs.Attribute.{IsRaw}
use Rattle.ntfs_record.specs.Views.{Placed, shown_placed, shown_view}

pub attributes-init : goal.attributes-init
attributes-init c = record {
  can = tt;
  finite = tt;
  rest = all-names c.args.block.now c.args.view.now _ c.requires (ap (λ (items : List Placed). map shown_placed items) (c.into_iter-attribute-iterator.ensures.into_iter_gives ∙ c.attributes-attribute-items.ensures.placed));
}

pub length_at-requires : goal.length_at-requires
length_at-requires c =
    let next = next-name c.args.block.now c.args.view.now _ _ (shown_view c.in-Some.attribute) c.attributes.invariant.rest c.in-Some.ensures.steps in
    omega (arith, next.within, next.is.sound.more, next.is.long)

pub slice_bounds-is_name_between-end : goal.slice_bounds-is_name_between-end
slice_bounds-is_name_between-end c =
    let next = next-name c.args.block.now c.args.view.now _ _ (shown_view c.in-Some.attribute) c.attributes.invariant.rest c.in-Some.ensures.steps in
    own-within c.args.block.now next.raw c.in-Some.attribute.place c.length_at.result next.stands next.is next.within c.length_at.ensures

pub is_name_between-requires : goal.is_name_between-requires
is_name_between-requires c =
    let next = next-name c.args.block.now c.args.view.now _ _ (shown_view c.in-Some.attribute) c.attributes.invariant.rest c.in-Some.ensures.steps in
    subst IsRaw (sym (own-bytes c.args.block.now next.raw c.in-Some.attribute.place c.length_at.result next.stands next.is c.length_at.ensures)) next.is

pub returns-then-not-is_name_between : goal.returns-then-not-is_name_between
returns-then-not-is_name_between c =
    let next = next-name c.args.block.now c.args.view.now _ _ (shown_view c.in-Some.attribute) c.attributes.invariant.rest c.in-Some.ensures.steps in
    sym (next.fails (ap is_name_between (sym (own-bytes c.args.block.now next.raw c.in-Some.attribute.place c.length_at.result next.stands next.is c.length_at.ensures)) ∙ sym c.if-not-is_name_between.ensures))

pub attributes-preserved : goal.attributes-preserved
attributes-preserved c =
    let next = next-name c.args.block.now c.args.view.now _ _ (shown_view c.in-Some.attribute) c.attributes.invariant.rest c.in-Some.ensures.steps in
    record {
      can = tt;
      finite = tt;
      rest = next.passes (ap is_name_between (sym (own-bytes c.args.block.now next.raw c.in-Some.attribute.place c.length_at.result next.stands next.is c.length_at.ensures)) ∙ sym c.if-not-is_name_between.ensures);
    }

pub returns : goal.returns
returns c = no-names c.args.block.now c.args.view.now _ c.attributes.invariant.rest c.in-None.ensures.steps.0
