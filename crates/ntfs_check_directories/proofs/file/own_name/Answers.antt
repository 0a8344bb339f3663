use Rattle.std.proofs.Common.{◌∙◌, ap, List, map, sym}
use Rattle.std.specs.List.{list_any}
use Rattle.ntfs_check_directories.proofs.NameLemmas.{any-found, any-none, any-passed}
use Rattle.ntfs_check_directories.proofs.file.own_name.Goals as goal
use Rattle.ntfs_check_directories.specs.Names.{shows_name}
use Rattle.ntfs_record.specs.Views.{Placed, shown_placed, shown_view}

pub attributes-init : goal.attributes-init
attributes-init c = record {
  can = tt;
  finite = tt;
  same = ap (λ (items : List Placed). list_any (shows_name c.args.sought.now) (map shown_placed items)) (c.into_iter-attribute-iterator.ensures.into_iter_gives ∙ c.attributes-attribute-items.ensures.placed);
}

pub returns-then-shows_name : goal.returns-then-shows_name
returns-then-shows_name c =
    any-found (shows_name c.args.sought.now) _ _ (shown_view c.in-Some.attribute) _ c.attributes.invariant.same c.in-Some.ensures.steps (sym c.shows_name.ensures ∙ c.if-shows_name.true)

pub attributes-preserved : goal.attributes-preserved
attributes-preserved c = record {
  can = tt;
  finite = tt;
  same = any-passed (shows_name c.args.sought.now) _ _ (shown_view c.in-Some.attribute) _ c.attributes.invariant.same c.in-Some.ensures.steps (sym c.shows_name.ensures ∙ c.if-shows_name.false);
}

pub returns : goal.returns
returns c = any-none (shows_name c.args.sought.now) _ _ c.attributes.invariant.same c.in-None.ensures.steps.0
