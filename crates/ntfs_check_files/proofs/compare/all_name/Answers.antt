use Rattle.std.proofs.Common.{◌∷◌, ◌∙◌, ap, sym}
use Rattle.ntfs_check_records.proofs.EntryLemmas.{good-end, good-entry, good-fault}
use Rattle.ntfs_check_records.specs.Entries.{good_entries}
use Rattle.ntfs_attrlist.specs.Views.{shown_entry, shown_item}
use Rattle.ntfs_check_files.proofs.CompareLemmas.{names-all, names-more, names-none}
use Rattle.ntfs_check_files.proofs.compare.all_name.Goals as goal
use Rattle.ntfs_check_files.specs.Members.{all_name}

pub returns-then-not-names_any : goal.returns-then-not-names_any
returns-then-not-names_any c =
    let items = c.in-Some.ensures.steps ∙ ap (λ item. shown_item item ∷ c.next.new.self) c.in-Ok.is in
    names-none _ (good_entries c.next.new.self) (shown_entry c.in-Ok.entry) c.args.kept.now _ (good-entry _ c.next.new.self (shown_entry c.in-Ok.entry) items)
    (sym c.names_any.ensures ∙ c.if-not-names_any.true) c.entries.invariant.same

pub entries-preserved-else-not-names_any : goal.entries-preserved-else-not-names_any
entries-preserved-else-not-names_any c =
    let items = c.in-Some.ensures.steps ∙ ap (λ item. shown_item item ∷ c.next.new.self) c.in-Ok.is in
    record {
      can = tt;
      finite = tt;
      same = names-more _ (good_entries c.next.new.self) (shown_entry c.in-Ok.entry) c.args.kept.now _ (good-entry _ c.next.new.self (shown_entry c.in-Ok.entry) items)
          (sym c.names_any.ensures ∙ c.if-not-names_any.false) c.entries.invariant.same;
    }

pub entries-preserved : goal.entries-preserved
entries-preserved c =
    let items = c.in-Some.ensures.steps ∙ ap (λ item. shown_item item ∷ c.next.new.self) c.in_default.is in
    record {
      can = tt;
      finite = tt;
      same = ap (λ them. all_name them c.args.kept.now) (sym (good-fault _ c.next.new.self c.in_default.field-0 items)) ∙ c.entries.invariant.same;
    }

pub returns : goal.returns
returns c = names-all _ c.args.kept.now _ (good-end _ c.in-None.ensures.steps.0) c.entries.invariant.same
