use Rattle.std.proofs.Common.{◌+◌, ◌∷◌, ◌∙◌, ap, sym}
use Rattle.ntfs_check_records.proofs.EntryLemmas.{good-end, good-entry, good-fault}
use Rattle.ntfs_check_records.specs.Entries.{good_entries}
use Rattle.ntfs_attrlist.specs.Views.{shown_entry, shown_item}
use Rattle.ntfs_check_files.proofs.CompareLemmas.{another, first-one, no-more, once, twice}
use Rattle.ntfs_check_files.proofs.compare.is_named_once.Goals as goal
use Rattle.ntfs_check_files.specs.Members.{told_member}
use Rattle.ntfs_rules.specs.Files.{count_of, names_member}

pub returns-then-found : goal.returns-then-found
returns-then-found c =
    let items = c.in-Some.ensures.steps ∙ ap (λ item. shown_item item ∷ c.next.new.self) c.in-Ok.is in
    twice (names_member (told_member c.args.attribute.now)) _ (good_entries c.next.new.self) (shown_entry c.in-Ok.entry) c.entries.found _ (good-entry _ c.next.new.self (shown_entry c.in-Ok.entry) items)
    (sym c.if-is_named.true ∙ c.is_named.ensures) c.if-found.true c.entries.invariant.same

pub entries-preserved-then-is_named : goal.entries-preserved-then-is_named
entries-preserved-then-is_named c =
    let items = c.in-Some.ensures.steps ∙ ap (λ item. shown_item item ∷ c.next.new.self) c.in-Ok.is in
    record {
      can = tt;
      finite = tt;
      same = first-one (names_member (told_member c.args.attribute.now)) _ (good_entries c.next.new.self) (shown_entry c.in-Ok.entry) c.entries.found _ (good-entry _ c.next.new.self (shown_entry c.in-Ok.entry) items)
          (sym c.if-is_named.true ∙ c.is_named.ensures) c.if-found.false c.entries.invariant.same;
    }

pub entries-preserved-else-is_named : goal.entries-preserved-else-is_named
entries-preserved-else-is_named c =
    let items = c.in-Some.ensures.steps ∙ ap (λ item. shown_item item ∷ c.next.new.self) c.in-Ok.is in
    record {
      can = tt;
      finite = tt;
      same = another (names_member (told_member c.args.attribute.now)) _ (good_entries c.next.new.self) (shown_entry c.in-Ok.entry) c.entries.found _ (good-entry _ c.next.new.self (shown_entry c.in-Ok.entry) items)
          (sym c.if-is_named.false ∙ c.is_named.ensures) c.entries.invariant.same;
    }

pub entries-preserved : goal.entries-preserved
entries-preserved c =
    let items = c.in-Some.ensures.steps ∙ ap (λ item. shown_item item ∷ c.next.new.self) c.in_default.is in
    record {
      can = tt;
      finite = tt;
      same = ap (λ them. once c.entries.found + count_of (names_member (told_member c.args.attribute.now)) them) (sym (good-fault _ c.next.new.self c.in_default.field-0 items)) ∙ c.entries.invariant.same;
    }

pub returns : goal.returns
returns c =
    no-more (names_member (told_member c.args.attribute.now)) _ c.entries.found _ (good-end _ c.in-None.ensures.steps.0) c.entries.invariant.same
