use Rattle.std.proofs.Common.{◌∙◌, sym, arith}
use Rattle.ntfs_attrlist.proofs.EntryLemmas.{has_first}
use Rattle.ntfs_attrlist.proofs.ItemsLemmas.{step-end, step-bad, step-entry, split-raw}
use Rattle.ntfs_attrlist.proofs.walk.Entries.step.Goals as goal

pub returns-then-is_empty : goal.returns-then-is_empty
returns-then-is_empty c =
    let s = c.self.inside in
    let none = sym c.self.view_is ∙ step-end s.place s.rest.now (sym c.is_empty.ensures ∙ c.if-is_empty.true) in
    (none, none)

pub returns-then-not-has_entry : goal.returns-then-not-has_entry
returns-then-not-has_entry c =
    let s = c.self.inside in
    sym c.self.view_is ∙ step-bad s.place s.rest.now (sym c.is_empty.ensures ∙ c.if-is_empty.false) (sym c.has_entry.ensures ∙ c.if-not-has_entry.true)

pub list_entry_length-requires : goal.list_entry_length-requires
list_entry_length-requires c = (has_first c.self.inside.rest.now (sym c.has_entry.ensures ∙ c.if-not-has_entry.false)).fields

pub split_at-requires : goal.split_at-requires
split_at-requires c =
    let h = has_first c.self.inside.rest.now (sym c.has_entry.ensures ∙ c.if-not-has_entry.false) in
    omega (arith, h.within, c.from.ensures, c.list_entry_length.ensures)

pub entry_from-requires : goal.entry_from-requires
entry_from-requires c =
    split-raw c.self.inside.rest.now c.split_at.result.0.now c.from.result (sym c.has_entry.ensures ∙ c.if-not-has_entry.false)
    (c.from.ensures ∙ c.list_entry_length.ensures) c.split_at.ensures.front

pub returns : goal.returns
returns c =
    let s = c.self.inside in
    sym c.self.view_is
    ∙ step-entry s.place s.rest.now c.split_at.result.0.now c.split_at.result.1.now _ c.from.result (sym c.has_entry.ensures ∙ c.if-not-has_entry.false)
    (c.from.ensures ∙ c.list_entry_length.ensures) c.split_at.ensures.front c.split_at.ensures.back c.entry_from.ensures
