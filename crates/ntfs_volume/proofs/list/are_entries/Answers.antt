use Rattle.std.proofs.Common.{sym, ap, ◌∙◌, List, Result}
use Rattle.std.specs.Prelude.{is_ok}
use Rattle.ntfs_attrlist.specs.Entry.{Listed}
use Rattle.ntfs_attrlist.specs.declared.fault.BadEntry.{BadEntry}
use Rattle.ntfs_attrlist.specs.Reading.{all_or_first}
use Rattle.ntfs_volume.proofs.ListLemmas.{entry-bad, entry-good}
use Rattle.ntfs_volume.proofs.list.are_entries.Goals as goal

pub entries-init : goal.entries-init
entries-init c = record { can = tt; finite = tt; same = ap (λ (xs : List (Result Listed BadEntry)). is_ok (all_or_first xs)) c.into_iter-item-iterator.ensures.into_iter_gives ∙ ap is_ok c.entries-item-items.ensures.whole }

pub entries-preserved : goal.entries-preserved
entries-preserved c = record {
  can = tt;
  finite = tt;
  same = entry-good _ c.next.new.self c.in-Some.item c.in-Some.ensures.steps (sym c.is_err.ensures.value ∙ c.if-is_err.false) ∙ c.entries.invariant.same;
}

pub returns-then-is_err : goal.returns-then-is_err
returns-then-is_err c = sym (entry-bad _ c.next.new.self c.in-Some.item c.in-Some.ensures.steps (sym c.is_err.ensures.value ∙ c.if-is_err.true)) ∙ c.entries.invariant.same

pub returns : goal.returns
returns c = sym (ap (λ xs. is_ok (all_or_first xs)) c.in-None.ensures.steps.0) ∙ c.entries.invariant.same
