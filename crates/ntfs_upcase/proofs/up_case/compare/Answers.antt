use Rattle.std.proofs.Common.{sym, ◌∙◌}
use Rattle.ntfs_upcase.proofs.CollationLemmas.{collate-first, collate-longer, collate-shorter, collate-empty, then-decided, then-tied}
use Rattle.ntfs_upcase.proofs.up_case.compare.Goals as goal

pub returns-then-ne : goal.returns-then-ne
returns-then-ne c =
    let first = collate-first _ _ _ _ _ _ _ c.in-Some-Some.ensures.unit c.in-Some-Some.ensures'.unit _ c.cmp-order.ensures in
    sym (then-decided _ _ (sym c.ne.ensures ∙ c.if-ne.true)) ∙ sym first ∙ c.units.invariant

pub units-preserved : goal.units-preserved
units-preserved c =
    let first = collate-first _ _ _ _ _ _ _ c.in-Some-Some.ensures.unit c.in-Some-Some.ensures'.unit _ c.cmp-order.ensures in
    sym (then-tied _ _ (sym c.ne.ensures ∙ c.if-ne.false)) ∙ sym first ∙ c.units.invariant

pub returns-in-Some-None : goal.returns-in-Some-None
returns-in-Some-None c = collate-longer _ _ _ _ _ c.in-Some-None.ensures.unit c.in-Some-None.ensures'.none ∙ c.units.invariant

pub returns-in-None-Some : goal.returns-in-None-Some
returns-in-None-Some c = collate-shorter _ _ _ _ _ c.in-None-Some.ensures.none c.in-None-Some.ensures'.unit ∙ c.units.invariant

pub returns-in-None-None : goal.returns-in-None-None
returns-in-None-None c = collate-empty _ _ _ c.in-None-None.ensures.none c.in-None-None.ensures'.none ∙ c.units.invariant
