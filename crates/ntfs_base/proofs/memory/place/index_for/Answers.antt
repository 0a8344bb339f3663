use Rattle.std.proofs.Common.{rules, ◌≡◌, sym, ap, ◌∙◌, Some, length}
use Rattle.ntfs_base.specs.MemShelf.{index_of}
use Rattle.ntfs_base.proofs.ShelfLemmas.{index_of-push, kept_by_push, calls_by_push}
use Rattle.ntfs_base.proofs.memory.place.index_for.Goals as goal

pub returns-in_ok-push-in-None-clause-found : goal.returns-in_ok-push-in-None-clause-found
returns-in_ok-push-in-None-clause-found c =
    let none = ap (index_of c.args.name.now) (sym c.deref.ensures.value) ∙ sym c.in-None.ensures in
    let count : length c.args.places.now.items ≡ c.len-index.result = search rules in
    rw c.in_ok-push-in-None.ensures.items (index_of-push _ _ _ none c.in_ok-fresh-in-None.ensures.named ∙ ap Some count)

pub returns-in_ok-push-in-None-clause-files : goal.returns-in_ok-push-in-None-clause-files
returns-in_ok-push-in-None-clause-files c =
    let none = ap (index_of c.args.name.now) (sym c.deref.ensures.value) ∙ sym c.in-None.ensures in
    rw c.in_ok-push-in-None.ensures.items (kept_by_push _ _ _ none c.in_ok-fresh-in-None.ensures)

pub returns-in_ok-push-in-None-clause-calls : goal.returns-in_ok-push-in-None-clause-calls
returns-in_ok-push-in-None-clause-calls c =
    let none = ap (index_of c.args.name.now) (sym c.deref.ensures.value) ∙ sym c.in-None.ensures in
    rw c.in_ok-push-in-None.ensures.items (calls_by_push _ _ _ none c.in_ok-fresh-in-None.ensures)
