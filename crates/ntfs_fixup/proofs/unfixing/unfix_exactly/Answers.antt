use Rattle.std.proofs.Common.{sym, ap, ◌∙◌, Ok, arith}
use Rattle.ntfs_fixup.proofs.FixupLemmas.{good_room}
use Rattle.ntfs_fixup.proofs.UnfixLemmas.{unfix_of-no_magic, unfix_of-bad_array, unfix_of-torn, unfix_of-whole, unfix_block-by_bytes}
use Rattle.ntfs_fixup.proofs.unfixing.unfix_exactly.Goals as goal

pub returns-then-not-has_magic-clause-exact : goal.returns-then-not-has_magic-clause-exact
returns-then-not-has_magic-clause-exact c = unfix_of-no_magic _ _ (sym c.has_magic.ensures ∙ c.if-not-has_magic.true)

pub returns-then-not-has_good_array-clause-exact :
    goal.returns-then-not-has_good_array-clause-exact
returns-then-not-has_good_array-clause-exact c =
    unfix_of-bad_array _ _ (sym c.has_magic.ensures ∙ c.if-not-has_magic.false)
    (sym c.has_good_array.ensures ∙ c.if-not-has_good_array.true)

pub first_torn-requires-clause-room : goal.first_torn-requires-clause-room
first_torn-requires-clause-room c =
    good_room c.args.magic _ (sym c.has_good_array.ensures ∙ c.if-not-has_good_array.false)

pub returns-in-Some-clause-exact : goal.returns-in-Some-clause-exact
returns-in-Some-clause-exact c =
    unfix_of-torn _ _ _ (sym c.has_magic.ensures ∙ c.if-not-has_magic.false)
    (sym c.has_good_array.ensures ∙ c.if-not-has_good_array.false) (sym c.in-Some.ensures)

pub restore-requires-clause-room : goal.restore-requires-clause-room
restore-requires-clause-room c = good_room c.args.magic _ (sym c.has_good_array.ensures ∙ c.if-not-has_good_array.false)

pub returns-clause-exact : goal.returns-clause-exact
returns-clause-exact c =
    unfix_of-whole _ _ (sym c.has_magic.ensures ∙ c.if-not-has_magic.false)
    (sym c.has_good_array.ensures ∙ c.if-not-has_good_array.false) (sym c.first_torn.ensures ∙ c.in_default.is)
    ∙ ap Ok (sym (unfix_block-by_bytes c.args.block.now c.restore.new.block (omega arith) c.restore.ensures))
