use Rattle.std.proofs.Common.{arith, sym, ap, subst, ◌∙◌, ◌≤◌, ◌+◌, ◌*◌, get_or, set}
use Rattle.std.specs.Int.{byte_at}
use Rattle.ntfs_fixup.specs.declared.header.Magic.TheVariants.{Indx}
use Rattle.ntfs_fixup.specs.Fixups.{array_offset, stride_count, AllAgree, sequence_number, next_number, HasFront, KeepsFront}
use Rattle.ntfs_fixup.proofs.FixupLemmas.{good_room, good_array}
use Rattle.ntfs_fixup.proofs.RefixLemmas.{refix_of-by_steps, get_or-refix_of, others}
use Rattle.ntfs_fixup.proofs.LawLemmas.{sequence_number-refix_of, AllAgree-refix_of, KeepsFront-refix_of, HasFront-refix_of}
use Rattle.ntfs_fixup.proofs.refixing.refix.Goals as goal

pub sequence_number-requires-clause-room : goal.sequence_number-requires-clause-room
sequence_number-requires-clause-room c =
    let room = good_room Indx c.args.block.now c.requires.array in
    let ends : array_offset c.args.block.now + 2 * (stride_count c.args.block.now + 1) ≤ 510 = room.ends in
    omega (arith, c.array_offset-offset.ensures.value, c.requires.block.least)

pub save-requires-clause-room : goal.save-requires-clause-room
save-requires-clause-room c = good_room Indx c.args.block.now c.requires.array

pub put_word-requires : goal.put_word-requires
put_word-requires c =
    let room = good_room Indx c.args.block.now c.requires.array in
    let ends : array_offset c.args.block.now + 2 * (stride_count c.args.block.now + 1) ≤ 510 = room.ends in
    omega (arith, c.array_offset-offset.ensures.value, c.requires.block.least)

pub returns-clause-exact : goal.returns-clause-exact
returns-clause-exact c =
    let offset = c.array_offset-offset.ensures.value in
    refix_of-by_steps c.next_number-number.result c.args.block.now c.save.new.block
    c.mark.new.block c.put_word.new.block c.requires.block c.requires.array (record {
      long = omega arith;
      far = omega arith;
      is_next = c.next_number-number.ensures ∙ ap next_number c.sequence_number.ensures;
      words = λ k i within byte. ap (λ o. get_or c.save.new.block (o + 2 * (k + 1) + i) 0) (sym offset)
          ∙ c.save.ensures.saved k i within byte;
      before = λ p within. c.save.ensures.before p (omega arith);
      behind = λ p within. c.save.ensures.behind p (omega arith);
      ends = c.mark.ensures.ends;
      inner = c.mark.ensures.others;
      last = c.put_word.ensures
          ∙ ap (λ o. set (set c.mark.new.block o (byte_at 0 c.next_number-number.result)) (o + 1)
          (byte_at 1 c.next_number-number.result)) offset;
      even = omega arith;
    })

pub returns-clause-bytes : goal.returns-clause-bytes
returns-clause-bytes c p within =
    ap (λ b. get_or b p 0) (returns-clause-exact c) ∙ get_or-refix_of c.args.block.now p within

pub returns-clause-number : goal.returns-clause-number
returns-clause-number c =
    ap sequence_number (returns-clause-exact c)
    ∙ sequence_number-refix_of c.args.block.now c.requires.block c.requires.array

pub returns-clause-agree : goal.returns-clause-agree
returns-clause-agree c =
    subst AllAgree (sym (returns-clause-exact c)) (AllAgree-refix_of c.args.block.now c.requires.block c.requires.array)

pub returns-clause-others : goal.returns-clause-others
returns-clause-others c p inside outside =
    ap (λ b. get_or b p 0) (returns-clause-exact c)
    ∙ others c.args.block.now p (good_room Indx c.args.block.now c.requires.array)
    (good_array Indx c.args.block.now c.requires.array).counts inside outside

pub returns-clause-front : goal.returns-clause-front
returns-clause-front c magic front =
    subst (HasFront magic) (sym (returns-clause-exact c))
    (HasFront-refix_of magic c.args.block.now c.requires.array front)

pub returns-clause-keeps : goal.returns-clause-keeps
returns-clause-keeps c =
    subst (KeepsFront c.args.block.now) (sym (returns-clause-exact c))
    (KeepsFront-refix_of c.args.block.now c.requires.array)
