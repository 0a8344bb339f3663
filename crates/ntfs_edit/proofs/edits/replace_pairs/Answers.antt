use Rattle.std.proofs.Common.{◌∙◌, ap, length}
use Rattle.ntfs_edit.specs.Edits.{changed, with_pairs}
use Rattle.ntfs_edit.specs.Respelt.{need_of, respelt, room_for}
use Rattle.ntfs_edit.specs.Steps.{resized_need, pairs_size_at, pairs_put}
use Rattle.ntfs_edit.proofs.CallLemmas.{call, call-runs, pairs-need, pairs-new, room-same, edit-parses}
use Rattle.ntfs_edit.proofs.edits.replace_pairs.Goals as goal

pub put_pairs-requires-clause-within : goal.put_pairs-requires-clause-within
put_pairs-requires-clause-within c =
    (call 1 c.args.place c.args.bytes.now c.requires.accepted c.requires.there).split.within

pub put_pairs-requires-clause-sound : goal.put_pairs-requires-clause-sound
put_pairs-requires-clause-sound c =
    (call 1 c.args.place c.args.bytes.now c.requires.accepted c.requires.there).sound

pub put_pairs-requires-clause-runs : goal.put_pairs-requires-clause-runs
put_pairs-requires-clause-runs c =
    call-runs c.args.place c.args.bytes.now
    (call 1 c.args.place c.args.bytes.now c.requires.accepted c.requires.there)

answer : goal.returns-clause-answer
answer c =
    let found = call 1 c.args.place c.args.bytes.now c.requires.accepted c.requires.there in
    c.put_pairs.ensures.answer
    ∙ ap (λ n. room_for n c.args.bytes.now) (pairs-need c.args.place c.args.next c.args.bytes.now c.args.pairs.now found)

pub returns-clause-answer : goal.returns-clause-answer
returns-clause-answer c = answer c

new : goal.returns-clause-bytes
new c =
    let bytes = c.args.bytes.now in
    let pairs = c.args.pairs.now in
    let found = call 1 c.args.place c.args.bytes.now c.requires.accepted c.requires.there in
    c.put_pairs.ensures.bytes
    ∙ room-same (resized_need c.args.place (pairs_size_at c.args.place (length pairs) bytes) bytes)
    (need_of bytes (changed c.args.place (with_pairs pairs c.args.next) bytes)) bytes
    (pairs_put c.args.place pairs c.args.next bytes)
    (respelt bytes (changed c.args.place (with_pairs pairs c.args.next) bytes))
    (pairs-need c.args.place c.args.next bytes pairs found) (pairs-new c.args.place c.args.next bytes pairs found)

pub returns-clause-bytes : goal.returns-clause-bytes
returns-clause-bytes c = new c

pub returns-clause-parses : goal.returns-clause-parses
returns-clause-parses c =
    edit-parses c.args.bytes.now c.put_pairs.new.bytes
    (changed c.args.place (with_pairs c.args.pairs.now c.args.next) c.args.bytes.now) c.put_pairs.result
    c.requires.accepted (answer c) (new c)
