use Rattle.std.proofs.Common.{◌∙◌, ap, length}
use Rattle.ntfs_edit.specs.Edits.{changed, with_value}
use Rattle.ntfs_edit.specs.Respelt.{need_of, respelt, room_for}
use Rattle.ntfs_edit.specs.Steps.{resized_need, value_size_at, value_put}
use Rattle.ntfs_edit.proofs.CallLemmas.{call, call-value, value-need, value-new, room-same, edit-parses}
use Rattle.ntfs_edit.proofs.edits.set_resident.Goals as goal

pub put_value-requires-clause-within : goal.put_value-requires-clause-within
put_value-requires-clause-within c =
    (call 0 c.args.place c.args.bytes.now c.requires.accepted c.requires.there).split.within

pub put_value-requires-clause-sound : goal.put_value-requires-clause-sound
put_value-requires-clause-sound c =
    (call 0 c.args.place c.args.bytes.now c.requires.accepted c.requires.there).sound

pub put_value-requires-clause-body : goal.put_value-requires-clause-body
put_value-requires-clause-body c =
    call-value c.args.place c.args.bytes.now
    (call 0 c.args.place c.args.bytes.now c.requires.accepted c.requires.there)

answer : goal.returns-clause-answer
answer c =
    let found = call 0 c.args.place c.args.bytes.now c.requires.accepted c.requires.there in
    c.put_value.ensures.answer
    ∙ ap (λ n. room_for n c.args.bytes.now) (value-need c.args.place c.args.bytes.now c.args.value.now found)

pub returns-clause-answer : goal.returns-clause-answer
returns-clause-answer c = answer c

new : goal.returns-clause-bytes
new c =
    let bytes = c.args.bytes.now in
    let value = c.args.value.now in
    let found = call 0 c.args.place c.args.bytes.now c.requires.accepted c.requires.there in
    c.put_value.ensures.bytes
    ∙ room-same (resized_need c.args.place (value_size_at c.args.place (length value) bytes) bytes)
    (need_of bytes (changed c.args.place (with_value value) bytes)) bytes
    (value_put c.args.place value bytes) (respelt bytes (changed c.args.place (with_value value) bytes))
    (value-need c.args.place bytes value found) (value-new c.args.place bytes value found)

pub returns-clause-bytes : goal.returns-clause-bytes
returns-clause-bytes c = new c

pub returns-clause-parses : goal.returns-clause-parses
returns-clause-parses c =
    edit-parses c.args.bytes.now c.put_value.new.bytes
    (changed c.args.place (with_value c.args.value.now) c.args.bytes.now) c.put_value.result c.requires.accepted
    (answer c) (new c)
