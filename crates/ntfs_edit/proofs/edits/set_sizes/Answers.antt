use Rattle.std.proofs.Common.{◌∙◌, ap, arith}
use Rattle.ntfs_record.specs.Layout.{with_size_at, with_valid_at}
use Rattle.ntfs_record.specs.Parsing.{parse_of}
use Rattle.ntfs_edit.proofs.CallLemmas.{call, call-runs, sizes-new}
use Rattle.ntfs_edit.proofs.ChangedLemmas.{sizes-parse}
use Rattle.ntfs_edit.proofs.edits.set_sizes.Goals as goal

pub set_allocated_at-requires : goal.set_allocated_at-requires
set_allocated_at-requires c =
    let found = call 1 c.args.place c.args.bytes.now c.requires.accepted c.requires.there in
    let runs = call-runs c.args.place c.args.bytes.now found in
    omega (arith, runs.fields, found.sound.ends, found.split.within)

pub set_size_at-requires : goal.set_size_at-requires
set_size_at-requires c =
    let found = call 1 c.args.place c.args.bytes.now c.requires.accepted c.requires.there in
    let runs = call-runs c.args.place c.args.bytes.now found in
    omega (arith, runs.fields, found.sound.ends, found.split.within, c.set_allocated_at.auto.bytes)

pub set_valid_at-requires : goal.set_valid_at-requires
set_valid_at-requires c =
    let found = call 1 c.args.place c.args.bytes.now c.requires.accepted c.requires.there in
    let runs = call-runs c.args.place c.args.bytes.now found in
    omega (arith, runs.fields, found.sound.ends, found.split.within, c.set_allocated_at.auto.bytes, c.set_size_at.auto.bytes)

new : goal.returns-clause-bytes
new c =
    let found = call 1 c.args.place c.args.bytes.now c.requires.accepted c.requires.there in
    c.set_valid_at.ensures
    ∙ ap (with_valid_at c.args.place c.args.valid) (c.set_size_at.ensures ∙ ap (with_size_at c.args.place c.args.size) c.set_allocated_at.ensures)
    ∙ sizes-new c.args.place c.args.allocated c.args.size c.args.valid c.args.bytes.now c.are_bytes.ensures found

pub returns-clause-bytes : goal.returns-clause-bytes
returns-clause-bytes c = new c

pub returns-clause-parses : goal.returns-clause-parses
returns-clause-parses c = λ first.
    let found = call 1 c.args.place c.args.bytes.now c.requires.accepted c.requires.there in
    ap parse_of (new c)
    ∙ sizes-parse c.args.place c.args.allocated c.args.size c.args.valid c.args.bytes.now c.requires.accepted found first
