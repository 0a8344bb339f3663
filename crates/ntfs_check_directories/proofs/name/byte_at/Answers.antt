use Rattle.std.proofs.Common.{length, sym, ◌∙◌}
use Rattle.std.proofs.lemmas.Bool.{ltb-false}
use Rattle.std.proofs.lemmas.List.{get_or_past}
use Rattle.ntfs_base.proofs.BytesLemmas.{number_at-byte}
use Rattle.ntfs_check_directories.proofs.name.byte_at.Goals as goal

pub returns-in-Some : goal.returns-in-Some
returns-in-Some c = c.in-Some.ensures.lookup.3.1 0 ∙ sym (number_at-byte c.args.place c.args.bytes.now)

pub returns-in-None : goal.returns-in-None
returns-in-None c =
    let past = ltb-false c.args.place (length c.args.bytes.now) (sym c.in-None.ensures.lookup.0) in
    sym (number_at-byte c.args.place c.args.bytes.now ∙ get_or_past c.args.bytes.now c.args.place 0 past)
