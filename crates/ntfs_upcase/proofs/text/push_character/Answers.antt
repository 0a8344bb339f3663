use Rattle.std.proofs.Common.{◌++◌, sym, ap, ◌∙◌, arith, append-nil, append_assoc, take}
use Rattle.ntfs_upcase.specs.Names.{unit_bytes}
use Rattle.ntfs_upcase.proofs.NamesLemmas.{unit_bytes-take}
use Rattle.ntfs_upcase.proofs.text.push_character.Goals as goal

pub units-init : goal.units-init
unfolding unit_bytes
units-init c = sym (append-nil _)

pub units-preserved : goal.units-preserved
units-preserved c =
    let done = unit_bytes (take c.units.unit-index c.encode_utf16.result.now) in
    let more = unit_bytes-take c.encode_utf16.result.now c.units.unit-index (omega arith) in
    c.in_ok-extend_from_slice.ensures.items
    ∙ ap (λ front. front ++ c.to_le_bytes.result) c.units.invariant
    ∙ append_assoc c.args.name.now.items done c.to_le_bytes.result
    ∙ ap (λ rest. c.args.name.now.items ++ rest) (ap (λ last. done ++ last) c.to_le_bytes.ensures ∙ sym more)
