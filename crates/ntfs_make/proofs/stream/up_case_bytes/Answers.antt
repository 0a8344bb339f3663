use Rattle.std.proofs.Common.{◌++◌, List, ℕ, ap, ◌∙◌, sym, ◌≡◌, arith}
use Rattle.byteorder.specs.Endian.{little_bytes}
use Rattle.ntfs_make.specs.UpCase.{up_case_bytes}
use Rattle.ntfs_make.proofs.RangeLemmas.{up_case_more}
use Rattle.ntfs_make.proofs.stream.up_case_bytes.Goals as goal

pub units-preserved : goal.units-preserved
units-preserved c =
    c.in_ok-extend_from_slice.ensures.items
    ∙ ap (λ (front : List ℕ). front ++ c.to_le_bytes.result) c.units.invariant
    ∙ ap (λ (bytes : List ℕ). up_case_bytes c.units.unit ++ bytes) (c.to_le_bytes.ensures ∙ ap (little_bytes 2) c.upper.ensures)
    ∙ sym (up_case_more c.units.unit)

pub returns : goal.returns
returns c =
    let count : c.units.unit ≡ 65536 = omega arith in
    c.units.invariant ∙ ap up_case_bytes count
