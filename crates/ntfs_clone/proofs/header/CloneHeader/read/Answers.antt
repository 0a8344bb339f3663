use Rattle.std.proofs.Common.{◌∙◌, arith}
use Rattle.ntfs_base.proofs.BytesLemmas.{little_number-part}
use Rattle.ntfs_clone.specs.Header.{header_fields}
use Rattle.ntfs_clone.proofs.header.CloneHeader.read.Goals as goal

pub returns : goal.returns
unfolding header_fields
returns c =
    let cluster = c.read_u32.ensures ∙ little_number-part 4 18 32 c.args.front.now (omega arith) in
    let device = c.read_u64.ensures ∙ little_number-part 8 22 28 c.args.front.now (omega arith) in
    let clusters = c.read_u64-2.ensures ∙ little_number-part 8 30 20 c.args.front.now (omega arith) in
    let in_use = c.read_u64-3.ensures ∙ little_number-part 8 38 12 c.args.front.now (omega arith) in
    let offset = c.read_u32-2.ensures ∙ little_number-part 4 46 4 c.args.front.now (omega arith) in
    λ i. record { cluster = cluster i; device = device i; clusters = clusters i; in_use = in_use i; offset = offset i }
