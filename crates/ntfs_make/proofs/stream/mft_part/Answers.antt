use Rattle.std.proofs.Common.{◌≤◌, ◌+◌, ◌*◌, ◌-◌, ◌⊎◌, inl, inr, ⊎_elim, List, ℕ, length, subst, sym, arith}
use Rattle.std.proofs.lemmas.Bool.{cases_lt}
use Rattle.ntfs_make.specs.Rows.{rows}
use Rattle.ntfs_make.specs.Records.{records_bytes}
use Rattle.ntfs_make.specs.Streams.{HasBetween, content_bytes}
use Rattle.ntfs_make.proofs.RowLemmas.{length-rows}
use Rattle.ntfs_make.proofs.PartLemmas.{records-part}
use Rattle.ntfs_make.proofs.stream.mft_part.Goals as goal

pub returns : goal.returns
unfolding content_bytes
returns c =
    let shape = c.args.layout.now in
    let first = c.min-first.result in
    let last = c.min-last.result in
    let all = length-rows in
    let ends : (c.args.from + c.args.count ≤ (first + (last - first)) * 1024) ⊎ (length rows ≤ first + (last - first))
    = ⊎_elim (λ few. inl (omega arith)) (λ many. inr (omega arith)) (cases_lt last 64) in
    subst (λ (some : List ℕ). HasBetween c.args.from c.args.count (records_bytes shape rows) (first * 1024) some) (sym c.in_ok-bytes.ensures)
    (records-part shape rows first (last - first) c.args.from c.args.count (omega arith) (omega arith) ends)
