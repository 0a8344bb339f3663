use Rattle.std.proofs.Common.{◌++◌, ap, ◌∙◌, arith}
use Rattle.std.proofs.lemmas.List.{take_all}
use Rattle.ntfs_volume.proofs.known.append.Goals as goal

pub returns : goal.returns
returns c =
    let all = take_all c.runs.run-index c.args.runs.now (omega arith) in
    c.runs.invariant ∙ ap (λ rs. c.args.list.now ++ rs) all
