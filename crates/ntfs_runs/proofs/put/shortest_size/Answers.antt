use Rattle.std.proofs.Common.{ap, sym, ◌∙◌, rules, w64}
use Rattle.std.proofs.lemmas.Int.{to_z-of_z}
use mir.Val.{SFits}
use Rattle.ntfs_runs.specs.Number.{size_for}
use Rattle.ntfs_runs.proofs.SizeLemmas.{length-shortest}
use Rattle.ntfs_runs.proofs.put.shortest_size.Goals as goal

pub returns-clause-value : goal.returns-clause-value
returns-clause-value c =
    let fits : SFits w64 c.args.value = search rules in
    let reach-is = simp to_z-of_z at c.reach_of.ensures in
    c.size_for.ensures.value ∙ ap size_for reach-is ∙ sym (length-shortest c.args.value)
