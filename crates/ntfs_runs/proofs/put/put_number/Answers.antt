use Rattle.std.proofs.Common.{◌≡◌, ap, ◌∙◌, ℕ, rules, w64, sym, rules}
use Rattle.std.proofs.lemmas.Int.{to_z-of_z}
use mir.Val.{SFits}
use Rattle.ntfs_runs.specs.Number.{bytes_of, shortest, size_for, reach}
use Rattle.ntfs_runs.proofs.SizeLemmas.{length-shortest}
use Rattle.ntfs_runs.proofs.WritingLemmas.{put-behind}
use Rattle.ntfs_runs.proofs.put.put_number.Goals as goal

pub returns : goal.returns
unfolding bytes_of shortest
returns c =
    let fits : SFits w64 c.args.value = search rules in
    let wrote = simp to_z-of_z at c.write_int.ensures in
    let size : c.args.size ≡ size_for (reach c.args.value) = c.requires.size ∙ length-shortest c.args.value in
    let text : bytes_of c.args.size c.args.value ≡ shortest c.args.value = ap (λ (n : ℕ). bytes_of n c.args.value) size in
    rw (c.split_at_mut-rest.ensures.front, wrote, c.split_at_mut-rest.ensures.back, text) (put-behind (shortest c.args.value) c.args.at c.args.size c.args.into.now (sym c.requires.size))
