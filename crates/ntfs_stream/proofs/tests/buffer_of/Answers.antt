use Rattle.std.proofs.Common.{◌≡◌, ◌<◌, ◌*◌, ◌%◌, ℕ, zero, suc, ap, ◌∙◌, arith, vec_len}
use Rattle.std.proofs.lemmas.Result.{IfOk-weaker}
use Rattle.std.proofs.Math.Nat.{mul-mod_left}
use Rattle.ntfs_stream.specs.StreamBytes.{IsBuffer}
use Rattle.ntfs_stream.proofs.tests.buffer_of.Goals as goal

whole-clusters : (n m c len : ℕ) → 0 < n → m ≡ n → len ≡ m * c → IsBuffer c len
whole-clusters zero m c len some same is = absurd (omega arith)
whole-clusters (suc n) m c len some same is =
    let long : len ≡ suc n * c = is ∙ ap (λ k. k * c) same in
    record { least = omega (arith, long); whole = ap (λ k. k % c) long ∙ mul-mod_left (suc n) c }

pub returns : goal.returns
returns c = IfOk-weaker c.vec.result _ _ (λ bytes is. whole-clusters c.args.clusters c.from.result c.args.cluster (vec_len bytes) c.requires c.from.ensures is) c.vec.ensures.len
