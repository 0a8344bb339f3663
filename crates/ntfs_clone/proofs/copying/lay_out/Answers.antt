use Rattle.std.proofs.Common.{◌≡◌, ◌⊎◌, ◌∙◌, ℕ, subst, sym}
use Rattle.std.proofs.lemmas.List.{nil_from_length}
use Rattle.std.proofs.lemmas.Result.{err_from_is_err_and}
use Rattle.ntfs_clone.proofs.CopyingLemmas.{makes-device}
use Rattle.ntfs_clone.proofs.WritingLemmas.{length-device, length-size, length-sizes}
use Rattle.ntfs_clone.proofs.copying.lay_out.Goals as goal

pub returns-in_err-set_len-clause-laid : goal.returns-in_err-set_len-clause-laid
returns-in_err-set_len-clause-laid g c v same told =
    let p = err_from_is_err_and c.from_residual.result c.from_residual.ensures.1 in
    let empty = nil_from_length _ (g.met.F.Image.told_size c.args.target.now told ∙ c.requires.empty) in
    let made = makes-device v _ _ _ _ (same ∙ sym c.device_of.ensures.value) c.in_err-set_len.ensures.set told empty in
    rw p.1 (record { whole = tt; part = made.part })

pub returns-in_err-set_len-clause-sizes : goal.returns-in_err-set_len-clause-sizes
returns-in_err-set_len-clause-sizes g c =
    subst (λ (n : ℕ). ((g.F.Image.seen c.set_len.new.self).size ≡ 0) ⊎ ((g.F.Image.seen c.set_len.new.self).size ≡ n)) c.device_of.ensures.value (length-sizes _ _ _ _ c.set_len.ensures.set c.requires.empty)

pub returns-in_err-set_len-clause-same : goal.returns-in_err-set_len-clause-same
returns-in_err-set_len-clause-same g c = length-device _ _ _ _ c.set_len.ensures.set

pub returns-clause-laid : goal.returns-clause-laid
returns-clause-laid g c v same told =
    let empty = nil_from_length _ (g.met.F.Image.told_size c.args.target.now told ∙ c.requires.empty) in
    let made = makes-device v _ _ _ _ (same ∙ sym c.device_of.ensures.value) c.in_ok-set_len.ensures.set told empty in
    record { whole = made.whole; part = tt }

pub returns-clause-size : goal.returns-clause-size
returns-clause-size g c = length-size _ _ _ _ c.in_ok-set_len.ensures.set ∙ c.device_of.ensures.value

pub returns-clause-sizes : goal.returns-clause-sizes
returns-clause-sizes g c =
    subst (λ (n : ℕ). ((g.F.Image.seen c.set_len.new.self).size ≡ 0) ⊎ ((g.F.Image.seen c.set_len.new.self).size ≡ n)) c.device_of.ensures.value (length-sizes _ _ _ _ c.set_len.ensures.set c.requires.empty)

pub returns-clause-same : goal.returns-clause-same
returns-clause-same g c = length-device _ _ _ _ c.set_len.ensures.set
