use Rattle.std.proofs.Common.{◌∙◌}
use Rattle.std.proofs.lemmas.List.{nil_from_length}
use Rattle.std.proofs.lemmas.Result.{err_from_is_err_and}
use Rattle.ntfs_clone.proofs.WritingLemmas.{length-device, length-size, length-sizes, makes-length}
use Rattle.ntfs_clone.proofs.restoring.lay_out.Goals as goal

pub returns-in_err-set_len-clause-sizes : goal.returns-in_err-set_len-clause-sizes
returns-in_err-set_len-clause-sizes g c = length-sizes _ _ _ _ c.set_len.ensures.set c.requires

pub returns-in_err-set_len-clause-makes : goal.returns-in_err-set_len-clause-makes
returns-in_err-set_len-clause-makes g c told =
    let p = err_from_is_err_and c.from_residual.result c.from_residual.ensures.1 in
    let empty = nil_from_length _ (g.met.F.Image.told_size c.args.target.now told ∙ c.requires) in
    let made = makes-length c.args.header.now _ _ _ c.in_err-set_len.ensures.set told empty in
    rw p.1 (record { whole = tt; part = made.part })

pub returns-in_err-set_len-clause-same : goal.returns-in_err-set_len-clause-same
returns-in_err-set_len-clause-same g c = length-device _ _ _ _ c.set_len.ensures.set

pub returns-clause-size : goal.returns-clause-size
returns-clause-size g c = length-size _ _ _ _ c.in_ok-set_len.ensures.set

pub returns-clause-sizes : goal.returns-clause-sizes
returns-clause-sizes g c = length-sizes _ _ _ _ c.set_len.ensures.set c.requires

pub returns-clause-makes : goal.returns-clause-makes
returns-clause-makes g c told =
    let empty = nil_from_length _ (g.met.F.Image.told_size c.args.target.now told ∙ c.requires) in
    let made = makes-length c.args.header.now _ _ _ c.in_ok-set_len.ensures.set told empty in
    record { whole = made.whole; part = tt }

pub returns-clause-same : goal.returns-clause-same
returns-clause-same g c = length-device _ _ _ _ c.set_len.ensures.set
