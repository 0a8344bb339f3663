use Rattle.std.proofs.Common.{◌≡◌, ◌∙◌, inr, refl, IsTrue, Result, Ok, Err}
use Rattle.std.specs.Prelude.{OnOk}
use Rattle.ntfs_clone.specs.declared.fault.CloneFault.{CloneFault}
use Rattle.std.proofs.lemmas.List.{nil_from_length}
use Rattle.std.proofs.lemmas.Result.{err_from_is_err_and}
use Rattle.ntfs_base.proofs.FramesLemmas.{told_still}
use Rattle.ntfs_clone.specs.CloneOf.{volume_of}
use Rattle.ntfs_clone.specs.Copying.{IsCopied, copied_up_to, nothing}
use Rattle.ntfs_clone.proofs.CopyingLemmas.{copied-part, part-makes}
use Rattle.ntfs_clone.proofs.WritingLemmas.{same-device, same-then}
use Rattle.ntfs_clone.proofs.copying.copy_clusters.Goals as goal

pub returns-in_err-row-clause-copied : goal.returns-in_err-row-clause-copied
returns-in_err-row-clause-copied g c told tells =
    let p = err_from_is_err_and c.from_residual.result c.from_residual.ensures.1 in
    rw p.1 (nothing (nil_from_length _ (g.met.F.Image.told_size c.args.target.now tells ∙ c.requires.empty)))

pub returns-in_err-row-clause-same : goal.returns-in_err-row-clause-same
returns-in_err-row-clause-same g c = record { told = refl; bears = refl; over = refl }

pub returns-in_err-lay_out-clause-copied : goal.returns-in_err-lay_out-clause-copied
returns-in_err-lay_out-clause-copied g c told tells =
    let v = volume_of c.args.geometry.now c.args.owned.now (g.G.Image.seen c.args.image.now).content in
    let p = err_from_is_err_and c.from_residual-in_err-lay_out.result c.from_residual-in_err-lay_out.ensures.1 in
    rw p.1 (part-makes v _ (c.in_err-lay_out.ensures.laid v refl tells).part)

pub copy_stretches-requires-clause-size : goal.copy_stretches-requires-clause-size
copy_stretches-requires-clause-size g c = c.in_ok-lay_out.ensures.size

pub returns-in_err-copy_stretches-clause-copied : goal.returns-in_err-copy_stretches-clause-copied
returns-in_err-copy_stretches-clause-copied g c told tells =
    let v = volume_of c.args.geometry.now c.args.owned.now (g.G.Image.seen c.args.image.now).content in
    let p = err_from_is_err_and c.from_residual-in_err-copy_stretches.result c.from_residual-in_err-copy_stretches.ensures.1 in
    let laid = c.in_ok-lay_out.ensures in
    rw p.1 (copied-part v _ (c.in_err-copy_stretches.ensures.copied told (laid.same.told ∙ tells) (laid.laid v refl tells).whole))

pub returns-in_err-copy_stretches-clause-same : goal.returns-in_err-copy_stretches-clause-same
returns-in_err-copy_stretches-clause-same g c = same-device _ _ _ c.in_ok-lay_out.ensures.same c.in_err-copy_stretches.ensures.same

pub returns-in_err-copy_stretches-clause-sizes : goal.returns-in_err-copy_stretches-clause-sizes
returns-in_err-copy_stretches-clause-sizes g c = inr (c.in_err-copy_stretches.ensures.same.size ∙ c.in_ok-lay_out.ensures.size)

pub copy_tail-requires-clause-size : goal.copy_tail-requires-clause-size
copy_tail-requires-clause-size g c = c.in_ok-copy_stretches.ensures.same.size ∙ c.in_ok-lay_out.ensures.size

pub returns-clause-copied : goal.returns-clause-copied
returns-clause-copied g c told tells =
    let k = c.args.geometry.now in
    let owned = c.args.owned.now in
    let v = volume_of k owned (g.G.Image.seen c.args.image.now).content in
    let target = g.F.Image.seen c.copy_stretches.new.target in
    let laid = c.in_ok-lay_out.ensures in
    let clusters = c.in_ok-copy_stretches.ensures in
    let tells_here = laid.same.told ∙ tells in
    told_still g.G.Image _ _ (λ content. IsTrue target.is_told → target.content ≡ copied_up_to (volume_of k owned content) k.clusters
    → IsCopied {T = Unit {0}} (volume_of k owned content) c.copy_tail.result (g.F.Image.seen c.copy_tail.new.target).content)
    clusters.copies.seen (c.copy_tail.ensures.copied owned) told (clusters.same.same.told ∙ tells_here) (clusters.copied told tells_here (laid.laid v refl tells).whole)

pub returns-clause-same : goal.returns-clause-same
returns-clause-same g c = same-device _ _ _ c.in_ok-lay_out.ensures.same (same-then _ _ _ c.in_ok-copy_stretches.ensures.same c.copy_tail.ensures.same)

pub returns-clause-size : goal.returns-clause-size
returns-clause-size g c = each c.copy_tail.result (c.copy_tail.ensures.same.size ∙ c.in_ok-copy_stretches.ensures.same.size ∙ c.in_ok-lay_out.ensures.size)
  where
    each : {P : Type 0} (result : Result (Unit {0}) CloneFault) → P → OnOk result P
    each (Ok done) is = is
    each (Err fault) is = tt

pub returns-clause-sizes : goal.returns-clause-sizes
returns-clause-sizes g c = inr (c.copy_tail.ensures.same.size ∙ c.in_ok-copy_stretches.ensures.same.size ∙ c.in_ok-lay_out.ensures.size)
