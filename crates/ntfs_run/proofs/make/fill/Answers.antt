use Rattle.std.proofs.Common.{IsTrue, Ok, Err, inr, replicate, sym, ap, ◌∙◌}
use Rattle.ntfs_base.proofs.GrowthLemmas.{SetLength-name}
use Rattle.ntfs_base.proofs.WritesLemmas.{Wrote-name}
use Rattle.ntfs_run.proofs.MakeLemmas.{made-part, set-left, set-told, set-zeros, sized-size}
use Rattle.ntfs_run.proofs.make.fill.Goals as goal

pub returns-in_err-set_len-clause-name : goal.returns-in_err-set_len-clause-name
returns-in_err-set_len-clause-name g c = SetLength-name c.volume_len.result _ _ (Err c.in_err-set_len.field-0.0) c.in_err-set_len.ensures.set

pub returns-in_err-set_len-clause-left : goal.returns-in_err-set_len-clause-left
returns-in_err-set_len-clause-left g c told =
    set-left c.args.request.now.seed c.args.request.now.clusters c.args.request.now.cluster c.volume_len.result c.in_err-set_len.field-0.0 _ _
    c.volume_len.ensures c.in_err-set_len.ensures.set c.requires.empty told

pub make-requires-clause-size : goal.make-requires-clause-size
make-requires-clause-size g c = ap (λ file. file.size) c.in_ok-set_len.ensures.set.whole ∙ sized-size c.volume_len.result _ ∙ c.volume_len.ensures

pub make-requires-clause-zeros : goal.make-requires-clause-zeros
make-requires-clause-zeros g c told =
    let before : IsTrue (g.F.Image.seen c.args.file.now).is_told = sym (set-told c.volume_len.result _ _ c.in_ok-set_len.ensures.set.whole) ∙ told in
    set-zeros c.volume_len.result _ _ c.in_ok-set_len.ensures.set.whole c.requires.empty before ∙ ap (λ n. replicate n 0) c.volume_len.ensures

pub returns-in_err-make-clause-name : goal.returns-in_err-make-clause-name
returns-in_err-make-clause-name g c =
    Wrote-name _ _ _ (Err c.in_err-make.field-0.0) c.in_err-make.ensures.wrote ∙ SetLength-name c.volume_len.result _ _ (Ok c.in_ok-set_len.field-0) c.in_ok-set_len.ensures.set

pub returns-in_err-make-clause-left : goal.returns-in_err-make-clause-left
returns-in_err-make-clause-left g c told = inr (c.in_err-make.ensures.left (set-told c.volume_len.result _ _ c.in_ok-set_len.ensures.set.whole ∙ told))

pub returns-clause-name : goal.returns-clause-name
returns-clause-name g c =
    Wrote-name _ _ _ (Ok c.in_ok-make.field-0) c.in_ok-make.ensures.wrote ∙ SetLength-name c.volume_len.result _ _ (Ok c.in_ok-set_len.field-0) c.in_ok-set_len.ensures.set

pub returns-clause-made : goal.returns-clause-made
returns-clause-made g c told = c.in_ok-make.ensures.made (set-told c.volume_len.result _ _ c.in_ok-set_len.ensures.set.whole ∙ told)

pub returns-clause-left : goal.returns-clause-left
returns-clause-left g c told =
    made-part c.args.request.now.seed c.args.request.now.clusters c.args.request.now.cluster _
    (c.in_ok-make.ensures.made (set-told c.volume_len.result _ _ c.in_ok-set_len.ensures.set.whole ∙ told))
