use Rattle.std.proofs.Common.{Ok}
use Rattle.std.proofs.lemmas.Result.{err_from_is_err_and}
use Rattle.ntfs_base.specs.Frames.{Puts}
use Rattle.ntfs_base.proofs.FramesLemmas.{puts_none, told_still}
use Rattle.ntfs_clone.specs.CloneOf.{clone_of}
use Rattle.ntfs_run.specs.Clone.{volume_in}
use Rattle.ntfs_run.specs.Outcome.{status_origin}
use Rattle.ntfs_run.proofs.CloneLemmas.{put_made, put_refused, puts_flushed}
use Rattle.ntfs_run.proofs.clone.put_clone.Goals as goal

pub returns-in_err-checked-clause-puts : goal.returns-in_err-checked-clause-puts
returns-in_err-checked-clause-puts g c told =
    let p = err_from_is_err_and c.from_residual.result c.from_residual.ensures.1 in
    rw (p.1, p.2) (puts_none status_origin _ _ _ (λ settled. put_refused c.args.force (g.G.Image.seen c.args.image.now).content _
    (c.in_err-checked.ensures.gives told settled)))

pub returns-clause-puts : goal.returns-clause-puts
returns-clause-puts g c told =
    let checked = c.in_ok-checked.checked in
    let image = (g.G.Image.seen c.args.image.now).content in
    let put = told_still g.G.Image c.args.image.now c.check_for_save.new.image
    (λ content. Puts status_origin (Ok (clone_of (volume_in checked content))) (g.O.Sink.seen c.args.out.now) (Ok tt) (g.O.Sink.seen c.save_to.new.sink))
    c.in_ok-checked.ensures.reads.seen c.in_ok-save_to.ensures.puts in
    puts_flushed _ (clone_of (volume_in checked image)) _ (g.O.Sink.seen c.save_to.new.sink) _ c.flush.result
    (put_made c.args.force image (volume_in checked image) (c.in_ok-checked.ensures.gives told)) (put told) c.flush.ensures.seen c.flush.ensures.refusal
