use Rattle.std.proofs.Common.{◌++◌, ◌∙◌, ap}
use Rattle.std.proofs.lemmas.Result.{err_from_is_err_and}
use Rattle.ntfs_clone.specs.Saving.{spelled_row}
use Rattle.ntfs_clone.proofs.SavingLemmas.{kept-none, saves-full, saves-kept, saves-stop, saves-wait, saves-want}
use Rattle.ntfs_clone.proofs.VolumeLemmas.{row-read}
use Rattle.ntfs_clone.proofs.saving.save_row.Goals as goal

pub returns-in_err-read_row-clause-saved : goal.returns-in_err-read_row-clause-saved
returns-in_err-read_row-clause-saved g c told =
    let p = err_from_is_err_and c.from_residual.result c.from_residual.ensures.1 in
    rw (p.1, p.2) (saves-stop _ _ _ _ _)

pub returns-in_err-make_room-clause-saved : goal.returns-in_err-make_room-clause-saved
returns-in_err-make_room-clause-saved g c told =
    let p = err_from_is_err_and c.from_residual-in_err-make_room.result c.from_residual-in_err-make_room.ensures.1 in
    rw (p.1, p.2) (saves-full _ _ _ _ _ _ _ _ c.in_err-make_room.ensures.saved)

pub returns-in_err-add_clusters-clause-saved : goal.returns-in_err-add_clusters-clause-saved
returns-in_err-add_clusters-clause-saved g c told =
    let p = err_from_is_err_and c.from_residual-in_err-add_clusters.result c.from_residual-in_err-add_clusters.ensures.1 in
    rw (p.1, p.2) (saves-want _ _ _ _ _ _ _ _ c.in_ok-make_room.ensures.saved)

pub returns-clause-saved : goal.returns-clause-saved
returns-clause-saved g c told =
    let k = c.args.geometry.now in
    let content = (g.G.Image.seen c.args.image.now).content in
    let spelled = ap (λ bytes. spelled_row bytes k.cluster 0 c.args.count) (c.in_ok-read_row.ensures.bytes told) ∙ row-read content k.cluster c.args.from c.args.count in
    saves-wait _ _ _ _ _ _ _ _ c.in_ok-make_room.ensures.saved (c.in_ok-add_clusters.ensures ∙ ap (λ bytes. c.make_room.new.waiting.items ++ bytes) spelled)

pub returns-in_err-read_row-clause-kept : goal.returns-in_err-read_row-clause-kept
returns-in_err-read_row-clause-kept g c = kept-none _

pub returns-in_err-make_room-clause-kept : goal.returns-in_err-make_room-clause-kept
returns-in_err-make_room-clause-kept g c = saves-kept _ _ _ _ _ _ c.in_err-make_room.ensures.saved

pub returns-in_err-add_clusters-clause-kept : goal.returns-in_err-add_clusters-clause-kept
returns-in_err-add_clusters-clause-kept g c = saves-kept _ _ _ _ _ _ c.in_ok-make_room.ensures.saved

pub returns-clause-kept : goal.returns-clause-kept
returns-clause-kept g c = saves-kept _ _ _ _ _ _ c.in_ok-make_room.ensures.saved
