use Rattle.std.proofs.Common.{◌++◌, ◌∙◌, ap, arith}
use Rattle.std.proofs.lemmas.List.{length-take-le}
use Rattle.std.proofs.lemmas.Result.{err_from_is_err_and}
use Rattle.ntfs_clone.specs.Commands.{cluster, command_bytes}
use Rattle.ntfs_clone.proofs.SavingLemmas.{kept-none, saves-full, saves-kept, saves-stop, saves-wait, saves-want}
use Rattle.ntfs_clone.proofs.WalkLemmas.{tail-row}
use Rattle.ntfs_clone.proofs.saving.save_tail.Goals as goal

pub returns-in_err-read_tail-clause-saved : goal.returns-in_err-read_tail-clause-saved
returns-in_err-read_tail-clause-saved g c owned told =
    let p = err_from_is_err_and c.from_residual.result c.from_residual.ensures.1 in
    rw (p.1, p.2) (saves-stop _ _ _ _ _)

pub returns-in_err-make_room-clause-saved : goal.returns-in_err-make_room-clause-saved
returns-in_err-make_room-clause-saved g c owned told =
    let p = err_from_is_err_and c.from_residual-in_err-make_room.result c.from_residual-in_err-make_room.ensures.1 in
    rw (p.1, p.2) (saves-full _ _ _ _ _ _ _ _ c.in_err-make_room.ensures.saved)

pub returns-in_err-add_clusters-clause-saved : goal.returns-in_err-add_clusters-clause-saved
returns-in_err-add_clusters-clause-saved g c owned told =
    let p = err_from_is_err_and c.from_residual-in_err-add_clusters.result c.from_residual-in_err-add_clusters.ensures.1 in
    rw (p.1, p.2) (saves-want _ _ _ _ _ _ _ _ c.in_ok-make_room.ensures.saved)

pub returns-clause-saved : goal.returns-clause-saved
returns-clause-saved g c owned told =
    let k = c.args.geometry.now in
    let spelled = tail-row c.read_tail.new.tail k.cluster (c.read_tail.auto.tail ∙ length-take-le k.cluster c.args.row.now (omega (arith, c.requires.opened.good.most_cluster, c.requires.row))) ∙ ap (λ bytes. command_bytes (cluster bytes)) (c.in_ok-read_tail.ensures.bytes owned told) in
    saves-wait _ _ _ _ _ _ _ _ c.in_ok-make_room.ensures.saved (c.in_ok-add_clusters.ensures ∙ ap (λ bytes. c.make_room.new.waiting.items ++ bytes) spelled)

pub returns-in_err-read_tail-clause-kept : goal.returns-in_err-read_tail-clause-kept
returns-in_err-read_tail-clause-kept g c = kept-none _

pub returns-in_err-make_room-clause-kept : goal.returns-in_err-make_room-clause-kept
returns-in_err-make_room-clause-kept g c = saves-kept _ _ _ _ _ _ c.in_err-make_room.ensures.saved

pub returns-in_err-add_clusters-clause-kept : goal.returns-in_err-add_clusters-clause-kept
returns-in_err-add_clusters-clause-kept g c = saves-kept _ _ _ _ _ _ c.in_ok-make_room.ensures.saved

pub returns-clause-kept : goal.returns-clause-kept
returns-clause-kept g c = saves-kept _ _ _ _ _ _ c.in_ok-make_room.ensures.saved
