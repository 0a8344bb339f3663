use Rattle.std.proofs.Common.{refl}
use Rattle.std.proofs.lemmas.Result.{err_from_is_err_and}
use Rattle.ntfs_clone.proofs.WritingLemmas.{held-cluster, held-front}
use Rattle.ntfs_clone.proofs.writing.put_cluster.Goals as goal

pub returns-in_err-extend_from_slice-clause-front : goal.returns-in_err-extend_from_slice-clause-front
returns-in_err-extend_from_slice-clause-front g c =
    let p = err_from_is_err_and c.from_residual-in_err-extend_from_slice.result c.from_residual-in_err-extend_from_slice.ensures.1 in
    rw p.1 (λ read told held. held-front c.args.header.now read c.make_room.new.row _ (c.in_ok-make_room.ensures.held read told held))

pub returns-clause-held : goal.returns-clause-held
returns-clause-held g c read told held =
    held-cluster c.args.header.now read c.make_room.new.row _ _ c.args.bytes.now (c.in_ok-make_room.ensures.held read told held) c.in_ok-extend_from_slice.ensures.items refl
