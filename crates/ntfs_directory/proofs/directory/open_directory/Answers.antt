use Rattle.std.proofs.Common.{◌≡◌, Ok, Err, subst}
use Rattle.std.specs.Prelude.{IsOk}
use Rattle.std.proofs.lemmas.Result.{err_from_is_err_and}
use Rattle.ntfs_base.specs.Bytes.{cluster_at}
use Rattle.ntfs_base.specs.Frames.{IsSettled}
use Rattle.ntfs_base.proofs.FramesLemmas.{told_still}
use Rattle.ntfs_boot.specs.declared.geometry.Geometry.{Geometry}
use Rattle.ntfs_index.specs.Blocks.{BlockMap}
use Rattle.ntfs_index.specs.Node.{root_node}
use Rattle.ntfs_index.specs.State.{left}
use Rattle.ntfs_index.specs.Walk.{listing, walk}
use Rattle.ntfs_volume.specs.Fault.{volume_origin}
use Rattle.ntfs_volume.specs.Streams.{gather_of}
use Rattle.ntfs_directory.specs.Directory.{allocation_found, allocation_kind, index_name}
use Rattle.ntfs_directory.proofs.DirectoryLemmas.{begun-given, begun-no_allocation, begun-no_root, begun-refused}
use Rattle.ntfs_directory.proofs.directory.open_directory.Goals as goal

pub returns-in_err-root-clause-gives : goal.returns-in_err-root-clause-gives
returns-in_err-root-clause-gives g c told =
    let o = c.args.table.now in
    let p = err_from_is_err_and c.from_residual.result c.from_residual.ensures.1 in
    rw (p.1, p.2) (λ settled. begun-no_root o.geometry o.map (g.G.Image.seen c.args.image.now).content c.args.number _ (c.in_err-root.ensures.gives told settled))

pub returns-in_err-allocation-clause-gives : goal.returns-in_err-allocation-clause-gives
returns-in_err-allocation-clause-gives g c told =
    let o = c.args.table.now in
    let gathers = told_still g.G.Image _ _ (λ content. IsSettled (volume_origin c.in_err-allocation.field-0.0) →
    (allocation_found (gather_of o.geometry o.map (cluster_at content o.geometry.cluster) c.args.number allocation_kind index_name)) ≡ Err c.in_err-allocation.field-0.0)
    c.in_ok-root.ensures.reads.seen c.in_err-allocation.ensures.gives in
    let p = err_from_is_err_and c.from_residual-in_err-allocation.result c.from_residual-in_err-allocation.ensures.1 in
    rw (p.1, p.2) (λ settled. begun-no_allocation o.geometry o.map (g.G.Image.seen c.args.image.now).content c.args.number c.in_ok-root.root.stream.value _
    (c.in_ok-root.ensures.gives told) (gathers told settled))

pub returns-in_err-walk-clause-gives : goal.returns-in_err-walk-clause-gives
returns-in_err-walk-clause-gives g c told =
    let o = c.args.table.now in
    let root = c.in_ok-root.root.stream.value in
    let gathers = told_still g.G.Image _ _ (λ content. (allocation_found (gather_of o.geometry o.map (cluster_at content o.geometry.cluster) c.args.number allocation_kind index_name)) ≡ Ok c.in_ok-allocation.allocation)
    c.in_ok-root.ensures.reads.seen c.in_ok-allocation.ensures.gives in
    let p = err_from_is_err_and c.from_residual-in_err-walk.result c.from_residual-in_err-walk.ensures.1 in
    rw (p.1, p.2) (λ settled. begun-refused o.geometry o.map (g.G.Image.seen c.args.image.now).content c.args.number root c.in_ok-allocation.allocation _
    (c.in_ok-root.ensures.gives told) (gathers told)
    (rw c.geometry.ensures.kept at (c.in_err-walk.ensures.refused settled)))

pub returns-clause-gives : goal.returns-clause-gives
returns-clause-gives g c told =
    let o = c.args.table.now in
    let root = c.in_ok-root.root.stream.value in
    let gathers = told_still g.G.Image _ _ (λ content. (allocation_found (gather_of o.geometry o.map (cluster_at content o.geometry.cluster) c.args.number allocation_kind index_name)) ≡ Ok c.in_ok-allocation.allocation)
    c.in_ok-root.ensures.reads.seen c.in_ok-allocation.ensures.gives in
    begun-given o.geometry o.map (g.G.Image.seen c.args.image.now).content c.args.number root c.in_ok-allocation.allocation c.in_ok-walk.walk
    (c.in_ok-root.ensures.gives told) (gathers told)
    (subst (λ (h : Geometry). IsOk (root_node h.block root)) c.geometry.ensures.kept c.in_ok-walk.ensures.accepted)
    (subst (λ (h : Geometry). (blocks : BlockMap) → left c.in_ok-walk.walk blocks ≡ listing (walk h.block root blocks)) c.geometry.ensures.kept c.in_ok-walk.ensures.walk)
