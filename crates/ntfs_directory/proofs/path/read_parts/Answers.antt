use Rattle.std.proofs.Common.{◌≡◌, Ok, Err, Result, ◌∙◌, subst}
use Rattle.ntfs_base.specs.Frames.{Gives, IsSettled}
use Rattle.ntfs_base.proofs.FramesLemmas.{told_still}
use Rattle.ntfs_directory.specs.Paths.{parts_from, path_origin, path_parts, root_record}
use Rattle.ntfs_directory.specs.declared.entries.EntryRecord.{EntryRecord}
use Rattle.ntfs_directory.specs.declared.path_fault.PathFault.{PathFault}
use Rattle.ntfs_directory.proofs.PathLemmas.{below-refused, below-rootless, below-walked, settled-path}
use Rattle.ntfs_directory.proofs.path.read_parts.Goals as goal

pub returns-in-Err-clause-gives : goal.returns-in-Err-clause-gives
returns-in-Err-clause-gives g c told =
    let o = c.args.table.now in
    rw c.path_fault.ensures
    (λ settled. below-refused o.geometry o.map (g.G.Image.seen c.args.image.now).content (path_parts c.args.path.now)
    c.in-Err.fault (c.in-Err.ensures.gives told (settled-path 0 c.in-Err.fault settled)))

pub returns-in-Err-read_root-clause-gives : goal.returns-in-Err-read_root-clause-gives
returns-in-Err-read_root-clause-gives g c told settled =
    let o = c.args.table.now in
    let fault = c.in-Err-read_root.fault in
    let root = told_still g.G.Image c.args.image.now c.read_up_case.new.image
    (λ content. IsSettled (path_origin fault) → ◌≡◌ {A = Result EntryRecord PathFault} (root_record o.geometry o.map content)
    (Err fault)) c.in-Ok.ensures.reads.seen c.in-Err-read_root.ensures.gives in
    below-rootless o.geometry o.map (g.G.Image.seen c.args.image.now).content (path_parts c.args.path.now) c.in-Ok.upper fault
    (c.in-Ok.ensures.gives told) (root told settled)

pub returns-clause-gives : goal.returns-clause-gives
returns-clause-gives g c told =
    let o = c.args.table.now in
    let content = (g.G.Image.seen c.args.image.now).content in
    let parts = path_parts c.args.path.now in
    let root = told_still g.G.Image c.args.image.now c.read_up_case.new.image
    (λ content. ◌≡◌ {A = Result EntryRecord PathFault} (root_record o.geometry o.map content) (Ok c.in-Ok-read_root.root))
    c.in-Ok.ensures.reads.seen c.in-Ok-read_root.ensures.gives in
    let found = told_still g.G.Image c.args.image.now c.read_root.new.image
    (λ content. Gives path_origin (λ x. x) (parts_from o.geometry o.map content c.in-Ok.upper 0 c.in-Ok-read_root.root parts)
    c.enter_parts.result) (c.in-Ok-read_root.ensures.reads.seen ∙ c.in-Ok.ensures.reads.seen) c.enter_parts.ensures.gives in
    subst (λ (e : Result EntryRecord PathFault). Gives path_origin (λ x. x) e c.enter_parts.result)
    (below-walked o.geometry o.map content parts c.in-Ok.upper c.in-Ok-read_root.root (c.in-Ok.ensures.gives told) (root told))
    (found told)
