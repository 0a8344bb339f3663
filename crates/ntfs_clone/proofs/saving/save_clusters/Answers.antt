use Rattle.std.proofs.Common.{◌≡◌, ◌++◌, ◌∙◌, ap, Ok, Err}
use Rattle.std.proofs.lemmas.Result.{err_from_is_err_and}
use Rattle.ntfs_base.proofs.FramesLemmas.{told_still}
use Rattle.ntfs_clone.specs.CloneOf.{clone_header_bytes, saved_header, clone_tail, volume_of}
use Rattle.ntfs_clone.specs.Commands.{cluster, command_bytes}
use Rattle.ntfs_clone.specs.Saving.{Saves}
use Rattle.ntfs_clone.specs.declared.fault.CloneFault.{CloneFault}
use Rattle.ntfs_clone.specs.declared.fault.CloneFault.TheVariants.{NoMemory}
use Rattle.ntfs_clone.proofs.SavingLemmas.{kept-none, kept-then, put-kept, puts-all, puts-clusters, puts-nothing, puts-tail}
use Rattle.ntfs_clone.proofs.WalkLemmas.{clone-parts}
use Rattle.ntfs_clone.proofs.saving.save_clusters.Goals as goal

pub returns-in_err-row-clause-told : goal.returns-in_err-row-clause-told
returns-in_err-row-clause-told g c told =
    let p = err_from_is_err_and c.from_residual.result c.from_residual.ensures.1 in
    rw (p.1, p.2) (puts-nothing _ _ NoMemory (λ settled. settled))

pub returns-in_err-waiting-clause-told : goal.returns-in_err-waiting-clause-told
returns-in_err-waiting-clause-told g c told =
    let p = err_from_is_err_and c.from_residual-in_err-waiting.result c.from_residual-in_err-waiting.ensures.1 in
    rw (p.1, p.2) (puts-nothing _ _ NoMemory (λ settled. settled))

pub returns-in_err-add_header-clause-told : goal.returns-in_err-add_header-clause-told
returns-in_err-add_header-clause-told g c told =
    let p = err_from_is_err_and c.from_residual-in_err-add_header.result c.from_residual-in_err-add_header.ensures.1 in
    rw (p.1, p.2) (puts-nothing _ _ NoMemory (λ settled. settled))

pub returns-in_err-save_stretches-clause-told : goal.returns-in_err-save_stretches-clause-told
returns-in_err-save_stretches-clause-told g c told =
    let content = (g.G.Image.seen c.args.image.now).content in
    let v = volume_of c.args.geometry.now c.args.owned.now content in
    let head : c.add_header.new.waiting.items ≡ clone_header_bytes (saved_header v) =
    c.in_ok-add_header.ensures ∙ ap (λ xs. xs ++ clone_header_bytes c.header_of.result) c.in_ok-waiting.ensures.items ∙ ap clone_header_bytes (c.header_of.ensures content) in
    let p = err_from_is_err_and c.from_residual-in_err-save_stretches.result c.from_residual-in_err-save_stretches.ensures.1 in
    rw (p.1, p.2) (puts-clusters _ _ _ _ _ _ _ _ _ (clone-parts v) head c.in_err-save_stretches.ensures.fails (c.in_err-save_stretches.ensures.saved told))

pub returns-in_err-save_tail-clause-told : goal.returns-in_err-save_tail-clause-told
returns-in_err-save_tail-clause-told g c told =
    let content = (g.G.Image.seen c.args.image.now).content in
    let owned = c.args.owned.now in
    let v = volume_of c.args.geometry.now owned content in
    let head : c.add_header.new.waiting.items ≡ clone_header_bytes (saved_header v) =
    c.in_ok-add_header.ensures ∙ ap (λ xs. xs ++ clone_header_bytes c.header_of.result) c.in_ok-waiting.ensures.items ∙ ap clone_header_bytes (c.header_of.ensures content) in
    let p = err_from_is_err_and c.from_residual-in_err-save_tail.result c.from_residual-in_err-save_tail.ensures.1 in
    let clusters = c.in_ok-save_stretches.ensures in
    let last = told_still g.G.Image _ _ (λ image. Saves {T = Unit {0}} {E = CloneFault} (command_bytes (cluster (clone_tail (volume_of c.args.geometry.now owned image))))
    c.save_stretches.new.waiting.items (g.K.Sink.seen c.save_stretches.new.sink) (Err c.in_err-save_tail.field-0.0) c.save_tail.new.waiting.items (g.K.Sink.seen c.save_tail.new.sink))
    clusters.copies.seen (c.in_err-save_tail.ensures.saved owned) in
    rw (p.1, p.2) (puts-tail _ _ _ _ _ _ _ _ _ _ _ _ (clone-parts v) head c.in_err-save_tail.ensures.fails (clusters.saved told) (last told))

pub returns-clause-told : goal.returns-clause-told
returns-clause-told g c told =
    let content = (g.G.Image.seen c.args.image.now).content in
    let owned = c.args.owned.now in
    let v = volume_of c.args.geometry.now owned content in
    let head : c.add_header.new.waiting.items ≡ clone_header_bytes (saved_header v) =
    c.in_ok-add_header.ensures ∙ ap (λ xs. xs ++ clone_header_bytes c.header_of.result) c.in_ok-waiting.ensures.items ∙ ap clone_header_bytes (c.header_of.ensures content) in
    let clusters = c.in_ok-save_stretches.ensures in
    let last = told_still g.G.Image _ _ (λ image. Saves {T = Unit {0}} {E = CloneFault} (command_bytes (cluster (clone_tail (volume_of c.args.geometry.now owned image))))
    c.save_stretches.new.waiting.items (g.K.Sink.seen c.save_stretches.new.sink) (Ok tt) c.save_tail.new.waiting.items (g.K.Sink.seen c.save_tail.new.sink))
    clusters.copies.seen (c.in_ok-save_tail.ensures.saved owned) in
    puts-all _ _ _ _ _ _ _ _ _ _ _ _ _ _ (clone-parts v) head c.put_rest.ensures.fails (clusters.saved told) (last told) c.put_rest.ensures.put

pub returns-in_err-row-clause-kept : goal.returns-in_err-row-clause-kept
returns-in_err-row-clause-kept g c = kept-none _

pub returns-in_err-waiting-clause-kept : goal.returns-in_err-waiting-clause-kept
returns-in_err-waiting-clause-kept g c = kept-none _

pub returns-in_err-add_header-clause-kept : goal.returns-in_err-add_header-clause-kept
returns-in_err-add_header-clause-kept g c = kept-none _

pub returns-in_err-save_tail-clause-kept : goal.returns-in_err-save_tail-clause-kept
returns-in_err-save_tail-clause-kept g c = kept-then _ _ _ c.in_ok-save_stretches.ensures.kept c.in_err-save_tail.ensures.kept

pub returns-clause-kept : goal.returns-clause-kept
returns-clause-kept g c = kept-then _ _ _ c.in_ok-save_stretches.ensures.kept (kept-then _ _ _ c.in_ok-save_tail.ensures.kept (put-kept _ _ _ _ c.put_rest.ensures.put))
