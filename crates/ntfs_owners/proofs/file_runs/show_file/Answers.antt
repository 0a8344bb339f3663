use Rattle.std.proofs.Common.{◌∙◌, ap, sym, map, List, Ok}
use Rattle.std.proofs.lemmas.Result.{err_from_is_err_and}
use Rattle.ntfs_base.specs.Bytes.{cluster_at}
use Rattle.ntfs_base.proofs.FramesLemmas.{puts_none}
use Rattle.ntfs_print.specs.Fault.{show_origin}
use Rattle.ntfs_owners.specs.Held.{held_of}
use Rattle.ntfs_owners.specs.OwnerLines.{held_lines}
use Rattle.ntfs_owners.specs.declared.holding.Holding.{Holding}
use Rattle.ntfs_print.proofs.AnswerLemmas.{puts_by}
use Rattle.ntfs_owners.proofs.FileLemmas.{file-printed, file-refused}
use Rattle.ntfs_owners.proofs.file_runs.show_file.Goals as goal

pub returns-in_err-held-clause-told : goal.returns-in_err-held-clause-told
returns-in_err-held-clause-told g c told =
    let o = c.args.table.now in
    let p = err_from_is_err_and c.from_residual.result c.from_residual.ensures.1 in
    rw (p.1, p.2) (puts_none show_origin _ _ (g.K.Sink.seen c.args.out.now) (λ settled.
    file-refused o (cluster_at (g.G.Image.seen c.args.image.now).content o.geometry.cluster) c.args.number _ (c.in_err-held.ensures.gives told settled)))

pub returns-clause-told : goal.returns-clause-told
returns-clause-told g c told =
    let o = c.args.table.now in
    puts_by show_origin _ _ _ _ _
    (file-printed o (cluster_at (g.G.Image.seen c.args.image.now).content o.geometry.cluster) c.args.number (map held_of c.in_ok-held.held.items) (c.in_ok-held.ensures.gives told)
    ∙ ap (λ (held : List Holding). Ok (held_lines (map held_of held))) (sym c.deref.ensures.value)) c.put_held.ensures.puts
