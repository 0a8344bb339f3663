use Rattle.std.proofs.Common.{sym, ◌∙◌}
use Rattle.ntfs_base.specs.Bytes.{cluster_at}
use Rattle.ntfs_owners.proofs.FileLemmas.{sequence-found, sequence-refused}
use Rattle.ntfs_owners.proofs.SlotLemmas.{read-idle, read-live, read-parses}
use Rattle.ntfs_owners.proofs.file_runs.sequence_in.Goals as goal

pub returns-in-Err-clause-gives : goal.returns-in-Err-clause-gives
returns-in-Err-clause-gives g c told whole =
    let o = c.args.table.now in
    let f = cluster_at (g.G.Image.seen c.args.image.now).content o.geometry.cluster in
    sequence-refused o f c.args.number c.in-Err.fault c.read_refusal.result c.read_refusal.ensures
    (λ settled. read-idle o f c.args.number c.in-Err.fault whole (c.in-Err.ensures.gives told settled))

pub returns-in-Err-parse-clause-gives : goal.returns-in-Err-parse-clause-gives
returns-in-Err-parse-clause-gives g c told whole settled =
    let o = c.args.table.now in
    absurd (read-parses o (cluster_at (g.G.Image.seen c.args.image.now).content o.geometry.cluster) c.args.number c.read_record.new.into c.in-Err-parse.field-0
    (c.in-Ok.ensures.gives told) (sym c.in-Err-parse.ensures.exact))

pub returns-in-Ok-parse-clause-gives : goal.returns-in-Ok-parse-clause-gives
returns-in-Ok-parse-clause-gives g c told whole =
    let o = c.args.table.now in
    let f = cluster_at (g.G.Image.seen c.args.image.now).content o.geometry.cluster in
    let live = read-live o f c.args.number c.read_record.new.into c.in-Ok-parse.view (c.in-Ok.ensures.gives told) (sym c.in-Ok-parse.ensures.exact) in
    sequence-found o f c.args.number _ live.0 (c.sequence.ensures ∙ live.1)
