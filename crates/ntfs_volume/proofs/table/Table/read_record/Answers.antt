use Rattle.std.proofs.Common.{◌≤◌, ◌*◌, ◌∙◌, sym, ap, subst, List, length, Bool, Some, None, if◌then◌else◌}
use Rattle.ntfs_base.specs.Bytes.{cluster_at}
use Rattle.ntfs_runs.specs.Clusters.{vcns}
use Rattle.ntfs_runs.specs.declared.run.Run.{Run}
use Rattle.ntfs_volume.specs.Fault.{volume_origin}
use Rattle.ntfs_volume.specs.Opened.{Opened}
use Rattle.ntfs_volume.proofs.AnswerLemmas.{gives_by}
use Rattle.ntfs_volume.proofs.FoundLemmas.{read-absent, read-there}
use Rattle.ntfs_volume.proofs.TableLemmas.{raw-told, strides, table-room}
use Rattle.ntfs_volume.proofs.table.Table.read_record.Goals as goal

pub read_raw-requires-clause-bytes : goal.read_raw-requires-clause-bytes
read_raw-requires-clause-bytes g c =
    let s = c.self.inside in
    subst (λ (rs : List Run). s.valid ≤ length (vcns rs) * s.geometry.cluster) (sym c.runs.ensures) (table-room s.geometry (length (vcns s.runs)) s.size s.valid c.self.invariant.fits)

pub unfix_record-requires : goal.unfix_record-requires
unfix_record-requires g c = strides c.read_raw.new.block c.self.inside.geometry c.self.invariant.good (c.read_raw.auto.block ∙ c.requires.block ∙ ap (λ (o : Opened). o.geometry.record_size) (sym c.self.view_is))

pub returns-then-not-there-clause-gives : goal.returns-then-not-there-clause-gives
returns-then-not-there-clause-gives g c told settled =
    let image = (g.G.Image.seen c.args.image.now).content in
    let s = c.self.inside in
    let o = c.args.self.now in
    read-absent o.geometry o.map (cluster_at image o.geometry.cluster) c.args.number
    (raw-told image s.geometry s.runs c.runs.result.now s.size s.valid c.args.number c.in_ok-there.there c.read_raw.new.block o c.self.view_is c.runs.ensures (c.in_ok-there.ensures.gives told)
    ∙ ap (λ (b : Bool). if b then Some c.read_raw.new.block else None) c.if-not-there.true)

pub returns-clause-gives : goal.returns-clause-gives
returns-clause-gives g c told =
    let image = (g.G.Image.seen c.args.image.now).content in
    let s = c.self.inside in
    let o = c.args.self.now in
    gives_by volume_origin _ _ _ c.unfix_record.result
    (read-there o.geometry o.map (cluster_at image o.geometry.cluster) c.args.number c.read_raw.new.block
    (raw-told image s.geometry s.runs c.runs.result.now s.size s.valid c.args.number c.in_ok-there.there c.read_raw.new.block o c.self.view_is c.runs.ensures (c.in_ok-there.ensures.gives told)
    ∙ ap (λ (b : Bool). if b then Some c.read_raw.new.block else None) c.if-not-there.false))
    c.unfix_record.ensures.gives
