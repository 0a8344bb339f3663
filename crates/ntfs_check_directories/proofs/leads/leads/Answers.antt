use Rattle.std.proofs.Common.{◌≡◌, ◌∙◌, sym, [], false}
use Rattle.std.specs.Prelude.{IfOk}
use Rattle.ntfs_base.proofs.FramesLemmas.{told_still}
use Rattle.ntfs_base.specs.Bytes.{cluster_at}
use Rattle.ntfs_check_directories.proofs.LeadLemmas.{leads-given, leads-other, leads-refused}
use Rattle.ntfs_check_directories.proofs.leads.leads.Goals as goal
use Rattle.ntfs_check_directories.specs.Names.{have_sought, records_in}
use Rattle.ntfs_rules.proofs.ListLemmas.{uncut}
use Rattle.ntfs_rules.specs.Directories.{file_name_kind}
use Rattle.ntfs_volume.proofs.GatherLemmas.{read-parses}
use Rattle.ntfs_volume.specs.Gather.{extents_in}
use Rattle.ntfs_volume.specs.Gathering.{file_lists}
use Rattle.ntfs_volume.specs.Located.{sound_located}

pub returns-in-None-clause-found : goal.returns-in-None-clause-found
returns-in-None-clause-found g c told =
    leads-refused c.args.table.now (g.G.Image.seen c.args.image.now).content c.args.sought.now c.args.reference c.target-number.result c.in-Err.fault c.target-number.ensures c.requires.sized
    (c.in-Err.ensures.gives told (uncut c.in-Err.fault (sym c.cut_of.ensures ∙ c.in-None.is)))

pub returns-in-Err-parse-clause-found : goal.returns-in-Err-parse-clause-found
returns-in-Err-parse-clause-found g c told =
    let o = c.args.table.now in
    absurd (read-parses o.geometry o.map (cluster_at (g.G.Image.seen c.args.image.now).content o.geometry.cluster) c.target-number.result _ _ (c.in-Ok.ensures.gives told) (sym c.in-Err-parse.ensures.exact))

pub returns-then-not-is_base_for-clause-found : goal.returns-then-not-is_base_for-clause-found
returns-then-not-is_base_for-clause-found g c told =
    leads-other c.args.table.now (g.G.Image.seen c.args.image.now).content c.args.sought.now c.args.reference c.target-number.result _ c.in-Ok-parse.view c.target-number.ensures c.requires.sized
    (c.in-Ok.ensures.gives told) (sym c.in-Ok-parse.ensures.exact) (sym c.is_base_for.ensures ∙ c.if-not-is_base_for.true)

pub returns-else-not-is_base_for-clause-found : goal.returns-else-not-is_base_for-clause-found
returns-else-not-is_base_for-clause-found g c told =
    let o = c.args.table.now in
    leads-given o (g.G.Image.seen c.args.image.now).content c.args.sought.now c.args.reference c.target-number.result _ c.in-Ok-parse.view c.file_has_name.result c.target-number.ensures c.requires.sized
    (c.in-Ok.ensures.gives told) (sym c.in-Ok-parse.ensures.exact) (sym c.is_base_for.ensures ∙ c.if-not-is_base_for.false)
    (told_still g.G.Image c.args.image.now c.read_record.new.image
    (λ content. IfOk c.file_has_name.result (λ is. is ≡ have_sought false c.args.sought.now (extents_in c.target-number.result file_name_kind [] (file_lists o.geometry (cluster_at content o.geometry.cluster) c.in-Ok-parse.view)
    (sound_located c.in-Ok-parse.view) (records_in o content))))
    c.in-Ok.ensures.reads.seen c.file_has_name.ensures.found told)
