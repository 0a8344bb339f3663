use Rattle.std.proofs.Common.{◌≡◌, Ok, Err, Result, ap, ◌∙◌}
use Rattle.ntfs_base.specs.Frames.{IsSettled}
use Rattle.ntfs_base.proofs.FramesLemmas.{told_still}
use Rattle.ntfs_directory.specs.Entries.{entry_record}
use Rattle.ntfs_directory.specs.declared.entries.EntryRecord.{EntryRecord}
use Rattle.ntfs_directory.proofs.PathLemmas.{found-bad, found-none, found-refused, found-some}
use Rattle.ntfs_volume.specs.Fault.{volume_origin}
use Rattle.ntfs_volume.specs.declared.fault.VolumeFault.{VolumeFault}
use Rattle.ntfs_directory.proofs.search.find_in.Goals as goal

pub returns-in-Err-clause-gives : goal.returns-in-Err-clause-gives
returns-in-Err-clause-gives g c told settled =
    let o = c.args.table.now in
    found-refused o.geometry o.map (g.G.Image.seen c.args.image.now).content c.args.upper.now c.args.number c.args.name.now
    _ (c.in-Err.ensures.gives told settled)

pub returns-in-Ok-None-clause-gives : goal.returns-in-Ok-None-clause-gives
returns-in-Ok-None-clause-gives g c told =
    let o = c.args.table.now in
    found-none o.geometry o.map (g.G.Image.seen c.args.image.now).content c.args.upper.now c.args.number c.args.name.now
    (c.in-Ok-None.ensures.gives told ∙ ap Ok c.in-Ok-None.field-0-is)

pub returns-in-Err-read_entry-clause-gives : goal.returns-in-Err-read_entry-clause-gives
returns-in-Err-read_entry-clause-gives g c told settled =
    let o = c.args.table.now in
    let fault = c.in-Err-read_entry.fault in
    let entry = told_still g.G.Image c.args.image.now c.find_reference.new.image
    (λ content. IsSettled (volume_origin fault) → ◌≡◌ {A = Result EntryRecord VolumeFault}
    (entry_record o.geometry o.map content c.args.number c.in-Ok-Some.reference) (Err fault))
    c.in-Ok-Some.ensures.reads.seen c.in-Err-read_entry.ensures.gives in
    found-bad o.geometry o.map (g.G.Image.seen c.args.image.now).content c.args.upper.now c.args.number c.args.name.now
    c.in-Ok-Some.reference fault (c.in-Ok-Some.ensures.gives told ∙ ap Ok c.in-Ok-Some.field-0-is) (entry told settled)

pub returns-in-Ok-clause-gives : goal.returns-in-Ok-clause-gives
returns-in-Ok-clause-gives g c told =
    let o = c.args.table.now in
    let entry = told_still g.G.Image c.args.image.now c.find_reference.new.image
    (λ content. ◌≡◌ {A = Result EntryRecord VolumeFault}
    (entry_record o.geometry o.map content c.args.number c.in-Ok-Some.reference) (Ok c.in-Ok.found))
    c.in-Ok-Some.ensures.reads.seen c.in-Ok.ensures.gives in
    found-some o.geometry o.map (g.G.Image.seen c.args.image.now).content c.args.upper.now c.args.number c.args.name.now
    c.in-Ok-Some.reference c.in-Ok.found (c.in-Ok-Some.ensures.gives told ∙ ap Ok c.in-Ok-Some.field-0-is) (entry told)
