use Rattle.std.proofs.Common.{◌≡◌, ◌∙◌, ap, sym}
use Rattle.std.specs.Prelude.{IfOk}
use Rattle.ntfs_base.proofs.FramesLemmas.{told_still}
use Rattle.ntfs_check_directories.proofs.LeadLemmas.{given-as, lead-fault}
use Rattle.ntfs_check_directories.proofs.leads.all_lead.Goals as goal
use Rattle.ntfs_check_directories.specs.Names.{all_lead}
use Rattle.ntfs_directory.proofs.LawLemmas.{walk-begins, walk-refused}
use Rattle.ntfs_directory.specs.State.{left_of}
use Rattle.ntfs_rules.proofs.ListLemmas.{uncut}

pub returns-in-None-clause-found : goal.returns-in-None-clause-found
returns-in-None-clause-found g c told =
    let o = c.args.table.now in
    let content = (g.G.Image.seen c.args.image.now).content in
    lead-fault o content c.args.number c.args.sequence c.in-Err.fault
    ∙ ap (all_lead o content c.args.number c.args.sequence)
    (sym (walk-refused o.geometry o.map content c.args.number c.in-Err.fault (c.in-Err.ensures.gives told (uncut c.in-Err.fault (sym c.cut_of.ensures ∙ c.in-None.is)))))

pub returns-in-Ok-clause-found : goal.returns-in-Ok-clause-found
returns-in-Ok-clause-found g c told =
    let o = c.args.table.now in
    let content = (g.G.Image.seen c.args.image.now).content in
    given-as c.all_rest_lead.result _ _
    (ap (all_lead o content c.args.number c.args.sequence) (sym (walk-begins o.geometry o.map content c.args.number (left_of o.geometry content c.in-Ok.directory) (c.in-Ok.ensures.gives told))))
    (told_still g.G.Image c.args.image.now c.open_directory.new.image (λ content. IfOk c.all_rest_lead.result (λ is. is ≡ all_lead o content c.args.number c.args.sequence (left_of o.geometry content c.in-Ok.directory)))
    c.in-Ok.ensures.reads.seen c.all_rest_lead.ensures.found told)
