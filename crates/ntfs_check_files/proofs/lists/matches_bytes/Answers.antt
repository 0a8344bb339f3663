use Rattle.std.proofs.Common.{◌∙◌, List, ap, map, sym}
use Rattle.ntfs_base.specs.Bytes.{cluster_at}
use Rattle.ntfs_check_files.proofs.ListLemmas.{bytes-bad, bytes-good, whole-list}
use Rattle.ntfs_check_files.proofs.lists.matches_bytes.Goals as goal
use Rattle.ntfs_check_records.specs.Reading.{records_of}
use Rattle.ntfs_check_files.specs.Members.{told_member}
use Rattle.ntfs_check_files.specs.declared.members.Attribute.{Attribute as Kept}

pub returns-then-not-are_entries-clause-answers : goal.returns-then-not-are_entries-clause-answers
returns-then-not-are_entries-clause-answers g c told =
    let o = c.args.table.now in
    bytes-bad (records_of o (cluster_at (g.G.Image.seen c.args.image.now).content o.geometry.cluster)) c.args.number c.args.view.now c.args.numbers.now c.args.list.now (sym c.are_entries.ensures ∙ c.if-not-are_entries.true)

pub returns-in-Ok-clause-answers : goal.returns-in-Ok-clause-answers
returns-in-Ok-clause-answers g c told =
    let o = c.args.table.now in
    bytes-good (records_of o (cluster_at (g.G.Image.seen c.args.image.now).content o.geometry.cluster)) c.args.number c.args.view.now c.args.numbers.now c.args.list.now c.deref.result.now c.are_listed.result
    (sym c.are_entries.ensures ∙ c.if-not-are_entries.false) (whole-list c.args.list.now)
    (ap (λ (kept : List Kept). map told_member kept) c.deref.ensures.value ∙ c.in-Ok.ensures.kept told) c.are_listed.ensures
