use Rattle.std.proofs.Common.{sym, ◌∙◌}
use Rattle.ntfs_record.specs.Views.{shown_view}
use Rattle.ntfs_volume.specs.Gathering.{shown_part}
use Rattle.ntfs_volume.proofs.PartsLemmas.{meet-first, meet-further, none_of}
use Rattle.ntfs_volume.proofs.parts.Parts.meet.Goals as goal

pub returns-then-is_some-clause-shown : goal.returns-then-is_some-clause-shown
returns-then-is_some-clause-shown c n =
    meet-further c.args.self.now (shown_part n c.args.number (shown_view c.args.extent.now)) (sym c.is_some.ensures ∙ c.if-is_some.true)

pub returns-clause-shown : goal.returns-clause-shown
returns-clause-shown c n =
    meet-first c.args.self.now c.in_ok-first_of.field-0 (shown_part n c.args.number (shown_view c.args.extent.now))
    (none_of c.args.self.now.first (sym c.is_some.ensures ∙ c.if-is_some.false)) (c.in_ok-first_of.ensures n)
