use Rattle.ntfs_record.specs.Views.{shown_view}
use Rattle.ntfs_volume.specs.Gathering.{shown_part, shown_parts}
use Rattle.ntfs_volume.proofs.PartsLemmas.{on_ok_map, take-added, take-settled}
use Rattle.ntfs_volume.proofs.parts.Parts.take.Goals as goal

pub returns-then-is_settled-clause-shown : goal.returns-then-is_settled-clause-shown
returns-then-is_settled-clause-shown c =
    take-settled (shown_parts c.args.self.now) (shown_parts c.meet.new.self) (shown_part c.args.clusters c.args.number (shown_view c.args.extent.now)) c.is_settled.result
    (c.in_ok-meet.ensures.shown c.args.clusters) c.is_settled.ensures c.if-is_settled.true

pub returns-clause-shown : goal.returns-clause-shown
returns-clause-shown c =
    on_ok_map c.add.result (take-added (shown_parts c.args.self.now) (shown_parts c.meet.new.self) (shown_parts c.add.new.self) (shown_part c.args.clusters c.args.number (shown_view c.args.extent.now)) c.is_settled.result
    (c.in_ok-meet.ensures.shown c.args.clusters) c.is_settled.ensures c.if-is_settled.false) c.add.ensures.shown
