use Rattle.ntfs_attrlist.specs.Views.{shown_entry}
use Rattle.ntfs_check_streams.proofs.NamedLemmas.{found-member, found-stranger}
use Rattle.ntfs_check_streams.proofs.named.found_span.Goals as goal

pub returns-then-not-is_member : goal.returns-then-not-is_member
returns-then-not-is_member c =
    found-stranger c.args.base.number c.args.base.sequence (shown_entry c.args.entry.now) c.args.holder.now c.is_member.result c.is_member.ensures c.if-not-is_member.true

pub returns : goal.returns
returns c =
    found-member c.args.base.number c.args.base.sequence (shown_entry c.args.entry.now) c.args.holder.now c.is_member.result c.meant_span.result c.is_member.ensures c.if-not-is_member.false
    c.meant_span.ensures
