use Rattle.std.proofs.Common.{◌∙◌, length, ap, arith}
use Rattle.std.specs.Result.{ok_prefix}
use Rattle.std.proofs.lemmas.List.Elements.{All-same}
use Rattle.ntfs_attrlist.specs.Reading.{all_or_first, HasItemBounds}
use Rattle.ntfs_attrlist.proofs.LawLemmas.{items-found, items-fault, items-few, items-count, items-bounds, list_entries-items}
use Rattle.ntfs_attrlist.proofs.reader.entries.Goals as goal

pub returns-clause-found : goal.returns-clause-found
returns-clause-found c listed = rw c.new.ensures (items-found c.args.list.now listed)

pub returns-clause-fault : goal.returns-clause-fault
returns-clause-fault c listed place = rw c.new.ensures (items-fault c.args.list.now listed place)

pub returns-clause-whole : goal.returns-clause-whole
returns-clause-whole c = ap all_or_first c.new.ensures ∙ list_entries-items c.args.list.now

pub returns-clause-few : goal.returns-clause-few
returns-clause-few c = omega (arith, ap (λ items. length (ok_prefix items)) c.new.ensures, items-few c.args.list.now)

pub returns-clause-count : goal.returns-clause-count
returns-clause-count c = omega (arith, ap length c.new.ensures, items-count c.args.list.now)

pub returns-clause-bounds : goal.returns-clause-bounds
returns-clause-bounds c =
    All-same (HasItemBounds (length c.args.list.now)) _ _ c.new.ensures (items-bounds c.args.list.now (λ i. omega (arith, c.type_inv.list i)))
