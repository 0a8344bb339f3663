use Rattle.std.proofs.Common.{◌∙◌}
use Rattle.ntfs_check_clusters.proofs.NameLemmas.{between-none, between-pairs, between-value, early-pairs, early-value}
use Rattle.ntfs_check_clusters.proofs.asked.is_name_between.Goals as goal

pub returns-then-units-eq0 : goal.returns-then-units-eq0
returns-then-units-eq0 c = between-none c.args.own.now c.from-units.result c.requires (c.from-units.ensures ∙ c.name_units_at.ensures) c.if-units-eq0.true

pub returns-then-begin-ge24 : goal.returns-then-begin-ge24
returns-then-begin-ge24 c =
    between-value c.args.own.now c.from-units.result c.from-begin.result c.from.result c.non_resident_at.result c.requires (c.from-units.ensures ∙ c.name_units_at.ensures) c.if-units-eq0.false
    (c.from-begin.ensures ∙ c.name_offset_at.ensures) (c.from.ensures ∙ c.value_offset_at.ensures) c.non_resident_at.ensures c.if-non_resident_at-eq0.true c.if-begin-ge24.true

pub returns-else-begin-ge24 : goal.returns-else-begin-ge24
returns-else-begin-ge24 c =
    early-value c.args.own.now c.from-units.result c.from-begin.result c.non_resident_at.result c.requires (c.from-units.ensures ∙ c.name_units_at.ensures) c.if-units-eq0.false
    (c.from-begin.ensures ∙ c.name_offset_at.ensures) c.non_resident_at.ensures c.if-non_resident_at-eq0.true c.if-begin-ge24.false

pub returns-then-begin-ge64 : goal.returns-then-begin-ge64
returns-then-begin-ge64 c =
    between-pairs c.args.own.now c.from-units.result c.from-begin.result c.from-then-begin-ge64.result c.non_resident_at.result c.requires (c.from-units.ensures ∙ c.name_units_at.ensures) c.if-units-eq0.false
    (c.from-begin.ensures ∙ c.name_offset_at.ensures) (c.from-then-begin-ge64.ensures ∙ c.pairs_offset_at.ensures) c.non_resident_at.ensures c.if-non_resident_at-eq0.false c.if-begin-ge64.true

pub returns-else-begin-ge64 : goal.returns-else-begin-ge64
returns-else-begin-ge64 c =
    early-pairs c.args.own.now c.from-units.result c.from-begin.result c.non_resident_at.result c.requires (c.from-units.ensures ∙ c.name_units_at.ensures) c.if-units-eq0.false
    (c.from-begin.ensures ∙ c.name_offset_at.ensures) c.non_resident_at.ensures c.if-non_resident_at-eq0.false c.if-begin-ge64.false
