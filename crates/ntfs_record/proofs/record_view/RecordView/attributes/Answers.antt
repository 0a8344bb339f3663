use Rattle.std.proofs.Common.{◌∙◌, ◌≡◌, length, map, All, List, ap, sym, subst, arith}
use Rattle.ntfs_record.specs.Layout.{first_attribute_of}
use Rattle.ntfs_record.specs.FileRecord.{FileRecord}
use Rattle.ntfs_record.specs.Parsing.{raws_of, record_of}
use Rattle.ntfs_record.specs.Views.{Placed, placed_from, shown_placed, HasBounds}
use Rattle.ntfs_record.proofs.Sound.{sound_header}
use Rattle.ntfs_record.proofs.RecordLemmas.{raws_are, raws_of-record}
use Rattle.ntfs_record.proofs.RawLemmas.{few_placed, raws-placed, shown-bounds}
use Rattle.ntfs_record.proofs.record_view.RecordView.attributes.Goals as goal

pub returns-clause-raws : goal.returns-clause-raws
returns-clause-raws c =
    let first = first_attribute_of c.self.inside.bytes.now in
    let same : c.new.result ≡ placed_from first (raws_of c.self.inside.bytes.now first) =
    c.new.ensures
    ∙ ap (λ p. placed_from p (raws_of c.self.inside.bytes.now p)) (c.from.ensures ∙ c.first_attribute_of.ensures) in
    let kept : record_of c.self.inside.bytes.now ≡ c.args.self.now = c.self.view_is in
    ap (map (λ (p : Placed). p.raw)) same ∙ raws-placed first (raws_of c.self.inside.bytes.now first)
    ∙ raws_of-record c.self.inside.bytes.now ∙ ap (λ (r : FileRecord). r.raws) kept

pub returns-clause-few : goal.returns-clause-few
returns-clause-few c =
    let bytes = c.self.inside.bytes.now in
    let first = first_attribute_of c.self.inside.bytes.now in
    let same : c.new.result ≡ placed_from first (raws_of c.self.inside.bytes.now first) =
    c.new.ensures
    ∙ ap (λ p. placed_from p (raws_of c.self.inside.bytes.now p)) (c.from.ensures ∙ c.first_attribute_of.ensures) in
    let raws = raws_are c.self.inside.bytes.now first c.self.invariant.attributes in
    let few = few_placed c.self.inside.bytes.now first (raws_of c.self.inside.bytes.now first) raws in
    let header = sound_header c.self.inside.bytes.now c.self.invariant.header in
    omega (arith, ap length same, few, header.in_use, c.self.invariant.small)

pub returns-clause-bounds : goal.returns-clause-bounds
returns-clause-bounds c =
    let first = first_attribute_of c.self.inside.bytes.now in
    let same : c.new.result ≡ placed_from first (raws_of c.self.inside.bytes.now first) =
    c.new.ensures
    ∙ ap (λ p. placed_from p (raws_of c.self.inside.bytes.now p)) (c.from.ensures ∙ c.first_attribute_of.ensures) in
    let raws = raws_are c.self.inside.bytes.now first c.self.invariant.attributes in
    let header = sound_header c.self.inside.bytes.now c.self.invariant.header in
    subst (λ (ps : List Placed). All HasBounds (map shown_placed ps)) (sym same)
    (shown-bounds c.self.inside.bytes.now first
    (raws_of c.self.inside.bytes.now first) header.in_use c.self.invariant.small raws)
