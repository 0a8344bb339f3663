use Rattle.std.proofs.Common.{◌≡◌, sym, ap, ◌∙◌, length, Bool, Some, None, Err, if◌then◌else◌}
use Rattle.ntfs_attrlist.specs.Views.{shown_entry}
use Rattle.ntfs_base.specs.Bytes.{cluster_at}
use Rattle.ntfs_volume.specs.Fault.{volume_origin}
use Rattle.ntfs_volume.specs.Known.{known_clusters}
use Rattle.ntfs_volume.specs.References.{has_base}
use Rattle.ntfs_volume.proofs.AnswerLemmas.{gives_by}
use Rattle.ntfs_volume.proofs.MapLemmas.{extended-dead, extended-missing, extended-other, extended-own, known-raw}
use Rattle.ntfs_volume.proofs.mft_map.add_from_extension.Goals as goal

pub returns-then-not-branch-clause-gives : goal.returns-then-not-branch-clause-gives
returns-then-not-branch-clause-gives g c told settled =
    let a = c.args in
    let image = g.G.Image.seen a.image.now in
    let k = a.geometry.now in
    let long : length image.content ≡ image.size = g.met.G.Image.told_size a.image.now told in
    let raw = known-raw image.content image.size k a.known.now c.runs.result.now c.bytes.result c.min-bytes.result a.valid c.target-number.result _
    c.in_ok-read_raw.field-0 c.read_raw.new.block long c.requires.opened.held c.requires.known c.runs.ensures c.bytes.ensures c.min-bytes.ensures
    c.ranges.valid.fits c.target-number.ensures (c.in_ok-read_raw.ensures.gives told) in
    extended-missing k (cluster_at image.content k.cluster) a.valid a.first.now (known_clusters a.known.now) (shown_entry a.entry.now)
    (raw ∙ ap (λ (b : Bool). if b then Some c.read_raw.new.block else None) c.if-not-branch.true)
    ∙ ap Err (sym c.no_map.ensures)

pub returns-in_default-clause-gives : goal.returns-in_default-clause-gives
returns-in_default-clause-gives g c told settled =
    let a = c.args in
    let image = g.G.Image.seen a.image.now in
    let k = a.geometry.now in
    let long : length image.content ≡ image.size = g.met.G.Image.told_size a.image.now told in
    let raw = known-raw image.content image.size k a.known.now c.runs.result.now c.bytes.result c.min-bytes.result a.valid c.target-number.result _
    c.in_ok-read_raw.field-0 c.read_raw.new.block long c.requires.opened.held c.requires.known c.runs.ensures c.bytes.ensures c.min-bytes.ensures
    c.ranges.valid.fits c.target-number.ensures (c.in_ok-read_raw.ensures.gives told) in
    extended-dead k (cluster_at image.content k.cluster) a.valid a.first.now (known_clusters a.known.now) (shown_entry a.entry.now) c.read_raw.new.block
    (raw ∙ ap (λ (b : Bool). if b then Some c.read_raw.new.block else None) c.if-not-branch.false) (sym c.live_record.ensures ∙ c.in_default.is)
    ∙ ap Err (sym c.no_map-in_default.ensures)

pub returns-then-not-has_base_0-clause-gives : goal.returns-then-not-has_base_0-clause-gives
returns-then-not-has_base_0-clause-gives g c told settled =
    let a = c.args in
    let image = g.G.Image.seen a.image.now in
    let k = a.geometry.now in
    let long : length image.content ≡ image.size = g.met.G.Image.told_size a.image.now told in
    let raw = known-raw image.content image.size k a.known.now c.runs.result.now c.bytes.result c.min-bytes.result a.valid c.target-number.result _
    c.in_ok-read_raw.field-0 c.read_raw.new.block long c.requires.opened.held c.requires.known c.runs.ensures c.bytes.ensures c.min-bytes.ensures
    c.ranges.valid.fits c.target-number.ensures (c.in_ok-read_raw.ensures.gives told) in
    let base = ap (λ b. has_base b 0 a.first.now.head.sequence) (sym c.base.ensures) ∙ ap (has_base c.base.result 0) (sym c.sequence.ensures)
    ∙ sym c.has_base_0.ensures ∙ c.if-not-has_base_0.true in
    extended-other k (cluster_at image.content k.cluster) a.valid a.first.now (known_clusters a.known.now) (shown_entry a.entry.now) c.read_raw.new.block c.in-Some.view
    (raw ∙ ap (λ (b : Bool). if b then Some c.read_raw.new.block else None) c.if-not-branch.false) (sym c.live_record.ensures ∙ c.in-Some.is) base
    ∙ ap Err (sym c.no_map-then-not-has_base_0.ensures)

pub returns-clause-gives : goal.returns-clause-gives
returns-clause-gives g c told =
    let a = c.args in
    let image = g.G.Image.seen a.image.now in
    let k = a.geometry.now in
    let long : length image.content ≡ image.size = g.met.G.Image.told_size a.image.now told in
    let raw = known-raw image.content image.size k a.known.now c.runs.result.now c.bytes.result c.min-bytes.result a.valid c.target-number.result _
    c.in_ok-read_raw.field-0 c.read_raw.new.block long c.requires.opened.held c.requires.known c.runs.ensures c.bytes.ensures c.min-bytes.ensures
    c.ranges.valid.fits c.target-number.ensures (c.in_ok-read_raw.ensures.gives told) in
    let base = ap (λ b. has_base b 0 a.first.now.head.sequence) (sym c.base.ensures) ∙ ap (has_base c.base.result 0) (sym c.sequence.ensures)
    ∙ sym c.has_base_0.ensures ∙ c.if-not-has_base_0.false in
    gives_by volume_origin _ _ _ c.add_extent.result
    (extended-own k (cluster_at image.content k.cluster) a.valid a.first.now (known_clusters a.known.now) (shown_entry a.entry.now) c.read_raw.new.block c.in-Some.view
    (raw ∙ ap (λ (b : Bool). if b then Some c.read_raw.new.block else None) c.if-not-branch.false) (sym c.live_record.ensures ∙ c.in-Some.is) base)
    c.add_extent.ensures.gives
