use Rattle.std.proofs.Common.{◌≡◌, ◌∷◌, ◌∙◌, ap, sym, arith, []}
use Rattle.ntfs_attrlist.specs.Reading.{list_items}
use Rattle.ntfs_attrlist.specs.Views.{shown_entry, shown_item}
use Rattle.ntfs_base.proofs.FramesLemmas.{told_still}
use Rattle.ntfs_base.specs.Bytes.{cluster_at}
use Rattle.ntfs_boot.specs.declared.geometry.Geometry.{Geometry}
use Rattle.ntfs_check_streams.proofs.NamedLemmas.{items-are, items-end, items-fault, items-given, items-missing, items-other, items_joined}
use Rattle.ntfs_check_streams.proofs.list.join_entries.Goals as goal
use Rattle.ntfs_check_records.specs.Reading.{records_of}
use Rattle.ntfs_check_streams.specs.Join.{is_stream, span_found}
use Rattle.ntfs_check_streams.specs.declared.join.Joined.{Joined}
use Rattle.ntfs_volume.specs.Gather.{found_in}
use Rattle.ntfs_volume.specs.Located.{slot_at}
use Rattle.ntfs_volume.specs.References.{target}

pub returns-in-None-2-clause-found : goal.returns-in-None-2-clause-found
returns-in-None-2-clause-found g c told =
    let b = c.args.base in
    let o = c.args.table.now in
    let k = o.geometry.cluster in
    let slots = records_of o (cluster_at (g.G.Image.seen c.args.image.now).content k) in
    let items = c.in-Some.ensures.steps ∙ ap (λ item. shown_item item ∷ c.next.new.self) c.in-Ok.is in
    let found = told_still g.G.Image _ _ (λ content. c.in_ok-read_span.field-0 ≡ span_found (found_in b.number b.sequence (shown_entry c.in-Ok.entry) (slot_at (records_of o (cluster_at content k)) (target c.in-Ok.entry.reference))))
    c.entries.invariant.seen c.in_ok-read_span.ensures.found told in
    sym (sym (items-are k c.args.kind c.args.name.now c.args.start b.number b.sequence slots (list_items c.args.list.now))
    ∙ sym (c.entries.invariant.same told)
    ∙ items-missing k c.args.kind c.args.name.now c.entries.joined b.number b.sequence slots _ c.next.new.self (shown_entry c.in-Ok.entry) c.is_listed.result items c.is_listed.ensures c.if-is_listed.true (sym c.in-None-2.is ∙ found))

pub entries-preserved-in-Some-2 : goal.entries-preserved-in-Some-2
entries-preserved-in-Some-2 g c =
    let b = c.args.base in
    let o = c.args.table.now in
    let k = o.geometry.cluster in
    let done = c.in_ok-read_span.ensures in
    let items = c.in-Some.ensures.steps ∙ ap (λ item. shown_item item ∷ c.next.new.self) c.in-Ok.is in
    record {
      can = tt;
      finite = tt;
      seen = done.reads.seen ∙ c.entries.invariant.seen;
      counts = record { reads = omega (arith, done.reads.counts.reads, c.entries.invariant.counts.reads); writes = omega (arith, done.reads.counts.writes, c.entries.invariant.counts.writes) };
      block = c.entries.invariant.block;
      same = λ told.
          let slots = records_of o (cluster_at (g.G.Image.seen c.args.image.now).content k) in
          let found = told_still g.G.Image _ _ (λ content. c.in_ok-read_span.field-0 ≡ span_found (found_in b.number b.sequence (shown_entry c.in-Ok.entry) (slot_at (records_of o (cluster_at content k)) (target c.in-Ok.entry.reference))))
          c.entries.invariant.seen done.found told in
          ap (λ (before : Joined). items_joined k c.args.kind c.args.name.now before b.number b.sequence slots c.next.new.self) c.join-joined.ensures
          ∙ sym (items-given k c.args.kind c.args.name.now c.entries.joined b.number b.sequence slots _ c.next.new.self (shown_entry c.in-Ok.entry) c.is_listed.result c.in-Some-2.span items c.is_listed.ensures c.if-is_listed.true (sym c.in-Some-2.is ∙ found))
          ∙ c.entries.invariant.same told;
    }

pub entries-preserved-else-is_listed : goal.entries-preserved-else-is_listed
entries-preserved-else-is_listed g c =
    let b = c.args.base in
    let k = c.args.table.now.geometry.cluster in
    let items = c.in-Some.ensures.steps ∙ ap (λ item. shown_item item ∷ c.next.new.self) c.in-Ok.is in
    record {
      can = tt;
      finite = tt;
      seen = c.entries.invariant.seen;
      counts = c.entries.invariant.counts;
      block = c.entries.invariant.block;
      same = λ told.
          sym (items-other k c.args.kind c.args.name.now c.entries.joined b.number b.sequence (records_of c.args.table.now (cluster_at (g.G.Image.seen c.args.image.now).content k)) _ c.next.new.self (shown_entry c.in-Ok.entry) c.is_listed.result items c.is_listed.ensures c.if-is_listed.false) ∙ c.entries.invariant.same told;
    }

pub entries-preserved : goal.entries-preserved
entries-preserved g c =
    let b = c.args.base in
    let k = c.args.table.now.geometry.cluster in
    let items = c.in-Some.ensures.steps ∙ ap (λ item. shown_item item ∷ c.next.new.self) c.in_default.is in
    record {
      can = tt;
      finite = tt;
      seen = c.entries.invariant.seen;
      counts = c.entries.invariant.counts;
      block = c.entries.invariant.block;
      same = λ told.
          sym (items-fault k c.args.kind c.args.name.now c.entries.joined b.number b.sequence (records_of c.args.table.now (cluster_at (g.G.Image.seen c.args.image.now).content k)) _ c.next.new.self c.in_default.field-0 items) ∙ c.entries.invariant.same told;
    }

pub returns-clause-found : goal.returns-clause-found
returns-clause-found g c told =
    let b = c.args.base in
    let k = c.args.table.now.geometry.cluster in
    let slots = records_of c.args.table.now (cluster_at (g.G.Image.seen c.args.image.now).content k) in
    c.is_stream.ensures
    ∙ ap (λ (geometry : Geometry). is_stream geometry.cluster c.entries.joined) c.geometry-geometry.ensures.kept
    ∙ sym (sym (items-are k c.args.kind c.args.name.now c.args.start b.number b.sequence slots (list_items c.args.list.now))
    ∙ sym (c.entries.invariant.same told)
    ∙ items-end k c.args.kind c.args.name.now c.entries.joined b.number b.sequence slots _ [] c.in-None.ensures.steps.0)
