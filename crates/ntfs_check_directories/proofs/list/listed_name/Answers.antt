use Rattle.std.proofs.Common.{◌≡◌, ◌∷◌, ◌∙◌, ◌||◌, ap, sym, arith, Bool, []}
use Rattle.ntfs_attrlist.specs.Views.{shown_entry, shown_item}
use Rattle.ntfs_base.proofs.FramesLemmas.{told_still}
use Rattle.ntfs_check_directories.proofs.NameLemmas.{items-bad, items-end, items-fault, items-given, items-good, items-missing, items-other, items_have}
use Rattle.ntfs_check_directories.proofs.list.listed_name.Goals as goal
use Rattle.ntfs_check_directories.specs.Names.{records_in, shown_by}
use Rattle.ntfs_volume.specs.Gather.{found_in}
use Rattle.ntfs_volume.specs.Located.{slot_at}
use Rattle.ntfs_volume.specs.References.{target}

pub returns-then-not-are_entries-clause-found : goal.returns-then-not-are_entries-clause-found
returns-then-not-are_entries-clause-found g c told =
    items-bad c.args.sought.now c.args.base.number c.args.base.sequence (records_in c.args.table.now (g.G.Image.seen c.args.image.now).content) c.args.list.now (sym c.are_entries.ensures ∙ c.if-not-are_entries.true)

pub returns-in-None-2-clause-found : goal.returns-in-None-2-clause-found
returns-in-None-2-clause-found g c told =
    let b = c.args.base in
    let slots = records_in c.args.table.now (g.G.Image.seen c.args.image.now).content in
    let items = c.in-Some.ensures.steps ∙ ap (λ item. shown_item item ∷ c.next.new.self) c.in-Ok.is in
    let found = told_still g.G.Image _ _ (λ content. c.in_ok-read_name.field-0 ≡ shown_by c.args.sought.now (found_in b.number b.sequence (shown_entry c.in-Ok.entry) (slot_at (records_in c.args.table.now content) (target c.in-Ok.entry.reference))))
    c.entries.invariant.seen c.in_ok-read_name.ensures.found told in
    sym (items-good c.args.sought.now b.number b.sequence slots c.args.list.now (sym c.are_entries.ensures ∙ c.if-not-are_entries.false)
    ∙ sym (c.entries.invariant.same told)
    ∙ items-missing c.entries.any c.args.sought.now b.number b.sequence slots _ c.next.new.self (shown_entry c.in-Ok.entry) c.is_listed.result items c.is_listed.ensures c.if-is_listed.true (sym c.in-None-2.is ∙ found))

pub entries-preserved-then-any : goal.entries-preserved-then-any
entries-preserved-then-any g c =
    let b = c.args.base in
    let done = c.in_ok-read_name.ensures in
    let items = c.in-Some.ensures.steps ∙ ap (λ item. shown_item item ∷ c.next.new.self) c.in-Ok.is in
    record {
      can = tt;
      finite = tt;
      seen = done.reads.seen ∙ c.entries.invariant.seen;
      counts = record { reads = omega (arith, done.reads.counts.reads, c.entries.invariant.counts.reads); writes = omega (arith, done.reads.counts.writes, c.entries.invariant.counts.writes) };
      block = c.entries.invariant.block;
      same = λ told.
          let slots = records_in c.args.table.now (g.G.Image.seen c.args.image.now).content in
          let found = told_still g.G.Image _ _ (λ content. c.in_ok-read_name.field-0 ≡ shown_by c.args.sought.now (found_in b.number b.sequence (shown_entry c.in-Ok.entry) (slot_at (records_in c.args.table.now content) (target c.in-Ok.entry.reference))))
          c.entries.invariant.seen done.found told in
          sym (items-given c.entries.any c.args.sought.now b.number b.sequence slots _ c.next.new.self (shown_entry c.in-Ok.entry) c.is_listed.result c.in-Some-2.shows items c.is_listed.ensures c.if-is_listed.true (sym c.in-Some-2.is ∙ found)
          ∙ ap (λ (before : Bool). items_have before c.args.sought.now b.number b.sequence slots c.next.new.self) (ap (λ (before : Bool). before || c.in-Some-2.shows) c.if-any.true ∙ sym c.if-any.true))
          ∙ c.entries.invariant.same told;
    }

pub entries-preserved-else-any : goal.entries-preserved-else-any
entries-preserved-else-any g c =
    let b = c.args.base in
    let done = c.in_ok-read_name.ensures in
    let items = c.in-Some.ensures.steps ∙ ap (λ item. shown_item item ∷ c.next.new.self) c.in-Ok.is in
    record {
      can = tt;
      finite = tt;
      seen = done.reads.seen ∙ c.entries.invariant.seen;
      counts = record { reads = omega (arith, done.reads.counts.reads, c.entries.invariant.counts.reads); writes = omega (arith, done.reads.counts.writes, c.entries.invariant.counts.writes) };
      block = c.entries.invariant.block;
      same = λ told.
          let slots = records_in c.args.table.now (g.G.Image.seen c.args.image.now).content in
          let found = told_still g.G.Image _ _ (λ content. c.in_ok-read_name.field-0 ≡ shown_by c.args.sought.now (found_in b.number b.sequence (shown_entry c.in-Ok.entry) (slot_at (records_in c.args.table.now content) (target c.in-Ok.entry.reference))))
          c.entries.invariant.seen done.found told in
          sym (items-given c.entries.any c.args.sought.now b.number b.sequence slots _ c.next.new.self (shown_entry c.in-Ok.entry) c.is_listed.result c.in-Some-2.shows items c.is_listed.ensures c.if-is_listed.true (sym c.in-Some-2.is ∙ found)
          ∙ ap (λ (before : Bool). items_have before c.args.sought.now b.number b.sequence slots c.next.new.self) (ap (λ (before : Bool). before || c.in-Some-2.shows) c.if-any.false))
          ∙ c.entries.invariant.same told;
    }

pub entries-preserved-else-is_listed : goal.entries-preserved-else-is_listed
entries-preserved-else-is_listed g c =
    let b = c.args.base in
    let items = c.in-Some.ensures.steps ∙ ap (λ item. shown_item item ∷ c.next.new.self) c.in-Ok.is in
    record {
      can = tt;
      finite = tt;
      seen = c.entries.invariant.seen;
      counts = c.entries.invariant.counts;
      block = c.entries.invariant.block;
      same = λ told.
          sym (items-other c.entries.any c.args.sought.now b.number b.sequence (records_in c.args.table.now (g.G.Image.seen c.args.image.now).content) _ c.next.new.self (shown_entry c.in-Ok.entry) c.is_listed.result items c.is_listed.ensures c.if-is_listed.false) ∙ c.entries.invariant.same told;
    }

pub entries-preserved : goal.entries-preserved
entries-preserved g c =
    let b = c.args.base in
    let items = c.in-Some.ensures.steps ∙ ap (λ item. shown_item item ∷ c.next.new.self) c.in_default.is in
    record {
      can = tt;
      finite = tt;
      seen = c.entries.invariant.seen;
      counts = c.entries.invariant.counts;
      block = c.entries.invariant.block;
      same = λ told.
          sym (items-fault c.entries.any c.args.sought.now b.number b.sequence (records_in c.args.table.now (g.G.Image.seen c.args.image.now).content) _ c.next.new.self c.in_default.field-0 items) ∙ c.entries.invariant.same told;
    }

pub returns-clause-found : goal.returns-clause-found
returns-clause-found g c told =
    let b = c.args.base in
    let slots = records_in c.args.table.now (g.G.Image.seen c.args.image.now).content in
    sym (items-good c.args.sought.now b.number b.sequence slots c.args.list.now (sym c.are_entries.ensures ∙ c.if-not-are_entries.false)
    ∙ sym (c.entries.invariant.same told)
    ∙ items-end c.entries.any c.args.sought.now b.number b.sequence slots _ [] c.in-None.ensures.steps.0)
