use Rattle.std.proofs.Common.{◌≡◌, ◌∷◌, ◌∙◌, sym, ap, subst, refl, List, arith, Result, Ok, Err}
use Rattle.std.specs.Prelude.{filter}
use Rattle.std.proofs.lemmas.Result.{err_from_is_err_and}
use Rattle.ntfs_attrlist.specs.Entry.{Listed}
use Rattle.ntfs_attrlist.specs.Reading.{all_or_first}
use Rattle.ntfs_attrlist.specs.Views.{shown_entry, shown_item}
use Rattle.ntfs_attrlist.specs.declared.fault.BadEntry.{BadEntry}
use Rattle.ntfs_base.specs.Bytes.{cluster_at}
use Rattle.ntfs_base.specs.Frames.{IsSettled}
use Rattle.ntfs_base.specs.Image.{ImageState}
use Rattle.ntfs_base.proofs.FramesLemmas.{told_still}
use Rattle.ntfs_boot.specs.Geometry.{IsOpened}
use Rattle.ntfs_volume.specs.Fault.{volume_origin}
use Rattle.ntfs_volume.specs.Known.{behind_known, known_clusters}
use Rattle.ntfs_volume.specs.MftMap.{extent_of_entry, further, is_further}
use Rattle.ntfs_volume.proofs.EntriesLemmas.{because-more, entry-skip, entry-take, entry-wrong, further-ends, further-more, further-stops, listed-bad, listed-good, right_entries}
use Rattle.ntfs_volume.proofs.mft_map.add_entries.Goals as goal

pub returns-then-not-are_entries-clause-gives : goal.returns-then-not-are_entries-clause-gives
returns-then-not-are_entries-clause-gives g c told settled =
    let a = c.args in
    listed-bad a.geometry.now (cluster_at (g.G.Image.seen a.image.now).content a.geometry.now.cluster) a.valid a.first.now (known_clusters a.known.now) a.list.now
    (sym c.are_entries.ensures ∙ c.if-not-are_entries.true)
    ∙ ap Err (sym c.no_map.ensures)

pub entries-init : goal.entries-init
entries-init g c = record {
  can = tt;
  finite = tt;
  seen = refl;
  counts = record { reads = omega arith; writes = omega arith };
  known = c.requires.known;
  block = c.requires.block;
  gives = λ told. refl;
}

pub add_entry-requires-clause-opened : goal.add_entry-requires-clause-opened
add_entry-requires-clause-opened g c = subst (λ (s : ImageState). IsOpened s.size c.args.geometry.now) (sym c.entries.invariant.seen) c.requires.opened

pub add_entry-requires-clause-known : goal.add_entry-requires-clause-known
add_entry-requires-clause-known g c = c.entries.invariant.known

pub entries-preserved-in-Continue-1 : goal.entries-preserved-in-Continue-1
entries-preserved-in-Continue-1 g c =
    let a = c.args in
    let k = a.geometry.now in
    let e = shown_entry c.in-Ok.entry in
    let shown : ◌≡◌ {A = List (Result Listed BadEntry)} c.entries.item-iterator (Ok e ∷ c.next.new.self)
    = c.in-Some.ensures.steps ∙ ap (λ i. shown_item i ∷ c.next.new.self) c.in-Ok.is in
    let before = known_clusters c.entries.known in
    let read = told_still g.G.Image _ _ (λ content. behind_known before (extent_of_entry k (cluster_at content k.cluster) a.valid a.first.now before e) ≡ Ok (known_clusters c.add_entry.new.known))
    c.entries.invariant.seen c.in_ok-add_entry.ensures.gives in
    record {
      can = tt;
      finite = tt;
      seen = c.in_ok-add_entry.ensures.reads.seen ∙ c.entries.invariant.seen;
      counts = record { reads = omega (arith, c.in_ok-add_entry.ensures.reads.counts.reads, c.entries.invariant.counts.reads); writes = omega (arith, c.in_ok-add_entry.ensures.reads.counts.writes, c.entries.invariant.counts.writes) };
      known = c.in_ok-add_entry.ensures.known;
      block = c.in_ok-add_entry.ensures.block ∙ c.entries.invariant.block;
      gives = λ told.
          let f = cluster_at (g.G.Image.seen a.image.now).content k.cluster in
          sym (further-more k f a.valid a.first.now before (known_clusters c.add_entry.new.known) e (filter is_further (right_entries c.next.new.self)) (read told))
          ∙ sym (ap (further k f a.valid a.first.now before) (entry-take c.entries.item-iterator c.next.new.self e shown (sym c.is_further.ensures ∙ c.if-is_further.true)))
          ∙ c.entries.invariant.gives told;
    }

pub returns-in_err-add_entry-clause-gives : goal.returns-in_err-add_entry-clause-gives
returns-in_err-add_entry-clause-gives g c told =
    let p = err_from_is_err_and c.from_residual.result c.from_residual.ensures.1 in
    let a = c.args in
    let k = a.geometry.now in
    let f = cluster_at (g.G.Image.seen a.image.now).content k.cluster in
    let e = shown_entry c.in-Ok.entry in
    let shown : ◌≡◌ {A = List (Result Listed BadEntry)} c.entries.item-iterator (Ok e ∷ c.next.new.self)
    = c.in-Some.ensures.steps ∙ ap (λ i. shown_item i ∷ c.next.new.self) c.in-Ok.is in
    let before = known_clusters c.entries.known in
    let fault = c.in_err-add_entry.field-0.0 in
    let read = told_still g.G.Image _ _ (λ content. IsSettled (volume_origin fault) → behind_known before (extent_of_entry k (cluster_at content k.cluster) a.valid a.first.now before e) ≡ Err fault)
    c.entries.invariant.seen c.in_err-add_entry.ensures.gives in
    rw (p.1, p.2) (λ settled.
    listed-good k f a.valid a.first.now (known_clusters a.known.now) a.list.now c.into_iter-item-iterator.result
    (ap all_or_first c.into_iter-item-iterator.ensures.into_iter_gives ∙ c.entries-item-items.ensures.whole) (sym c.are_entries.ensures ∙ c.if-not-are_entries.false)
    ∙ sym (c.entries.invariant.gives told)
    ∙ ap (further k f a.valid a.first.now before) (entry-take c.entries.item-iterator c.next.new.self e shown (sym c.is_further.ensures ∙ c.if-is_further.true))
    ∙ further-stops k f a.valid a.first.now before e (filter is_further (right_entries c.next.new.self)) fault (read told settled))

pub returns-in_err-add_entry-clause-reads : goal.returns-in_err-add_entry-clause-reads
returns-in_err-add_entry-clause-reads g c =
    let p = err_from_is_err_and c.from_residual.result c.from_residual.ensures.1 in
    let reads = c.in_err-add_entry.ensures.reads in
    rw (p.1, p.2) (record {
      seen = reads.seen ∙ c.entries.invariant.seen;
      counts = record { reads = omega (arith, reads.counts.reads, c.entries.invariant.counts.reads); writes = omega (arith, reads.counts.writes, c.entries.invariant.counts.writes) };
      cause = because-more (volume_origin c.in_err-add_entry.field-0.0) _ _ _ c.entries.invariant.counts.reads reads.counts.reads reads.cause;
    })

pub entries-preserved-else-is_further : goal.entries-preserved-else-is_further
entries-preserved-else-is_further g c =
    let a = c.args in
    let k = a.geometry.now in
    let e = shown_entry c.in-Ok.entry in
    let shown : ◌≡◌ {A = List (Result Listed BadEntry)} c.entries.item-iterator (Ok e ∷ c.next.new.self)
    = c.in-Some.ensures.steps ∙ ap (λ i. shown_item i ∷ c.next.new.self) c.in-Ok.is in
    let i = c.entries.invariant in
    record {
      can = tt;
      finite = tt;
      seen = i.seen;
      counts = i.counts;
      known = i.known;
      block = i.block;
      gives = λ told.
          sym (ap (further k (cluster_at (g.G.Image.seen a.image.now).content k.cluster) a.valid a.first.now (known_clusters c.entries.known))
          (entry-skip c.entries.item-iterator c.next.new.self e shown (sym c.is_further.ensures ∙ c.if-is_further.false)))
          ∙ i.gives told;
    }

pub entries-preserved : goal.entries-preserved
entries-preserved g c =
    let a = c.args in
    let k = a.geometry.now in
    let shown : ◌≡◌ {A = List (Result Listed BadEntry)} c.entries.item-iterator (Err c.in_default.field-0 ∷ c.next.new.self)
    = c.in-Some.ensures.steps ∙ ap (λ i. shown_item i ∷ c.next.new.self) c.in_default.is in
    let i = c.entries.invariant in
    record {
      can = tt;
      finite = tt;
      seen = i.seen;
      counts = i.counts;
      known = i.known;
      block = i.block;
      gives = λ told.
          sym (ap (further k (cluster_at (g.G.Image.seen a.image.now).content k.cluster) a.valid a.first.now (known_clusters c.entries.known))
          (entry-wrong c.entries.item-iterator c.next.new.self c.in_default.field-0 shown))
          ∙ i.gives told;
    }

pub returns-clause-gives : goal.returns-clause-gives
returns-clause-gives g c told =
    let a = c.args in
    let k = a.geometry.now in
    let f = cluster_at (g.G.Image.seen a.image.now).content k.cluster in
    let before = known_clusters c.entries.known in
    listed-good k f a.valid a.first.now (known_clusters a.known.now) a.list.now c.into_iter-item-iterator.result
    (ap all_or_first c.into_iter-item-iterator.ensures.into_iter_gives ∙ c.entries-item-items.ensures.whole) (sym c.are_entries.ensures ∙ c.if-not-are_entries.false)
    ∙ sym (c.entries.invariant.gives told)
    ∙ ap (λ xs. further k f a.valid a.first.now before (filter is_further (right_entries xs))) c.in-None.ensures.steps.0
    ∙ further-ends k f a.valid a.first.now before

pub returns-clause-known : goal.returns-clause-known
returns-clause-known g c = c.entries.invariant.known

pub returns-clause-reads : goal.returns-clause-reads
returns-clause-reads g c = record { seen = c.entries.invariant.seen; counts = c.entries.invariant.counts; cause = tt }
