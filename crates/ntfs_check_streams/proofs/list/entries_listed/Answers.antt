use Rattle.std.proofs.Common.{◌≡◌, ◌∷◌, ◌∙◌, ap, List, sym, arith, ℕ, Some, true}
use Rattle.ntfs_check_records.proofs.EntryLemmas.{good-end, good-entry, good-fault}
use Rattle.ntfs_check_records.specs.Entries.{good_entries}
use Rattle.std.specs.List.{list_all}
use Rattle.std.specs.Prelude.{IfSome}
use Rattle.ntfs_attrlist.specs.Entry.{Listed}
use Rattle.ntfs_attrlist.specs.Reading.{list_items}
use Rattle.ntfs_attrlist.specs.Views.{shown_entry, shown_item}
use Rattle.ntfs_base.proofs.FramesLemmas.{told_still}
use Rattle.ntfs_base.specs.Bytes.{cluster_at}
use Rattle.ntfs_check_streams.proofs.WalkLemmas.{all-end, all-failed, all-passed}
use Rattle.ntfs_check_streams.proofs.list.entries_listed.Goals as goal
use Rattle.ntfs_check_records.specs.Reading.{records_of}
use Rattle.ntfs_check_streams.specs.Said.{is_listed_stream}
use Rattle.ntfs_volume.specs.Views.{told_view}

pub returns-then-not-branch-clause-found : goal.returns-then-not-branch-clause-found
returns-then-not-branch-clause-found g c told =
    let o = c.args.table.now in
    let b = c.args.base in
    let test = λ (content : List ℕ) (kind : ℕ) (name : List ℕ). is_listed_stream o.geometry.cluster b.number b.sequence (records_of o (cluster_at content o.geometry.cluster)) (good_entries (list_items c.args.list.now)) (Some (told_view c.args.lead.now)) kind name in
    let entry = shown_entry c.in-Ok.entry in
    let items = c.in-Some.ensures.steps ∙ ap (λ item. shown_item item ∷ c.next.new.self) c.in-Ok.is in
    let holds = told_still g.G.Image _ _ (λ content. IfSome c.entries.last (λ other. test content other.kind other.name.now ≡ true) → c.in_ok-entry_listed.field-0 ≡ test content entry.kind entry.name) c.entries.invariant.seen c.in_ok-entry_listed.ensures.found told in
    all-failed (λ (entry : Listed). test (g.G.Image.seen c.args.image.now).content entry.kind entry.name) _ _ (c.entries.invariant.same told) entry (good_entries c.next.new.self) (good-entry _ c.next.new.self entry items)
    (sym (holds (c.entries.invariant.before told)) ∙ c.if-not-branch.true)

pub entries-preserved-in-Ok : goal.entries-preserved-in-Ok
entries-preserved-in-Ok g c =
    let o = c.args.table.now in
    let b = c.args.base in
    let test = λ (content : List ℕ) (kind : ℕ) (name : List ℕ). is_listed_stream o.geometry.cluster b.number b.sequence (records_of o (cluster_at content o.geometry.cluster)) (good_entries (list_items c.args.list.now)) (Some (told_view c.args.lead.now)) kind name in
    let entry = shown_entry c.in-Ok.entry in
    let items = c.in-Some.ensures.steps ∙ ap (λ item. shown_item item ∷ c.next.new.self) c.in-Ok.is in
    let done = c.in_ok-entry_listed.ensures in
    let holds = told_still g.G.Image _ _ (λ content. IfSome c.entries.last (λ other. test content other.kind other.name.now ≡ true) → c.in_ok-entry_listed.field-0 ≡ test content entry.kind entry.name) c.entries.invariant.seen done.found in
    record {
      can = tt;
      finite = tt;
      seen = done.reads.seen ∙ c.entries.invariant.seen;
      counts = record { reads = omega (arith, done.reads.counts.reads, c.entries.invariant.counts.reads); writes = omega (arith, done.reads.counts.writes, c.entries.invariant.counts.writes) };
      before = λ told. sym (holds told (c.entries.invariant.before told)) ∙ c.if-not-branch.false;
      same = λ told.
          all-passed (λ (entry : Listed). test (g.G.Image.seen c.args.image.now).content entry.kind entry.name) _ _ (c.entries.invariant.same told) entry (good_entries c.next.new.self) (good-entry _ c.next.new.self entry items)
          (sym (holds told (c.entries.invariant.before told)) ∙ c.if-not-branch.false);
    }

pub entries-preserved : goal.entries-preserved
entries-preserved g c =
    let o = c.args.table.now in
    let b = c.args.base in
    let items = c.in-Some.ensures.steps ∙ ap (λ item. shown_item item ∷ c.next.new.self) c.in_default.is in
    record {
      can = tt;
      finite = tt;
      seen = c.entries.invariant.seen;
      counts = c.entries.invariant.counts;
      before = c.entries.invariant.before;
      same = λ told.
          ap (λ (es : List Listed). list_all (λ (entry : Listed). is_listed_stream o.geometry.cluster b.number b.sequence (records_of o (cluster_at (g.G.Image.seen c.args.image.now).content o.geometry.cluster)) (good_entries (list_items c.args.list.now)) (Some (told_view c.args.lead.now)) entry.kind entry.name) es)
          (sym (good-fault _ c.next.new.self c.in_default.field-0 items))
          ∙ c.entries.invariant.same told;
    }

pub returns-clause-found : goal.returns-clause-found
returns-clause-found g c told =
    let o = c.args.table.now in
    all-end (λ (entry : Listed). is_listed_stream o.geometry.cluster c.args.base.number c.args.base.sequence (records_of o (cluster_at (g.G.Image.seen c.args.image.now).content o.geometry.cluster)) (good_entries (list_items c.args.list.now)) (Some (told_view c.args.lead.now)) entry.kind entry.name) _ _
    (c.entries.invariant.same told) (good-end _ c.in-None.ensures.steps.0)
