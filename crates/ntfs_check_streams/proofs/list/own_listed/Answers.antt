use Rattle.std.proofs.Common.{◌≡◌, ◌∙◌, ap, List, map, refl, sym, arith, ℕ, Some}
use Rattle.ntfs_check_records.specs.Entries.{good_entries}
use Rattle.std.specs.List.{list_all}
use Rattle.ntfs_attrlist.specs.Reading.{list_items}
use Rattle.ntfs_base.proofs.FramesLemmas.{told_still}
use Rattle.ntfs_base.specs.Bytes.{cluster_at}
use Rattle.ntfs_check_streams.proofs.WalkLemmas.{all-end, all-failed, all-passed}
use Rattle.ntfs_check_streams.proofs.list.own_listed.Goals as goal
use Rattle.ntfs_check_records.specs.Reading.{records_of}
use Rattle.ntfs_check_streams.specs.Said.{is_listed_stream}
use Rattle.ntfs_record.specs.Views.{Placed, Shown, shown_placed, shown_view}
use Rattle.ntfs_volume.specs.Views.{told_view}

pub attributes-init : goal.attributes-init
attributes-init g c = record {
  can = tt;
  finite = tt;
  seen = refl;
  counts = record { reads = omega arith; writes = omega arith };
  same = λ told.
      let o = c.args.table.now in
      ap (λ (items : List Placed). list_all (λ (s : Shown). is_listed_stream o.geometry.cluster c.args.base.number c.args.base.sequence (records_of o (cluster_at (g.G.Image.seen c.args.image.now).content o.geometry.cluster)) (good_entries (list_items c.args.list.now)) (Some (told_view c.args.lead.now)) s.kind s.name) (map shown_placed items))
      (c.into_iter-attribute-iterator.ensures.into_iter_gives ∙ c.attributes-attribute-items.ensures.placed);
}

pub returns-then-not-holds-clause-found : goal.returns-then-not-holds-clause-found
returns-then-not-holds-clause-found g c told =
    let o = c.args.table.now in
    let b = c.args.base in
    let test = λ (content : List ℕ) (kind : ℕ) (name : List ℕ). is_listed_stream o.geometry.cluster b.number b.sequence (records_of o (cluster_at content o.geometry.cluster)) (good_entries (list_items c.args.list.now)) (Some (told_view c.args.lead.now)) kind name in
    let a = shown_view c.in-Some.attribute in
    let holds = told_still g.G.Image _ _ (λ content. c.in_ok-holds.holds ≡ test content a.kind a.name) c.attributes.invariant.seen c.in_ok-holds.ensures.found told in
    all-failed (λ (s : Shown). test (g.G.Image.seen c.args.image.now).content s.kind s.name) _ _ (c.attributes.invariant.same told) a (map shown_placed c.next.new.self) c.in-Some.ensures.steps
    (sym holds ∙ c.if-not-holds.true)

pub attributes-preserved : goal.attributes-preserved
attributes-preserved g c =
    let o = c.args.table.now in
    let b = c.args.base in
    let test = λ (content : List ℕ) (kind : ℕ) (name : List ℕ). is_listed_stream o.geometry.cluster b.number b.sequence (records_of o (cluster_at content o.geometry.cluster)) (good_entries (list_items c.args.list.now)) (Some (told_view c.args.lead.now)) kind name in
    let a = shown_view c.in-Some.attribute in
    let done = c.in_ok-holds.ensures in
    record {
      can = tt;
      finite = tt;
      seen = done.reads.seen ∙ c.attributes.invariant.seen;
      counts = record { reads = omega (arith, done.reads.counts.reads, c.attributes.invariant.counts.reads); writes = omega (arith, done.reads.counts.writes, c.attributes.invariant.counts.writes) };
      same = λ told.
          let holds = told_still g.G.Image _ _ (λ content. c.in_ok-holds.holds ≡ test content a.kind a.name) c.attributes.invariant.seen done.found told in
          all-passed (λ (s : Shown). test (g.G.Image.seen c.args.image.now).content s.kind s.name) _ _ (c.attributes.invariant.same told) a (map shown_placed c.next.new.self) c.in-Some.ensures.steps
          (sym holds ∙ c.if-not-holds.false);
    }

pub returns-clause-found : goal.returns-clause-found
returns-clause-found g c told =
    let o = c.args.table.now in
    all-end (λ (s : Shown). is_listed_stream o.geometry.cluster c.args.base.number c.args.base.sequence (records_of o (cluster_at (g.G.Image.seen c.args.image.now).content o.geometry.cluster)) (good_entries (list_items c.args.list.now)) (Some (told_view c.args.lead.now)) s.kind s.name) _ _
    (c.attributes.invariant.same told) c.in-None.ensures.steps.0
