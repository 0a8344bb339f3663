use Rattle.std.proofs.Common.{◌≡◌, ◌∙◌, ap, refl, subst, sym, ℕ, arith, Err, Ok}
use Rattle.ntfs_base.proofs.FramesLemmas.{told_still}
use Rattle.ntfs_check_directories.proofs.LeadLemmas.{lead-end, lead-fault, lead-refused, lead-taken}
use Rattle.ntfs_check_directories.proofs.leads.all_rest_lead.Goals as goal
use Rattle.ntfs_check_directories.specs.declared.name.Sought.{Sought}
use Rattle.ntfs_check_directories.specs.Names.{all_lead, leads_at}
use Rattle.ntfs_directory.specs.State.{IsNextEntry, left_of}
use Rattle.ntfs_index.specs.Node.{IndexEntry}
use Rattle.ntfs_rules.proofs.ListLemmas.{uncut}
use Rattle.ntfs_volume.specs.Streams.{IsReadable, Stream}

pub returns-in-None-clause-found : goal.returns-in-None-clause-found
returns-in-None-clause-found g c told =
    let o = c.args.table.now in
    let content = (g.G.Image.seen c.args.image.now).content in
    let fault = c.in-Err.fault in
    let next = told_still g.G.Image c.args.image.now c.entries.image
    (λ content. IsNextEntry (left_of o.geometry content c.entries.directory) (Err fault) (left_of o.geometry content c.next.new.self) c.next.new.self.walk.key)
    c.entries.invariant.seen (c.in-Err.ensures.told c.entries.invariant.sound) in
    lead-fault o content c.args.number c.args.sequence fault
    ∙ ap (all_lead o content c.args.number c.args.sequence) (sym (next told (uncut fault (sym c.cut_of.ensures ∙ c.in-None.is))))
    ∙ c.entries.invariant.same told

pub returns-in-Ok-None-clause-found : goal.returns-in-Ok-None-clause-found
returns-in-Ok-None-clause-found g c told =
    let o = c.args.table.now in
    let content = (g.G.Image.seen c.args.image.now).content in
    let next = told_still g.G.Image c.args.image.now c.entries.image
    (λ content. IsNextEntry (left_of o.geometry content c.entries.directory) (Ok c.in-Ok-None.field-0) (left_of o.geometry content c.next.new.self) c.next.new.self.walk.key)
    c.entries.invariant.seen (c.in-Ok-None.ensures.told c.entries.invariant.sound) in
    let end = rw c.in-Ok-None.field-0-is at (next told) in
    lead-end o content c.args.number c.args.sequence
    ∙ ap (all_lead o content c.args.number c.args.sequence) (sym end.0)
    ∙ c.entries.invariant.same told

pub returns-then-not-branch-clause-found : goal.returns-then-not-branch-clause-found
returns-then-not-branch-clause-found g c told =
    let o = c.args.table.now in
    let content = (g.G.Image.seen c.args.image.now).content in
    let new = c.next.new.self in
    let entry : IndexEntry = record { reference = c.in-Ok-Some.entry.reference; key = new.walk.key } in
    let sought : Sought = record { directory = c.args.number; sequence = c.args.sequence; key = c.key.result } in
    let next = told_still g.G.Image c.args.image.now c.entries.image
    (λ content. IsNextEntry (left_of o.geometry content c.entries.directory) (Ok c.in-Ok-Some.field-0) (left_of o.geometry content new) new.walk.key)
    c.entries.invariant.seen (c.in-Ok-Some.ensures.told c.entries.invariant.sound) in
    let step = rw c.in-Ok-Some.field-0-is at (next told) in
    let leads = told_still g.G.Image c.args.image.now c.next.new.image (λ content. c.in_ok-leads-in-Ok-Some.field-0 ≡ leads_at o content sought c.in-Ok-Some.entry.reference)
    ((c.in-Ok-Some.ensures.reads c.entries.invariant.sound).seen ∙ c.entries.invariant.seen) c.in_ok-leads-in-Ok-Some.ensures.found told in
    lead-refused o content c.args.number c.args.sequence sought entry (left_of o.geometry content new) c.in_ok-leads-in-Ok-Some.field-0 refl refl (sym c.key.ensures) leads c.if-not-branch.true
    ∙ ap (all_lead o content c.args.number c.args.sequence) (sym step)
    ∙ c.entries.invariant.same told

pub entries-preserved : goal.entries-preserved
entries-preserved g c =
    let o = c.args.table.now in
    let content = (g.G.Image.seen c.args.image.now).content in
    let new = c.next.new.self in
    let done = c.in-Ok-Some.ensures in
    let reads = done.reads c.entries.invariant.sound in
    let more = c.in_ok-leads-in-Ok-Some.ensures.reads in
    let same = done.same in
    let entry : IndexEntry = record { reference = c.in-Ok-Some.entry.reference; key = new.walk.key } in
    let sought : Sought = record { directory = c.args.number; sequence = c.args.sequence; key = c.key.result } in
    let next = told_still g.G.Image c.args.image.now c.entries.image
    (λ content. IsNextEntry (left_of o.geometry content c.entries.directory) (Ok c.in-Ok-Some.field-0) (left_of o.geometry content new) new.walk.key)
    c.entries.invariant.seen (done.told c.entries.invariant.sound) in
    let leads = told_still g.G.Image c.args.image.now c.next.new.image (λ content. c.in_ok-leads-in-Ok-Some.field-0 ≡ leads_at o content sought c.in-Ok-Some.entry.reference)
    (reads.seen ∙ c.entries.invariant.seen) c.in_ok-leads-in-Ok-Some.ensures.found in
    record {
      on = record {
        readable = subst (λ (s : Stream ℕ). IsReadable o.geometry s) (sym same.allocation) c.entries.invariant.on.readable;
        block = same.block ∙ c.entries.invariant.on.block;
      };
      sound = done.sound;
      seen = more.seen ∙ reads.seen ∙ c.entries.invariant.seen;
      counts = record {
        reads = omega (arith, more.counts.reads, reads.counts.reads, c.entries.invariant.counts.reads);
        writes = omega (arith, more.counts.writes, reads.counts.writes, c.entries.invariant.counts.writes);
      };
      block = c.leads.auto.block ∙ c.entries.invariant.block;
      same = λ told.
          let step = rw c.in-Ok-Some.field-0-is at (next told) in
          sym (lead-taken o content c.args.number c.args.sequence sought entry (left_of o.geometry content new) c.in_ok-leads-in-Ok-Some.field-0 refl refl (sym c.key.ensures) (leads told) c.if-not-branch.false)
          ∙ ap (all_lead o content c.args.number c.args.sequence) (sym step)
          ∙ c.entries.invariant.same told;
    }
