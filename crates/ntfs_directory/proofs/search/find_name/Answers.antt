use Rattle.std.proofs.Common.{◌≡◌, Ok, Err, ℕ, true, false, refl, sym, ap, subst, ◌∙◌, arith}
use Rattle.std.specs.Str.{bytes_eq}
use Rattle.std.proofs.lemmas.Result.{err_from_is_err_and}
use Rattle.ntfs_base.proofs.FramesLemmas.{told_still}
use Rattle.ntfs_directory.specs.Entries.{key_name}
use Rattle.ntfs_directory.specs.Paths.{has_like_name, or_like}
use Rattle.ntfs_directory.specs.State.{IsNextEntry, left_of}
use Rattle.ntfs_directory.proofs.PathLemmas.{named-end, named-fault, named-other, named-same, named-start, named_with}
use Rattle.ntfs_index.specs.Node.{IndexEntry}
use Rattle.ntfs_upcase.specs.Collation.{same_name}
use Rattle.ntfs_volume.specs.Streams.{IsReadable, Stream}
use Rattle.ntfs_directory.proofs.search.find_name.Goals as goal

pub entries-init : goal.entries-init
entries-init g c = record {
  on = c.requires.on;
  sound = c.requires.sound;
  seen = refl;
  counts = record { reads = omega arith; writes = omega arith };
  same = λ told. named-start c.args.upper.now c.args.name.now _;
}

pub returns-in_err-next-clause-gives : goal.returns-in_err-next-clause-gives
returns-in_err-next-clause-gives g c told =
    let k = c.args.table.now.geometry in
    let before = c.entries.directory in
    let key = c.next.new.self.walk.key in
    let next = told_still g.G.Image c.args.image.now c.entries.image
    (λ content. IsNextEntry (left_of k content before) (Err c.in_err-next.field-0.0) (left_of k content c.next.new.self) key)
    c.entries.invariant.seen (c.in_err-next.ensures.told c.entries.invariant.sound) in
    let p = err_from_is_err_and c.from_residual.result c.from_residual.ensures.1 in
    rw (p.1, p.2)
    (λ settled. sym (c.entries.invariant.same told)
    ∙ ap (named_with c.args.upper.now c.args.name.now c.entries.like) (next told settled)
    ∙ named-fault c.args.upper.now c.args.name.now c.entries.like _)

pub returns-in-None-clause-gives : goal.returns-in-None-clause-gives
returns-in-None-clause-gives g c told =
    let k = c.args.table.now.geometry in
    let next = told_still g.G.Image c.args.image.now c.entries.image
    (λ content. IsNextEntry (left_of k content c.entries.directory) (Ok c.in_ok-next.field-0) (left_of k content c.next.new.self)
    c.next.new.self.walk.key)
    c.entries.invariant.seen (c.in_ok-next.ensures.told c.entries.invariant.sound) in
    let end = rw c.in-None.is at (next told) in
    sym (c.entries.invariant.same told)
    ∙ ap (named_with c.args.upper.now c.args.name.now c.entries.like) end.0
    ∙ named-end c.args.upper.now c.args.name.now c.entries.like

pub returns-then-eq-clause-gives : goal.returns-then-eq-clause-gives
returns-then-eq-clause-gives g c told =
    let k = c.args.table.now.geometry in
    let key = c.next.new.self.walk.key in
    let next = told_still g.G.Image c.args.image.now c.entries.image
    (λ content. IsNextEntry (left_of k content c.entries.directory) (Ok c.in_ok-next.field-0) (left_of k content c.next.new.self) key)
    c.entries.invariant.seen (c.in_ok-next.ensures.told c.entries.invariant.sound) in
    let step = rw c.in-Some.is at (next told) in
    let met = c.name_in_key-met.ensures ∙ ap key_name c.key.ensures in
    let same : bytes_eq (key_name key) c.args.name.now ≡ true = ap (λ m. bytes_eq m c.args.name.now) (sym met)
    ∙ sym c.eq.ensures ∙ c.if-eq.true in
    sym (c.entries.invariant.same told)
    ∙ ap (named_with c.args.upper.now c.args.name.now c.entries.like) step
    ∙ named-same c.args.upper.now c.args.name.now c.entries.like (record { reference = c.in-Some.entry.reference; key = key }) _ same

pub entries-preserved : goal.entries-preserved
entries-preserved g c =
    let k = c.args.table.now.geometry in
    let upper = c.args.upper.now in
    let name = c.args.name.now in
    let new = c.next.new.self in
    let done = c.in_ok-next.ensures in
    let reads = done.reads c.entries.invariant.sound in
    let same = done.same in
    let entry : IndexEntry = record { reference = c.in-Some.entry.reference; key = new.walk.key } in
    let next = told_still g.G.Image c.args.image.now c.entries.image
    (λ content. IsNextEntry (left_of k content c.entries.directory) (Ok c.in_ok-next.field-0) (left_of k content new) new.walk.key)
    c.entries.invariant.seen (done.told c.entries.invariant.sound) in
    let met = c.name_in_key-met.ensures ∙ ap key_name c.key.ensures in
    let other : bytes_eq (key_name new.walk.key) name ≡ false = ap (λ m. bytes_eq m name) (sym met)
    ∙ sym c.eq.ensures ∙ c.if-eq.false in
    let like : c.like_entry-like.result ≡ or_like c.entries.like (has_like_name upper name entry) entry.reference =
    c.like_entry-like.ensures
    ∙ ap (λ b. or_like c.entries.like b entry.reference) (c.same_name.ensures ∙ ap (λ m. same_name upper m name) met) in
    record {
      on = record {
        readable = subst (λ (s : Stream ℕ). IsReadable k s) (sym same.allocation) c.entries.invariant.on.readable;
        block = same.block ∙ c.entries.invariant.on.block;
      };
      sound = done.sound;
      seen = reads.seen ∙ c.entries.invariant.seen;
      counts = record {
        reads = omega (arith, reads.counts.reads, c.entries.invariant.counts.reads);
        writes = omega (arith, reads.counts.writes, c.entries.invariant.counts.writes);
      };
      same = λ told.
          let step = rw c.in-Some.is at (next told) in
          ap (λ l. named_with upper name l (left_of k (g.G.Image.seen c.args.image.now).content new)) like
          ∙ sym (named-other upper name c.entries.like entry _ other)
          ∙ ap (named_with upper name c.entries.like) (sym step)
          ∙ c.entries.invariant.same told;
    }
