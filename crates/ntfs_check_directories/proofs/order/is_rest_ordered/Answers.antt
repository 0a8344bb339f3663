use Rattle.std.proofs.Common.{◌≡◌, ◌∙◌, ap, refl, subst, sym, arith, ℕ, Err, Ok, true, false, List}
use Rattle.ntfs_base.proofs.FramesLemmas.{told_still}
use Rattle.ntfs_check_directories.proofs.RowLemmas.{IsRow, name-read, ordered-end, ordered-fault, ordered-refused, ordered-start, ordered-taken, ordered_behind, row-none}
use Rattle.ntfs_check_directories.proofs.order.is_rest_ordered.Goals as goal
use Rattle.ntfs_check_directories.proofs.order.is_rest_ordered.Goals.{in-None, in-Some}
use Rattle.ntfs_check_directories.specs.Row.{name_may_follow, row_of}
use Rattle.ntfs_directory.specs.Entries.{key_name}
use Rattle.ntfs_directory.specs.State.{IsNextEntry, left_of}
use Rattle.ntfs_index.specs.Node.{IndexEntry}
use Rattle.ntfs_rules.proofs.ListLemmas.{uncut}
use Rattle.ntfs_rules.specs.Directories.{name_of}
use Rattle.ntfs_volume.specs.Streams.{IsReadable, Stream}

pub entries-init : goal.entries-init
entries-init g c = record {
  on = c.requires.on;
  sound = c.requires.sound;
  seen = refl;
  counts = record { reads = omega arith; writes = omega arith };
  row = subst (λ (row : List (List ℕ)). IsRow c.args.upper.now row) (sym c.new-row.ensures) (row-none c.args.upper.now);
  same = λ told. ap (λ (row : List (List ℕ)). ordered_behind c.args.upper.now row (left_of c.args.table.now.geometry (g.G.Image.seen c.args.image.now).content c.args.directory.now)) c.new-row.ensures ∙ ordered-start c.args.upper.now _;
}

pub returns-in-Err-clause-found : goal.returns-in-Err-clause-found
returns-in-Err-clause-found g c told = elim c.match-cut_of.branch [
  | in-Some w ↦ rw w.result-is tt
  | in-None w ↦
      let k = c.args.table.now.geometry in
      let upper = c.args.upper.now in
      let fault = c.in-Err.fault in
      let next = told_still g.G.Image c.args.image.now c.entries.image
      (λ content. IsNextEntry (left_of k content c.entries.directory) (Err fault) (left_of k content c.next.new.self) c.next.new.self.walk.key)
      c.entries.invariant.seen (c.in-Err.ensures.told c.entries.invariant.sound) in
      rw w.result-is (sym (sym (c.entries.invariant.same told)
      ∙ ap (ordered_behind upper c.entries.row) (next told (uncut fault (sym c.cut_of.ensures ∙ w.in-None.is)))
      ∙ ordered-fault upper c.entries.row fault))
]

pub returns-in-Ok-None-clause-found : goal.returns-in-Ok-None-clause-found
returns-in-Ok-None-clause-found g c told =
    let k = c.args.table.now.geometry in
    let upper = c.args.upper.now in
    let next = told_still g.G.Image c.args.image.now c.entries.image
    (λ content. IsNextEntry (left_of k content c.entries.directory) (Ok c.in-Ok-None.field-0) (left_of k content c.next.new.self) c.next.new.self.walk.key)
    c.entries.invariant.seen (c.in-Ok-None.ensures.told c.entries.invariant.sound) in
    let end = rw c.in-Ok-None.field-0-is at (next told) in
    sym (sym (c.entries.invariant.same told) ∙ ap (ordered_behind upper c.entries.row) end.0 ∙ ordered-end upper c.entries.row c.entries.invariant.row)

pub returns-then-not-branch-clause-found : goal.returns-then-not-branch-clause-found
returns-then-not-branch-clause-found g c told =
    let k = c.args.table.now.geometry in
    let upper = c.args.upper.now in
    let key = c.next.new.self.walk.key in
    let entry : IndexEntry = record { reference = c.in-Ok-Some.field-0-0.reference; key = key } in
    let next = told_still g.G.Image c.args.image.now c.entries.image
    (λ content. IsNextEntry (left_of k content c.entries.directory) (Ok c.in-Ok-Some.field-0) (left_of k content c.next.new.self) key)
    c.entries.invariant.seen (c.in-Ok-Some.ensures.told c.entries.invariant.sound) in
    let step = rw c.in-Ok-Some.field-0-is at (next told) in
    let read = name-read key _ (c.name_in_key.ensures ∙ ap key_name c.key.ensures) in
    let may : name_may_follow upper c.entries.row (name_of key) ≡ false = ap (name_may_follow upper c.entries.row) (sym read) ∙ sym c.in_ok-take-in-Ok-Some.ensures.may ∙ c.if-not-branch.true in
    sym (sym (c.entries.invariant.same told) ∙ ap (ordered_behind upper c.entries.row) step
    ∙ ordered-refused upper c.entries.row entry (left_of k (g.G.Image.seen c.args.image.now).content c.next.new.self) may)

pub entries-preserved : goal.entries-preserved
entries-preserved g c =
    let k = c.args.table.now.geometry in
    let upper = c.args.upper.now in
    let new = c.next.new.self in
    let key = new.walk.key in
    let done = c.in-Ok-Some.ensures in
    let reads = done.reads c.entries.invariant.sound in
    let same = done.same in
    let entry : IndexEntry = record { reference = c.in-Ok-Some.field-0-0.reference; key = key } in
    let next = told_still g.G.Image c.args.image.now c.entries.image
    (λ content. IsNextEntry (left_of k content c.entries.directory) (Ok c.in-Ok-Some.field-0) (left_of k content new) key)
    c.entries.invariant.seen (done.told c.entries.invariant.sound) in
    let read = name-read key _ (c.name_in_key.ensures ∙ ap key_name c.key.ensures) in
    let may : name_may_follow upper c.entries.row (name_of key) ≡ true = ap (name_may_follow upper c.entries.row) (sym read) ∙ sym c.in_ok-take-in-Ok-Some.ensures.may ∙ c.if-not-branch.false in
    let row : c.take.new.self ≡ row_of upper c.entries.row (name_of key) = c.in_ok-take-in-Ok-Some.ensures.row c.if-not-branch.false ∙ ap (row_of upper c.entries.row) read in
    let taken = ordered-taken upper c.entries.row entry (left_of k (g.G.Image.seen c.args.image.now).content new) c.entries.invariant.row may in
    record {
      on = record {
        readable = subst (λ (s : Stream ℕ). IsReadable k s) (sym same.allocation) c.entries.invariant.on.readable;
        block = same.block ∙ c.entries.invariant.on.block;
      };
      sound = done.sound;
      seen = reads.seen ∙ c.entries.invariant.seen;
      counts = record {
        reads = omega (arith, reads.counts.reads, c.entries.invariant.counts.reads);
        writes = omega (arith, reads.counts.writes, c.entries.invariant.counts.writes);
      };
      row = subst (λ (names : List (List ℕ)). IsRow upper names) (sym row) taken.is;
      same = λ told.
          let step = rw c.in-Ok-Some.field-0-is at (next told) in
          ap (λ (names : List (List ℕ)). ordered_behind upper names (left_of k (g.G.Image.seen c.args.image.now).content new)) row
          ∙ sym taken.same
          ∙ ap (ordered_behind upper c.entries.row) (sym step)
          ∙ c.entries.invariant.same told;
    }
