use Rattle.std.proofs.Common.{◌≡◌, ◌≤◌, ◌+◌, ◌∙◌, ap, refl, arith, IsTrue, Err}
use Rattle.std.proofs.lemmas.Result.{err_from_is_err_and}
use Rattle.ntfs_base.proofs.FramesLemmas.{told_still}
use Rattle.ntfs_clone.specs.CloneOf.{volume_of}
use Rattle.ntfs_clone.specs.Copying.{IsCopiedUpTo, copied_up_to}
use Rattle.ntfs_clone.proofs.CopyingLemmas.{up-to-fewer}
use Rattle.ntfs_clone.proofs.WritingLemmas.{same-file, same-then}
use Rattle.ntfs_clone.proofs.copying.copy_rows.Goals as goal

pub rows-init : goal.rows-init
rows-init g c = record {
  least = omega arith;
  most = c.requires.order;
  seen = refl;
  counts = record { reads = omega arith; writes = omega arith };
  writes = record { reads = omega arith; writes = omega arith };
  same = same-file _;
  copied = λ owned all told tells before. before;
}

pub copy_row-requires-clause-size : goal.copy_row-requires-clause-size
copy_row-requires-clause-size g c = c.rows.invariant.same.size ∙ c.requires.size

pub returns-in_err-copy_row-clause-same : goal.returns-in_err-copy_row-clause-same
returns-in_err-copy_row-clause-same g c = same-then _ _ _ c.rows.invariant.same c.in_err-copy_row.ensures.same

pub returns-in_err-copy_row-clause-copied : goal.returns-in_err-copy_row-clause-copied
returns-in_err-copy_row-clause-copied g c owned all told tells before =
    let k = c.args.geometry.now in
    let content = (g.G.Image.seen c.args.image.now).content in
    let target = g.F.Image.seen c.rows.target in
    let p = err_from_is_err_and c.from_residual.result c.from_residual.ensures.1 in
    let within : c.rows.at + c.min-count.result ≤ c.args.end = omega (arith, c.min-count.ensures, c.rows-test.true) in
    let copied = told_still g.G.Image _ _ (λ content. IsTrue target.is_told → target.content ≡ copied_up_to (volume_of k owned content) c.rows.at
    → IsCopiedUpTo {T = Unit {0}} (volume_of k owned content) (c.rows.at + c.min-count.result) (Err c.in_err-copy_row.field-0.0) (g.F.Image.seen c.copy_row.new.target).content)
    c.rows.invariant.seen (c.in_err-copy_row.ensures.copied owned (λ n least most. all n (omega (arith, least, c.rows.invariant.least)) (omega (arith, most, within)))) in
    rw p.1 (up-to-fewer (volume_of k owned content) (c.rows.at + c.min-count.result) c.args.end _ within
    (copied told (c.rows.invariant.same.same.told ∙ tells) (c.rows.invariant.copied owned all told tells before)))

pub rows-preserved : goal.rows-preserved
rows-preserved g c =
    let k = c.args.geometry.now in
    let content = (g.G.Image.seen c.args.image.now).content in
    let target = g.F.Image.seen c.rows.target in
    let within : c.rows.at + c.min-count.result ≤ c.args.end = omega (arith, c.min-count.ensures, c.rows-test.true) in
    let copies = c.in_ok-copy_row.ensures.copies in
    let before = c.rows.invariant in
    record {
      least = omega (arith, before.least);
      most = within;
      seen = copies.seen ∙ before.seen;
      counts = record { reads = omega (arith, copies.counts.reads, before.counts.reads); writes = omega (arith, copies.counts.writes, before.counts.writes) };
      writes = record { reads = omega (arith, copies.writes.reads, before.writes.reads); writes = omega (arith, copies.writes.writes, before.writes.writes) };
      same = same-then _ _ _ before.same c.in_ok-copy_row.ensures.same;
      copied = λ owned all told tells first.
          told_still g.G.Image _ _ (λ content. IsTrue target.is_told → target.content ≡ copied_up_to (volume_of k owned content) c.rows.at
          → (g.F.Image.seen c.copy_row.new.target).content ≡ copied_up_to (volume_of k owned content) (c.rows.at + c.min-count.result))
          before.seen (c.in_ok-copy_row.ensures.copied owned (λ n least most. all n (omega (arith, least, before.least)) (omega (arith, most, within)))) told
          (before.same.same.told ∙ tells) (before.copied owned all told tells first);
    }

pub returns-clause-copied : goal.returns-clause-copied
returns-clause-copied g c owned all told tells before =
    let k = c.args.geometry.now in
    let content = (g.G.Image.seen c.args.image.now).content in
    let last : c.rows.at ≡ c.args.end = omega (arith, c.rows.invariant.most, c.rows-test.false) in
    c.rows.invariant.copied owned all told tells before ∙ ap (copied_up_to (volume_of k owned content)) last
