use Rattle.std.proofs.Common.{◌≡◌, ◌∙◌, ap, refl, arith, IsTrue, Err}
use Rattle.std.proofs.lemmas.Result.{err_from_is_err_and}
use Rattle.ntfs_base.proofs.FramesLemmas.{told_still}
use Rattle.ntfs_clone.specs.CloneOf.{volume_of}
use Rattle.ntfs_clone.specs.Copying.{IsCopiedUpTo, copied_up_to}
use Rattle.ntfs_clone.proofs.CopyingLemmas.{up-to-fewer, up-to-free}
use Rattle.ntfs_clone.proofs.WritingLemmas.{same-file, same-then}
use Rattle.ntfs_clone.proofs.copying.copy_stretches.Goals as goal

pub stretches-init : goal.stretches-init
stretches-init g c = record {
  most = omega arith;
  seen = refl;
  counts = record { reads = omega arith; writes = omega arith };
  writes = record { reads = omega arith; writes = omega arith };
  same = same-file _;
  copied = λ told tells before. before;
}

pub copy_rows-requires-clause-size : goal.copy_rows-requires-clause-size
copy_rows-requires-clause-size g c = c.stretches.invariant.same.size ∙ c.requires.size

pub returns-in_err-copy_rows-clause-same : goal.returns-in_err-copy_rows-clause-same
returns-in_err-copy_rows-clause-same g c = same-then _ _ _ c.stretches.invariant.same c.in_err-copy_rows.ensures.same

pub returns-in_err-copy_rows-clause-copied : goal.returns-in_err-copy_rows-clause-copied
returns-in_err-copy_rows-clause-copied g c told tells before =
    let k = c.args.geometry.now in
    let owned = c.args.owned.now in
    let content = (g.G.Image.seen c.args.image.now).content in
    let target = g.F.Image.seen c.stretches.target in
    let s = c.stretch_from-stretch in
    let p = err_from_is_err_and c.from_residual.result c.from_residual.ensures.1 in
    let copied = told_still g.G.Image _ _ (λ content. IsTrue target.is_told → target.content ≡ copied_up_to (volume_of k owned content) c.stretches.from
    → IsCopiedUpTo {T = Unit {0}} (volume_of k owned content) s.result.free (Err c.in_err-copy_rows.field-0.0) (g.F.Image.seen c.copy_rows.new.target).content)
    c.stretches.invariant.seen (c.in_err-copy_rows.ensures.copied owned s.ensures.is_owned) in
    rw p.1 (up-to-fewer (volume_of k owned content) s.result.free k.clusters _ (omega (arith, s.ensures.behind, s.ensures.within))
    (copied told (c.stretches.invariant.same.same.told ∙ tells) (c.stretches.invariant.copied told tells before)))

pub stretches-preserved : goal.stretches-preserved
stretches-preserved g c =
    let k = c.args.geometry.now in
    let owned = c.args.owned.now in
    let content = (g.G.Image.seen c.args.image.now).content in
    let target = g.F.Image.seen c.stretches.target in
    let s = c.stretch_from-stretch in
    let copies = c.in_ok-copy_rows.ensures.copies in
    let before = c.stretches.invariant in
    record {
      most = s.ensures.within;
      seen = copies.seen ∙ before.seen;
      counts = record { reads = omega (arith, copies.counts.reads, before.counts.reads); writes = omega (arith, copies.counts.writes, before.counts.writes) };
      writes = record { reads = omega (arith, copies.writes.reads, before.writes.reads); writes = omega (arith, copies.writes.writes, before.writes.writes) };
      same = same-then _ _ _ before.same c.in_ok-copy_rows.ensures.same;
      copied = λ told tells first.
          told_still g.G.Image _ _ (λ content. IsTrue target.is_told → target.content ≡ copied_up_to (volume_of k owned content) c.stretches.from
          → (g.F.Image.seen c.copy_rows.new.target).content ≡ copied_up_to (volume_of k owned content) s.result.free)
          before.seen (c.in_ok-copy_rows.ensures.copied owned s.ensures.is_owned) told
          (before.same.same.told ∙ tells) (before.copied told tells first)
          ∙ up-to-free (volume_of k owned content) s.result.free s.result.end s.ensures.behind s.ensures.is_free;
    }

pub returns-clause-copied : goal.returns-clause-copied
returns-clause-copied g c told tells before =
    let k = c.args.geometry.now in
    let content = (g.G.Image.seen c.args.image.now).content in
    let last : c.stretches.from ≡ k.clusters = omega (arith, c.stretches.invariant.most, c.stretches-test.false) in
    c.stretches.invariant.copied told tells before ∙ ap (copied_up_to (volume_of k c.args.owned.now content)) last
