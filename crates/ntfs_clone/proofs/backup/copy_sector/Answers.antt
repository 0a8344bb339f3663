use Rattle.std.proofs.Common.{◌≡◌, ◌≤◌, ◌+◌, ◌-◌, ◌*◌, List, ℕ, length, take, refl, sym, ap, ◌∙◌, subst, arith}
use Rattle.std.proofs.lemmas.List.{length-take, take_all}
use Rattle.std.specs.Prelude.{slice_range}
use Rattle.ntfs_base.specs.Bytes.{overwrite}
use Rattle.ntfs_base.specs.Image.{ImageState}
use Rattle.ntfs_clone.specs.Writing.{IsSameFile, Makes}
use Rattle.ntfs_clone.proofs.WritingLemmas.{makes-wrote, same-wrote}
use Rattle.ntfs_clone.proofs.backup.copy_sector.Goals as goal

-- the front of a buffer of 4,096 bytes
read-length : (n : ℕ) (buffer into : List ℕ) → length into ≡ length (take n buffer) → length buffer ≡ 4096 → n ≤ 4096 → length into ≡ n
read-length n buffer into same size within = let e = length-take n buffer in omega (arith, same, size, e)

-- what was read from the front
read-front : (content into : List ℕ) (n k : ℕ) → into ≡ slice_range content 0 (0 + n) → n ≡ k → into ≡ take k content
read-front content into n k is same = is ∙ ap (λ m. take m content) (let e : 0 + n - 0 ≡ k = omega (arith, same) in e)

pub returns-clause-makes : goal.returns-clause-makes
returns-clause-makes g c told =
    let k = c.args.geometry.now in
    let old = g.F.Image.seen c.args.target.now in
    let mid = g.F.Image.seen c.read_at.new.self in
    let new = g.F.Image.seen c.write_within.new.target in
    let text = take k.sector old.content in
    let seen : mid ≡ old = c.in_ok-read_at.ensures.seen in
    let size = read-length k.sector _ _ c.read_at.auto.into refl (omega (arith, c.requires.good.most_sector)) in
    let read : c.read_at.new.into ≡ text = read-front old.content c.read_at.new.into _ k.sector (c.in_ok-read_at.ensures.bytes told) (sym c.read_at.auto.into ∙ size) in
    let fits : k.sector ≤ c.args.device - k.sectors * c.from.result = let e = ap (λ x. k.sectors * x) c.from.ensures in omega (arith, e, c.requires.inside) in
    let m : Makes (overwrite (k.sectors * c.from.result) text mid.content) mid.content c.write_within.result new.content =
    makes-wrote _ text mid new c.write_within.result c.write_within.ensures.wrote (ap (λ (s : ImageState). s.is_told) seen ∙ told) (take_all (c.args.device - k.sectors * c.from.result) c.read_at.new.into (omega (arith, size, fits)) ∙ read) in
    let n = subst (λ (s : ImageState). Makes (overwrite (k.sectors * c.from.result) text s.content) s.content c.write_within.result new.content) seen m in
    subst (λ (x : ℕ). Makes (overwrite (k.sectors * x) text old.content) old.content c.write_within.result new.content) c.from.ensures n

pub returns-clause-same : goal.returns-clause-same
returns-clause-same g c = subst (λ (s : ImageState). IsSameFile s (g.F.Image.seen c.write_within.new.target)) c.in_ok-read_at.ensures.seen (same-wrote _ _ _ _ c.write_within.ensures.wrote)
