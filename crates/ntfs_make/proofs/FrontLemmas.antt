-- The writes of the volume lie apart, so those of a front give each byte of the volume or leave it zero.
use Rattle.std.proofs.Common.{◌≡◌, ◌<◌, ◌+◌, ◌*◌, ℕ, IsTrue, length, take, replicate, slice_index, sym, ap, ◌∙◌, subst, arith, inl, inr, ⊎_elim, Result, Ok, Err}
use Rattle.std.specs.Prelude.{OnErr}
use Rattle.std.proofs.lemmas.List.{length-replicate, get_or-replicate}
use Rattle.std.proofs.lemmas.List.FromFn.{get_or-map-range_with_len}
use Rattle.ntfs_base.specs.Image.{ImageState}
use Rattle.ntfs_base.specs.Writes.{content_after, byte_from, Wrote}
use Rattle.ntfs_base.proofs.ContentLemmas.{AllInside, length-content_after, content_after-at, inside-take, told-content_after, front-byte}
use Rattle.ntfs_make.specs.Shape.{IsShape, shape_of}
use Rattle.ntfs_make.specs.Volume.{volume_writes, volume_bytes_of}
use Rattle.ntfs_make.specs.Left.{IsZeroOrMade}
use Rattle.ntfs_make.proofs.LawLemmas.{inside-writes}
use Rattle.ntfs_make.proofs.ApartLemmas.{areas-apart}

pub volume-at : (seed clusters cluster i : ℕ) → i < (clusters + 1) * cluster → slice_index (volume_bytes_of seed clusters cluster) i ≡ byte_from (volume_writes seed clusters cluster) i 0
unfolding volume_bytes_of
volume-at seed clusters cluster i short = get_or-map-range_with_len (λ place. byte_from (volume_writes seed clusters cluster) place 0) 0 ((clusters + 1) * cluster) i i 0 short (omega arith)

volume-inside : (seed clusters cluster : ℕ) → IsShape (shape_of seed clusters cluster) → AllInside ((clusters + 1) * cluster) (volume_writes seed clusters cluster)
unfolding volume_writes
volume-inside seed clusters cluster is = inside-writes (shape_of seed clusters cluster) is

-- a front of the writes over zeros
pub front-left : (seed clusters cluster k : ℕ) → IsShape (shape_of seed clusters cluster) → IsZeroOrMade seed clusters cluster (content_after (take k (volume_writes seed clusters cluster)) (replicate ((clusters + 1) * cluster) 0))
front-left seed clusters cluster k is =
    let ws = volume_writes seed clusters cluster in
    let size = (clusters + 1) * cluster in
    let long : length (replicate size 0) ≡ size = length-replicate size 0 in
    let within : AllInside size (take k ws) = inside-take size ws k (volume-inside seed clusters cluster is) in
    let left_long : length (content_after (take k ws) (replicate size 0)) ≡ size = length-content_after (take k ws) (replicate size 0) size long within in
    record {
      len = left_long;
      bytes = λ (i : ℕ) (below : i < length (content_after (take k ws) (replicate size 0))).
          let short : i < size = subst (λ n. i < n) left_long below in
          let here : slice_index (content_after (take k ws) (replicate size 0)) i ≡ byte_from (take k ws) i 0
          = content_after-at (take k ws) (replicate size 0) size i long within ∙ ap (byte_from (take k ws) i) (get_or-replicate size i 0 0 short) in
          ⊎_elim (λ none. inl (here ∙ none)) (λ given. inr (here ∙ given ∙ sym (volume-at seed clusters cluster i short)))
          (front-byte ws k i (areas-apart seed clusters cluster is));
    }

-- what a call leaves that was to write the volume over zeros, and failed
pub left-given : {E : Type 0} (seed clusters cluster : ℕ) (old new : ImageState) (result : Result (Unit {0}) E) → IsShape (shape_of seed clusters cluster) → Wrote (volume_writes seed clusters cluster) old result new
    → (IsTrue old.is_told → old.content ≡ replicate ((clusters + 1) * cluster) 0) → OnErr result (IsTrue old.is_told → IsZeroOrMade seed clusters cluster new.content)
left-given seed clusters cluster old new (Ok x) range is zero_bytes = tt
left-given seed clusters cluster old new (Err e) range is zero_bytes = λ (told : IsTrue old.is_told).
    let front = take is.part.0 (volume_writes seed clusters cluster) in
    subst (IsZeroOrMade seed clusters cluster) (sym (told-content_after front old new is.part.2 told ∙ ap (content_after front) (zero_bytes told)))
    (front-left seed clusters cluster is.part.0 range)
