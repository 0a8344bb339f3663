-- The clusters of the areas and the bad one have one owner each, the others none.
use Rattle.std.proofs.Common.{◌≡◌, ◌≤◌, ◌+◌, ◌==◌, ◌||◌, ℕ, Bool, true, false, List, None, refl, sym, ap, ◌∙◌, arith}
use Rattle.std.proofs.lemmas.Bool.{eqb-true, false≢true}
use Rattle.std.proofs.lemmas.Bool.Decides.{nat_tests}
use Rattle.ntfs_record.specs.FileRecord.{Laid}
use Rattle.ntfs_record.specs.Slots.{Slot}
use Rattle.ntfs_rules.proofs.OwnedLemmas.{claims-are}
use Rattle.ntfs_rules.specs.Accepts.{claims_in}
use Rattle.ntfs_rules.specs.Clusters.{c8, count_if, times}
use Rattle.ntfs_survey.specs.Owned.{owned}
use Rattle.ntfs_volume.specs.Located.{Located, with_cells}
use Rattle.ntfs_make.specs.declared.shape.Shape.{Shape}
use Rattle.ntfs_make.specs.Areas.{area_at, areas_of, no_area}
use Rattle.ntfs_make.specs.Rows.{rows}
use Rattle.ntfs_make.specs.Shape.{IsShape, bad_cluster}
use Rattle.ntfs_make.specs.Streams.{has_area}
use Rattle.ntfs_make.proofs.ApartLemmas.{all-split}
use Rattle.ntfs_make.proofs.ReadLemmas.{length-areas}
use Rattle.ntfs_made_map.specs.Opened.{made_geometry, made_opened}
use Rattle.ntfs_made.specs.Data.{has_owner, made_cluster, made_data, made_slots}
use Rattle.ntfs_made.proofs.ClaimLemmas.{AllHaveCells, area_hit, bad_hit, rows-times}
use Rattle.ntfs_made.proofs.CountLemmas.{area-once, area_hits, hits-numbered, is_within, none-has, single-none, sum_below}
use Rattle.ntfs_made.proofs.RoomLemmas.{bad-avoided}
use Rattle.ntfs_made.proofs.RuleLemmas.{IsRead}
use Rattle.ntfs_made.proofs.TableLemmas.{each-area}

-- ---- areas

areas-hit : (shape : Shape) (k : ℕ) → sum_below (area_hit shape k) 29 ≡ area_hits k (areas_of shape)
unfolding area_at
areas-hit shape k = ap (sum_below (area_hit shape k)) (sym (length-areas shape)) ∙ hits-numbered k no_area (areas_of shape)

bad-free : (shape : Shape) → IsShape shape → has_area (areas_of shape) (bad_cluster shape.clusters) ≡ false
bad-free shape is = none-has (bad_cluster shape.clusters) (areas_of shape) (bad-avoided shape is)

bad-same : (k bad : ℕ) → count_if (is_within bad 1 k) ≡ count_if (k == bad)
bad-same k bad = grind (arith, nat_tests)

-- of two tests one holds at most
count-either : (a b : Bool) → (b ≡ true → a ≡ false) → count_if a + count_if b ≡ count_if (a || b)
count-either true true not_both = absurd (false≢true (sym (not_both refl)))
count-either true false not_both = refl
count-either false true not_both = refl
count-either false false not_both = refl

owner-counts : (shape : Shape) (k : ℕ) → IsShape shape → area_hits k (areas_of shape) + bad_hit shape k ≡ count_if (has_owner shape k)
owner-counts shape k is =
    let once = area-once k (areas_of shape) (all-split shape is) in
    let bad = bad-same k (bad_cluster shape.clusters) in
    ap (λ n. n + bad_hit shape k) once
    ∙ ap (λ n. count_if (has_area (areas_of shape) k) + n) bad
    ∙ count-either (has_area (areas_of shape) k) (k == bad_cluster shape.clusters)
    (λ here. ap (has_area (areas_of shape)) (eqb-true k (bad_cluster shape.clusters) here) ∙ bad-free shape is)

-- ---- claims

rows-owned : (shape : Shape) (k : ℕ) → AllHaveCells shape rows → times k (owned (with_cells shape.clusters (made_slots shape))) ≡ area_hits k (areas_of shape) + bad_hit shape k
unfolding with_cells
rows-owned shape k have =
    rows-times shape k 0 rows have
    ∙ each-area (area_hit shape k) (bad_hit shape k)
    ∙ ap (λ n. n + bad_hit shape k) (areas-hit shape k)

claims-made : (shape : Shape) (k : ℕ) → IsRead shape → times k (claims_in (made_data shape)) ≡ times k (owned (with_cells shape.clusters (made_slots shape)))
unfolding made_opened made_geometry
claims-made shape k is =
    ap (times k) (claims-are (made_opened shape) (made_cluster shape))
    ∙ ap (λ (slots : List (Slot (Located (Laid (List ℕ))))). times k (owned (with_cells shape.clusters slots))) is.slots

pub made-owned : (shape : Shape) (k : ℕ) → IsShape shape → IsRead shape → times k (claims_in (made_data shape)) ≡ count_if (has_owner shape k)
made-owned shape k is read = claims-made shape k read ∙ rows-owned shape k read.cells ∙ owner-counts shape k is

one-at-most : (t : Bool) → count_if t ≤ 1
one-at-most true = omega arith
one-at-most false = omega arith

pub made-once : (shape : Shape) → IsShape shape → IsRead shape → c8 (claims_in (made_data shape)) ≡ None
made-once shape is read =
    single-none (claims_in (made_data shape)) (λ k.
    let one = one-at-most (has_owner shape k) in
    let counted = made-owned shape k is read in
    omega (arith, one, counted))
