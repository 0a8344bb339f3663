-- Areas as they are read back from the volume.
use Rattle.std.proofs.Common.{◌≡◌, ◌≤◌, ◌<◌, ◌+◌, ◌-◌, ◌*◌, ◌/◌, ◌%◌, ◌==◌, ℕ, zero, suc, Bool, true, false, cond, List, [], ◌∷◌, ◌++◌, length, take, drop, map, get_or, slice_index, refl, ap, sym, ◌∙◌, subst, inl, inr, arith, get_or-take, get_or-drop}
use Rattle.std.specs.Prelude.{slice_get, unwrap_or}
use Rattle.std.proofs.Math.Nat.{add-mul, mul-le-mul_right}
use Rattle.std.proofs.lemmas.Bool.Decides.{nat_tests}
use Rattle.std.proofs.lemmas.List.{get_or_past}
use Rattle.ntfs_base.specs.Bytes.{piece_at}
use Rattle.ntfs_base.specs.Writes.{Write, has_byte, byte_from}
use Rattle.ntfs_make.specs.declared.shape.Shape.{Shape}
use Rattle.ntfs_make.specs.declared.table.Area.{Area}
use Rattle.ntfs_make.specs.Shape.{IsShape, shape_of}
use Rattle.ntfs_make.specs.declared.table.AreaRow.{AreaRow}
use Rattle.ntfs_make.specs.Areas.{area_rows, areas_up, areas_down, areas_of, area_at, no_area, area_cluster_count}
use Rattle.ntfs_make.specs.Streams.{area_bytes, content_bytes}
use Rattle.ntfs_make.specs.Volume.{area_write, copy_write, shape_writes, volume_writes, LiesInVolume}
use Rattle.ntfs_make.specs.Laws.{HoldsVcns}
use Rattle.ntfs_make.proofs.AreaLemmas.{AllAreas, all-lie, area-in}
use Rattle.ntfs_make.proofs.LawLemmas.{area-fits}
use Rattle.ntfs_make.proofs.ApartLemmas.{Split, AllSplit, all-split, sectors-behind}
use Rattle.ntfs_make.proofs.FrontLemmas.{volume-at}

-- ---- the byte of the volume at a place of an area

cond-false : (t : Bool) (x y : ℕ) → t ≡ false → cond t x y ≡ y
cond-false true x y is = absurd cc
cond-false false x y is = refl

-- a byte of an area is none of an area that is apart from it
outside : (shape : Shape) (one other : Area) (p : ℕ) → Split one other → one.start * shape.cluster ≤ p → p < (one.start + one.length) * shape.cluster → has_byte (area_write shape other) p ≡ false
outside shape one other p (inl before) from ends =
    let most = mul-le-mul_right shape.cluster before in
    grind (arith, nat_tests)
outside shape one other p (inr behind) from ends =
    let most = mul-le-mul_right shape.cluster behind in
    let fits = area-fits shape other in
    let both = add-mul other.start other.length shape.cluster in
    grind (arith, nat_tests)

-- nor of the copy of the boot sector
outside-copy : (shape : Shape) (one : Area) (p : ℕ) → IsShape shape → LiesInVolume shape one → p < (one.start + one.length) * shape.cluster → has_byte (copy_write shape) p ≡ false
outside-copy shape one p is lies ends =
    let most = mul-le-mul_right shape.cluster lies.clusters in
    let behind = sectors-behind shape is in
    grind (arith, nat_tests)

stays : (shape : Shape) (one : Area) (areas : List Area) (p byte : ℕ) → IsShape shape → LiesInVolume shape one → AllAreas (Split one) areas → one.start * shape.cluster ≤ p → p < (one.start + one.length) * shape.cluster
    → byte_from (map (area_write shape) areas ++ copy_write shape ∷ []) p byte ≡ byte
stays shape one [] p byte is lies split from ends = cond-false (has_byte (copy_write shape) p) _ byte (outside-copy shape one p is lies ends)
stays shape one (area ∷ areas) p byte is lies split from ends =
    stays shape one areas p _ is lies split.1 from ends
    ∙ cond-false (has_byte (area_write shape area) p) _ byte (outside shape one area p split.0 from ends)

split-sym : (one other : Area) → Split one other → Split other one
split-sym one other (inl before) = inr before
split-sym one other (inr behind) = inl behind

own : (w : Write) (p : ℕ) → w.place ≤ p → cond (has_byte w p) (slice_index w.bytes (p - w.place)) 0 ≡ slice_index w.bytes (p - w.place)
own w p from = of (has_byte w p) refl
  where
    of : (t : Bool) → has_byte w p ≡ t → cond t (slice_index w.bytes (p - w.place)) 0 ≡ slice_index w.bytes (p - w.place)
    of true is = refl
    of false is = let past : length w.bytes ≤ p - w.place = grind (arith, nat_tests) in sym (get_or_past w.bytes (p - w.place) 0 past)

area-byte : (shape : Shape) (areas : List Area) (i : ℕ) (d : Area) (p : ℕ) → IsShape shape → AllAreas (LiesInVolume shape) areas → AllSplit areas → i < length areas
    → (get_or areas i d).start * shape.cluster ≤ p → p < ((get_or areas i d).start + (get_or areas i d).length) * shape.cluster
    → byte_from (map (area_write shape) areas ++ copy_write shape ∷ []) p 0 ≡ slice_index (area_bytes shape (get_or areas i d)) (p - (get_or areas i d).start * shape.cluster)
area-byte shape [] i d p is lie split within from ends = absurd (omega arith)
area-byte shape (area ∷ areas) zero d p is lie split within from ends =
    stays shape area areas p _ is lie.0 split.0 from ends ∙ own (area_write shape area) p from
area-byte shape (area ∷ areas) (suc i) d p is lie split within from ends =
    let here : i < length areas = omega arith in
    let apart = split-sym area (get_or areas i d) (area-in (Split area) areas i d split.0 here) in
    ap (byte_from (map (area_write shape) areas ++ copy_write shape ∷ []) p) (cond-false (has_byte (area_write shape area) p) _ 0 (outside shape (get_or areas i d) area p apart from ends))
    ∙ area-byte shape areas i d p is lie.1 split.1 here from ends

-- ---- an area has its VCNs

length-up : (shape : Shape) (start : ℕ) (rows : List AreaRow) → length (areas_up shape start rows) ≡ length rows
length-up shape start [] = refl
length-up shape start (row ∷ rows) = ap suc (length-up shape (start + (area_cluster_count shape row.length + 1)) rows)

length-down : (shape : Shape) (bound : ℕ) (rows : List AreaRow) → length (areas_down shape bound rows) ≡ length rows
length-down shape bound [] = refl
length-down shape bound (row ∷ rows) = ap suc (length-down shape (bound - (area_cluster_count shape row.length + 1)) rows)

length-either : (shape : Shape) (t : Bool) → length (cond t (areas_up shape 0 area_rows) (areas_up shape 0 (take 1 area_rows) ++ areas_down shape (shape.clusters + 1) (drop 1 area_rows))) ≡ 29
unfolding area_rows
length-either shape true = refl
length-either shape false = refl

pub length-areas : (shape : Shape) → length (areas_of shape) ≡ 29
unfolding areas_of
length-areas shape = length-either shape (shape.seed / 2 % 2 == 0)

area-at : (shape : Shape) (number : ℕ) → number < 29 → area_at shape number ≡ get_or (areas_of shape) number no_area
unfolding area_at
area-at shape number few = of (areas_of shape) number (omega (arith, length-areas shape))
  where
    of : (areas : List Area) (i : ℕ) → i < length areas → unwrap_or (slice_get areas i) no_area ≡ get_or areas i no_area
    of [] i within = absurd (omega arith)
    of (area ∷ areas) zero within = refl
    of (area ∷ areas) (suc i) within = of areas i (omega arith)

piece-index : (from count k : ℕ) (bytes : List ℕ) → k < count → slice_index (piece_at from count bytes) k ≡ slice_index bytes (from + k)
unfolding piece_at
piece-index from count k bytes within = get_or-take count (drop from bytes) k 0 within ∙ get_or-drop from bytes k 0

holds-area : (shape : Shape) (i : ℕ) → IsShape shape → i < 29 → HoldsVcns shape (get_or (areas_of shape) i no_area)
unfolding area_bytes volume_writes shape_writes
holds-area shape i is few = λ (k : ℕ) (within : k < (get_or (areas_of shape) i no_area).length * shape.cluster).
    let area = get_or (areas_of shape) i no_area in
    let c = shape.cluster in
    let there : i < length (areas_of shape) = omega (arith, length-areas shape) in
    let lies : LiesInVolume shape area = area-in (LiesInVolume shape) (areas_of shape) i no_area (all-lie shape is) there in
    let both = add-mul area.start area.length c in
    let most = mul-le-mul_right c lies.clusters in
    let next = add-mul shape.clusters 1 c in
    let short : area.start * c + k < (shape.clusters + 1) * c = omega arith in
    let left : area.start * c + k - area.start * c ≡ k = omega arith in
    volume-at shape.seed shape.clusters c (area.start * c + k) short
    ∙ area-byte shape (areas_of shape) i no_area (area.start * c + k) is (all-lie shape is) (all-split shape is) there (omega arith) (omega arith)
    ∙ ap (slice_index (area_bytes shape area)) left
    ∙ piece-index (area.first_vcn * c) (area.length * c) k (content_bytes shape area.content) within

pub lies-number : (shape : Shape) (number : ℕ) → IsShape shape → number < 29 → LiesInVolume shape (area_at shape number)
lies-number shape number is few =
    let there : number < length (areas_of shape) = omega (arith, length-areas shape) in
    subst (LiesInVolume shape) (sym (area-at shape number few)) (area-in (LiesInVolume shape) (areas_of shape) number no_area (all-lie shape is) there)

pub holds-number : (shape : Shape) (number : ℕ) → IsShape shape → number < 29 → HoldsVcns shape (area_at shape number)
holds-number shape number is few = subst (HoldsVcns shape) (sym (area-at shape number few)) (holds-area shape number is few)

pub holds-vcns : (seed clusters cluster number : ℕ) → IsShape (shape_of seed clusters cluster) → number < 29 → HoldsVcns (shape_of seed clusters cluster) (area_at (shape_of seed clusters cluster) number)
holds-vcns seed clusters cluster number is few = holds-number (shape_of seed clusters cluster) number is few
