-- The clusters of an extent of the table, and how large its numbers are.
use Rattle.std.proofs.Common.{◌≡◌, ◌≤◌, ◌<◌, ◌+◌, ◌-◌, ◌*◌, ◌^◌, ◌==◌, ◌&&◌, ℕ, zero, suc, List, [], ◌∷◌, ◌++◌, length, Bool, true, false, cond, nat_le, nat_lt, refl, sym, ap, ◌∙◌, arith}
use Rattle.std.specs.Prelude.{IfSome, Option, Some, None, slice_get, unwrap_or}
use Rattle.std.specs.List.{AllByRecursion}
use Rattle.std.proofs.lemmas.Bool.{and_parts, eqb-true, le-leb, leb-true, ltb-true}
use Rattle.std.proofs.lemmas.List.{length-append}
use Rattle.ntfs_runs.specs.declared.run.Run.{Run}
use Rattle.ntfs_runs.specs.Canon.{AreCells}
use Rattle.ntfs_runs.specs.Cells.{are_cells, cells_below, cells_of}
use Rattle.ntfs_runs.specs.Clusters.{row, vcns}
use Rattle.ntfs_runs.proofs.CellsLemmas.{are_cells-append, are_cells-none, are_cells-some, length-row}
use Rattle.ntfs_runs.proofs.LawLemmas.{canon-read}
use Rattle.ntfs_make.specs.declared.shape.Shape.{Shape}
use Rattle.ntfs_make.specs.declared.table.Area.{Area}
use Rattle.ntfs_make.specs.declared.table.Extent.{Extent}
use Rattle.ntfs_make.specs.declared.table.PlannedRun.{PlannedRun}
use Rattle.ntfs_make.specs.declared.table.PlannedRun.TheVariants.{NoRun, InArea, Holes, BeforeBad, Bad, BehindBad}
use Rattle.ntfs_make.specs.declared.table.Size.{Size}
use Rattle.ntfs_make.specs.declared.table.Size.TheVariants as a_size
use Rattle.ntfs_make.specs.Areas.{area_at, areas_of, no_area}
use Rattle.ntfs_make.specs.Attributes.{allocated_size_of, extent_lowest, extent_next}
use Rattle.ntfs_make.specs.Extents.{extent_runs, pairs_of, planned_runs, run_of, size_bytes, unless_empty, vcn_count}
use Rattle.ntfs_make.specs.Shape.{IsShape}
use Rattle.ntfs_make.specs.Volume.{LiesInVolume}
use Rattle.ntfs_make.proofs.AreaLemmas.{AllAreas, all-lie}
use Rattle.ntfs_make.proofs.RunsLemmas.{IsShort, canon-short, few, spellable}
use Rattle.ntfs_make.proofs.ShapeLemmas.{bad_cluster-twice, bitmap_size-le, bounds, times-fits}
use Rattle.ntfs_made_records.specs.Made.{HasMadeCells, made_pairs}
use Rattle.ntfs_made_records.proofs.PaddingLemmas.{padding-of}

-- ---- one run

-- a planned run that is short whatever the volume
abbrev pub is_short : PlannedRun → Bool
is_short NoRun = true
is_short (InArea number) = true
is_short (Holes count) = nat_le count 65536
is_short BeforeBad = true
is_short Bad = true
is_short BehindBad = true

-- a run of few clusters, all of the volume, or holes
pub record IsFew (shape : Shape) (run : Run) : Type 0 where
  pub length : run.length ≤ 2 ^ 20
  pub within : IfSome run.lcn (λ lcn. lcn + run.length ≤ shape.clusters)

lies-in : (shape : Shape) (areas : List Area) (number : ℕ) → AllAreas (LiesInVolume shape) areas
    → LiesInVolume shape (unwrap_or (slice_get areas number) no_area)
lies-in shape [] number lie = record { small = omega arith; first = omega arith; clusters = omega arith }
lies-in shape (area ∷ areas) zero lie = lie.0
lies-in shape (area ∷ areas) (suc number) lie = lies-in shape areas number lie.1

pub lies-at : (shape : Shape) (number : ℕ) → IsShape shape → LiesInVolume shape (area_at shape number)
unfolding area_at
lies-at shape number is = lies-in shape (areas_of shape) number (all-lie shape is)

pub run-few : (shape : Shape) (planned : PlannedRun) → IsShape shape → is_short planned ≡ true
    → IsFew shape (run_of shape planned)
unfolding run_of
run-few shape NoRun is short = record { length = omega arith; within = tt }
run-few shape (InArea number) is short =
    let b = bounds shape is in
    let lies = lies-at shape number is in
    record { length = omega (arith, lies.clusters, b.limit); within = lies.clusters }
run-few shape (Holes count) is short =
    let most = leb-true count 65536 short in record { length = omega arith; within = tt }
run-few shape BeforeBad is short =
    let b = bounds shape is in
    let bad = bad_cluster-twice shape.clusters in
    record { length = omega (arith, b.limit); within = tt }
run-few shape Bad is short =
    let b = bounds shape is in
    let bad = bad_cluster-twice shape.clusters in
    record { length = omega arith; within = omega (arith, b.clusters) }
run-few shape BehindBad is short = let b = bounds shape is in record { length = omega (arith, b.limit); within = tt }

if-some : (lcn : Option ℕ) (P Q : ℕ → Type 0) → ((l : ℕ) → P l → Q l) → IfSome lcn P → IfSome lcn Q
if-some None P Q then is = tt
if-some (Some l) P Q then is = then l is

few-short : (shape : Shape) (run : Run) → IsShape shape → IsFew shape run → IsShort run
few-short shape run is small =
    let b = bounds shape is in
    record {
      length = omega (arith, small.length);
      lcn = if-some run.lcn (λ l. l + run.length ≤ shape.clusters) (λ l. l ≤ 2 ^ 48) (λ l h. omega (arith, b.limit))
          small.within;
    }

row-below : (n count : ℕ) (lcn : Option ℕ) → IfSome lcn (λ l. l + count ≤ n) → are_cells true n (row count lcn) ≡ true
row-below n count None is = are_cells-none true n count
row-below n count (Some l) is = are_cells-some true n l count ∙ le-leb count (n - l) (omega arith)

-- ---- three runs

-- an empty run has no cells
cells-unless : (run : Run) (rest : List Run) → vcns (unless_empty run ++ rest) ≡ row run.length run.lcn ++ vcns rest
unfolding vcns row
cells-unless run rest = of (run.length == 0) refl
  where
    of : (t : Bool) → (run.length == 0) ≡ t → vcns (cond t [] (run ∷ []) ++ rest) ≡ row run.length run.lcn ++ vcns rest
    of true is =
        let none : run.length ≡ 0 = eqb-true run.length 0 is in
        ap (λ n. row n run.lcn ++ vcns rest) (sym none)
    of false is = refl

-- the cells of three runs
abbrev cells_of_three : Run → Run → Run → List (Option ℕ)
cells_of_three a b c =
    row a.length a.lcn ++ (row b.length b.lcn ++ (row c.length c.lcn ++ []))

three-cells : (a b c : Run)
    → vcns (unless_empty a ++ (unless_empty b ++ (unless_empty c ++ []))) ≡ cells_of_three a b c
unfolding vcns
three-cells a b c =
    cells-unless a (unless_empty b ++ (unless_empty c ++ []))
    ∙ ap (λ cells. row a.length a.lcn ++ cells) (cells-unless b (unless_empty c ++ [])
    ∙ ap (λ cells. row b.length b.lcn ++ cells) (cells-unless c []))

length-three : (a b c : Run) → length (cells_of_three a b c) ≡ a.length + b.length + c.length
length-three a b c =
    let first = length-row a.length a.lcn in
    let second = length-row b.length b.lcn in
    let third = length-row c.length c.lcn in
    simp length-append (omega arith)

three-below : (shape : Shape) (a b c : Run) → IsFew shape a → IsFew shape b → IsFew shape c
    → are_cells true shape.clusters (cells_of_three a b c) ≡ true
unfolding are_cells
three-below shape a b c few_a few_b few_c =
    let n = shape.clusters in
    let first = row-below n a.length a.lcn few_a.within in
    let second = row-below n b.length b.lcn few_b.within in
    let third = row-below n c.length c.lcn few_c.within in
    are_cells-append true n (row a.length a.lcn) (row b.length b.lcn ++ (row c.length c.lcn ++ []))
    ∙ rw first (are_cells-append true n (row b.length b.lcn) (row c.length c.lcn ++ [])
    ∙ rw second (are_cells-append true n (row c.length c.lcn) [] ∙ rw third refl))

-- cells of a volume can be spelled
cells-low : (n : ℕ) (cells : List (Option ℕ)) → n ≤ 2 ^ 48 → are_cells true n cells ≡ true
    → AllByRecursion (λ cell. IfSome cell (λ k. k ≤ 2 ^ 48)) cells
unfolding are_cells
cells-low n [] few are = tt
cells-low n (None ∷ cells) few are = (tt, cells-low n cells few are)
cells-low n (Some k ∷ cells) few are =
    let both = and_parts (nat_lt k n) (are_cells true n cells) are in
    let here = ltb-true k n both.0 in
    (omega arith, cells-low n cells few both.1)

-- ---- extents

-- a size that is small whatever the volume
abbrev pub is_small : Size → Bool
is_small (a_size.Exact count) = nat_lt count (2 ^ 32)
is_small (a_size.Clusters count) = nat_lt count (2 ^ 32)
is_small (a_size.ClusterAnd count) = nat_lt count (2 ^ 32)
is_small (a_size.InArea number) = true
is_small a_size.Bitmap = true
is_small a_size.Volume = true

size-small : (shape : Shape) (size : Size) → IsShape shape → is_small size ≡ true → size_bytes shape size < 2 ^ 64
unfolding size_bytes
size-small shape (a_size.Exact count) is small = let most = ltb-true count (2 ^ 32) small in omega arith
size-small shape (a_size.Clusters count) is small =
    let b = bounds shape is in
    let most = ltb-true count (2 ^ 32) small in
    let fits = times-fits count shape.cluster (omega arith) b.most in
    omega arith
size-small shape (a_size.ClusterAnd count) is small =
    let b = bounds shape is in let most = ltb-true count (2 ^ 32) small in omega (arith, b.most)
size-small shape (a_size.InArea number) is small =
    let b = bounds shape is in
    let lies = lies-at shape number is in
    let fits = times-fits (area_at shape number).length shape.cluster (omega (arith, lies.clusters, b.limit)) b.most in
    omega arith
size-small shape a_size.Bitmap is small =
    let b = bounds shape is in let bits = bitmap_size-le shape.clusters in omega (arith, b.limit)
size-small shape a_size.Volume is small =
    let b = bounds shape is in
    let fits = times-fits shape.clusters shape.cluster (omega (arith, b.limit)) b.most in
    omega arith

-- an extent whose numbers are small whatever the volume
abbrev pub is_small_extent : Extent → Bool
is_small_extent extent =
    (is_short extent.before && (is_short extent.first && (is_short extent.second
    && (is_short extent.third && is_short extent.behind))))
    && ((is_small extent.size && is_small extent.initialised)
    && (nat_lt extent.flags 65536 && nat_lt extent.unit 65536))

pub record SmallParts (extent : Extent) : Type 0 where
  pub before : is_short extent.before ≡ true
  pub first : is_short extent.first ≡ true
  pub second : is_short extent.second ≡ true
  pub third : is_short extent.third ≡ true
  pub behind : is_short extent.behind ≡ true
  pub size : is_small extent.size ≡ true
  pub initialised : is_small extent.initialised ≡ true
  pub flags : extent.flags < 65536
  pub unit : extent.unit < 65536

small-parts : (extent : Extent) → is_small_extent extent ≡ true → SmallParts extent
small-parts extent small =
    let all = and_parts _ _ small in
    let a = and_parts _ _ all.0 in
    let b = and_parts _ _ a.1 in
    let c = and_parts _ _ b.1 in
    let d = and_parts _ _ c.1 in
    let e = and_parts _ _ all.1 in
    let f = and_parts _ _ e.0 in
    let g = and_parts _ _ e.1 in
    record {
      before = a.0;
      first = b.0;
      second = c.0;
      third = d.0;
      behind = d.1;
      size = f.0;
      initialised = f.1;
      flags = ltb-true extent.flags 65536 g.0;
      unit = ltb-true extent.unit 65536 g.1;
    }

-- what follows for an extent on a volume
pub record IsPlanned (shape : Shape) (extent : Extent) : Type 0 where
  pub pairs : length (pairs_of shape (planned_runs extent)) ≤ 64
  pub lowest : extent_lowest shape extent ≤ 2 ^ 40
  pub next : extent_next shape extent ≤ 2 ^ 40
  pub allocated : allocated_size_of shape extent < 2 ^ 64
  pub size : size_bytes shape extent.size < 2 ^ 64
  pub initialised : size_bytes shape extent.initialised < 2 ^ 64
  pub flags : extent.flags < 65536
  pub unit : extent.unit < 65536
  pub cells : HasMadeCells shape extent

pairs-short : (shape : Shape) (extent : Extent) → IsShape shape → SmallParts extent
    → length (pairs_of shape (planned_runs extent)) ≤ 64
unfolding pairs_of extent_runs
pairs-short shape extent is small =
    let a = run_of shape extent.first in
    let b = run_of shape extent.second in
    let c = run_of shape extent.third in
    let first = few-short shape a is (run-few shape extent.first is small.first) in
    let second = few-short shape b is (run-few shape extent.second is small.second) in
    let third = few-short shape c is (run-few shape extent.third is small.third) in
    canon-short (unless_empty a ++ (unless_empty b ++ (unless_empty c ++ []))) (spellable a b c first second third)
    (few a b c)

count-is : (shape : Shape) (extent : Extent)
    → vcn_count shape (planned_runs extent)
    ≡ (run_of shape extent.first).length + (run_of shape extent.second).length + (run_of shape extent.third).length
unfolding vcn_count
count-is shape extent = omega arith

-- how many VCNs an extent has with those behind it
abbrev vcns_from : Shape → Extent → ℕ
vcns_from shape extent = vcn_count shape (planned_runs extent) + (run_of shape extent.behind).length

allocated-small : (shape : Shape) (extent : Extent) → IsShape shape → SmallParts extent
    → allocated_size_of shape extent < 2 ^ 64
unfolding allocated_size_of
allocated-small shape extent is small = of (extent_lowest shape extent == 0)
  where
    of : (t : Bool) → cond t (vcns_from shape extent * shape.cluster) 0 < 2 ^ 64
    of true =
        let b = bounds shape is in
        let first = run-few shape extent.first is small.first in
        let second = run-few shape extent.second is small.second in
        let third = run-few shape extent.third is small.third in
        let behind = run-few shape extent.behind is small.behind in
        let count = count-is shape extent in
        let fits = times-fits (vcns_from shape extent) shape.cluster
        (omega (arith, first.length, second.length, third.length, behind.length)) b.most in
        omega arith
    of false = omega arith

-- the cells of an extent
cells-are : (shape : Shape) (extent : Extent)
    → vcns (extent_runs shape (planned_runs extent))
    ≡ cells_of_three (run_of shape extent.first) (run_of shape extent.second) (run_of shape extent.third)
unfolding extent_runs
cells-are shape extent =
    three-cells (run_of shape extent.first) (run_of shape extent.second) (run_of shape extent.third)

made-cells : (shape : Shape) (extent : Extent) → IsShape shape → SmallParts extent → HasMadeCells shape extent
unfolding pairs_of cells_below
made-cells shape extent is small =
    let a = run_of shape extent.first in
    let b = run_of shape extent.second in
    let c = run_of shape extent.third in
    let few_a = run-few shape extent.first is small.first in
    let few_b = run-few shape extent.second is small.second in
    let few_c = run-few shape extent.third is small.third in
    let cells = vcns (extent_runs shape (planned_runs extent)) in
    let same = cells-are shape extent in
    let long : length (vcns (extent_runs shape (planned_runs extent))) ≡ a.length + b.length + c.length
    = ap length same ∙ length-three a b c in
    let below : are_cells true shape.clusters cells ≡ true
    = ap (are_cells true shape.clusters) same ∙ three-below shape a b c few_a few_b few_c in
    let limit = (bounds shape is).limit in
    let are : AreCells (vcns (extent_runs shape (planned_runs extent)))
    = (omega (arith, few_a.length, few_b.length, few_c.length), cells-low shape.clusters cells (omega arith) below) in
    let padding = padding-of (pairs_of shape (planned_runs extent)) in
    let reads : cells_of (made_pairs shape extent) ≡ record { is_right = true; cells = cells }
    = ap cells_of padding.1 ∙ canon-read cells padding.0 are in
    record {
      reads = reads;
      below = rw (reads, below) refl;
      count = omega (arith, long, count-is shape extent);
    }

pub is-planned : (shape : Shape) (extent : Extent) → IsShape shape → is_small_extent extent ≡ true
    → IsPlanned shape extent
is-planned shape extent is small =
    let parts = small-parts extent small in
    let before = run-few shape extent.before is parts.before in
    let first = run-few shape extent.first is parts.first in
    let second = run-few shape extent.second is parts.second in
    let third = run-few shape extent.third is parts.third in
    let count = count-is shape extent in
    record {
      pairs = pairs-short shape extent is parts;
      lowest = omega (arith, before.length);
      next = omega (arith, before.length, first.length, second.length, third.length);
      allocated = allocated-small shape extent is parts;
      size = size-small shape extent.size is parts.size;
      initialised = size-small shape extent.initialised is parts.initialised;
      flags = parts.flags;
      unit = parts.unit;
      cells = made-cells shape extent is parts;
    }
