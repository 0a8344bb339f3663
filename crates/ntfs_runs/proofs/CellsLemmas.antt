-- The cells of runs, counted and put together.
use Rattle.std.proofs.Common.{◌≡◌, ◌≤◌, ◌<◌, ◌+◌, ◌-◌, ◌^◌, ◌&&◌, ◌==◌, ℕ, zero, suc, List, [], ◌∷◌, ◌++◌, length, drop, get_or, refl, sym, ap, ◌∙◌, arith, length-append, append_assoc, Bool, true, false, Option, Some, None, nat_le, nat_lt}
use Rattle.std.specs.Prelude.{◌||◌, IfSome}
use Rattle.std.specs.List.{AllByRecursion}
use Rattle.std.specs.Option.{option_map}
use Rattle.std.proofs.Math.Bool.{and_assoc}
use Rattle.std.proofs.lemmas.Bool.{le-leb, false≢true}
use Rattle.std.proofs.lemmas.Bool.Decides.{nat_tests}
use Rattle.std.proofs.lemmas.List.{at_drop_more, at_drop_all}
use Rattle.ntfs_runs.specs.declared.run.Run.{Run}
use Rattle.ntfs_runs.specs.Clusters.{behind, row, vcns, FitFrom, AreSpellable}
use Rattle.ntfs_runs.specs.Reading.{reading}
use Rattle.ntfs_runs.specs.Cells.{cells_of, map_cells, is_cell, are_cells}

-- a run without clusters, which stands for one that isn't there
abbrev pub no_run : Run
no_run = record { length = 0; lcn = None }

pub length-row : (n : ℕ) (cell : Option ℕ) → length (row n cell) ≡ n
unfolding row
length-row zero cell = refl
length-row (suc n) cell = ap suc (length-row n (behind cell 1))

pub vcns-append : (front rest : List Run) → vcns (front ++ rest) ≡ vcns front ++ vcns rest
unfolding vcns
vcns-append [] rest = refl
vcns-append (run ∷ runs) rest = rw (vcns-append runs rest) (sym (append_assoc (row run.length run.lcn) (vcns runs) (vcns rest)))

-- runs that can be spelled have no more VCNs than their budget
pub length-vcns : (room : ℕ) (runs : List Run) → FitFrom room runs → length (vcns runs) ≤ room
unfolding vcns
length-vcns room [] fit = omega arith
length-vcns room (run ∷ runs) fit =
    let rest = length-vcns (room - run.length) runs fit.3 in
    omega (arith, length-append (row run.length run.lcn) (vcns runs), length-row run.length run.lcn, rest, fit.1)

-- the VCNs from a run on are those of the run and those behind it
pub count-next : (runs : List Run) (i : ℕ) → i < length runs → length (vcns (drop i runs)) ≡ (get_or runs i no_run).length + length (vcns (drop (i + 1) runs))
unfolding vcns
count-next runs i lt =
    at_drop_more (λ rs. length (vcns rs)) runs i no_run lt
    ∙ length-append (row (get_or runs i no_run).length (get_or runs i no_run).lcn) (vcns (drop (i + 1) runs))
    ∙ ap (λ k. k + length (vcns (drop (i + 1) runs))) (length-row (get_or runs i no_run).length (get_or runs i no_run).lcn)

pub vcns-all : (runs : List Run) (i : ℕ) → length runs ≤ i → vcns (drop i runs) ≡ []
unfolding vcns
vcns-all runs i le = at_drop_all vcns runs i le

-- right pairs spell the cells of their runs, and wrong ones none
pub cells_of-right : (pairs : List ℕ) (runs : List Run) → (reading pairs).is_right ≡ true → runs ≡ (reading pairs).runs → ((cells_of pairs).is_right ≡ true) × ((cells_of pairs).cells ≡ vcns runs)
unfolding cells_of
cells_of-right pairs runs right are = (right, rw (right, are) refl)

pub cells_of-wrong : (pairs : List ℕ) → (reading pairs).is_right ≡ false → (cells_of pairs).is_right ≡ false
unfolding cells_of
cells_of-wrong pairs wrong = wrong

-- ---- cells that are mapped

map-twice : {X Y Z : Type 0} (g : Y → Z) (f : X → Y) (cell : Option X) → option_map g (option_map f cell) ≡ option_map (λ x. g (f x)) cell
map-twice g f None = refl
map-twice g f (Some x) = refl

-- cells mapped twice are mapped by one function after the other
pub map_cells-map_cells : {X Y Z : Type 0} (g : Y → Z) (f : X → Y) (cells : List (Option X)) → map_cells g (map_cells f cells) ≡ map_cells (λ x. g (f x)) cells
map_cells-map_cells g f [] = refl
map_cells-map_cells g f (cell ∷ cells) = rw (map-twice g f cell, map_cells-map_cells g f cells) refl

map-alike : {X Y : Type 0} (f g : X → Y) (cell : Option X) → IfSome cell (λ x. f x ≡ g x) → option_map f cell ≡ option_map g cell
map-alike f g None agree = refl
map-alike f g (Some x) agree = ap Some agree

-- functions that agree on what is there map cells alike
pub map_cells-agree : {X Y : Type 0} (f g : X → Y) (cells : List (Option X)) → AllByRecursion (λ cell. IfSome cell (λ x. f x ≡ g x)) cells → map_cells f cells ≡ map_cells g cells
map_cells-agree f g [] agree = refl
map_cells-agree f g (cell ∷ cells) agree = rw (map-alike f g cell agree.0, map_cells-agree f g cells agree.1) refl

-- ---- clusters below a number, and holes

test_next : (l n k : ℕ) → (nat_lt l n && nat_le k (n - (l + 1))) ≡ nat_le (suc k) (n - l)
test_next l n k = grind (arith, nat_tests)

-- the cells of a run of clusters are below n where its end is
pub are_cells-some : (holes : Bool) (n l k : ℕ) → are_cells holes n (row k (Some l)) ≡ nat_le k (n - l)
unfolding row are_cells
are_cells-some holes n l zero = sym (le-leb 0 (n - l) (omega arith))
are_cells-some holes n l (suc k) = rw (are_cells-some holes n (l + 1) k) (test_next l n k)

hole_step : (holes : Bool) (k : ℕ) → (holes && (holes || (k == 0))) ≡ (holes || (suc k == 0))
hole_step true k = refl
hole_step false k = grind (arith, nat_tests)

-- and those of a hole where there may be holes, or where there are none of them
pub are_cells-none : (holes : Bool) (n k : ℕ) → are_cells holes n (row k None) ≡ (holes || (k == 0))
unfolding row are_cells
are_cells-none true n zero = refl
are_cells-none false n zero = refl
are_cells-none holes n (suc k) = rw (are_cells-none holes n k) (hole_step holes k)

pub are_cells-append : (holes : Bool) (n : ℕ) (front rest : List (Option ℕ)) → are_cells holes n (front ++ rest) ≡ (are_cells holes n front && are_cells holes n rest)
unfolding are_cells
are_cells-append holes n [] rest = refl
are_cells-append holes n (cell ∷ cells) rest = rw (are_cells-append holes n cells rest) (sym (and_assoc (is_cell holes n cell) (are_cells holes n cells) (are_cells holes n rest)))

-- one turn of a test of all runs
pub are_cells-next : (holes : Bool) (n : ℕ) (runs : List Run) (i : ℕ) → i < length runs
    → are_cells holes n (vcns (drop i runs)) ≡ (are_cells holes n (row (get_or runs i no_run).length (get_or runs i no_run).lcn) && are_cells holes n (vcns (drop (i + 1) runs)))
unfolding vcns
are_cells-next holes n runs i lt =
    at_drop_more (λ rs. are_cells holes n (vcns rs)) runs i no_run lt
    ∙ are_cells-append holes n (row (get_or runs i no_run).length (get_or runs i no_run).lcn) (vcns (drop (i + 1) runs))

or-true : (a b : Bool) → a ≡ true → (a || b) ≡ a
or-true true b is = refl
or-true false b is = absurd (false≢true is)

or-false : (a b : Bool) → a ≡ false → (a || b) ≡ b
or-false true b is = absurd (false≢true (sym is))
or-false false b is = refl

pub are_cells-hole_allowed : (holes : Bool) (n k : ℕ) → holes ≡ true → are_cells holes n (row k None) ≡ holes
are_cells-hole_allowed holes n k is = are_cells-none holes n k ∙ or-true holes (k == 0) is

pub are_cells-no_hole : (holes : Bool) (n k : ℕ) → holes ≡ false → are_cells holes n (row k None) ≡ (k == 0)
are_cells-no_hole holes n k is = are_cells-none holes n k ∙ or-false holes (k == 0) is

pub count-sum : (runs : List Run) (i count : ℕ) → i < length runs → AreSpellable runs → count + length (vcns (drop i runs)) ≡ length (vcns runs) → count + (get_or runs i no_run).length ≤ 2 ^ 48
count-sum runs i count lt fit is = omega (arith, count-next runs i lt, length-vcns (2 ^ 48) runs fit, is)

pub count-more : (runs : List Run) (i count : ℕ) → i < length runs → count + length (vcns (drop i runs)) ≡ length (vcns runs) → count + (get_or runs i no_run).length + length (vcns (drop (i + 1) runs)) ≡ length (vcns runs)
count-more runs i count lt is = omega (arith, count-next runs i lt, is)

pub count-all : (runs : List Run) (i count : ℕ) → length runs ≤ i → count + length (vcns (drop i runs)) ≡ length (vcns runs) → count ≡ length (vcns runs)
count-all runs i count le is = omega (arith, ap length (vcns-all runs i le), is)
