-- The laws of the definitions: the canonical spelling is read back, is the shortest, and no spelling begins another.
use Rattle.std.proofs.Common.{◌≡◌, ◌≤◌, ◌<◌, ◌+◌, ◌-◌, ◌*◌, ◌^◌, ◌+ℤ◌, ◌-ℤ◌, ℕ, zero, suc, ℤ, pos, negsuc, List, [], ◌∷◌, ◌++◌, length, take, slice_index, Bool, true, false, cond, refl, sym, ap, subst, ◌∙◌, append_assoc, arith, length-append, inl, inr}
use Rattle.std.specs.Prelude.{Option, Some, None, IfSome}
use Rattle.std.specs.List.{AllByRecursion}
use Rattle.std.proofs.lemmas.Bool.{cases_lt, lt-ltb, le-ltb}
use Rattle.std.proofs.lemmas.Int.{ints}
use Rattle.std.proofs.lemmas.List.{append-nil, take_at, nil_from_length, get_or_append_left, get_or-append-add, get_or_past}
use Rattle.byteorder.specs.Endian.{little_number, twos_complement}
use Rattle.byteorder.specs.Numbers.{little_from-lt}
use Rattle.byteorder.proofs.Bytes.{pow256}
use Rattle.ntfs_runs.specs.declared.run.Run.{Run}
use Rattle.ntfs_runs.specs.Number.{signed, reach, shortest}
use Rattle.ntfs_runs.specs.Clusters.{behind, row, vcns, FitFrom}
use Rattle.ntfs_runs.specs.Spelling.{pair, IsPair, IsPlace, PairsFrom, Spells, SpelledInFront, last_after}
use Rattle.ntfs_runs.specs.Reading.{Reading, reading}
use Rattle.ntfs_runs.specs.Cells.{Cells, cells_of}
use Rattle.ntfs_runs.specs.Canon.{goes_on, both, in_front, runs_of, AreMaximal, delta_text, run_text, text_from, canon, AreCells}
use Rattle.ntfs_runs.proofs.ReadingLemmas.{read_as, spelled-is-right, right-is-spelled}
use Rattle.ntfs_runs.proofs.ItemsLemmas.{spelled-fits}
use Rattle.ntfs_runs.proofs.ClustersLemmas.{behind-zero, behind-behind}
use Rattle.ntfs_runs.proofs.SizeLemmas.{twice, Holds, size_for-holds, size_for-least, signed-shortest, length-shortest}
use Rattle.ntfs_runs.proofs.WriterLemmas.{last_after-small}
use Rattle.ntfs_runs.proofs.JoinLemmas.{same-cells, goes_on-both, run_with, runs_of-apart}

-- ---- one reading

-- what two spellings begin is one spelling
pub one-reading : (a b x y : List ℕ) (runs others : List Run) → Spells a runs → Spells b others → a ++ x ≡ b ++ y → (a ≡ b) × (runs ≡ others)
one-reading a b x y runs others first second e =
    let one = spelled-is-right a x runs first in
    let two = spelled-is-right b y others second in
    let same : read_as runs true one.0 ≡ read_as others true two.0 = sym one.2 ∙ ap reading e ∙ two.2 in
    let runs-are : runs ≡ others = ap (λ (r : Reading). r.runs) same in
    let places : one.0 ≡ two.0 = ap (λ (r : Reading). r.place) same in
    let len : length b ≡ length a = omega (arith, one.1, two.1, places) in
    (sym (take_at a x (length a) refl) ∙ ap (take (length a)) e ∙ take_at b y (length a) len, runs-are)

pub no-front : (a b more : List ℕ) (runs others : List Run) → Spells a runs → Spells b others → a ++ more ≡ b → more ≡ []
no-front a b more runs others first second e =
    let same = one-reading a b more [] runs others first second (e ∙ sym (append-nil b)) in
    nil_from_length more (omega (arith, ap length same.0, ap length e, length-append a more))

-- ---- cells and their longest runs

row-add : (a b : ℕ) (cell : Option ℕ) → row (a + b) cell ≡ row a cell ++ row b (behind cell a)
unfolding row
row-add zero b cell = let none : 0 + b ≡ b = omega arith in rw (none, behind-zero cell) refl
row-add (suc a) b cell =
    let next : suc a + b ≡ suc (a + b) = omega arith in
    let there : behind (behind cell 1) a ≡ behind cell (suc a) = behind-behind cell 1 a ∙ ap (behind cell) (omega arith) in
    rw (next, ← there) (ap (λ (cells : List (Option ℕ)). cell ∷ cells) (row-add a b (behind cell 1)))

vcns-in_front : (run : Run) (runs : List Run) → vcns (in_front run runs) ≡ row run.length run.lcn ++ vcns runs
unfolding vcns
vcns-in_front run [] = refl
vcns-in_front run (next ∷ runs) = of (goes_on run next) refl
  where
    of : (t : Bool) → goes_on run next ≡ t → vcns (cond t (both run next ∷ runs) (run ∷ next ∷ runs)) ≡ row run.length run.lcn ++ (row next.length next.lcn ++ vcns runs)
    of false is = refl
    of true is =
        let same = same-cells (behind run.lcn run.length) next.lcn is in
        ap (λ (cells : List (Option ℕ)). cells ++ vcns runs) (row-add run.length next.length run.lcn ∙ ap (λ (cell : Option ℕ). row run.length run.lcn ++ row next.length cell) same)
        ∙ append_assoc (row run.length run.lcn) (row next.length next.lcn) (vcns runs)

pub vcns-runs_of : (cells : List (Option ℕ)) → vcns (runs_of cells) ≡ cells
unfolding runs_of vcns row
vcns-runs_of [] = refl
vcns-runs_of (cell ∷ cells) = vcns-in_front (run_with 1 cell) (runs_of cells) ∙ ap (λ (rest : List (Option ℕ)). cell ∷ rest) (vcns-runs_of cells)

FitFrom-in_front : (room : ℕ) (run : Run) (runs : List Run) → 1 ≤ run.length → run.length ≤ room → IfSome run.lcn (λ lcn. lcn ≤ 2 ^ 48) → FitFrom (room - run.length) runs → FitFrom room (in_front run runs)
FitFrom-in_front room run [] some within low fits = (some, within, low, tt)
FitFrom-in_front room run (next ∷ runs) some within low fits = of (goes_on run next)
  where
    of : (t : Bool) → FitFrom room (cond t (both run next ∷ runs) (run ∷ next ∷ runs))
    of false = (some, within, low, fits)
    of true =
        let left : room - run.length - next.length ≡ room - (run.length + next.length) = omega arith in
        (omega arith, omega (arith, fits.1), low, subst (λ (r : ℕ). FitFrom r runs) left fits.3)

runs_of-fits : (room : ℕ) (cells : List (Option ℕ)) → length cells ≤ room → AllByRecursion (λ cell. IfSome cell (λ k. k ≤ 2 ^ 48)) cells → FitFrom room (runs_of cells)
unfolding runs_of
runs_of-fits room [] within low = tt
runs_of-fits room (cell ∷ cells) within low =
    FitFrom-in_front room (run_with 1 cell) (runs_of cells) (omega arith) (omega arith) low.0 (runs_of-fits (room - 1) cells (omega arith) low.1)

AreMaximal-in_front : (run : Run) (runs : List Run) → AreMaximal runs → AreMaximal (in_front run runs)
AreMaximal-in_front run [] apart = tt
AreMaximal-in_front run (next ∷ []) apart = of (goes_on run next) refl
  where
    of : (t : Bool) → goes_on run next ≡ t → AreMaximal (cond t (both run next ∷ []) (run ∷ next ∷ []))
    of true is = tt
    of false is = (is, tt)
AreMaximal-in_front run (next ∷ last ∷ runs) apart = of (goes_on run next) refl
  where
    of : (t : Bool) → goes_on run next ≡ t → AreMaximal (cond t (both run next ∷ last ∷ runs) (run ∷ next ∷ last ∷ runs))
    of true is = (goes_on-both run next last is ∙ apart.0, apart.1)
    of false is = (is, apart)

pub runs_of-AreMaximal : (cells : List (Option ℕ)) → AreMaximal (runs_of cells)
unfolding runs_of
runs_of-AreMaximal [] = tt
runs_of-AreMaximal (cell ∷ cells) = AreMaximal-in_front (run_with 1 cell) (runs_of cells) (runs_of-AreMaximal cells)

-- ---- the canonical spelling

-- a difference stays far below 63 bits
reach-difference : (a b : ℕ) → a ≤ 2 ^ 48 → b ≤ 2 ^ 48 → reach (pos a -ℤ pos b) < 2 ^ 63
unfolding reach
reach-difference a b low high = elim (cases_lt a b) [
  | inl lt ↦ let is : pos a -ℤ pos b ≡ negsuc (b - a - 1) = omega (arith, ints) in rw is (omega arith)
  | inr le ↦ let is : pos a -ℤ pos b ≡ pos (a - b) = omega (arith, ints) in rw is (omega arith)
]

reach-pos : (n : ℕ) → n ≤ 2 ^ 48 → reach (pos n) < 2 ^ 63
unfolding reach
reach-pos n low = omega arith

-- a run's shortest pair is a pair for it
shortest-place : (last : ℕ) (lcn : Option ℕ) → last ≤ 2 ^ 48 → IfSome lcn (λ l. l ≤ 2 ^ 48) → IsPlace last (delta_text last lcn) lcn × (length (delta_text last lcn) ≤ 8)
shortest-place last None low fits = (refl, omega arith)
shortest-place last (Some lcn) low fits =
    let delta = pos lcn -ℤ pos last in
    let far = reach-difference lcn last fits low in
    let holds = size_for-holds (reach delta) far in
    let size = length-shortest delta in
    let back : pos lcn ≡ pos last +ℤ (pos lcn -ℤ pos last) = omega (arith, ints) in
    ((omega (arith, size, holds.low), rw (signed-shortest delta far) back, fits), omega (arith, size, holds.high))

shortest-pair : (last room : ℕ) (run : Run) → last ≤ 2 ^ 48 → room ≤ 2 ^ 48 → 1 ≤ run.length → run.length ≤ room → IfSome run.lcn (λ l. l ≤ 2 ^ 48)
    → IsPair last room (shortest (pos run.length)) (delta_text last run.lcn) run
shortest-pair last room run low most some within fits =
    let far = reach-pos run.length (omega arith) in
    let holds = size_for-holds (reach (pos run.length)) far in
    let size = length-shortest (pos run.length) in
    let place = shortest-place last run.lcn low fits in
    record {
      count_least = omega (arith, size, holds.low);
      count_most = omega (arith, size, holds.high);
      delta_most = place.1;
      number = signed-shortest (pos run.length) far;
      least = some;
      most = within;
      place = place.0;
    }

-- the text of runs spells them
text-spells : (last room : ℕ) (runs : List Run) → last ≤ 2 ^ 48 → room ≤ 2 ^ 48 → FitFrom room runs → (pairs : List ℕ) × (text_from last runs ≡ pairs ++ 0 ∷ []) × PairsFrom last room pairs runs
unfolding text_from PairsFrom run_text
text-spells last room [] low most fits = ([], refl, refl)
text-spells last room (run ∷ runs) low most fits =
    let others = text-spells (last_after last run.lcn) (room - run.length) runs (last_after-small last run.lcn low fits.2) (omega arith) fits.3 in
    let text = run_text last run in (
      text ++ others.0,
      ap (λ (rest : List ℕ). text ++ rest) others.1 ∙ sym (append_assoc text others.0 (0 ∷ [])),
      (shortest (pos run.length), delta_text last run.lcn, others.0, refl, shortest-pair last room run low most fits.0 fits.1 fits.2, others.2),
    )

pub canon-spells : (cells : List (Option ℕ)) → AreCells cells → Spells (canon cells) (runs_of cells)
unfolding Spells canon
canon-spells cells are = text-spells 0 (2 ^ 48) (runs_of cells) (omega arith) (omega arith) (runs_of-fits (2 ^ 48) cells are.0 are.1)

pub canon-back : (cells : List (Option ℕ)) (runs : List Run) → AreCells cells → Spells (canon cells) runs → vcns runs ≡ cells
canon-back cells runs are spells =
    let same = one-reading (canon cells) (canon cells) [] [] runs (runs_of cells) spells (canon-spells cells are) refl in
    ap vcns same.1 ∙ vcns-runs_of cells

-- ---- no spelling is shorter

abbrev Bytes : List ℕ → Type 0
Bytes text = (i : ℕ) → slice_index text i < 256

Bytes-left : (a b : List ℕ) → Bytes (a ++ b) → Bytes a
Bytes-left a b are i = elim (cases_lt i (length a)) [
  | inl lt ↦ let same = get_or_append_left a b 0 i lt in omega (arith, are i, same)
  | inr le ↦ let none = get_or_past a i 0 le in omega (arith, none)
]

Bytes-right : (a b : List ℕ) → Bytes (a ++ b) → Bytes b
Bytes-right a b are i = let same = get_or-append-add a b i 0 in omega (arith, are (length a + i), same)

-- n bytes hold no number of a larger reach
reach-complement : (n x : ℕ) → 1 ≤ n → n ≤ 8 → x < 2 ^ (8 * n) → reach (twos_complement n x) < 2 ^ (8 * n - 1)
unfolding reach
reach-complement n x low high within =
    let whole = twice n low high in
    elim (cases_lt x (2 ^ (8 * n - 1))) [
      | inl lt ↦ rw (lt-ltb x (2 ^ (8 * n - 1)) lt) lt
      | inr le ↦
          let is : pos x -ℤ pos (2 ^ (8 * n)) ≡ negsuc (2 ^ (8 * n) - x - 1) = omega (arith, ints) in
          rw (le-ltb x (2 ^ (8 * n - 1)) le, is) (omega arith)
    ]

reach-signed : (bytes : List ℕ) → 1 ≤ length bytes → length bytes ≤ 8 → Bytes bytes → reach (signed (length bytes) bytes) < 2 ^ (8 * length bytes - 1)
unfolding signed
reach-signed bytes low high are =
    reach-complement (length bytes) (little_number (length bytes) bytes) low high (rw (← pow256 (length bytes)) (little_from-lt 0 (length bytes) bytes are))

-- the shortest bytes of a number are no longer than others of it
number-least : (bytes : List ℕ) (z : ℤ) → 1 ≤ length bytes → length bytes ≤ 8 → Bytes bytes → signed (length bytes) bytes ≡ z → length (shortest z) ≤ length bytes
number-least bytes z low high are is =
    let fits = ap reach is in
    let holds : Holds (reach z) (length bytes) = record { low = low; high = high; fits = rw (← is) (reach-signed bytes low high are) } in
    omega (arith, length-shortest z, size_for-least (reach z) (length bytes) holds)

delta-least : (last : ℕ) (delta : List ℕ) (lcn : Option ℕ) → length delta ≤ 8 → Bytes delta → IsPlace last delta lcn → length (delta_text last lcn) ≤ length delta
delta-least last delta None high are is = omega arith
delta-least last delta (Some lcn) high are is =
    let from = is.1 in
    number-least delta (pos lcn -ℤ pos last) (omega (arith, is.0)) high are (omega (arith, ints))

pair-least : (last room : ℕ) (count delta : List ℕ) (run : Run) → IsPair last room count delta run → Bytes count → Bytes delta → length (run_text last run) ≤ length (pair count delta)
unfolding run_text
pair-least last room count delta run is bytes bytes-too =
    let number = number-least count (pos run.length) is.count_least is.count_most bytes is.number in
    let place = delta-least last delta run.lcn is.delta_most bytes-too is.place in
    omega (arith, length-append (shortest (pos run.length)) (delta_text last run.lcn), length-append count delta)

text-least : (last room : ℕ) (pairs : List ℕ) (runs : List Run) → PairsFrom last room pairs runs → Bytes pairs → length (text_from last runs) ≤ length pairs + 1
unfolding PairsFrom text_from
text-least last room pairs [] is are = omega arith
text-least last room pairs (run ∷ runs) (count, delta, rest, pairs-are, is, others) are =
    let bytes : Bytes (pair count delta ++ rest) = subst Bytes pairs-are are in
    let front = Bytes-left (pair count delta) rest bytes in
    let numbers : Bytes (count ++ delta) = λ i. front (suc i) in
    let first = pair-least last room count delta run is (Bytes-left count delta numbers) (Bytes-right count delta numbers) in
    let behind = text-least (last_after last run.lcn) (room - run.length) rest runs others (Bytes-right (pair count delta) rest bytes) in
    omega (arith, ap length pairs-are, length-append (pair count delta) rest, length-append (run_text last run) (text_from (last_after last run.lcn) runs))

pub canon-least : (text : List ℕ) (runs : List Run) → Bytes text → Spells text runs → AreMaximal runs → length (canon (vcns runs)) ≤ length text
unfolding Spells canon SpelledInFront
canon-least text runs are (pairs, text-is, is) apart =
    let fits = spelled-fits text runs (text, [], sym (append-nil text), (pairs, text-is, is)) in
    let same = ap (text_from 0) (runs_of-apart (2 ^ 48) runs fits apart) in
    let bytes : Bytes (pairs ++ 0 ∷ []) = subst Bytes text-is are in
    let least = text-least 0 (2 ^ 48) pairs runs is (Bytes-left pairs (0 ∷ []) bytes) in
    omega (arith, ap length same, ap length text-is, length-append pairs (0 ∷ []))

-- ---- pairs as cells

abbrev pub cells_with : Bool → List (Option ℕ) → Cells ℕ
cells_with is_right cells = record { is_right = is_right; cells = cells }

pub cells-spelled : (bytes : List ℕ) (runs : List Run) → SpelledInFront bytes runs → cells_of bytes ≡ cells_with true (vcns runs)
unfolding cells_of SpelledInFront
cells-spelled bytes runs (text, more, bytes-is, spells) =
    let read = spelled-is-right text more runs spells in
    ap (λ (r : Reading). cells_with r.is_right (cond r.is_right (vcns r.runs) [])) (ap reading bytes-is ∙ read.2)

pub cells-right : (bytes : List ℕ) → (cells_of bytes).is_right ≡ true → (runs : List Run) × SpelledInFront bytes runs × ((cells_of bytes).cells ≡ vcns runs)
unfolding cells_of
cells-right bytes right = ((reading bytes).runs, right-is-spelled bytes right, ap (λ (t : Bool). cond t (vcns (reading bytes).runs) []) right)

pub cells-wrong : (bytes : List ℕ) → (cells_of bytes).is_right ≡ false → (cells_of bytes).cells ≡ []
unfolding cells_of
cells-wrong bytes wrong = ap (λ (t : Bool). cond t (vcns (reading bytes).runs) []) wrong

-- the canonical spelling of cells, whatever stands behind it
pub canon-read : (cells : List (Option ℕ)) (more : List ℕ) → AreCells cells → cells_of (canon cells ++ more) ≡ cells_with true cells
unfolding SpelledInFront
canon-read cells more are =
    cells-spelled (canon cells ++ more) (runs_of cells) (canon cells, more, refl, canon-spells cells are) ∙ ap (cells_with true) (vcns-runs_of cells)
