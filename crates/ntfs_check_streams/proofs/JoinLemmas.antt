-- Extents of one type and name are a stream where they join one after the other.
use Rattle.std.proofs.Common.{◌≡◌, ◌≤◌, ◌+◌, ◌-◌, ◌==◌, ◌&&◌, ◌||◌, ◌++◌, inl, inr, ℕ, suc, Bool, true, false, List, [], ◌∷◌, length, map, Result, Ok, Err, refl, sym, ap, ◌∙◌, arith, if◌then◌else◌}
use Rattle.std.specs.Prelude.{not}
use Rattle.std.specs.List.{AllByRecursion, list_all}
use Rattle.std.proofs.lemmas.Bool.{cases_Bool, eqb-true}
use Rattle.std.proofs.lemmas.Bool.Decides.{nat_tests}
use Rattle.std.proofs.lemmas.List.{length-append}
use Rattle.ntfs_base.specs.Frames.{must, ◌>>=◌}
use Rattle.ntfs_base.specs.declared.refusal.Rule.TheVariants as rule
use Rattle.ntfs_check_streams.specs.Join.{are_joined, is_stream, join, join_all, face_span, spans_of, start}
use Rattle.ntfs_check_streams.specs.declared.join.Joined.{Joined}
use Rattle.ntfs_check_streams.specs.declared.join.Joined.TheVariants as joined
use Rattle.ntfs_check_streams.specs.declared.join.Span.{Span}
use Rattle.ntfs_record.specs.FileRecord.{Attribute, Laid}
use Rattle.ntfs_rules.specs.Files.{are_stream, are_stream_found, are_values, is_joined}
use Rattle.ntfs_runs.specs.Cells.{Cells}
use Rattle.ntfs_survey.specs.Owned.{has_cells}
use Rattle.ntfs_volume.specs.Gather.{Extent}
use Rattle.ntfs_volume.specs.Located.{Located}
use Rattle.ntfs_volume.specs.StreamBytes.{have_room}
use Rattle.ntfs_volume.specs.Streams.{Part, all_right, cells_in, gathered_at, is_right, join_from, part_of, runs_stream, stream_of, stream_of_runs}
use Rattle.ntfs_volume.specs.declared.fault.VolumeFault.{VolumeFault}
use Rattle.ntfs_volume.specs.declared.fault.VolumeFault.TheVariants as volume

abbrev pub CellExtent : Type 0
CellExtent = Extent (Located (Laid (Cells ℕ)))

-- an extent keeps rule C7, and doesn't end before it begins
pub record IsFit (a : Attribute (Located (Laid (Cells ℕ)))) : Type 0 where
  pub right : has_cells a ≡ true
  pub spans : a.face.lowest ≤ a.face.next

abbrev pub AreFit : List CellExtent → Type 0
AreFit es = AllByRecursion (λ (e : CellExtent). IsFit e.attribute) es

-- ---- values

apart-values : (c kind : ℕ) (ss : List Span) → is_stream c (join_all kind joined.Apart ss) ≡ false
unfolding join_all join is_stream
apart-values c kind [] = refl
apart-values c kind (s ∷ ss) = apart-values c kind ss

-- further values
more-values : (c kind : ℕ) (es : List CellExtent) → (kind == 0x30) ≡ true → list_all (λ (p : Part ℕ). p.is_resident) (map part_of es) ≡ is_stream c (join_all kind joined.Values (spans_of es))
unfolding join_all join is_stream
more-values c kind [] name = refl
more-values c kind (e ∷ es) name =
    step e.attribute.face.is_resident (more-values c kind es name)
    ∙ sym (ap (λ b. is_stream c (join_all kind (if b && e.attribute.face.is_resident then joined.Values else joined.Apart) (spans_of es))) name)
  where
    step : (resident : Bool) → list_all (λ (p : Part ℕ). p.is_resident) (map part_of es) ≡ is_stream c (join_all kind joined.Values (spans_of es))
        → (resident && list_all (λ (p : Part ℕ). p.is_resident) (map part_of es)) ≡ is_stream c (join_all kind (if resident then joined.Values else joined.Apart) (spans_of es))
    step true rest = rest
    step false rest = sym (apart-values c kind (spans_of es))

some-more : (n : ℕ) → (suc n == 0) ≡ false
some-more n = grind (arith, nat_tests)

one-value : (c kind : ℕ) (es : List CellExtent) → (kind == 0x30) ≡ false → (length (map part_of es) == 0) ≡ is_stream c (join_all kind joined.Values (spans_of es))
unfolding join_all join is_stream
one-value c kind [] other = refl
one-value c kind (e ∷ es) other =
    some-more (length (map part_of es))
    ∙ sym (ap (λ b. is_stream c (join_all kind (if b && e.attribute.face.is_resident then joined.Values else joined.Apart) (spans_of es))) other
    ∙ apart-values c kind (spans_of es))

values-joined : (c kind : ℕ) (es : List CellExtent) → are_values kind (map part_of es) ≡ is_stream c (join_all kind joined.Values (spans_of es))
unfolding are_values
values-joined c kind es = elim (cases_Bool (kind == 0x30)) [
  | inl name ↦ ap (λ b. if b then list_all (λ (p : Part ℕ). p.is_resident) (map part_of es) else length (map part_of es) == 0) name ∙ more-values c kind es name
  | inr other ↦ ap (λ b. if b then list_all (λ (p : Part ℕ). p.is_resident) (map part_of es) else length (map part_of es) == 0) other ∙ one-value c kind es other
]

-- ---- extents

or-right : (a b : Bool) → (a || b) ≡ true → a ≡ false → b ≡ true
or-right true b is not-a = absurd cc
or-right false b is not-a = is

and-parts : (a b : Bool) → (a && b) ≡ true → (a ≡ true) × (b ≡ true)
and-parts true b is = (refl, is)
and-parts false b is = absurd cc

cells-count : (e : CellExtent) → IsFit e.attribute → e.attribute.face.is_resident ≡ false → length (part_of e).runs.cells ≡ (part_of e).next - (part_of e).lowest
cells-count e fit runs =
    let p = part_of e in
    eqb-true (length p.runs.cells) (p.next - p.lowest) (and-parts p.runs.is_right (length p.runs.cells == p.next - p.lowest)
    (or-right p.is_resident (p.runs.is_right && (length p.runs.cells == p.next - p.lowest)) fit.right runs)).1

rights : (es : List CellExtent) → AreFit es → all_right (map part_of es) ≡ Ok tt
unfolding all_right
rights [] fit = refl
rights (e ∷ es) fit = let right : is_right (part_of e) ≡ true = fit.0.right in rw right (rights es fit.1)

abbrev room_from : ℕ → ℕ → ℕ → ℕ → List (Part ℕ) → Bool
room_from c next size valid ps = join_from next ps && have_room c (next + length (cells_in ps)) size valid

more-runs : (c kind next size valid : ℕ) (es : List CellExtent) → AreFit es → room_from c next size valid (map part_of es) ≡ is_stream c (join_all kind (joined.Runs next size valid) (spans_of es))
unfolding join_all join is_stream join_from cells_in
more-runs c kind next size valid [] fit = let same : next + 0 ≡ next = omega arith in ap (λ n. have_room c n size valid) same
more-runs c kind next size valid (e ∷ es) fit = step e.attribute.face.is_resident (e.attribute.face.lowest == next) refl refl (more-runs c kind e.attribute.face.next size valid es fit.1)
  where
    p : Part ℕ
    p = part_of e

    ps : List (Part ℕ)
    ps = map part_of es

    step : (resident begins : Bool) → e.attribute.face.is_resident ≡ resident → (e.attribute.face.lowest == next) ≡ begins
        → room_from c p.next size valid ps ≡ is_stream c (join_all kind (joined.Runs p.next size valid) (spans_of es))
        → ((not resident && (begins && join_from p.next ps)) && have_room c (next + length (p.runs.cells ++ cells_in ps)) size valid)
        ≡ is_stream c (join_all kind (if not resident && begins then joined.Runs e.attribute.face.next size valid else joined.Apart) (spans_of es))
    step true begins resident at rest = sym (apart-values c kind (spans_of es))
    step false false runs other rest = sym (apart-values c kind (spans_of es))
    step false true runs at rest =
        let count = cells-count e fit.0 runs in
        let begin = eqb-true e.attribute.face.lowest next at in
        let spans = fit.0.spans in
        let long = length-append p.runs.cells (cells_in ps) in
        let same : next + length (p.runs.cells ++ cells_in ps) ≡ p.next + length (cells_in ps) = omega (arith, count, begin, spans, long) in
        ap (λ n. join_from p.next ps && have_room c n size valid) same ∙ rest

first-joined : (c : ℕ) (first : Part ℕ) (ps : List (Part ℕ)) (right : Result (Unit {0}) VolumeFault) → all_right ps ≡ right → right ≡ Ok tt
    → is_joined (stream_of_runs c 0 first ps) ≡ room_from c 0 first.size first.valid ps
unfolding stream_of_runs
first-joined c first ps right are is =
    let all : all_right ps ≡ Ok tt = are ∙ is in
    let same : 0 + length (cells_in ps) ≡ length (cells_in ps) = omega arith in
    rw all (step (join_from 0 ps && have_room c (length (cells_in ps)) first.size first.valid) ∙ ap (λ n. join_from 0 ps && have_room c n first.size first.valid) (sym same))
  where
    step : (test : Bool) → is_joined (must test (volume.Damaged rule.C12 0) >>= (λ _. Ok (gathered_at first (length ps) (runs_stream first.flags first.size first.valid (cells_in ps))))) ≡ test
    step true = refl
    step false = refl

start-runs : (c kind : ℕ) (e : CellExtent) (es : List CellExtent) → AreFit (e ∷ es) → e.attribute.face.is_resident ≡ false
    → room_from c 0 e.attribute.face.size e.attribute.face.valid (map part_of (e ∷ es)) ≡ is_stream c (join_all kind (start (face_span e.attribute.face)) (spans_of es))
unfolding join_from cells_in is_stream
start-runs c kind e es fit runs = rw runs (step (e.attribute.face.lowest == 0) refl)
  where
    p : Part ℕ
    p = part_of e

    ps : List (Part ℕ)
    ps = map part_of es

    step : (begins : Bool) → (e.attribute.face.lowest == 0) ≡ begins
        → ((begins && join_from p.next ps) && have_room c (0 + length (p.runs.cells ++ cells_in ps)) p.size p.valid)
        ≡ is_stream c (join_all kind (if begins then joined.Runs p.next p.size p.valid else joined.Apart) (spans_of es))
    step false other = sym (apart-values c kind (spans_of es))
    step true at =
        let count = cells-count e fit.0 runs in
        let begin = eqb-true e.attribute.face.lowest 0 at in
        let spans = fit.0.spans in
        let long = length-append p.runs.cells (cells_in ps) in
        let same : 0 + length (p.runs.cells ++ cells_in ps) ≡ p.next + length (cells_in ps) = omega (arith, count, begin, spans, long) in
        ap (λ n. join_from p.next ps && have_room c n p.size p.valid) same ∙ more-runs c kind p.next p.size p.valid es fit.1

-- ---- all of them

runs-first : (c : ℕ) (first : Part ℕ) (ps : List (Part ℕ)) → first.is_resident ≡ false → stream_of c 0 (first ∷ ps) ≡ stream_of_runs c 0 first (first ∷ ps)
unfolding stream_of
runs-first c first ps is = rw is refl

first-by : (c kind : ℕ) (e : CellExtent) (es : List CellExtent) (resident : Bool) → e.attribute.face.is_resident ≡ resident → AreFit (e ∷ es)
    → (if resident then are_values kind (map part_of es) else is_joined (stream_of c 0 (map part_of (e ∷ es)))) ≡ is_stream c (join_all kind (start (face_span e.attribute.face)) (spans_of es))
first-by c kind e es true is fit = rw is (values-joined c kind es)
first-by c kind e es false is fit =
    ap is_joined (runs-first c (part_of e) (map part_of es) is)
    ∙ first-joined c (part_of e) (map part_of (e ∷ es)) (all_right (map part_of (e ∷ es))) refl (rights (e ∷ es) fit)
    ∙ start-runs c kind e es fit is

pub stream-joined : (c kind : ℕ) (es : List CellExtent) → AreFit es → are_stream c kind (map part_of es) ≡ is_stream c (join_all kind joined.Nothing (spans_of es))
unfolding are_stream join_all join is_stream
stream-joined c kind [] fit = refl
stream-joined c kind (e ∷ es) fit = first-by c kind e es e.attribute.face.is_resident refl fit

join-append : (kind : ℕ) (before : Joined) (xs ys : List CellExtent) → join_all kind before (spans_of (xs ++ ys)) ≡ join_all kind (join_all kind before (spans_of xs)) (spans_of ys)
unfolding join_all
join-append kind before [] ys = refl
join-append kind before (x ∷ xs) ys = join-append kind (join kind before (face_span x.attribute.face)) xs ys

-- with a lead
pub found-joined : (c kind : ℕ) (lead : List CellExtent) (found : Result (List CellExtent) VolumeFault) → ((es : List CellExtent) → found ≡ Ok es → AreFit (lead ++ es))
    → are_stream_found c kind lead found ≡ are_joined c kind (join_all kind joined.Nothing (spans_of lead)) found
found-joined c kind lead (Ok es) fit = stream-joined c kind (lead ++ es) (fit es refl) ∙ ap (is_stream c) (join-append kind joined.Nothing lead es)
found-joined c kind lead (Err fault) fit = refl
