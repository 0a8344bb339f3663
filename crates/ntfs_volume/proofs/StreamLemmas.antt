-- What a stream that is gathered is of its extents: where its cells stand, and that it can be read.
use Rattle.std.proofs.Common.{◌≡◌, ◌-◌, ◌==◌, ◌&&◌, ◌||◌, ◌++◌, ℕ, List, [], ◌∷◌, length, map, refl, sym, ◌∙◌, subst, Bool, true, false, Result, Ok, Err, if◌then◌else◌}
use Rattle.std.specs.Prelude.{Contains, not}
use Rattle.std.specs.List.{AllByRecursion}
use Rattle.std.specs.Result.{result_map_both}
use Rattle.std.proofs.lemmas.Bool.{and_from, false≢true}
use Rattle.std.proofs.lemmas.List.Elements.{All-contains_itself, recursion_from_All}
use Rattle.ntfs_base.specs.Frames.{must, ◌>>=◌}
use Rattle.ntfs_base.specs.declared.refusal.Rule.TheVariants as rule
use Rattle.ntfs_boot.specs.declared.geometry.Geometry.{Geometry}
use Rattle.ntfs_record.specs.FileRecord.{Attribute, Head, Laid}
use Rattle.ntfs_record.specs.Slots.{Slot, map_laid, map_slots, on_payload}
use Rattle.ntfs_runs.specs.Cells.{Cells, are_cells, cells_below, cells_of}
use Rattle.ntfs_runs.proofs.CellsLemmas.{are_cells-append}
use Rattle.ntfs_volume.specs.Gather.{Extent, Lists, extents, mapped}
use Rattle.ntfs_volume.specs.Laws.{IsMember, IsOf, IsOfMember}
use Rattle.ntfs_volume.specs.Located.{Located, map_located, slots_of, with_cells}
use Rattle.ntfs_volume.specs.MftMap.{Map}
use Rattle.ntfs_volume.specs.StreamBytes.{have_room}
use Rattle.ntfs_volume.specs.Streams.{Gathered, IsReadable, Part, all_right, cells_in, gather, gather_of, gathered_at, is_right, join_from, lists_of, part_of, runs_stream, stream_of, stream_of_runs, value_stream}
use Rattle.ntfs_volume.specs.declared.fault.VolumeFault.{VolumeFault}
use Rattle.ntfs_volume.specs.declared.fault.VolumeFault.TheVariants as volume
use Rattle.ntfs_volume.proofs.AnswerLemmas.{and-left, and-right, bind-ok, must-parts}
use Rattle.ntfs_volume.proofs.ExtentsLemmas.{all-weaker, members, of-type}
use Rattle.ntfs_volume.proofs.MappedLemmas.{extents-mapped}
use Rattle.ntfs_volume.proofs.PartsLemmas.{value-readable}

-- ---- a stream of parts

-- the parts of a stream that isn't resident are right, join and have room for the sizes, and it has their cells
runs-parts : {X : Type 0} (c r : ℕ) (first : Part X) (ps : List (Part X)) (gathered : Gathered X) → stream_of_runs c r first ps ≡ Ok gathered
    → (all_right ps ≡ Ok tt) × ((join_from 0 ps && have_room c (length (cells_in ps)) first.size first.valid) ≡ true)
    × (gathered_at first (length ps) (runs_stream first.flags first.size first.valid (cells_in ps)) ≡ gathered)
unfolding stream_of_runs
runs-parts {X = X} c r first ps gathered is =
    let stream = runs_stream first.flags first.size first.valid (cells_in ps) in
    let test = join_from 0 ps && have_room c (length (cells_in ps)) first.size first.valid in
    let last : Result (Gathered X) VolumeFault = Ok (gathered_at first (length ps) stream) in
    let all = bind-ok (all_right ps) (λ _. must test (volume.Damaged rule.C12 r) >>= (λ _. last)) gathered is in
    let fits = must-parts test (volume.Damaged rule.C12 r) last gathered all.2 in
    let same : gathered_at first (length ps) stream ≡ gathered = let last_is = fits.1 in cc in
    (all.1, fits.0, same)

-- a stream is the value of its first part, or one of runs
by-first : {X : Type 0} (c r : ℕ) (ps : List (Part X)) (gathered : Gathered X) (P : Gathered X → Type 0) → stream_of c r ps ≡ Ok gathered
    → ((first : Part X) → P (gathered_at first (length ps) (value_stream first.flags first.value))) → ((first : Part X) → stream_of_runs c r first ps ≡ Ok gathered → P gathered) → P gathered
unfolding stream_of
by-first c r [] gathered P is value runs = absurd cc
by-first {X = X} c r (first ∷ ps) gathered P is value runs = step first.is_resident is
  where
    step : (b : Bool) → (if b then Ok (gathered_at first (length (first ∷ ps)) (value_stream first.flags first.value)) else stream_of_runs c r first (first ∷ ps)) ≡ Ok gathered → P gathered
    step true is = let same : gathered_at first (length (first ∷ ps)) (value_stream first.flags first.value) ≡ gathered = cc in subst P same (value first)
    step false is = runs first is

-- ---- where its cells stand

all-append : {A : Type 0} (P : A → Type 0) (xs ys : List A) → AllByRecursion P xs → AllByRecursion P ys → AllByRecursion P (xs ++ ys)
all-append P [] ys them rest = rest
all-append P (x ∷ xs) ys them rest = (them.0, all-append P xs ys them.1 rest)

cells-members : {X : Type 0} (slots : List (Slot (Located (Laid (Cells X))))) (r kind : ℕ) (name : List ℕ) (found : List (Extent (Located (Laid (Cells X)))))
    → AllByRecursion (IsMember slots r) found → AllByRecursion (IsOf kind name) found → AllByRecursion (IsOfMember slots r kind name) (cells_in (map part_of found))
unfolding cells_in
cells-members slots r kind name [] members named = tt
cells-members slots r kind name (e ∷ found) members named =
    let cells = e.attribute.payload.payload.runs.cells in
    all-append (IsOfMember slots r kind name) cells (cells_in (map part_of found))
    (all-weaker (Contains cells) (IsOfMember slots r kind name) (λ cell there. record { extent = e; member = members.0; named = named.0; stands = there }) cells (recursion_from_All (Contains cells) cells (All-contains_itself cells)))
    (cells-members slots r kind name found members.1 named.1)

pub cells-of : {X : Type 0} (c : ℕ) (listings : Lists) (slots : List (Slot (Located (Laid (Cells X))))) (r kind : ℕ) (name : List ℕ) (gathered : Gathered X) → gather c listings slots r kind name ≡ Ok gathered
    → AllByRecursion (IsOfMember slots r kind name) gathered.stream.cells
unfolding gather
cells-of {X = X} c listings slots r kind name gathered is =
    let found = bind-ok (extents listings slots r kind name) (λ es. stream_of c r (map part_of es)) gathered is in
    let parts = map part_of found.0 in
    let cells = cells-members slots r kind name found.0 (members listings slots r kind name found.0 found.1) (of-type listings slots r kind name found.0 found.1) in
    by-first c r parts gathered (λ s. AllByRecursion (IsOfMember slots r kind name) s.stream.cells) found.2 (λ first. tt)
    (λ first runs. subst (λ (s : Gathered X). AllByRecursion (IsOfMember slots r kind name) s.stream.cells) (runs-parts c r first parts gathered runs).2 cells)

-- ---- that it can be read

-- the cells of a part are below n where its pairs are right
abbrev AreBelow : ℕ → Part ℕ → Type 0
AreBelow n p = p.runs.is_right ≡ true → are_cells true n p.runs.cells ≡ true

below : (n : ℕ) (pairs : List ℕ) → (cells_below n pairs).is_right ≡ true → are_cells true n (cells_below n pairs).cells ≡ true
unfolding cells_below
below n pairs is = and-right (cells_of pairs).is_right (are_cells true n (cells_of pairs).cells) is

parts-below : (n : ℕ) (es : List (Extent (Located (Laid (List ℕ))))) → AllByRecursion (AreBelow n) (map part_of (map (mapped (on_payload (map_located (map_laid (cells_below n))))) es))
parts-below n [] = tt
parts-below n (e ∷ es) = (below n e.attribute.payload.payload.runs, parts-below n es)

not-resident : (resident right joins : Bool) → (resident || right) ≡ true → (not resident && joins) ≡ true → right ≡ true
not-resident false right joins is join = is
not-resident true right joins is join = absurd (false≢true join)

cells-below : (n next : ℕ) (ps : List (Part ℕ)) (u : Unit {0}) → all_right ps ≡ Ok u → join_from next ps ≡ true → AllByRecursion (AreBelow n) ps → are_cells true n (cells_in ps) ≡ true
unfolding all_right join_from cells_in are_cells
cells-below n next [] u right join are = refl
cells-below n next (p ∷ ps) u right join are =
    let pairs = p.runs.is_right && (length p.runs.cells == p.next - p.lowest) in
    let joins = (p.lowest == next) && join_from p.next ps in
    let parts = must-parts (is_right p) (volume.Damaged rule.C7 p.number) (all_right ps) u right in
    let own = not-resident p.is_resident pairs joins parts.0 join in
    let rest = and-right (p.lowest == next) (join_from p.next ps) (and-right (not p.is_resident) joins join) in
    are_cells-append true n p.runs.cells (cells_in ps)
    ∙ and_from (are_cells true n p.runs.cells) (are_cells true n (cells_in ps)) (are.0 (and-left p.runs.is_right (length p.runs.cells == p.next - p.lowest) own)) (cells-below n p.next ps u parts.1 rest are.1)

stream-readable : (g : Geometry) (r : ℕ) (ps : List (Part ℕ)) (gathered : Gathered ℕ) → AllByRecursion (AreBelow g.clusters) ps → stream_of g.cluster r ps ≡ Ok gathered → IsReadable g gathered.stream
stream-readable g r ps gathered are is =
    by-first g.cluster r ps gathered (λ s. IsReadable g s.stream) is (λ first. value-readable g first.flags first.value)
    (λ first runs.
    let parts = runs-parts g.cluster r first ps gathered runs in
    let joins = join_from 0 ps in
    let room = have_room g.cluster (length (cells_in ps)) first.size first.valid in
    subst (λ (s : Gathered ℕ). IsReadable g s.stream) parts.2 (record {
      cells = cells-below g.clusters 0 ps tt parts.0 (and-left joins room parts.1) are;
      room = λ _. and-right joins room parts.1;
    }))

-- the value that was mapped
through-ok : {A B : Type 0} (g : A → B) (r : Result A VolumeFault) (x : B) → result_map_both g (λ (e : VolumeFault). e) r ≡ Ok x → (a : A) × (g a ≡ x)
through-ok g (Ok a) x is = (a, let same : g a ≡ x = cc in same)
through-ok g (Err fault) x is = absurd cc

pub gathered-readable : (g : Geometry) (table : Map) (f : ℕ → List ℕ) (r kind : ℕ) (name : List ℕ) (gathered : Gathered ℕ) → gather_of g table f r kind name ≡ Ok gathered → IsReadable g gathered.stream
unfolding gather_of gather with_cells
gathered-readable g table f r kind name gathered is =
    let slots = slots_of g table f in
    let listings = lists_of g f slots in
    let cells : ℕ → Head → Attribute (Located (Laid (List ℕ))) → Attribute (Located (Laid (Cells ℕ))) = on_payload (map_located (map_laid (cells_below g.clusters))) in
    let found = bind-ok (extents listings (map_slots cells 0 slots) r kind name) (λ es. stream_of g.cluster r (map part_of es)) gathered is in
    let raw = through-ok (map (mapped cells)) (extents listings slots r kind name) found.0 (sym (extents-mapped cells listings slots r kind name (λ r h a. refl)) ∙ found.1) in
    let are = subst (λ (es : List (Extent (Located (Laid (Cells ℕ))))). AllByRecursion (AreBelow g.clusters) (map part_of es)) raw.1 (parts-below g.clusters raw.0) in
    stream-readable g r (map part_of found.0) gathered are found.2
