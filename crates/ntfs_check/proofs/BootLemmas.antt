-- Record 7 of a volume that breaks no rule owns a cluster.
use Rattle.std.proofs.Common.{◌≡◌, ◌≤◌, ◌+◌, ◌==◌, ◌&&◌, ℕ, zero, suc, Bool, true, false, List, [], ◌∷◌, length, map, Option, Some, None, Result, Ok, refl, sym, ap, subst, ◌∙◌, arith, if◌then◌else◌}
use Rattle.std.specs.Prelude.{Contains, filter, not, slice_get}
use Rattle.std.specs.List.{AllByRecursion}
use Rattle.std.proofs.lemmas.Bool.{eq-eqb}
use Rattle.std.proofs.lemmas.List.Elements.{All-contains_itself, recursion_from_All}
use Rattle.ntfs_base.specs.Frames.{must, ◌>>=◌}
use Rattle.ntfs_base.specs.declared.refusal.Rule.TheVariants as rule
use Rattle.ntfs_check_fixed.specs.Facts.{owned_end}
use Rattle.ntfs_directory.specs.UpCase.{data_kind}
use Rattle.ntfs_record.specs.FileRecord.{Attribute, Head, Laid}
use Rattle.ntfs_record.specs.Slots.{Slot}
use Rattle.ntfs_rules.proofs.ClearLemmas.{passed, row_7-clear}
use Rattle.ntfs_rules.proofs.CountLemmas.{begins-all}
use Rattle.ntfs_rules.proofs.DataLemmas.{numbers-are}
use Rattle.ntfs_rules.proofs.PairingLemmas.{all-at, all-kept}
use Rattle.ntfs_rules.specs.Accepts.{claims_in, fault_of}
use Rattle.ntfs_rules.specs.FixedRecords.{begin_with, has_no_list, is_solid, passes, row_7}
use Rattle.ntfs_rules.specs.VolumeData.{Records, listings, numbers, stream_in, volume_data}
use Rattle.ntfs_runs.specs.Cells.{Cells}
use Rattle.ntfs_survey.proofs.ClaimLemmas.{all-append, owned-each}
use Rattle.ntfs_survey.proofs.StreamLemmas.{volume-none}
use Rattle.ntfs_survey.specs.Laws.{HasNoCells, HaveNoCells}
use Rattle.ntfs_survey.specs.Owned.{Claim, owned}
use Rattle.ntfs_volume.proofs.AnswerLemmas.{and-left, and-right, bind-ok, given, must-parts}
use Rattle.ntfs_volume.proofs.ExtentsLemmas.{all-weaker, of-base, of-own}
use Rattle.ntfs_volume.specs.Gather.{Extent, Lists, extent_at, extents, id_of, is_of}
use Rattle.ntfs_volume.specs.Located.{Located, slot_at}
use Rattle.ntfs_volume.specs.Opened.{Opened}
use Rattle.ntfs_volume.specs.StreamBytes.{have_room}
use Rattle.ntfs_volume.specs.Streams.{Gathered, Part, all_right, cells_in, gather, gathered_at, join_from, part_of, runs_stream, stream_of, stream_of_runs, value_stream}
use Rattle.ntfs_volume.specs.declared.fault.VolumeFault.{VolumeFault}
use Rattle.ntfs_volume.specs.declared.fault.VolumeFault.TheVariants as volume

-- ---- the parts of a stream

-- a stream of runs has the cells of its parts
runs-cells : {X : Type 0} (c r : ℕ) (first : Part X) (ps : List (Part X)) (gathered : Gathered X) → stream_of_runs c r first ps ≡ Ok gathered
    → gathered_at first (length ps) (runs_stream first.flags first.size first.valid (cells_in ps)) ≡ gathered
unfolding stream_of_runs
runs-cells {X = X} c r first ps gathered is =
    let stream = runs_stream first.flags first.size first.valid (cells_in ps) in
    let test = join_from 0 ps && have_room c (length (cells_in ps)) first.size first.valid in
    let last : Result (Gathered X) VolumeFault = Ok (gathered_at first (length ps) stream) in
    let all = bind-ok (all_right ps) (λ _. must test (volume.Damaged rule.C12 r) >>= (λ _. last)) gathered is in
    let fits = must-parts test (volume.Damaged rule.C12 r) last gathered all.2 in
    let last_is = fits.1 in cc

-- a stream is the value of its first part, or one of runs
by-first : {X : Type 0} (c r : ℕ) (ps : List (Part X)) (gathered : Gathered X) (P : Gathered X → Type 0) → stream_of c r ps ≡ Ok gathered
    → ((first : Part X) → P (gathered_at first (length ps) (value_stream first.flags first.value))) → ((first : Part X) → stream_of_runs c r first ps ≡ Ok gathered → P gathered) → P gathered
unfolding stream_of
by-first c r [] gathered P is value runs = absurd cc
by-first {X = X} c r (first ∷ ps) gathered P is value runs = step first.is_resident is
  where
    step : (b : Bool) → (if b then Ok (gathered_at first (length (first ∷ ps)) (value_stream first.flags first.value)) else stream_of_runs c r first (first ∷ ps)) ≡ Ok gathered → P gathered
    step true is = let same : gathered_at first (length (first ∷ ps)) (value_stream first.flags first.value) ≡ gathered = cc in subst P same (value first)
    step false is = runs first is

-- what holds of the cells of all parts holds of the stream's
stream-cells : {X : Type 0} (P : Option X → Type 0) (c r : ℕ) (ps : List (Part X)) (gathered : Gathered X) → stream_of c r ps ≡ Ok gathered → AllByRecursion P (cells_in ps) → AllByRecursion P gathered.stream.cells
stream-cells {X = X} P c r ps gathered is all =
    by-first c r ps gathered (λ (s : Gathered X). AllByRecursion P s.stream.cells) is (λ first. tt)
    (λ first runs. subst (λ (s : Gathered X). AllByRecursion P s.stream.cells) (runs-cells c r first ps gathered runs) all)

-- ---- a record without a list

-- the cell stands in the mapping pairs of an attribute of record r
record IsOfRecord {X : Type 0} (slots : List (Slot (Located (Laid (Cells X))))) (r : ℕ) (cell : Option X) : Type 0 where
  attribute : Attribute (Located (Laid (Cells X)))
  has : Contains (slot_at slots r).attributes attribute
  stands : Contains attribute.payload.payload.runs.cells cell

all-own : {A : Type 0} (xs : List A) → AllByRecursion (Contains xs) xs
all-own xs = recursion_from_All (Contains xs) xs (All-contains_itself xs)

cells-own : {X : Type 0} (slots : List (Slot (Located (Laid (Cells X))))) (r : ℕ) (h : Head) (them : List (Attribute (Located (Laid (Cells X))))) → AllByRecursion (Contains (slot_at slots r).attributes) them
    → AllByRecursion (IsOfRecord slots r) (cells_in (map part_of (map (extent_at r h) them)))
unfolding cells_in
cells-own slots r h [] own = tt
cells-own slots r h (a ∷ them) own =
    let cells = a.payload.payload.runs.cells in
    all-append (IsOfRecord slots r) cells (cells_in (map part_of (map (extent_at r h) them)))
    (all-weaker (Contains cells) (IsOfRecord slots r) (λ cell there. record { attribute = a; has = own.0; stands = there }) cells (all-own cells))
    (cells-own slots r h them own.1)

own-attributes : {P : Type 0} (test : Attribute P → Bool) (attributes : List (Attribute P)) → AllByRecursion (Contains attributes) (filter test attributes)
own-attributes test attributes =
    all-weaker (λ a. Contains attributes a × (test a ≡ true)) (Contains attributes) (λ a both. both.0) (filter test attributes) (all-kept (Contains attributes) test attributes (all-own attributes))

-- the cells of a stream of such a record stand in its own attributes
gathered-own : {X : Type 0} (c : ℕ) (lists : Lists) (slots : List (Slot (Located (Laid (Cells X))))) (r kind : ℕ) (name : List ℕ) (gathered : Gathered X)
    → (lists r).is_there ≡ false → gather c lists slots r kind name ≡ Ok gathered → AllByRecursion (IsOfRecord slots r) gathered.stream.cells
unfolding gather
gathered-own {X = X} c lists slots r kind name gathered none is =
    let found = bind-ok (extents lists slots r kind name) (λ es. stream_of c r (map part_of es)) gathered is in
    let h = (slot_at slots r).head in
    let them = filter (λ (a : Attribute (Located (Laid (Cells X)))). is_of kind name (id_of a.face)) (slot_at slots r).attributes in
    let own = of-own lists slots r kind name (of-base lists slots r kind name found.0 found.1) none in
    let same : found.0 ≡ map (extent_at r h) them = given (map (extent_at r h) them) found.0 (sym own ∙ found.1) in
    stream-cells (IsOfRecord slots r) c r (map part_of found.0) gathered found.2
    (subst (λ (es : List (Extent (Located (Laid (Cells X))))). AllByRecursion (IsOfRecord slots r) (cells_in (map part_of es))) (sym same)
    (cells-own slots r h them (own-attributes (λ (a : Attribute (Located (Laid (Cells X)))). is_of kind name (id_of a.face)) (slot_at slots r).attributes)))

-- ---- its clusters are claimed

none-at : {X : Type 0} (slots : List (Slot (Located (Laid (Cells X))))) (r : ℕ) → HaveNoCells slots → AllByRecursion HasNoCells (slot_at slots r).attributes
unfolding slot_at
none-at [] r none = tt
none-at (s ∷ slots) zero none = none.0
none-at (s ∷ slots) (suc r) none = none-at slots r none.1

get-at : {A : Type 0} (xs : List A) (x : A) → Contains xs x → (i : ℕ) × (slice_get xs i ≡ Some x)
get-at [] x has = absurd (omega (arith, has.1))
get-at (y ∷ xs) x (zero, lt, is) = (0, ap Some is)
get-at (y ∷ xs) x (suc k, lt, is) = let rest = get-at xs x (k, omega (arith, lt), is) in (suc rest.0, rest.1)

-- a claim by record r of this cluster
abbrev ClaimBy : List (Claim ℕ) → ℕ → ℕ → Type 0
ClaimBy claims r k = (claim : Claim ℕ) × Contains claims claim × (claim.number ≡ r) × (claim.cluster ≡ k)

claim-by : (resident : Bool) (slots : Records ℕ) (r k : ℕ) (cell : IsOfRecord slots r (Some k)) → cell.attribute.face.is_resident ≡ resident → HasNoCells cell.attribute → ClaimBy (owned slots) r k
claim-by true slots r k cell is none = absurd (omega (arith, cell.stands.1, ap length (none is)))
claim-by false slots r k cell is none =
    let a = cell.attribute in
    let at = get-at a.payload.payload.runs.cells (Some k) cell.stands in
    (record { cluster = k; number = r; place = a.payload.place; vcn = a.face.lowest + at.0 }, owned-each slots r a at.0 k cell.has is at.1, refl, refl)

cell-claimed : (slots : Records ℕ) (r k : ℕ) → HaveNoCells slots → IsOfRecord slots r (Some k) → ClaimBy (owned slots) r k
cell-claimed slots r k none cell =
    claim-by cell.attribute.face.is_resident slots r k cell refl (all-at HasNoCells (slot_at slots r).attributes cell.attribute (none-at slots r none) cell.has)

end-first : (r k : ℕ) (claim : Claim ℕ) (claims : List (Claim ℕ)) → claim.number ≡ r → claim.cluster ≡ k → k + 1 ≤ owned_end r (claim ∷ claims)
unfolding owned_end
end-first r k claim claims own is =
    let mine : (if claim.number == r then claim.cluster + 1 else 0) ≡ claim.cluster + 1 = ap (λ b. if b then claim.cluster + 1 else 0) (eq-eqb claim.number r own) in
    omega (arith, mine, is)

end-rest : (r k : ℕ) (claim : Claim ℕ) (claims : List (Claim ℕ)) → k + 1 ≤ owned_end r claims → k + 1 ≤ owned_end r (claim ∷ claims)
unfolding owned_end
end-rest r k claim claims is = omega (arith, is)

-- a record reaches as far as its claims
end-claimed : (r k : ℕ) (claims : List (Claim ℕ)) → ClaimBy claims r k → k + 1 ≤ owned_end r claims
end-claimed r k [] (claim, (j, lt, same), own, is) = absurd (omega (arith, lt))
end-claimed r k (x ∷ claims) (claim, (zero, lt, same), own, is) =
    end-first r k x claims (ap (λ (c : Claim ℕ). c.number) same ∙ own) (ap (λ (c : Claim ℕ). c.cluster) same ∙ is)
end-claimed r k (x ∷ claims) (claim, (suc j, lt, same), own, is) =
    end-rest r k x claims (end-claimed r k claims (claim, (j, omega (arith, lt), same), own, is))

-- ---- record 7

no-list : (b : Bool) → not b ≡ true → b ≡ false
no-list true is = absurd cc
no-list false is = refl

boot-cells : (o : Opened) (f : ℕ → List ℕ) → fault_of (volume_data o f) ≡ None
    → (s : Gathered ℕ) × ((listings (volume_data o f) 7).is_there ≡ false) × (stream_in (volume_data o f) 7 data_kind [] ≡ Ok s) × (begin_with (0 ∷ []) s.stream.cells ≡ true)
unfolding row_7
boot-cells o f is =
    let v = volume_data o f in
    let test = λ (s : Gathered ℕ). is_solid v.geometry.clusters s.stream && begin_with (0 ∷ []) s.stream.cells in
    let found = stream_in v 7 data_kind [] in
    let row = row_7-clear v is in
    let parts = passed test found (and-right (has_no_list (listings v) 7) (passes test found) row) in (
      parts.0,
      no-list (listings v 7).is_there (and-left (has_no_list (listings v) 7) (passes test found) row),
      parts.1,
      and-right (is_solid v.geometry.clusters parts.0.stream) (begin_with (0 ∷ []) parts.0.stream.cells) parts.2,
    )

no-cells : (o : Opened) (f : ℕ → List ℕ) → HaveNoCells (numbers (volume_data o f))
no-cells o f = subst (λ (slots : Records ℕ). HaveNoCells slots) (sym (numbers-are o f)) (volume-none o.geometry o.map f)

pub boot-begun : (o : Opened) (f : ℕ → List ℕ) → fault_of (volume_data o f) ≡ None → 1 ≤ owned_end 7 (claims_in (volume_data o f))
boot-begun o f is =
    let v = volume_data o f in
    let parts = boot-cells o f is in
    let own = gathered-own v.geometry.cluster (listings v) (numbers v) 7 data_kind [] parts.0 parts.1 parts.2 in
    let first = begins-all (IsOfRecord (numbers v) 7) (0 ∷ []) parts.0.stream.cells parts.3 own in
    end-claimed 7 0 (claims_in v) (cell-claimed (numbers v) 7 0 (no-cells o f) first.0)
