-- The clusters of gathered streams are owned.
use Rattle.std.proofs.Common.{◌≡◌, ◌+◌, ℕ, zero, suc, Bool, true, false, List, [], ◌∷◌, length, map, Option, Some, None, refl, ap, subst, arith, if◌then◌else◌}
use Rattle.std.specs.Prelude.{Contains, slice_get}
use Rattle.std.specs.List.{AllByRecursion}
use Rattle.ntfs_boot.specs.declared.geometry.Geometry.{Geometry}
use Rattle.ntfs_record.specs.Attribute.{is_resident_at, resident_at, runs_at}
use Rattle.ntfs_record.specs.FileRecord.{Attribute, FileRecord, Head, Laid}
use Rattle.ntfs_record.specs.Slots.{Slot, begins_baad, is_in_use, map_slots, record_in, tells_own}
use Rattle.ntfs_record.specs.Views.{placed_from}
use Rattle.ntfs_runs.specs.Cells.{Cells, cells_below, cells_of}
use Rattle.ntfs_runs.specs.Reading.{reading, reading_from}
use Rattle.ntfs_survey.specs.Laws.{HasNoCells, HaveNoCells, IsOwned, claim_at}
use Rattle.ntfs_survey.specs.Owned.{Claim, owned}
use Rattle.ntfs_survey.proofs.ClaimLemmas.{owned-each}
use Rattle.ntfs_survey.proofs.OwnedLemmas.{celled}
use Rattle.ntfs_volume.specs.Laws.{IsOfMember}
use Rattle.ntfs_volume.specs.Located.{Located, idle, live_located, located_of, located_slot, slot_at, slots_from, slots_of, sound_located, unsound_located, with_cells}
use Rattle.ntfs_volume.specs.MftMap.{Map}
use Rattle.ntfs_volume.specs.Records.{raw_record}

-- ---- what holds of each element

all-at : {A : Type 0} (P : A → Type 0) (xs : List A) (x : A) → AllByRecursion P xs → Contains xs x → P x
all-at P [] x all has = absurd (omega (arith, has.1))
all-at P (y ∷ xs) x all (zero, lt, is) = subst P is all.0
all-at P (y ∷ xs) x all (suc k, lt, is) = all-at P xs x all.1 (k, omega (arith, lt), is)

none-at : {X : Type 0} (slots : List (Slot (Located (Laid (Cells X))))) (r : ℕ) → HaveNoCells slots → AllByRecursion HasNoCells (slot_at slots r).attributes
unfolding slot_at
none-at [] r none = tt
none-at (s ∷ slots) zero none = none.0
none-at (s ∷ slots) (suc r) none = none-at slots r none.1

get-at : {A : Type 0} (xs : List A) (x : A) → Contains xs x → (i : ℕ) × (slice_get xs i ≡ Some x)
get-at [] x has = absurd (omega (arith, has.1))
get-at (y ∷ xs) x (zero, lt, is) = (0, ap Some is)
get-at (y ∷ xs) x (suc k, lt, is) = let rest = get-at xs x (k, omega (arith, lt), is) in (suc rest.0, rest.1)

-- ---- a cell of an extent

cell-by : {X : Type 0} (resident : Bool) (slots : List (Slot (Located (Laid (Cells X))))) (r : ℕ) (a : Attribute (Located (Laid (Cells X)))) (k : X) → a.face.is_resident ≡ resident
    → HasNoCells a → Contains (slot_at slots r).attributes a → Contains a.payload.payload.runs.cells (Some k) → (claim : Claim X) × Contains (owned slots) claim × (claim.cluster ≡ k)
cell-by true slots r a k is none has stands = absurd (omega (arith, stands.1, ap length (none is)))
cell-by false slots r a k is none has stands =
    let at = get-at a.payload.payload.runs.cells (Some k) stands in
    (claim_at r a at.0 k, owned-each slots r a at.0 k has is at.1, refl)

member-owned : {X : Type 0} (slots : List (Slot (Located (Laid (Cells X))))) (r kind : ℕ) (name : List ℕ) (cell : Option X) → HaveNoCells slots → IsOfMember slots r kind name cell → IsOwned slots cell
member-owned slots r kind name None none member = tt
member-owned slots r kind name (Some k) none member =
    let e = member.extent in
    let has = member.member.attribute in
    cell-by e.attribute.face.is_resident slots e.number e.attribute k refl (all-at HasNoCells (slot_at slots e.number).attributes e.attribute (none-at slots e.number none) has) has member.stands

pub cells-owned : {X : Type 0} (slots : List (Slot (Located (Laid (Cells X))))) (r kind : ℕ) (name : List ℕ) (cells : List (Option X)) → HaveNoCells slots
    → AllByRecursion (IsOfMember slots r kind name) cells → AllByRecursion (IsOwned slots) cells
cells-owned slots r kind name [] none members = tt
cells-owned slots r kind name (cell ∷ cells) none members = (member-owned slots r kind name cell none members.0, cells-owned slots r kind name cells none members.1)

-- ---- the records of a volume

abbrev HasNoPairs : Attribute (Located (Laid (List ℕ))) → Type 0
HasNoPairs a = a.face.is_resident ≡ true → a.payload.payload.runs ≡ []

abbrev with_place : ℕ → Attribute (Laid (List ℕ)) → Attribute (Located (Laid (List ℕ)))
with_place place a = record { face = a.face; payload = record { place = place; payload = a.payload } }

pairs-by : (resident : Bool) (place : ℕ) (raw : List ℕ) → HasNoPairs (with_place place (if resident then resident_at 0 raw else runs_at 0 raw))
unfolding resident_at runs_at
pairs-by true place raw is = refl
pairs-by false place raw is = absurd cc

pairs-placed : (place : ℕ) (raws : List (List ℕ)) → AllByRecursion HasNoPairs (map located_of (placed_from place raws))
pairs-placed place [] = tt
pairs-placed place (raw ∷ raws) = (pairs-by (is_resident_at 0 raw) place raw, pairs-placed (place + length raw) raws)

abbrev IsPlain : Slot (Located (Laid (List ℕ))) → Type 0
IsPlain s = AllByRecursion HasNoPairs s.attributes

file-plain : (own : Bool) (file : FileRecord) → IsPlain (if own then sound_located file else unsound_located)
file-plain true file = pairs-placed file.layout.first_attribute file.raws
file-plain false file = tt

said-plain : (n : ℕ) (said : Option FileRecord) → IsPlain (live_located n said)
said-plain n None = tt
said-plain n (Some file) = file-plain (tells_own n file.layout.number) file

slot-by : (live : Bool) (n : ℕ) (raw : List ℕ) → IsPlain (if live then live_located n (record_in raw) else idle (begins_baad raw))
slot-by true n raw = said-plain n (record_in raw)
slot-by false n raw = tt

slot-plain : (n : ℕ) (raw : Option (List ℕ)) → IsPlain (located_slot n raw)
unfolding located_slot
slot-plain n None = tt
slot-plain n (Some raw) = slot-by (is_in_use raw) n raw

no-cells : (n : ℕ) (pairs : List ℕ) → pairs ≡ [] → (cells_below n pairs).cells ≡ []
unfolding cells_below cells_of reading reading_from
no-cells n pairs is = ap (λ pairs. (cells_below n pairs).cells) is

celled-none : (n r : ℕ) (h : Head) (attributes : List (Attribute (Located (Laid (List ℕ))))) → AllByRecursion HasNoPairs attributes → AllByRecursion HasNoCells (map (celled n r h) attributes)
celled-none n r h [] all = tt
celled-none n r h (a ∷ attributes) all = ((λ is. no-cells n a.payload.payload.runs (all.0 is)), celled-none n r h attributes all.1)

slots-none : (n r k count : ℕ) (slot : ℕ → Slot (Located (Laid (List ℕ)))) → ((i : ℕ) → IsPlain (slot i)) → HaveNoCells (map_slots (celled n) r (slots_from slot k count))
unfolding slots_from
slots-none n r k zero slot all = tt
slots-none n r k (suc count) slot all = (celled-none n r (slot k).head (slot k).attributes (all k), slots-none n (suc r) (suc k) count slot all)

pub volume-none : (g : Geometry) (m : Map) (f : ℕ → List ℕ) → HaveNoCells (with_cells g.clusters (slots_of g m f))
unfolding with_cells slots_of
volume-none g m f = slots-none g.clusters 0 0 _ (λ n. located_slot n (raw_record g m f n)) (λ n. slot-plain n (raw_record g m f n))
