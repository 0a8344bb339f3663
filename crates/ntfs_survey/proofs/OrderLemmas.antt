-- Owned clusters ascend by record, place and VCN.
use Rattle.std.proofs.Common.{◌≡◌, ◌+◌, ◌<◌, ◌≤◌, ℕ, zero, suc, Bool, true, false, List, [], ◌∷◌, ◌++◌, drop, length, map, Option, Some, None, Result, Ok, Err, refl, sym, ap, ◌∙◌, arith, inl, inr, if◌then◌else◌}
use Rattle.std.specs.List.{AllByRecursion, flat_map}
use Rattle.std.proofs.lemmas.List.{length-drop, length-take-le}
use Rattle.ntfs_base.specs.Bytes.{piece_at}
use Rattle.ntfs_boot.specs.declared.geometry.Geometry.{Geometry}
use Rattle.ntfs_fixup.specs.Fixups.{unfix_of}
use Rattle.ntfs_fixup.specs.declared.header.Magic.TheVariants.{File}
use Rattle.ntfs_fixup.specs.declared.unfixing.FixFault.{FixFault}
use Rattle.ntfs_record.specs.Attribute.{raw_at}
use Rattle.ntfs_record.specs.FileRecord.{Attribute, FileRecord, Head, Laid}
use Rattle.ntfs_record.specs.IsRecord.{Follow}
use Rattle.ntfs_record.specs.Layout.{in_use_of, length_at}
use Rattle.ntfs_record.specs.Parsing.{parse_of}
use Rattle.ntfs_record.specs.Slots.{Slot, begins_baad, if_parsed, if_unfixed, is_in_use, map_slots, record_in, tells_own}
use Rattle.ntfs_record.specs.Views.{placed_from}
use Rattle.ntfs_record.specs.declared.fault.RecordFault.{RecordFault}
use Rattle.ntfs_record.proofs.RecordLemmas.{found_lem}
use Rattle.ntfs_runs.specs.Cells.{Cells}
use Rattle.ntfs_survey.specs.Laws.{AreInOrder, Ascend, ComesBefore, StandsBefore}
use Rattle.ntfs_survey.specs.Owned.{Claim, attribute_claims, cell_claims, each_attribute}
use Rattle.ntfs_survey.proofs.ClaimLemmas.{all-append, all-cells, all-runs}
use Rattle.ntfs_survey.proofs.OwnedLemmas.{celled}
use Rattle.ntfs_volume.specs.Located.{Located, idle, live_located, located_of, located_slot, slots_from, slots_of, sound_located, unsound_located, with_cells}
use Rattle.ntfs_volume.specs.MftMap.{Map}
use Rattle.ntfs_volume.specs.Records.{raw_record}

-- ---- lists

all-weaker : {A : Type 0} (P Q : A → Type 0) → ((x : A) → P x → Q x) → (xs : List A) → AllByRecursion P xs → AllByRecursion Q xs
all-weaker P Q f [] all = tt
all-weaker P Q f (x ∷ xs) all = (f x all.0, all-weaker P Q f xs all.1)

across : {A : Type 0} (Before : A → A → Type 0) (P Q : A → Type 0) → ((x y : A) → P x → Q y → Before x y) → (xs ys : List A) → AllByRecursion P xs → AllByRecursion Q ys
    → AllByRecursion (λ x. AllByRecursion (Before x) ys) xs
across Before P Q f [] ys ps qs = tt
across Before P Q f (x ∷ xs) ys ps qs = (all-weaker Q (Before x) (λ y q. f x y ps.0 q) ys qs, across Before P Q f xs ys ps.1 qs)

ascend-append : {A : Type 0} (Before : A → A → Type 0) (xs ys : List A) → Ascend Before xs → Ascend Before ys → AllByRecursion (λ x. AllByRecursion (Before x) ys) xs → Ascend Before (xs ++ ys)
unfolding Ascend
ascend-append Before [] ys one two both = two
ascend-append Before (x ∷ xs) ys one two both = (all-append (Before x) xs ys one.0 both.0, ascend-append Before xs ys one.1 two both.1)

-- ---- claims

abbrev IsAt : {X : Type 0} → ℕ → ℕ → Claim X → Type 0
IsAt r place claim = (claim.number ≡ r) × (claim.place ≡ place)

abbrev IsBehind : {X : Type 0} → ℕ → ℕ → Claim X → Type 0
IsBehind r place claim = (claim.number ≡ r) × (place < claim.place)

cells-at : {X : Type 0} (r place vcn : ℕ) (cells : List (Option X)) → AllByRecursion (IsAt r place) (cell_claims r place vcn cells)
cells-at r place vcn cells = all-cells (IsAt r place) r place vcn cells (λ i k is. (refl, refl))

cells-ascend : {X : Type 0} (r place vcn : ℕ) (cells : List (Option X)) → Ascend ComesBefore (cell_claims r place vcn cells)
unfolding cell_claims Ascend
cells-ascend r place vcn [] = tt
cells-ascend r place vcn (None ∷ cells) = cells-ascend r place (suc vcn) cells
cells-ascend {X = X} r place vcn (Some k ∷ cells) =
    let first : Claim X = record { cluster = k; number = r; place = place; vcn = vcn } in
    (all-cells (ComesBefore first) r place (suc vcn) cells (λ i x is. inr (refl, inr (refl, omega arith))), cells-ascend r place (suc vcn) cells)

attribute-at : {X : Type 0} (r : ℕ) (a : Attribute (Located (Laid (Cells X)))) → AllByRecursion (IsAt r a.payload.place) (attribute_claims r a)
unfolding attribute_claims
attribute-at r a =
    all-runs (IsAt r a.payload.place) a.face.is_resident (cell_claims r a.payload.place a.face.lowest a.payload.payload.runs.cells) (λ runs. cells-at r a.payload.place a.face.lowest a.payload.payload.runs.cells)

ascend-runs : {X : Type 0} (resident : Bool) (claims : List (Claim X)) → Ascend ComesBefore claims → Ascend ComesBefore (if resident then [] else claims)
unfolding Ascend
ascend-runs true claims all = tt
ascend-runs false claims all = all

attribute-ascends : {X : Type 0} (r : ℕ) (a : Attribute (Located (Laid (Cells X)))) → Ascend ComesBefore (attribute_claims r a)
unfolding attribute_claims
attribute-ascends r a = ascend-runs a.face.is_resident (cell_claims r a.payload.place a.face.lowest a.payload.payload.runs.cells) (cells-ascend r a.payload.place a.face.lowest a.payload.payload.runs.cells)

-- those of attributes that stand behind a place
attributes-behind : {X : Type 0} (r place : ℕ) (attributes : List (Attribute (Located (Laid (Cells X))))) → AllByRecursion (λ a. place < a.payload.place) attributes
    → AllByRecursion (IsBehind r place) (flat_map (attribute_claims r) attributes)
attributes-behind r place [] all = tt
attributes-behind r place (a ∷ attributes) all =
    all-append (IsBehind r place) (attribute_claims r a) (flat_map (attribute_claims r) attributes)
    (all-weaker (IsAt r a.payload.place) (IsBehind r place) (λ c at. (at.0, omega (arith, at.1, all.0))) (attribute_claims r a) (attribute-at r a))
    (attributes-behind r place attributes all.1)

attributes-of : {X : Type 0} (r : ℕ) (attributes : List (Attribute (Located (Laid (Cells X))))) → AllByRecursion (λ (c : Claim X). c.number ≡ r) (flat_map (attribute_claims r) attributes)
attributes-of r [] = tt
attributes-of {X = X} r (a ∷ attributes) =
    all-append (λ (c : Claim X). c.number ≡ r) (attribute_claims r a) (flat_map (attribute_claims r) attributes)
    (all-weaker (IsAt r a.payload.place) (λ (c : Claim X). c.number ≡ r) (λ c at. at.0) (attribute_claims r a) (attribute-at r a)) (attributes-of r attributes)

attributes-ascend : {X : Type 0} (r : ℕ) (attributes : List (Attribute (Located (Laid (Cells X))))) → Ascend StandsBefore attributes → Ascend ComesBefore (flat_map (attribute_claims r) attributes)
unfolding Ascend
attributes-ascend r [] all = tt
attributes-ascend {X = X} r (a ∷ attributes) all =
    ascend-append ComesBefore (attribute_claims r a) (flat_map (attribute_claims r) attributes) (attribute-ascends r a) (attributes-ascend r attributes all.1)
    (across ComesBefore (IsAt r a.payload.place) (IsBehind r a.payload.place) (λ (x y : Claim X) at behind. inr (at.0 ∙ sym behind.0, inl (omega (arith, at.1, behind.1))))
    (attribute_claims r a) (flat_map (attribute_claims r) attributes) (attribute-at r a) (attributes-behind r a.payload.place attributes all.0))

records-from : {X : Type 0} (r n : ℕ) (slots : List (Slot (Located (Laid (Cells X))))) → r ≤ n → AllByRecursion (λ (c : Claim X). r ≤ c.number) (each_attribute attribute_claims n slots)
unfolding each_attribute
records-from r n [] le = tt
records-from {X = X} r n (s ∷ slots) le =
    all-append (λ (c : Claim X). r ≤ c.number) (flat_map (attribute_claims n) s.attributes) (each_attribute attribute_claims (suc n) slots)
    (all-weaker (λ (c : Claim X). c.number ≡ n) (λ (c : Claim X). r ≤ c.number) (λ c is. omega (arith, is, le)) (flat_map (attribute_claims n) s.attributes) (attributes-of n s.attributes))
    (records-from r (suc n) slots (omega (arith, le)))

pub owned-ascend : {X : Type 0} (r : ℕ) (slots : List (Slot (Located (Laid (Cells X))))) → AreInOrder slots → Ascend ComesBefore (each_attribute attribute_claims r slots)
unfolding each_attribute Ascend
owned-ascend r [] all = tt
owned-ascend {X = X} r (s ∷ slots) all =
    ascend-append ComesBefore (flat_map (attribute_claims r) s.attributes) (each_attribute attribute_claims (suc r) slots) (attributes-ascend r s.attributes all.0) (owned-ascend (suc r) slots all.1)
    (across ComesBefore (λ (c : Claim X). c.number ≡ r) (λ (c : Claim X). suc r ≤ c.number) (λ (x y : Claim X) is from. inl (omega (arith, is, from)))
    (flat_map (attribute_claims r) s.attributes) (each_attribute attribute_claims (suc r) slots) (attributes-of r s.attributes) (records-from (suc r) (suc r) slots (omega arith)))

-- ---- the records of a volume

piece-long : (bytes : List ℕ) (place count : ℕ) → place + count ≤ length bytes → length (piece_at place count bytes) ≡ count
unfolding piece_at
piece-long bytes place count fits = length-take-le count (drop place bytes) (omega (arith, fits, length-drop place bytes))

raws-long : (used : ℕ) (bytes : List ℕ) (place : ℕ) (raws : List (List ℕ)) (last : ℕ) → used ≤ length bytes → Follow used bytes place raws last → AllByRecursion (λ raw. 1 ≤ length raw) raws
unfolding raw_at
raws-long used bytes place [] last within follow = tt
raws-long used bytes place (raw ∷ raws) last within follow =
    let sound = follow.0 in
    let long : length raw ≡ length_at place bytes = ap length follow.2 ∙ piece-long bytes place (length_at place bytes) (omega (arith, sound.ends, within)) in
    (omega (arith, long, sound.more), raws-long used bytes (place + length_at place bytes) raws last within follow.3)

places-above : (low place : ℕ) (raws : List (List ℕ)) → low < place → AllByRecursion (λ (a : Attribute (Located (Laid (List ℕ)))). low < a.payload.place) (map located_of (placed_from place raws))
places-above low place [] lt = tt
places-above low place (raw ∷ raws) lt = (lt, places-above low (place + length raw) raws (omega (arith, lt)))

places-ascend : (place : ℕ) (raws : List (List ℕ)) → AllByRecursion (λ raw. 1 ≤ length raw) raws → Ascend StandsBefore (map located_of (placed_from place raws))
unfolding Ascend
places-ascend place [] all = tt
places-ascend place (raw ∷ raws) all = (places-above place (place + length raw) raws (omega (arith, all.0)), places-ascend (place + length raw) raws all.1)

abbrev IsOrdered : Slot (Located (Laid (List ℕ))) → Type 0
IsOrdered s = Ascend StandsBefore s.attributes

by-number : (own : Bool) (file : FileRecord) → IsOrdered (sound_located file) → IsOrdered (if own then sound_located file else unsound_located)
unfolding Ascend
by-number true file ordered = ordered
by-number false file ordered = tt

file-ordered : (bytes : List ℕ) (said : Result FileRecord RecordFault) → said ≡ parse_of bytes → (n : ℕ) → IsOrdered (live_located n (if_parsed said))
unfolding Ascend
file-ordered bytes (Err fault) is n = tt
file-ordered bytes (Ok file) is n =
    let found = found_lem bytes (Ok file) is in
    let within : in_use_of bytes ≤ length bytes = omega (arith, found.header.in_use, found.header.allocated) in
    let ordered = places-ascend file.layout.first_attribute file.raws (raws-long (in_use_of bytes) bytes _ file.raws found.attributes.last within found.attributes.follow) in
    by-number (tells_own n file.layout.number) file ordered

block-ordered : (block : Result (List ℕ) FixFault) (n : ℕ) → IsOrdered (live_located n (if_unfixed block))
unfolding Ascend
block-ordered (Err fault) n = tt
block-ordered (Ok block) n = file-ordered block (parse_of block) refl n

slot-by : (live : Bool) (n : ℕ) (raw : List ℕ) → IsOrdered (if live then live_located n (record_in raw) else idle (begins_baad raw))
unfolding record_in Ascend
slot-by true n raw = block-ordered (unfix_of File raw) n
slot-by false n raw = tt

slot-ordered : (n : ℕ) (raw : Option (List ℕ)) → IsOrdered (located_slot n raw)
unfolding located_slot Ascend
slot-ordered n None = tt
slot-ordered n (Some raw) = slot-by (is_in_use raw) n raw

celled-above : (n r low : ℕ) (h : Head) (attributes : List (Attribute (Located (Laid (List ℕ))))) → AllByRecursion (λ (a : Attribute (Located (Laid (List ℕ)))). low < a.payload.place) attributes
    → AllByRecursion (λ (a : Attribute (Located (Laid (Cells ℕ)))). low < a.payload.place) (map (celled n r h) attributes)
celled-above n r low h [] all = tt
celled-above n r low h (a ∷ attributes) all = (all.0, celled-above n r low h attributes all.1)

celled-ascend : (n r : ℕ) (h : Head) (attributes : List (Attribute (Located (Laid (List ℕ))))) → Ascend StandsBefore attributes → Ascend StandsBefore (map (celled n r h) attributes)
unfolding Ascend
celled-ascend n r h [] all = tt
celled-ascend n r h (a ∷ attributes) all = (celled-above n r a.payload.place h attributes all.0, celled-ascend n r h attributes all.1)

slots-ordered : (n r k count : ℕ) (slot : ℕ → Slot (Located (Laid (List ℕ)))) → ((i : ℕ) → IsOrdered (slot i)) → AreInOrder (map_slots (celled n) r (slots_from slot k count))
unfolding slots_from
slots-ordered n r k zero slot all = tt
slots-ordered n r k (suc count) slot all = (celled-ascend n r (slot k).head (slot k).attributes (all k), slots-ordered n (suc r) (suc k) count slot all)

pub volume-ordered : (g : Geometry) (m : Map) (f : ℕ → List ℕ) → AreInOrder (with_cells g.clusters (slots_of g m f))
unfolding with_cells slots_of
volume-ordered g m f = slots-ordered g.clusters 0 0 _ (λ n. located_slot n (raw_record g m f n)) (λ n. slot-ordered n (raw_record g m f n))
