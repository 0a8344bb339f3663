-- The views of a volume as finite data are those of the opened volume.
use Rattle.std.proofs.Common.{◌≡◌, ◌&&◌, ◌||◌, ℕ, zero, suc, Bool, List, [], ◌∷◌, Option, Some, None, map, refl, ap, ◌∙◌}
use Rattle.std.proofs.Math.Path.{fun_ext}
use Rattle.std.specs.Prelude.{not}
use Rattle.std.specs.List.{list_all}
use Rattle.std.specs.Result.{result_map_both}
use Rattle.ntfs_base.specs.Bytes.{Cluster, fill_cluster}
use Rattle.ntfs_rules.specs.Records.{c4, c6, c7, has_name_between}
use Rattle.ntfs_rules.specs.VolumeData.{Records, content_in, contents, listings, listings_of, numbers, stream_in, volume_data}
use Rattle.ntfs_record.proofs.SlotLemmas.{first_not-map, map_slots-agree, map_slots-map_slots}
use Rattle.ntfs_record.specs.FileRecord.{Attribute, Head, Laid, Spot}
use Rattle.ntfs_record.specs.Slots.{Slot, first_not, map_laid, map_slot, map_slots, on_payload}
use Rattle.ntfs_runs.proofs.CellsLemmas.{map_cells-map_cells}
use Rattle.ntfs_runs.specs.Cells.{Cells, cells_below, map_cells}
use Rattle.ntfs_survey.specs.Owned.{have_cells, is_whole}
use Rattle.ntfs_volume.specs.Gather.{Lists}
use Rattle.ntfs_volume.specs.Laws.{in_located, in_slots}
use Rattle.ntfs_volume.specs.Listing.{filled_attribute, filled_attributes, listing_in}
use Rattle.ntfs_volume.specs.Located.{Located, map_located, slot_at, slots_of, unlocated, with_cells}
use Rattle.ntfs_volume.specs.Opened.{Opened}
use Rattle.ntfs_volume.specs.Streams.{gather, gather_of, lists_of, map_gathered}

-- ---- maps that change nothing

cells-same : {X : Type 0} (cells : List (Option X)) → map_cells (λ x. x) cells ≡ cells
cells-same [] = refl
cells-same {X = X} (None ∷ cells) = ap (λ (rest : List (Option X)). None ∷ rest) (cells-same cells)
cells-same {X = X} (Some x ∷ cells) = ap (λ (rest : List (Option X)). Some x ∷ rest) (cells-same cells)

attributes-same : {P : Type 0} (f : Attribute P → Attribute P) (attributes : List (Attribute P)) → ((a : Attribute P) → f a ≡ a) → map f attributes ≡ attributes
attributes-same f [] same = refl
attributes-same {P = P} f (a ∷ attributes) same =
    ap (λ (x : Attribute P). x ∷ map f attributes) (same a) ∙ ap (λ (rest : List (Attribute P)). a ∷ rest) (attributes-same f attributes same)

with_own : {P : Type 0} → Slot P → List (Attribute P) → Slot P
with_own s attributes = record { is_live = s.is_live; is_sound = s.is_sound; is_baad = s.is_baad; head = s.head; attributes = attributes }

slots-same : {P : Type 0} (f : ℕ → Head → Attribute P → Attribute P) (n : ℕ) (slots : List (Slot P)) → ((r : ℕ) (h : Head) (a : Attribute P) → f r h a ≡ a) → map_slots f n slots ≡ slots
unfolding with_own
slots-same f n [] same = refl
slots-same {P = P} f n (s ∷ slots) same =
    ap (λ (attributes : List (Attribute P)). with_own s attributes ∷ map_slots f (suc n) slots) (attributes-same (f n s.head) s.attributes (same n s.head))
    ∙ ap (λ (rest : List (Slot P)). s ∷ rest) (slots-same f (suc n) slots same)

with_cells-in : {X : Type 0} → Attribute (Located (Laid (Cells X))) → List (Option X) → Attribute (Located (Laid (Cells X)))
with_cells-in a cells = record {
  face = a.face;
  payload = record {
    place = a.payload.place;
    payload = record { spot = a.payload.payload.spot; runs = record { is_right = a.payload.payload.runs.is_right; cells = cells } };
  };
}

-- ---- views

-- the numbers of clusters that have bytes beside them
numbers-filled : (f : ℕ → List ℕ) (slots : Records ℕ)
    → in_slots (λ place. place) (λ (k : Cluster). k.number) (in_slots (λ place. place) (fill_cluster f) slots) ≡ slots
unfolding with_cells-in
numbers-filled f slots =
    map_slots-map_slots (on_payload (in_located (λ place. place) (fill_cluster f))) (on_payload (in_located (λ place. place) (λ (k : Cluster). k.number))) 0 slots
    ∙ slots-same _ 0 slots (λ r h a. ap (with_cells-in a) (map_cells-map_cells (λ (k : Cluster). k.number) (fill_cluster f) a.payload.payload.runs.cells ∙ cells-same a.payload.payload.runs.cells))

pub numbers-are : (o : Opened) (f : ℕ → List ℕ) → numbers (volume_data o f) ≡ with_cells o.geometry.clusters (slots_of o.geometry o.map f)
unfolding volume_data
numbers-are o f = numbers-filled f (with_cells o.geometry.clusters (slots_of o.geometry o.map f))

-- their bytes
contents-filled : (f : ℕ → List ℕ) (slots : Records ℕ)
    → in_slots (λ place. 0) (λ (k : Cluster). k.bytes) (in_slots (λ place. place) (fill_cluster f) slots) ≡ in_slots (λ place. 0) f slots
contents-filled f slots =
    map_slots-map_slots (on_payload (in_located (λ place. place) (fill_cluster f))) (on_payload (in_located (λ place. 0) (λ (k : Cluster). k.bytes))) 0 slots
    ∙ map_slots-agree _ (on_payload (in_located (λ place. 0) f)) 0 slots (λ r h a.
    ap (λ (cells : List (Option (List ℕ))). record {
      face = a.face;
      payload = record { place = 0; payload = record { spot = a.payload.payload.spot; runs = record { is_right = a.payload.payload.runs.is_right; cells = cells } } };
    }) (map_cells-map_cells (λ (k : Cluster). k.bytes) (fill_cluster f) a.payload.payload.runs.cells))

pub contents-are : (o : Opened) (f : ℕ → List ℕ) → contents (volume_data o f) ≡ in_slots (λ place. 0) f (with_cells o.geometry.clusters (slots_of o.geometry o.map f))
unfolding volume_data
contents-are o f = contents-filled f (with_cells o.geometry.clusters (slots_of o.geometry o.map f))

-- ---- attribute lists

slot-mapped : {P Q : Type 0} (f : P → Q) (n r : ℕ) (slots : List (Slot P)) → slot_at (map_slots (on_payload f) n slots) r ≡ map_slot (on_payload f n) (slot_at slots r)
unfolding slot_at
slot-mapped f n r [] = refl
slot-mapped f n zero (s ∷ slots) = refl
slot-mapped f n (suc r) (s ∷ slots) = slot-mapped f (suc n) r slots

listed-filled : (f : ℕ → List ℕ) (n : ℕ) (head : Head) (attributes : List (Attribute (Located (Laid (List ℕ)))))
    → map unlocated (map (on_payload (in_located (λ place. 0) f) 0 head) (map (on_payload (map_located (map_laid (cells_below n))) 0 head) attributes))
    ≡ filled_attributes n f (map unlocated attributes)
listed-filled f n head [] = refl
listed-filled f n head (a ∷ attributes) =
    ap (λ (rest : List (Attribute (Laid (Cells (List ℕ))))). filled_attribute n f (unlocated a) ∷ rest) (listed-filled f n head attributes)

slot-filled : (f : ℕ → List ℕ) (n r : ℕ) (slots : List (Slot (Located (Laid (List ℕ)))))
    → slot_at (in_slots (λ place. 0) f (with_cells n slots)) r
    ≡ map_slot (on_payload (in_located (λ place. 0) f) 0) (map_slot (on_payload (map_located (map_laid (cells_below n))) 0) (slot_at slots r))
unfolding with_cells
slot-filled f n r slots =
    slot-mapped (in_located (λ place. 0) f) 0 r (map_slots (on_payload (map_located (map_laid (cells_below n)))) 0 slots)
    ∙ ap (map_slot (on_payload (in_located (λ place. 0) f) 0)) (slot-mapped (map_located (map_laid (cells_below n))) 0 r slots)

list-filled : (c n : ℕ) (f : ℕ → List ℕ) (slots : List (Slot (Located (Laid (List ℕ))))) (r : ℕ)
    → listings_of c (in_slots (λ place. 0) f (with_cells n slots)) r ≡ listing_in c (filled_attributes n f (map unlocated (slot_at slots r).attributes))
list-filled c n f slots r =
    ap (λ (s : Slot (Located (Laid (Cells (List ℕ))))). listing_in c (map unlocated s.attributes)) (slot-filled f n r slots)
    ∙ ap (listing_in c) (listed-filled f n (slot_at slots r).head (slot_at slots r).attributes)

listings-filled : (c : ℕ) (slots others : Records (List ℕ)) (lists : Lists) → slots ≡ others → ((r : ℕ) → listings_of c others r ≡ lists r) → listings_of c slots ≡ lists
listings-filled c slots others lists same each = fun_ext (λ r. ap (λ (them : Records (List ℕ)). listings_of c them r) same ∙ each r)

pub listings-are : (o : Opened) (f : ℕ → List ℕ) → listings (volume_data o f) ≡ lists_of o.geometry f (slots_of o.geometry o.map f)
unfolding volume_data
listings-are o f =
    let slots = slots_of o.geometry o.map f in
    listings-filled o.geometry.cluster _ (in_slots (λ place. 0) f (with_cells o.geometry.clusters slots)) (lists_of o.geometry f slots)
    (contents-filled f (with_cells o.geometry.clusters slots)) (list-filled o.geometry.cluster o.geometry.clusters f slots)

-- ---- rules that look at records alone

tests-mapped : {A B : Type 0} (f : A → B) (test : A → Bool) (other : B → Bool) (xs : List A) → ((x : A) → other (f x) ≡ test x) → list_all other (map f xs) ≡ list_all test xs
tests-mapped f test other [] same = refl
tests-mapped f test other (x ∷ xs) same =
    ap (λ b. b && list_all other (map f xs)) (same x) ∙ ap (λ b. test x && b) (tests-mapped f test other xs same)

whole-mapped : {P Q : Type 0} (f : P → Q) (slots : List (Slot P)) → c4 (map_slots (on_payload f) 0 slots) ≡ c4 slots
unfolding c4
whole-mapped f slots = first_not-map (on_payload f) (λ r s. is_whole s) (λ r s. is_whole s) 0 slots (λ r s. refl)

pub c4-is : (o : Opened) (f : ℕ → List ℕ) → c4 (volume_data o f).slots ≡ c4 (slots_of o.geometry o.map f)
unfolding volume_data with_cells
c4-is o f =
    let slots = slots_of o.geometry o.map f in
    whole-mapped (in_located (λ place. place) (fill_cluster f)) (map_slots (on_payload (map_located (map_laid (cells_below o.geometry.clusters)))) 0 slots)
    ∙ whole-mapped (map_located (map_laid (cells_below o.geometry.clusters))) slots

names-mapped : {P Q : Type 0} (f : Located (Laid P) → Located (Laid Q)) (slots : List (Slot (Located (Laid P)))) → ((l : Located (Laid P)) → (f l).payload.spot ≡ l.payload.spot)
    → c6 (map_slots (on_payload f) 0 slots) ≡ c6 slots
unfolding c6 has_name_between
names-mapped f slots same =
    first_not-map (on_payload f) (λ r s. not s.is_live || list_all has_name_between s.attributes) (λ r s. not s.is_live || list_all has_name_between s.attributes) 0 slots
    (λ r s. ap (λ b. not s.is_live || b) (tests-mapped (on_payload f r s.head) has_name_between has_name_between s.attributes
    (λ a. ap (λ (spot : Spot). has_name_between {P = ℕ} (record { face = a.face; payload = record { place = 0; payload = record { spot = spot; runs = 0 } } })) (same a.payload))))

pub c6-is : (o : Opened) (f : ℕ → List ℕ) → c6 (volume_data o f).slots ≡ c6 (slots_of o.geometry o.map f)
unfolding volume_data with_cells
c6-is o f =
    let slots = slots_of o.geometry o.map f in
    names-mapped (in_located (λ place. place) (fill_cluster f)) (map_slots (on_payload (map_located (map_laid (cells_below o.geometry.clusters)))) 0 slots) (λ l. refl)
    ∙ names-mapped (map_located (map_laid (cells_below o.geometry.clusters))) slots (λ l. refl)

pub c7-is : (o : Opened) (f : ℕ → List ℕ) → c7 (numbers (volume_data o f)) ≡ first_not (λ r s. have_cells s) 0 (with_cells o.geometry.clusters (slots_of o.geometry o.map f))
unfolding c7
c7-is o f = ap (λ (slots : Records ℕ). first_not (λ r s. have_cells s) 0 slots) (numbers-are o f)

-- ---- streams

-- a stream by its clusters' numbers is the one that is gathered
pub stream-is : (o : Opened) (f : ℕ → List ℕ) (r kind : ℕ) (name : List ℕ) → stream_in (volume_data o f) r kind name ≡ gather_of o.geometry o.map f r kind name
unfolding volume_data gather_of
stream-is o f r kind name =
    ap (λ (lists : Lists). gather o.geometry.cluster lists (numbers (volume_data o f)) r kind name) (listings-are o f)
    ∙ ap (λ (slots : Records ℕ). gather o.geometry.cluster (lists_of o.geometry f (slots_of o.geometry o.map f)) slots r kind name) (numbers-are o f)

-- that gathering maps, of a volume's records: what the law `gathering_maps` of ntfs_volume says of them
abbrev pub GathersFilled : Opened → (ℕ → List ℕ) → ℕ → ℕ → List ℕ → Type 0
GathersFilled o f r kind name =
    gather o.geometry.cluster (lists_of o.geometry f (slots_of o.geometry o.map f))
    (in_slots (λ place. 0) f (with_cells o.geometry.clusters (slots_of o.geometry o.map f))) r kind name
    ≡ result_map_both (map_gathered (λ place. 0) f) (λ fault. fault)
    (gather o.geometry.cluster (lists_of o.geometry f (slots_of o.geometry o.map f))
    (with_cells o.geometry.clusters (slots_of o.geometry o.map f)) r kind name)

-- a stream by its clusters' bytes is the same with the bytes in place of the numbers
pub content-is : (o : Opened) (f : ℕ → List ℕ) (r kind : ℕ) (name : List ℕ) → GathersFilled o f r kind name
    → content_in (volume_data o f) r kind name ≡ result_map_both (map_gathered (λ place. 0) f) (λ fault. fault) (gather_of o.geometry o.map f r kind name)
unfolding volume_data gather_of
content-is o f r kind name maps =
    ap (λ (lists : Lists). gather o.geometry.cluster lists (contents (volume_data o f)) r kind name) (listings-are o f)
    ∙ ap (λ (slots : Records (List ℕ)). gather o.geometry.cluster (lists_of o.geometry f (slots_of o.geometry o.map f)) slots r kind name) (contents-are o f)
    ∙ maps
