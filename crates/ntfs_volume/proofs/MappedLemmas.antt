-- Extents and streams with something else in place of attributes, or of what stands for the clusters.
use Rattle.std.proofs.Common.{◌≡◌, ◌+◌, ◌-◌, ◌==◌, ◌&&◌, ◌||◌, ◌++◌, ℕ, zero, suc, List, [], ◌∷◌, length, map, refl, sym, ap, ◌∙◌, arith, cond, Bool, true, false, Option, Some, None, Result, Ok, Err, if◌then◌else◌}
use Rattle.std.specs.Prelude.{filter, find, not}
use Rattle.std.specs.Option.{ok_or, option_map}
use Rattle.std.specs.Result.{result_map_both}
use Rattle.std.proofs.lemmas.List.{length-map, map-append}
use Rattle.ntfs_attrlist.specs.Entry.{Listed}
use Rattle.ntfs_base.specs.Frames.{must, ◌>>=◌}
use Rattle.ntfs_base.specs.declared.refusal.Rule.TheVariants as rule
use Rattle.ntfs_record.specs.FileRecord.{Attribute, Head, Laid}
use Rattle.ntfs_record.specs.Slots.{Slot, map_laid, map_slot, map_slots, on_payload}
use Rattle.ntfs_record.proofs.SlotLemmas.{map_slots-map_slots}
use Rattle.ntfs_runs.specs.Cells.{Cells, cells_below, map_cells}
use Rattle.ntfs_volume.specs.Gather.{Extent, KeepsIds, Lists, all_found, bad_list, bad_record, extent_at, extents, extents_in, found_in, id_of, is_member, is_of, listed_extents, lists, mapped, means, own_extents}
use Rattle.ntfs_volume.specs.Laws.{in_cells, in_located}
use Rattle.ntfs_volume.specs.Listing.{RecordListing, filled_cells}
use Rattle.ntfs_volume.specs.Located.{Located, map_located, slot_at, with_cells}
use Rattle.ntfs_volume.specs.References.{target}
use Rattle.ntfs_volume.specs.StreamBytes.{have_room}
use Rattle.ntfs_volume.specs.Streams.{Gathered, Part, all_right, cells_in, gather, gathered_at, is_right, join_from, map_gathered, part_of, runs_stream, stream_of, stream_of_runs, value_stream}
use Rattle.ntfs_volume.specs.declared.fault.VolumeFault.{VolumeFault}
use Rattle.ntfs_volume.specs.declared.fault.VolumeFault.TheVariants as volume
use Rattle.ntfs_volume.proofs.ExtentsLemmas.{of_slot}
use Rattle.ntfs_volume.proofs.ListLemmas.{find-map}

-- ---- chains and lists

-- the value mapped, or the refusal
abbrev through : {A B : Type 0} → (A → B) → Result A VolumeFault → Result B VolumeFault
through g r = result_map_both g (λ fault. fault) r

must-through : {A B : Type 0} (g : A → B) (b : Bool) (fault : VolumeFault) (x : Result B VolumeFault) (y : Result A VolumeFault) → x ≡ through g y
    → (must b fault >>= (λ _. x)) ≡ through g (must b fault >>= (λ _. y))
must-through g true fault x y is = is
must-through g false fault x y is = refl

some-through : {A B C D : Type 0} (h : A → B) (g : C → D) (o : Option A) (fault : VolumeFault) (k : B → Result D VolumeFault) (m : A → Result C VolumeFault)
    → ((a : A) → k (h a) ≡ through g (m a)) → (ok_or (option_map h o) fault >>= k) ≡ through g (ok_or o fault >>= m)
some-through h g None fault k m same = refl
some-through h g (Some a) fault k m same = same a

bind-through : {A B C D : Type 0} (h : A → B) (g : C → D) (x : Result B VolumeFault) (y : Result A VolumeFault) (k : B → Result D VolumeFault) (m : A → Result C VolumeFault)
    → x ≡ through h y → ((a : A) → k (h a) ≡ through g (m a)) → (x >>= k) ≡ through g (y >>= m)
bind-through h g x (Ok a) k m is same = ap (λ r. r >>= k) is ∙ same a
bind-through h g x (Err fault) k m is same = ap (λ r. r >>= k) is

bind-same : {A B : Type 0} (g : A → B) (x y : Result (Unit {0}) VolumeFault) (k : Result B VolumeFault) (m : Result A VolumeFault) → x ≡ y → k ≡ through g m → (x >>= (λ _. k)) ≡ through g (y >>= (λ _. m))
bind-same g x (Ok u) k m is same = ap (λ r. r >>= (λ _. k)) is ∙ same
bind-same g x (Err fault) k m is same = ap (λ r. r >>= (λ _. k)) is

filter-map : {A B : Type 0} (g : A → B) (p : B → Bool) (q : A → Bool) → ((x : A) → p (g x) ≡ q x) → (xs : List A) → filter p (map g xs) ≡ map g (filter q xs)
filter-map g p q same [] = refl
filter-map {A = A} {B = B} g p q same (x ∷ xs) =
    ap (λ b. cond b (g x ∷ filter p (map g xs)) (filter p (map g xs))) (same x) ∙ ap (λ rest. cond (q x) (g x ∷ rest) rest) (filter-map g p q same xs) ∙ step (q x) (filter q xs)
  where
    step : (b : Bool) (rest : List A) → ◌≡◌ {A = List B} (cond b (g x ∷ map g rest) (map g rest)) (map g (cond b (x ∷ rest) rest))
    step true rest = refl
    step false rest = refl

-- ---- records

slot-from : {P Q : Type 0} (f : ℕ → Head → Attribute P → Attribute Q) (n r : ℕ) (slots : List (Slot P)) → slot_at (map_slots f n slots) r ≡ map_slot (f (n + r)) (slot_at slots r)
unfolding slot_at
slot-from f n r [] = refl
slot-from f n zero (s ∷ slots) = let here : n ≡ n + 0 = omega arith in ap (λ k. map_slot (f k) s) here
slot-from f n (suc r) (s ∷ slots) =
    let there : suc n + r ≡ n + suc r = omega arith in
    slot-from f (suc n) r slots ∙ ap (λ k. map_slot (f k) (slot_at slots r)) there

-- the record of a number
slot-mapped : {P Q : Type 0} (f : ℕ → Head → Attribute P → Attribute Q) (slots : List (Slot P)) (r : ℕ) → slot_at (map_slots f 0 slots) r ≡ map_slot (f r) (slot_at slots r)
slot-mapped f slots r = let here : 0 + r ≡ r = omega arith in slot-from f 0 r slots ∙ ap (λ k. map_slot (f k) (slot_at slots r)) here

-- ---- extents

found-mapped : {P Q : Type 0} (f : ℕ → Head → Attribute P → Attribute Q) → KeepsIds f → (r sequence : ℕ) (entry : Listed) (s : Slot P)
    → found_in r sequence entry (map_slot (f (target entry.reference)) s) ≡ through (mapped f) (found_in r sequence entry s)
unfolding found_in
found-mapped {P = P} {Q = Q} f keeps r sequence entry s =
    let n = target entry.reference in
    let h : Attribute P → Attribute Q = f n s.head in
    let first : Option (Attribute P) = find (λ (a : Attribute P). means entry (id_of a.face)) s.attributes in
    let give : Attribute P → Result (Extent P) VolumeFault = λ a. Ok (extent_at n s.head a) in
    let gives : Attribute Q → Result (Extent Q) VolumeFault = λ a. Ok (extent_at n s.head a) in
    let found = find-map h (λ (a : Attribute Q). means entry (id_of a.face)) (λ (a : Attribute P). means entry (id_of a.face)) (λ a. ap (means entry) (keeps n s.head a)) s.attributes in
    let last = ap (λ (o : Option (Attribute Q)). ok_or o (bad_list r) >>= gives) found ∙ some-through h (mapped f) first (bad_list r) gives give (λ a. refl) in
    must-through (mapped f) s.is_live (bad_list r) _ _
    (must-through (mapped f) s.is_sound (bad_record n) _ _
    (must-through (mapped f) (is_member r sequence entry.reference s.head) (bad_list r) _ _ last))

all-mapped : {P Q : Type 0} (f : ℕ → Head → Attribute P → Attribute Q) → KeepsIds f → (r sequence : ℕ) (slots : List (Slot P)) (entries : List Listed)
    → all_found r sequence (map_slots f 0 slots) entries ≡ through (map (mapped f)) (all_found r sequence slots entries)
unfolding all_found
all-mapped f keeps r sequence slots [] = refl
all-mapped {P = P} {Q = Q} f keeps r sequence slots (entry ∷ entries) =
    let n = target entry.reference in
    let one = ap (found_in r sequence entry) (slot-mapped f slots n) ∙ found-mapped f keeps r sequence entry (slot_at slots n) in
    bind-through (mapped f) (map (mapped f)) (found_in r sequence entry (slot_at (map_slots f 0 slots) n)) (found_in r sequence entry (slot_at slots n))
    (λ e. all_found r sequence (map_slots f 0 slots) entries >>= (λ es. Ok (e ∷ es))) (λ e. all_found r sequence slots entries >>= (λ es. Ok (e ∷ es))) one
    (λ e. bind-through (map (mapped f)) (map (mapped f)) (all_found r sequence (map_slots f 0 slots) entries) (all_found r sequence slots entries)
    (λ es. Ok (mapped f e ∷ es)) (λ es. Ok (e ∷ es)) (all-mapped f keeps r sequence slots entries) (λ es. refl))

at-mapped : {P Q : Type 0} (f : ℕ → Head → Attribute P → Attribute Q) (r : ℕ) (h : Head) (them : List (Attribute P)) → map (extent_at r h) (map (f r h) them) ≡ map (mapped f) (map (extent_at r h) them)
at-mapped f r h [] = refl
at-mapped f r h (a ∷ them) = ap (λ es. extent_at r h (f r h a) ∷ es) (at-mapped f r h them)

own-mapped : {P Q : Type 0} (f : ℕ → Head → Attribute P → Attribute Q) → KeepsIds f → (r kind : ℕ) (name : List ℕ) (base : Slot P)
    → own_extents r kind name (map_slot (f r) base) ≡ map (mapped f) (own_extents r kind name base)
unfolding own_extents
own-mapped {P = P} {Q = Q} f keeps r kind name base =
    ap (map (extent_at r base.head)) (filter-map (f r base.head) (λ (a : Attribute Q). is_of kind name (id_of a.face)) (λ (a : Attribute P). is_of kind name (id_of a.face)) (λ a. ap (is_of kind name) (keeps r base.head a)) base.attributes)
    ∙ at-mapped f r base.head (filter (λ (a : Attribute P). is_of kind name (id_of a.face)) base.attributes)

in-mapped : {P Q : Type 0} (f : ℕ → Head → Attribute P → Attribute Q) → KeepsIds f → (r kind : ℕ) (name : List ℕ) (listing : RecordListing) (base : Slot P) (slots : List (Slot P))
    → extents_in r kind name listing (map_slot (f r) base) (map_slots f 0 slots) ≡ through (map (mapped f)) (extents_in r kind name listing base slots)
unfolding extents_in listed_extents
in-mapped {P = P} {Q = Q} f keeps r kind name listing base slots =
    let entries = filter (lists kind name) listing.entries in
    let listed = must-through (map (mapped f)) listing.is_good (bad_list r) _ _ (all-mapped f keeps r base.head.sequence slots entries) in
    step listing.is_there _ _ _ _ listed (own-mapped f keeps r kind name base)
  where
    step : (b : Bool) (x : Result (List (Extent Q)) VolumeFault) (y : Result (List (Extent P)) VolumeFault) (own : List (Extent Q)) (them : List (Extent P)) → x ≡ through (map (mapped f)) y → own ≡ map (mapped f) them
        → (if b then x else Ok own) ≡ through (map (mapped f)) (if b then y else Ok them)
    step true x y own them listed same = listed
    step false x y own them listed same = ap Ok same

pub extents-mapped : {P Q : Type 0} (f : ℕ → Head → Attribute P → Attribute Q) (listings : Lists) (slots : List (Slot P)) (r kind : ℕ) (name : List ℕ) → KeepsIds f
    → extents listings (map_slots f 0 slots) r kind name ≡ result_map_both (map (mapped f)) (λ fault. fault) (extents listings slots r kind name)
unfolding extents
extents-mapped {P = P} {Q = Q} f listings slots r kind name keeps =
    let base = slot_at slots r in
    let g : List (Extent P) → List (Extent Q) = map (mapped f) in
    ap (λ (s : Slot Q). of_slot r s (extents_in r kind name (listings r) s (map_slots f 0 slots))) (slot-mapped f slots r)
    ∙ must-through g base.is_live volume.Absent _ _
    (must-through g base.is_sound (bad_record r) _ _
    (must-through g (base.head.base == 0) volume.Absent _ _ (in-mapped f keeps r kind name (listings r) base slots)))

-- ---- streams

abbrev map_part : {X Y : Type 0} → (ℕ → ℕ) → (X → Y) → Part X → Part Y
map_part moved f p = record {
  number = p.number;
  place = moved p.place;
  flags = p.flags;
  is_resident = p.is_resident;
  value = p.value;
  lowest = p.lowest;
  next = p.next;
  size = p.size;
  valid = p.valid;
  runs = in_cells f p.runs;
}

parts-mapped : {X Y : Type 0} (moved : ℕ → ℕ) (f : X → Y) (es : List (Extent (Located (Laid (Cells X))))) → map part_of (map (mapped (on_payload (in_located moved f))) es) ≡ map (map_part moved f) (map part_of es)
parts-mapped moved f [] = refl
parts-mapped moved f (e ∷ es) = ap (λ ps. map_part moved f (part_of e) ∷ ps) (parts-mapped moved f es)

right-mapped : {X Y : Type 0} (moved : ℕ → ℕ) (f : X → Y) (ps : List (Part X)) → all_right (map (map_part moved f) ps) ≡ all_right ps
unfolding all_right
right-mapped moved f [] = refl
right-mapped {X = X} moved f (p ∷ ps) =
    ap (λ k. must (p.is_resident || (p.runs.is_right && (k == p.next - p.lowest))) (volume.Damaged rule.C7 p.number) >>= (λ _. all_right (map (map_part moved f) ps))) (length-map p.runs.cells (option_map f))
    ∙ ap (λ (r : Result (Unit {0}) VolumeFault). must (is_right p) (volume.Damaged rule.C7 p.number) >>= (λ _. r)) (right-mapped moved f ps)

join-mapped : {X Y : Type 0} (moved : ℕ → ℕ) (f : X → Y) (next : ℕ) (ps : List (Part X)) → join_from next (map (map_part moved f) ps) ≡ join_from next ps
unfolding join_from
join-mapped moved f next [] = refl
join-mapped moved f next (p ∷ ps) = ap (λ b. not p.is_resident && ((p.lowest == next) && b)) (join-mapped moved f p.next ps)

cells-mapped : {X Y : Type 0} (moved : ℕ → ℕ) (f : X → Y) (ps : List (Part X)) → cells_in (map (map_part moved f) ps) ≡ map_cells f (cells_in ps)
unfolding cells_in
cells-mapped moved f [] = refl
cells-mapped moved f (p ∷ ps) = ap (λ cells. map_cells f p.runs.cells ++ cells) (cells-mapped moved f ps) ∙ sym (map-append (option_map f) p.runs.cells (cells_in ps))

runs-mapped : {X Y : Type 0} (moved : ℕ → ℕ) (f : X → Y) (c r : ℕ) (first : Part X) (ps : List (Part X))
    → stream_of_runs c r (map_part moved f first) (map (map_part moved f) ps) ≡ through (map_gathered moved f) (stream_of_runs c r first ps)
unfolding stream_of_runs
runs-mapped {Y = Y} moved f c r first ps =
    let them = map (map_part moved f) ps in
    let gives : ℕ → List (Option Y) → Result (Gathered Y) VolumeFault = λ count cells. Ok (gathered_at (map_part moved f first) count (runs_stream first.flags first.size first.valid cells)) in
    let test = ap (λ b. b && have_room c (length (cells_in them)) first.size first.valid) (join-mapped moved f 0 ps)
    ∙ ap (λ k. join_from 0 ps && have_room c k first.size first.valid) (ap length (cells-mapped moved f ps) ∙ length-map (cells_in ps) (option_map f)) in
    let last = ap (λ count. gives count (cells_in them)) (length-map ps (map_part moved f)) ∙ ap (gives (length ps)) (cells-mapped moved f ps) in
    bind-same (map_gathered moved f) (all_right them) (all_right ps) _ _ (right-mapped moved f ps)
    (ap (λ b. must b (volume.Damaged rule.C12 r) >>= (λ _. gives (length them) (cells_in them))) test
    ∙ must-through (map_gathered moved f) (join_from 0 ps && have_room c (length (cells_in ps)) first.size first.valid) (volume.Damaged rule.C12 r) _ _ last)

stream-mapped : {X Y : Type 0} (moved : ℕ → ℕ) (f : X → Y) (c r : ℕ) (ps : List (Part X)) → stream_of c r (map (map_part moved f) ps) ≡ through (map_gathered moved f) (stream_of c r ps)
unfolding stream_of
stream-mapped moved f c r [] = refl
stream-mapped {X = X} {Y = Y} moved f c r (first ∷ ps) =
    let value = ap (λ count. Ok (gathered_at (map_part moved f first) count (value_stream first.flags first.value))) (length-map (first ∷ ps) (map_part moved f)) in
    step first.is_resident _ _ _ _ value (runs-mapped moved f c r first (first ∷ ps))
  where
    step : (b : Bool) (x w : Result (Gathered Y) VolumeFault) (y v : Result (Gathered X) VolumeFault) → x ≡ through (map_gathered moved f) y → w ≡ through (map_gathered moved f) v
        → (if b then x else w) ≡ through (map_gathered moved f) (if b then y else v)
    step true x w y v one two = one
    step false x w y v one two = two

pub gather-mapped : {X Y : Type 0} (moved : ℕ → ℕ) (f : X → Y) (c : ℕ) (listings : Lists) (slots : List (Slot (Located (Laid (Cells X))))) (r kind : ℕ) (name : List ℕ)
    → gather c listings (map_slots (on_payload (in_located moved f)) 0 slots) r kind name ≡ result_map_both (map_gathered moved f) (λ fault. fault) (gather c listings slots r kind name)
unfolding gather
gather-mapped {X = X} {Y = Y} moved f c listings slots r kind name =
    let change : ℕ → Head → Attribute (Located (Laid (Cells X))) → Attribute (Located (Laid (Cells Y))) = on_payload (in_located moved f) in
    bind-through (map (mapped change)) (map_gathered moved f) (extents listings (map_slots change 0 slots) r kind name) (extents listings slots r kind name)
    (λ found. stream_of c r (map part_of found)) (λ found. stream_of c r (map part_of found)) (extents-mapped change listings slots r kind name (λ r h a. refl))
    (λ found. ap (stream_of c r) (parts-mapped moved f found) ∙ stream-mapped moved f c r (map part_of found))

pub gather-filled : (f : ℕ → List ℕ) (n c : ℕ) (listings : Lists) (slots : List (Slot (Located (Laid (List ℕ))))) (r kind : ℕ) (name : List ℕ)
    → gather c listings (map_slots (on_payload (map_located (map_laid (filled_cells n f)))) 0 slots) r kind name
    ≡ result_map_both (map_gathered (λ place. place) f) (λ fault. fault) (gather c listings (with_cells n slots) r kind name)
unfolding with_cells
gather-filled f n c listings slots r kind name =
    let cells : ℕ → Head → Attribute (Located (Laid (List ℕ))) → Attribute (Located (Laid (Cells ℕ))) = on_payload (map_located (map_laid (cells_below n))) in
    ap (λ them. gather c listings them r kind name) (sym (map_slots-map_slots cells (on_payload (in_located (λ place. place) f)) 0 slots))
    ∙ gather-mapped (λ place. place) f c listings (map_slots cells 0 slots) r kind name
