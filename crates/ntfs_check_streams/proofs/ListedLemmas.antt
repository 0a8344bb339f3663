-- Rule C11 of one base record.
use Rattle.std.proofs.Common.{◌≡◌, ◌+◌, ◌==◌, ◌&&◌, ◌||◌, ◌++◌, ℕ, zero, suc, Bool, true, false, List, [], ◌∷◌, map, Option, Some, None, refl, sym, ap, ◌∙◌, arith, if◌then◌else◌}
use Rattle.std.specs.Prelude.{not}
use Rattle.std.specs.List.{list_any}
use Rattle.ntfs_base.specs.Bytes.{fill_cluster}
use Rattle.ntfs_check_streams.proofs.SaidLemmas.{lists-file}
use Rattle.ntfs_check_records.specs.Reading.{records_of}
use Rattle.ntfs_check_streams.specs.Asked.{KeepsEleven, celled, clusters_read, lists_in}
use Rattle.ntfs_record.proofs.SlotLemmas.{first_not-map}
use Rattle.ntfs_record.specs.FileRecord.{Attribute, FileRecord, Head, Laid}
use Rattle.ntfs_record.specs.Slots.{Slot, first_not, map_slot, map_slots, on_payload}
use Rattle.ntfs_rules.proofs.DataLemmas.{listings-are}
use Rattle.ntfs_rules.specs.Files.{Member, are_listed, c11, is_listed, is_no_base, member_at, members_at, members_from, without_list}
use Rattle.ntfs_rules.specs.Records.{of_base}
use Rattle.ntfs_rules.specs.VolumeData.{listings, volume_data}
use Rattle.ntfs_runs.specs.Cells.{Cells}
use Rattle.ntfs_volume.specs.Gather.{Lists, id_of}
use Rattle.ntfs_volume.specs.Gathering.{file_lists}
use Rattle.ntfs_volume.specs.Laws.{in_located}
use Rattle.ntfs_volume.specs.Listing.{RecordListing, is_list}
use Rattle.ntfs_volume.specs.Located.{Located, slot_at, sound_located}
use Rattle.ntfs_volume.specs.Opened.{Opened}
use Rattle.ntfs_volume.specs.References.{has_base}

passed-step : (b : Bool) (rest : Option ℕ) (n : ℕ) → (if b then rest else Some n) ≡ None → (b ≡ true) × (rest ≡ None)
passed-step true rest n is = (refl, is)
passed-step false rest n is = absurd cc

-- where no record fails a test, a record in use passes it
passed-at : {P : Type 0} (test : ℕ → Slot P → Bool) (n i : ℕ) (slots : List (Slot P)) → first_not test n slots ≡ None → (slot_at slots i).is_live ≡ true → test (n + i) (slot_at slots i) ≡ true
unfolding slot_at
passed-at test n i [] is live = absurd cc
passed-at test n zero (s ∷ slots) is live =
    let here : n + 0 ≡ n = omega arith in
    ap (λ k. test k s) here ∙ (passed-step (test n s) (first_not test (suc n) slots) n is).0
passed-at test n (suc i) (s ∷ slots) is live =
    let later : n + suc i ≡ suc n + i = omega arith in
    ap (λ k. test k (slot_at slots i)) later ∙ passed-at test (suc n) i slots (passed-step (test n s) (first_not test (suc n) slots) n is).1 live

base-tested : (live base holds : Bool) → live ≡ true → base ≡ true → (not live || (not base || holds)) ≡ true → holds ≡ true
base-tested true true holds is too tested = tested
base-tested true false holds is too tested = absurd cc
base-tested false base holds is too tested = absurd cc

-- ---- of a volume

abbrev has_as_base : {P : Type 0} → ℕ → ℕ → Slot P → Bool
has_as_base r sequence s = s.is_live && has_base s.head.base r sequence

id-mapped : {P Q : Type 0} (g : P → Q) (m n : ℕ) (h : Head) (s : Slot P) (t : Slot Q) (them : List (Attribute P)) → t.head ≡ s.head → map (member_at n t) (map (on_payload g m h) them) ≡ map (member_at n s) them
id-mapped g m n h s t [] head = refl
id-mapped g m n h s t (a ∷ them) head =
    ap (λ (k : Head). record { number = n; sequence = k.sequence; id = id_of a.face } ∷ map (member_at n t) (map (on_payload g m h) them)) head
    ∙ ap (λ (rest : List Member). member_at n s a ∷ rest) (id-mapped g m n h s t them head)

list-step : {P Q : Type 0} (b : Bool) (g : P → Q) (m n : ℕ) (h : Head) (s : Slot P) (t : Slot Q) (a : Attribute P) (them : List (Attribute P)) → t.head ≡ s.head
    → map (member_at n t) (without_list (map (on_payload g m h) them)) ≡ map (member_at n s) (without_list them)
    → map (member_at n t) (if b then map (on_payload g m h) them else on_payload g m h a ∷ without_list (map (on_payload g m h) them)) ≡ map (member_at n s) (if b then them else a ∷ without_list them)
list-step true g m n h s t a them head same = id-mapped g m n h s t them head
list-step false g m n h s t a them head same =
    ap (λ (k : Head). record { number = n; sequence = k.sequence; id = id_of a.face } ∷ map (member_at n t) (without_list (map (on_payload g m h) them))) head
    ∙ ap (λ (rest : List Member). member_at n s a ∷ rest) same

list-mapped : {P Q : Type 0} (g : P → Q) (m n : ℕ) (h : Head) (s : Slot P) (t : Slot Q) (them : List (Attribute P)) → t.head ≡ s.head
    → map (member_at n t) (without_list (map (on_payload g m h) them)) ≡ map (member_at n s) (without_list them)
list-mapped g m n h s t [] head = refl
list-mapped g m n h s t (a ∷ them) head = list-step (is_list a.face) g m n h s t a them head (list-mapped g m n h s t them head)

members-mapped : {P Q : Type 0} (g : P → Q) (r sequence n m : ℕ) (slots : List (Slot P)) → members_from r sequence n (map_slots (on_payload g) m slots) ≡ members_from r sequence n slots
unfolding members_from members_at
members-mapped g r sequence n m [] = refl
members-mapped g r sequence n m (s ∷ slots) =
    let t = map_slot (on_payload g m) s in
    let part = s.is_live && has_base s.head.base r sequence in
    let rest = members_from r sequence (suc n) (map_slots (on_payload g) (suc m) slots) in
    ap (λ (own : List Member). (if n == r then own else (if part then map (member_at n t) t.attributes else [])) ++ rest) (list-mapped g m n s.head s t s.attributes refl)
    ∙ ap (λ (all : List Member). (if n == r then map (member_at n s) (without_list s.attributes) else (if part then all else [])) ++ rest) (id-mapped g m n s.head s t s.attributes refl)
    ∙ ap (λ (more : List Member). (if n == r then map (member_at n s) (without_list s.attributes) else (if part then map (member_at n s) s.attributes else [])) ++ more)
    (members-mapped g r sequence (suc n) (suc m) slots)

bases-mapped : {P Q : Type 0} (g : P → Q) (r sequence m : ℕ) (slots : List (Slot P)) → list_any (has_as_base r sequence) (map_slots (on_payload g) m slots) ≡ list_any (has_as_base r sequence) slots
bases-mapped g r sequence m [] = refl
bases-mapped g r sequence m (s ∷ slots) = ap (λ b. has_as_base r sequence s || b) (bases-mapped g r sequence (suc m) slots)

listed-mapped : {P Q : Type 0} (g : P → Q) (listing : RecordListing) (r sequence : ℕ) (slots : List (Slot P)) → is_listed listing (map_slots (on_payload g) 0 slots) r sequence ≡ is_listed listing slots r sequence
unfolding is_listed
listed-mapped g listing r sequence slots =
    ap (λ (members : List Member). if listing.is_there then listing.is_good && are_listed listing.entries members else not (list_any (has_as_base r sequence) (map_slots (on_payload g) 0 slots)))
    (members-mapped g r sequence 0 0 slots)
    ∙ ap (λ b. if listing.is_there then listing.is_good && are_listed listing.entries (members_from r sequence 0 slots) else not b) (bases-mapped g r sequence 0 slots)

c11-mapped : {P Q : Type 0} (g : P → Q) (listings : Lists) (slots : List (Slot P)) → c11 listings (map_slots (on_payload g) 0 slots) ≡ c11 listings slots
unfolding c11
c11-mapped {P = P} {Q = Q} g listings slots =
    first_not-map (on_payload g) (λ r (s : Slot P). not s.is_live || of_base s (is_listed (listings r) slots r s.head.sequence))
    (λ r (s : Slot Q). not s.is_live || of_base s (is_listed (listings r) (map_slots (on_payload g) 0 slots) r s.head.sequence)) 0 slots
    (λ r s. ap (λ b. not s.is_live || (not (s.head.base == 0) || b)) (listed-mapped g (listings r) r s.head.sequence slots))

c11-cells : (o : Opened) (f : ℕ → List ℕ) → c11 (lists_in o f) (volume_data o f).slots ≡ c11 (lists_in o f) (clusters_read o f)
unfolding volume_data
c11-cells o f = c11-mapped (in_located (λ place. place) (fill_cluster f)) (lists_in o f) (clusters_read o f)

listed-by : {P : Type 0} (listing : RecordListing) (slots : List (Slot P)) (r sequence : ℕ) (b : Bool) → listing.is_there ≡ b → is_listed listing slots r sequence ≡ true
    → (if b then listing.is_good && are_listed listing.entries (members_from r sequence 0 slots) else is_no_base slots r sequence) ≡ true
unfolding is_listed
listed-by listing slots r sequence b there is =
    sym (ap (λ c. if c then listing.is_good && are_listed listing.entries (members_from r sequence 0 slots) else is_no_base slots r sequence) there) ∙ is

abbrev listed_in : Opened → (ℕ → List ℕ) → ℕ → Slot (Located (Laid (Cells ℕ))) → Bool
listed_in o f n s = is_listed (lists_in o f n) (clusters_read o f) n s.head.sequence

base-listed : (o : Opened) (f : ℕ → List ℕ) (r : ℕ) (s : Slot (Located (Laid (Cells ℕ)))) → c11 (lists_in o f) (clusters_read o f) ≡ None → slot_at (clusters_read o f) r ≡ s → s.is_live ≡ true → (s.head.base == 0) ≡ true
    → is_listed (lists_in o f r) (clusters_read o f) r s.head.sequence ≡ true
unfolding c11
base-listed o f r s none is live base =
    let here : 0 + r ≡ r = omega arith in
    base-tested s.is_live (s.head.base == 0) (listed_in o f r s) live base
    (sym (ap (λ n. not s.is_live || of_base s (listed_in o f n s)) here)
    ∙ sym (ap (λ (t : Slot (Located (Laid (Cells ℕ)))). not t.is_live || of_base t (listed_in o f (0 + r) t)) is)
    ∙ passed-at (λ n (t : Slot (Located (Laid (Cells ℕ)))). not t.is_live || of_base t (listed_in o f n t)) 0 r (clusters_read o f) none (ap (λ (t : Slot (Located (Laid (Cells ℕ)))). t.is_live) is ∙ live))

pub listed-at : (o : Opened) (f : ℕ → List ℕ) (r : ℕ) (file : FileRecord) → KeepsEleven (volume_data o f) → slot_at (records_of o f) r ≡ sound_located file
    → slot_at (clusters_read o f) r ≡ celled o.geometry.clusters (sound_located file) → (file.head.base == 0) ≡ true → (b : Bool) → (file_lists o.geometry f file).is_there ≡ b
    → (if b then (file_lists o.geometry f file).is_good && are_listed (file_lists o.geometry f file).entries (members_from r file.head.sequence 0 (clusters_read o f)) else is_no_base (clusters_read o f) r file.head.sequence) ≡ true
listed-at o f r file keeps is with_is base b there =
    let none : c11 (lists_in o f) (clusters_read o f) ≡ None = sym (c11-cells o f) ∙ sym (ap (λ (lists : Lists). c11 lists (volume_data o f).slots) (listings-are o f)) ∙ keeps.listed in
    listed-by (file_lists o.geometry f file) (clusters_read o f) r file.head.sequence b there
    (ap (λ (l : RecordListing). is_listed l (clusters_read o f) r file.head.sequence) (sym (lists-file o.geometry f (records_of o f) r file is))
    ∙ base-listed o f r (celled o.geometry.clusters (sound_located file)) none with_is refl base)
