-- The rules by what is asked of each record.
use Rattle.std.proofs.Common.{◌≡◌, ◌==◌, ◌&&◌, ◌||◌, ◌++◌, ℕ, suc, Bool, true, false, map, List, [], ◌∷◌, Option, None, Result, refl, sym, ap, subst, ◌∙◌, if◌then◌else◌}
use Rattle.std.specs.Prelude.{not}
use Rattle.std.specs.Borrow.{Bor}
use Rattle.std.specs.List.{list_any}
use Rattle.ntfs_check_files.specs.Extending.{AreExtensions}
use Rattle.ntfs_check_files.specs.Premises.{KeepsTen}
use Rattle.ntfs_check_files.specs.declared.extensions.Extensions.{Extensions}
use Rattle.ntfs_volume.specs.Gather.{Lists}
use Rattle.ntfs_volume.specs.Listing.{RecordListing, is_list}
use Rattle.ntfs_volume.specs.References.{has_base}
use Rattle.ntfs_volume.specs.Streams.{lists_of}
use Rattle.ntfs_base.specs.Bytes.{fill_cluster}
use Rattle.ntfs_base.specs.Frames.{Gives}
use Rattle.ntfs_base.specs.declared.refusal.Rule.TheVariants as rule
use Rattle.ntfs_check_records.proofs.RecordLemmas.{slot-mapped}
use Rattle.ntfs_check_records.specs.Asked.{first_refused}
use Rattle.ntfs_check_records.specs.Reading.{records_of}
use Rattle.ntfs_check_files.specs.Asked.{Presumes, file_answer}
use Rattle.ntfs_check_files.specs.declared.asked.Asked.{Asked}
use Rattle.ntfs_check_files.specs.declared.asked.Asked.TheVariants as asked
use Rattle.ntfs_record.proofs.SlotLemmas.{first_not-map}
use Rattle.ntfs_record.specs.FileRecord.{Attribute, Head}
use Rattle.ntfs_record.specs.Slots.{Slot, map_laid, map_slot, map_slots, on_payload}
use Rattle.ntfs_rules.proofs.DataLemmas.{c4-is, listings-are}
use Rattle.ntfs_rules.specs.Files.{Member, are_listed, c10, c11, is_base_for, is_listed, is_no_base, member_at, members_at, members_from, names_base, without_list}
use Rattle.ntfs_rules.specs.Outcome.{check_origin, unless_number}
use Rattle.ntfs_rules.specs.Records.{c4, of_base}
use Rattle.ntfs_rules.specs.VolumeData.{listings, volume_data}
use Rattle.ntfs_rules.specs.declared.fault.CheckFault.{CheckFault}
use Rattle.ntfs_runs.specs.Cells.{cells_below}
use Rattle.ntfs_volume.specs.Laws.{in_located}
use Rattle.ntfs_volume.specs.Located.{map_located, slot_at, slots_of, with_cells}
use Rattle.ntfs_volume.specs.Opened.{Opened}
use Rattle.ntfs_volume.specs.References.{target}

-- ---- C10

base-mapped : {P Q : Type 0} (f : P → Q) (reference : ℕ) (s : Slot P) → is_base_for reference (map_slot (on_payload f 0) s) ≡ is_base_for reference s
unfolding is_base_for
base-mapped f reference s = refl

names-mapped : {P Q : Type 0} (f : P → Q) (slots : List (Slot P)) (reference : ℕ) → names_base (map_slots (on_payload f) 0 slots) reference ≡ names_base slots reference
names-mapped f slots reference = ap (is_base_for reference) (slot-mapped f 0 (target reference) slots) ∙ base-mapped f reference (slot_at slots (target reference))

bases-mapped : {P Q : Type 0} (f : P → Q) (slots : List (Slot P)) → c10 (map_slots (on_payload f) 0 slots) ≡ c10 slots
unfolding c10
bases-mapped {P = P} {Q = Q} f slots =
    first_not-map (on_payload f) (λ r (s : Slot P). not s.is_live || ((s.head.base == 0) || names_base slots s.head.base))
    (λ r (s : Slot Q). not s.is_live || ((s.head.base == 0) || names_base (map_slots (on_payload f) 0 slots) s.head.base)) 0 slots
    (λ r s. ap (λ b. not s.is_live || ((s.head.base == 0) || b)) (names-mapped f slots s.head.base))

pub c10-is : (o : Opened) (f : ℕ → List ℕ) → c10 (volume_data o f).slots ≡ c10 (records_of o f)
unfolding volume_data with_cells
c10-is o f =
    let slots = slots_of o.geometry o.map f in
    bases-mapped (in_located (λ place. place) (fill_cluster f)) (map_slots (on_payload (map_located (map_laid (cells_below o.geometry.clusters)))) 0 slots)
    ∙ bases-mapped (map_located (map_laid (cells_below o.geometry.clusters))) slots

bases-asked : (o : Opened) (f : ℕ → List ℕ) → first_refused (file_answer asked.Base o f) o f ≡ c10 (records_of o f)
unfolding c10 file_answer
bases-asked o f = refl

pub bases-presumed : (o : Opened) (f : ℕ → List ℕ) → c4 (volume_data o f).slots ≡ None → Presumes asked.Base o f
unfolding Presumes
bases-presumed o f whole = sym (c4-is o f) ∙ whole

pub bases-given : (o : Opened) (f : ℕ → List ℕ) (result : Result (Unit {0}) CheckFault) → Gives check_origin (λ done. done) (unless_number rule.C10 (first_refused (file_answer asked.Base o f) o f) tt) result
    → Gives check_origin (λ done. done) (unless_number rule.C10 (c10 (volume_data o f).slots) tt) result
bases-given o f result = subst (λ (found : Option ℕ). Gives check_origin (λ done. done) (unless_number rule.C10 found tt) result) (bases-asked o f ∙ sym (c10-is o f))

-- ---- C11

lists-mapped : {P Q : Type 0} (f : P → Q) (h : Head) (attributes : List (Attribute P)) → without_list (map (on_payload f 0 h) attributes) ≡ map (on_payload f 0 h) (without_list attributes)
lists-mapped f h [] = refl
lists-mapped {Q = Q} f h (a ∷ attributes) = go (is_list a.face) (lists-mapped f h attributes)
  where
    go : (b : Bool) → without_list (map (on_payload f 0 h) attributes) ≡ map (on_payload f 0 h) (without_list attributes)
        → (if b then map (on_payload f 0 h) attributes else on_payload f 0 h a ∷ without_list (map (on_payload f 0 h) attributes)) ≡ map (on_payload f 0 h) (if b then attributes else a ∷ without_list attributes)
    go true rest = refl
    go false rest = ap (λ (them : List (Attribute Q)). on_payload f 0 h a ∷ them) rest

ids-mapped : {P Q : Type 0} (f : P → Q) (n : ℕ) (s : Slot P) (attributes : List (Attribute P)) → map (member_at n (map_slot (on_payload f 0) s)) (map (on_payload f 0 s.head) attributes) ≡ map (member_at n s) attributes
ids-mapped f n s [] = refl
ids-mapped f n s (a ∷ attributes) = ap (λ (them : List Member). member_at n s a ∷ them) (ids-mapped f n s attributes)

at-mapped : {P Q : Type 0} (f : P → Q) (r sequence n : ℕ) (s : Slot P) → members_at r sequence n (map_slot (on_payload f 0) s) ≡ members_at r sequence n s
unfolding members_at
at-mapped {Q = Q} f r sequence n s =
    ap (λ them. if n == r then them else (if s.is_live && has_base s.head.base r sequence then map (member_at n (map_slot (on_payload f 0) s)) (map (on_payload f 0 s.head) s.attributes) else []))
    (ap (λ (them : List (Attribute Q)). map (member_at n (map_slot (on_payload f 0) s)) them) (lists-mapped f s.head s.attributes) ∙ ids-mapped f n s (without_list s.attributes))
    ∙ ap (λ them. if n == r then map (member_at n s) (without_list s.attributes) else (if s.is_live && has_base s.head.base r sequence then them else [])) (ids-mapped f n s s.attributes)

members-mapped : {P Q : Type 0} (f : P → Q) (r sequence n m : ℕ) (slots : List (Slot P)) → members_from r sequence n (map_slots (on_payload f) m slots) ≡ members_from r sequence n slots
unfolding members_from
members-mapped f r sequence n m [] = refl
members-mapped f r sequence n m (s ∷ slots) =
    ap (λ them. them ++ members_from r sequence (suc n) (map_slots (on_payload f) (suc m) slots)) (at-mapped f r sequence n s)
    ∙ ap (λ them. members_at r sequence n s ++ them) (members-mapped f r sequence (suc n) (suc m) slots)

any-mapped : {P Q : Type 0} (f : P → Q) (r sequence m : ℕ) (slots : List (Slot P))
    → list_any (λ (s : Slot Q). s.is_live && has_base s.head.base r sequence) (map_slots (on_payload f) m slots) ≡ list_any (λ (s : Slot P). s.is_live && has_base s.head.base r sequence) slots
any-mapped f r sequence m [] = refl
any-mapped f r sequence m (s ∷ slots) = ap (λ b. (s.is_live && has_base s.head.base r sequence) || b) (any-mapped f r sequence (suc m) slots)

listed-mapped : {P Q : Type 0} (f : P → Q) (listing : RecordListing) (slots : List (Slot P)) (r sequence : ℕ) → is_listed listing (map_slots (on_payload f) 0 slots) r sequence ≡ is_listed listing slots r sequence
unfolding is_listed
listed-mapped f listing slots r sequence =
    ap (λ them. if listing.is_there then listing.is_good && are_listed listing.entries them else is_no_base (map_slots (on_payload f) 0 slots) r sequence) (members-mapped f r sequence 0 0 slots)
    ∙ ap (λ b. if listing.is_there then listing.is_good && are_listed listing.entries (members_from r sequence 0 slots) else not b) (any-mapped f r sequence 0 slots)

files-mapped : {P Q : Type 0} (f : P → Q) (listings : Lists) (slots : List (Slot P)) → c11 listings (map_slots (on_payload f) 0 slots) ≡ c11 listings slots
unfolding c11
files-mapped {P = P} {Q = Q} f listings slots =
    first_not-map (on_payload f) (λ r (s : Slot P). not s.is_live || of_base s (is_listed (listings r) slots r s.head.sequence))
    (λ r (s : Slot Q). not s.is_live || of_base s (is_listed (listings r) (map_slots (on_payload f) 0 slots) r s.head.sequence)) 0 slots
    (λ r s. ap (λ b. not s.is_live || (not (s.head.base == 0) || b)) (listed-mapped f (listings r) slots r s.head.sequence))

pub c11-is : (o : Opened) (f : ℕ → List ℕ) → c11 (listings (volume_data o f)) (volume_data o f).slots ≡ c11 (lists_of o.geometry f (records_of o f)) (records_of o f)
unfolding volume_data with_cells
c11-is o f =
    let slots = slots_of o.geometry o.map f in
    ap (λ (lists : Lists). c11 lists (volume_data o f).slots) (listings-are o f)
    ∙ files-mapped (in_located (λ place. place) (fill_cluster f)) (lists_of o.geometry f slots) (map_slots (on_payload (map_located (map_laid (cells_below o.geometry.clusters)))) 0 slots)
    ∙ files-mapped (map_located (map_laid (cells_below o.geometry.clusters))) (lists_of o.geometry f slots) slots

lists-asked : (o : Opened) (f : ℕ → List ℕ) (extensions : Bor Extensions) → first_refused (file_answer (asked.List extensions) o f) o f ≡ c11 (lists_of o.geometry f (records_of o f)) (records_of o f)
unfolding c11 file_answer
lists-asked o f extensions = refl

pub lists-presumed : (o : Opened) (f : ℕ → List ℕ) (extensions : Bor Extensions) → KeepsTen (volume_data o f) → AreExtensions o f extensions.now → Presumes (asked.List extensions) o f
unfolding Presumes
lists-presumed o f extensions keeps all = record {
  whole = sym (c4-is o f) ∙ keeps.whole;
  bases = sym (c10-is o f) ∙ keeps.bases;
  all = all;
}

pub lists-given : (o : Opened) (f : ℕ → List ℕ) (question : Asked) (extensions : Bor Extensions) (result : Result (Unit {0}) CheckFault) → question ≡ asked.List extensions
    → Gives check_origin (λ done. done) (unless_number rule.C11 (first_refused (file_answer question o f) o f) tt) result
    → Gives check_origin (λ done. done) (unless_number rule.C11 (c11 (listings (volume_data o f)) (volume_data o f).slots) tt) result
lists-given o f question extensions result is =
    subst (λ (found : Option ℕ). Gives check_origin (λ done. done) (unless_number rule.C11 found tt) result)
    (ap (λ (q : Asked). first_refused (file_answer q o f) o f) is ∙ lists-asked o f extensions ∙ sym (c11-is o f))
