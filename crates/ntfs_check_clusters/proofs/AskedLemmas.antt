-- What is asked of the record of these bytes.
use Rattle.std.proofs.Common.{◌≡◌, ◌||◌, ◌∙◌, ap, sym, refl, ℕ, Bool, true, false, Option, Some, None, if◌then◌else◌}
use Rattle.ntfs_check_records.specs.Asked.{passes_asked}
use Rattle.ntfs_check_clusters.specs.Asked.{has_names_between, cluster_answer}
use Rattle.ntfs_check_clusters.specs.declared.asked.Asked.TheVariants as asked
use Rattle.ntfs_record.specs.FileRecord.{FileRecord, Laid}
use Rattle.ntfs_record.specs.Slots.{Slot, begins_baad, is_in_use, record_in, tells_own}
use Rattle.ntfs_volume.specs.Located.{Located, idle, live_located, located_slot, sound_located, unsound_located}
use Rattle.std.specs.Prelude.{List, not}
use Rattle.std.specs.Borrow.{Bor}
use Rattle.ntfs_rules.specs.Records.{has_bit}
use Rattle.ntfs_check_clusters.specs.declared.asked.Asked.{Asked}

pub names-unread : (n : ℕ) (said : Option FileRecord) → said ≡ None → true ≡ passes_asked (cluster_answer asked.Names) n (live_located n said)
names-unread n said none = ap (λ (o : Option FileRecord). passes_asked (cluster_answer asked.Names) n (live_located n o)) (sym none)

pub names-other : (n : ℕ) (said : Option FileRecord) (file : FileRecord) → said ≡ Some file → tells_own n file.layout.number ≡ false → true ≡ passes_asked (cluster_answer asked.Names) n (live_located n said)
names-other n said file is other =
    sym (ap (λ (o : Option FileRecord). passes_asked (cluster_answer asked.Names) n (live_located n o)) is
    ∙ ap (λ b. passes_asked (cluster_answer asked.Names) n (if b then sound_located file else unsound_located)) other)

pub names-own : (n : ℕ) (said : Option FileRecord) (file : FileRecord) (answer : Bool) → said ≡ Some file → tells_own n file.layout.number ≡ true → answer ≡ has_names_between file
    → answer ≡ passes_asked (cluster_answer asked.Names) n (live_located n said)
names-own n said file answer is own same =
    same ∙ sym (ap (λ (o : Option FileRecord). passes_asked (cluster_answer asked.Names) n (live_located n o)) is
    ∙ ap (λ b. passes_asked (cluster_answer asked.Names) n (if b then sound_located file else unsound_located)) own)

-- ---- by its bytes as they stand on disk

live-is : (n : ℕ) (said : Option FileRecord) → (live_located n said).is_live ≡ true
live-is n None = refl
live-is n (Some file) = go (tells_own n file.layout.number)
  where
    go : (b : Bool) → (if b then sound_located file else unsound_located).is_live ≡ true
    go true = refl
    go false = refl

slot-idle : (n : ℕ) (raw : List ℕ) → is_in_use raw ≡ false → located_slot n (Some raw) ≡ idle (begins_baad raw)
unfolding located_slot
slot-idle n raw is = rw is refl

slot-live : (n : ℕ) (raw : List ℕ) → is_in_use raw ≡ true → located_slot n (Some raw) ≡ live_located n (record_in raw)
unfolding located_slot
slot-live n raw is = rw is refl

pub passes-idle : (question : Asked) (n : ℕ) (raw : List ℕ) → is_in_use raw ≡ false → true ≡ passes_asked (cluster_answer question) n (located_slot n (Some raw))
passes-idle question n raw is = sym (ap (λ (s : Slot (Located (Laid (List ℕ)))). passes_asked (cluster_answer question) n s) (slot-idle n raw is))

pub passes-mark : (question : Asked) (bits : Bor (List ℕ)) (n : ℕ) (raw : List ℕ) (answer : Bool) → question ≡ asked.Mark bits → is_in_use raw ≡ true → answer ≡ has_bit bits.now n
    → answer ≡ passes_asked (cluster_answer question) n (located_slot n (Some raw))
passes-mark question bits n raw answer is live same =
    same
    ∙ sym (ap (λ b. not b || has_bit bits.now n) (live-is n (record_in raw)))
    ∙ sym (ap (λ (s : Slot (Located (Laid (List ℕ)))). passes_asked (cluster_answer (asked.Mark bits)) n s) (slot-live n raw live))
    ∙ ap (λ (q : Asked). passes_asked (cluster_answer q) n (located_slot n (Some raw))) (sym is)

pub passes-names : (question : Asked) (n : ℕ) (raw : List ℕ) (answer : Bool) → question ≡ asked.Names → is_in_use raw ≡ true → answer ≡ passes_asked (cluster_answer asked.Names) n (live_located n (record_in raw))
    → answer ≡ passes_asked (cluster_answer question) n (located_slot n (Some raw))
passes-names question n raw answer is live same =
    same
    ∙ sym (ap (λ (s : Slot (Located (Laid (List ℕ)))). passes_asked (cluster_answer asked.Names) n s) (slot-live n raw live))
    ∙ ap (λ (q : Asked). passes_asked (cluster_answer q) n (located_slot n (Some raw))) (sym is)
