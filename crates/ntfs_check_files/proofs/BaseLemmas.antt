-- Rule C10.
use Rattle.std.proofs.Common.{◌≡◌, ◌<◌, ◌==◌, ◌&&◌, ◌||◌, ℕ, Bool, true, false, List, Option, Some, None, refl, sym, ap, subst, ◌∙◌}
use Rattle.std.specs.Prelude.{not}
use Rattle.ntfs_check_records.proofs.RecordLemmas.{record-at, unread-idle, whole-at}
use Rattle.ntfs_check_records.specs.Asked.{asked_at, passes_asked}
use Rattle.ntfs_check_files.specs.Asked.{Presumes, PresumesLists, file_answer}
use Rattle.std.specs.Borrow.{Bor}
use Rattle.ntfs_check_files.proofs.FileLemmas.{listed-answer}
use Rattle.ntfs_check_files.specs.Extending.{extending}
use Rattle.ntfs_check_files.specs.Members.{matches_listing}
use Rattle.ntfs_check_files.specs.declared.extensions.Extensions.{Extensions}
use Rattle.ntfs_volume.specs.Gathering.{file_lists}
use Rattle.ntfs_check_records.specs.Reading.{IsView, is_readable, records_of}
use Rattle.ntfs_check_files.specs.declared.asked.Asked.{Asked}
use Rattle.ntfs_check_files.specs.declared.asked.Asked.TheVariants as asked
use Rattle.ntfs_record.specs.FileRecord.{FileRecord, Laid}
use Rattle.ntfs_record.specs.Slots.{Slot}
use Rattle.ntfs_rules.specs.Files.{is_base_for, names_base}
use Rattle.ntfs_rules.specs.Records.{c4}
use Rattle.ntfs_survey.specs.Owned.{is_whole}
use Rattle.ntfs_survey.specs.Surveying.{record_at}
use Rattle.ntfs_volume.specs.Located.{Located, located_slot, slot_at, sound_located}
use Rattle.ntfs_volume.specs.Opened.{Opened}
use Rattle.ntfs_volume.specs.Records.{raw_record}
use Rattle.ntfs_volume.specs.References.{matches, target}

idle-none : {P : Type 0} (reference : ℕ) (s : Slot P) → s.is_live ≡ false → false ≡ is_base_for reference s
unfolding is_base_for
idle-none reference s idle = rw idle refl

pub named-none : {P : Type 0} (slots : List (Slot P)) (reference : ℕ) → c4 slots ≡ None → is_readable (slot_at slots (target reference)) ≡ false → false ≡ names_base slots reference
named-none slots reference whole unread =
    idle-none reference (slot_at slots (target reference)) (unread-idle (slot_at slots (target reference)) (whole-at slots (target reference) whole) unread)

said-base : (reference : ℕ) (said : FileRecord) → is_base_for reference (sound_located said) ≡ ((said.head.base == 0) && matches reference (target reference) said.head.sequence)
unfolding is_base_for
said-base reference said = refl

pub named-said : (slots : List (Slot (Located (Laid (List ℕ))))) (reference : ℕ) (said : FileRecord) (answer : Bool) → slot_at slots (target reference) ≡ sound_located said
    → answer ≡ ((said.head.base == 0) && matches reference (target reference) said.head.sequence) → answer ≡ names_base slots reference
named-said slots reference said answer is same =
    same ∙ sym (said-base reference said) ∙ sym (ap (is_base_for reference) is)

-- ---- by what was read of the base record

view-none : (s : Slot (Located (Laid (List ℕ)))) (view : Option FileRecord) → view ≡ None → IsView s view → is_readable s ≡ false
view-none s None none is = is
view-none s (Some said) none is = absurd cc

view-some : (s : Slot (Located (Laid (List ℕ)))) (view : Option FileRecord) (said : FileRecord) → view ≡ Some said → IsView s view → s ≡ sound_located said
view-some s None said same is = absurd cc
view-some s (Some other) said same is = let one : other ≡ said = cc in is ∙ ap sound_located one

pub base-unread : (slots : List (Slot (Located (Laid (List ℕ))))) (reference number : ℕ) (view : Option FileRecord) → c4 slots ≡ None → number ≡ target reference → view ≡ None → IsView (slot_at slots number) view
    → false ≡ names_base slots reference
base-unread slots reference number view whole same none is =
    named-none slots reference whole (ap (λ n. is_readable (slot_at slots n)) (sym same) ∙ view-none (slot_at slots number) view none is)

pub base-read : (slots : List (Slot (Located (Laid (List ℕ))))) (reference number : ℕ) (view : Option FileRecord) (said : FileRecord) (answer : Bool) → number ≡ target reference → view ≡ Some said → IsView (slot_at slots number) view
    → answer ≡ ((said.head.base == 0) && matches reference (target reference) said.head.sequence) → answer ≡ names_base slots reference
base-read slots reference number view said answer same some is =
    named-said slots reference said answer (ap (slot_at slots) (sym same) ∙ view-some (slot_at slots number) view said some is)

-- ---- by what is asked of a record

pub presumes-whole : (question : Asked) (o : Opened) (f : ℕ → List ℕ) → Presumes question o f → c4 (records_of o f) ≡ None
unfolding Presumes
presumes-whole asked.Base o f is = is
presumes-whole (asked.List extensions) o f is = is.whole

-- it can't be read
pub asked-idle : (o : Opened) (f : ℕ → List ℕ) (question : Asked) (n : ℕ) (raw : List ℕ) → Presumes question o f → 0 < o.geometry.record_size → raw_record o.geometry o.map f n ≡ Some raw
    → is_readable (located_slot n (Some raw)) ≡ false → true ≡ asked_at (file_answer question o f) o f n
asked-idle o f question n raw presumed some held unread =
    let is : is_readable (record_at o f n) ≡ false = ap (λ raw. is_readable (located_slot n raw)) held ∙ unread in
    let at : slot_at (records_of o f) n ≡ record_at o f n = record-at o f n some in
    let kept : is_whole (record_at o f n) ≡ true = ap (λ (s : Slot (Located (Laid (List ℕ)))). is_whole s) (sym at) ∙ whole-at (records_of o f) n (presumes-whole question o f presumed) in
    let idle : (record_at o f n).is_live ≡ false = unread-idle (record_at o f n) kept is in
    sym (ap (λ b. not b || file_answer question o f n (record_at o f n)) idle)

-- it says this
pub asked-said : (o : Opened) (f : ℕ → List ℕ) (question : Asked) (n : ℕ) (raw : List ℕ) (said : FileRecord) → raw_record o.geometry o.map f n ≡ Some raw → located_slot n (Some raw) ≡ sound_located said
    → file_answer question o f n (sound_located said) ≡ asked_at (file_answer question o f) o f n
asked-said o f question n raw said held is =
    sym (ap (λ (s : Slot (Located (Laid (List ℕ)))). passes_asked (file_answer question o f) n s) (ap (located_slot n) held ∙ is))

pub base-asked : (o : Opened) (f : ℕ → List ℕ) (question : Asked) (n : ℕ) (said : FileRecord) → question ≡ asked.Base
    → ((said.head.base == 0) || names_base (records_of o f) said.head.base) ≡ file_answer question o f n (sound_located said)
unfolding file_answer
base-asked o f question n said is = ap (λ (q : Asked). file_answer q o f n (sound_located said)) (sym is)

pub list-asked : (o : Opened) (f : ℕ → List ℕ) (question : Asked) (extensions : Bor Extensions) (n : ℕ) (raw : List ℕ) (said : FileRecord) → question ≡ asked.List extensions → Presumes question o f → 0 < o.geometry.record_size
    → raw_record o.geometry o.map f n ≡ Some raw → located_slot n (Some raw) ≡ sound_located said
    → (not (said.head.base == 0) || matches_listing (records_of o f) n said (extending extensions.now n) (file_lists o.geometry f said)) ≡ file_answer question o f n (sound_located said)
unfolding file_answer Presumes
list-asked o f question extensions n raw said is presumed some held same =
    let presumes : PresumesLists o f extensions.now = subst (λ (q : Asked). Presumes q o f) is presumed in
    listed-answer o f n raw said extensions.now some presumes held same
    ∙ ap (λ (q : Asked). file_answer q o f n (sound_located said)) (sym is)
