-- What a record says of itself as a directory.
use Rattle.std.proofs.Common.{◌≡◌, ◌<◌, ◌%◌, ◌/◌, ◌==◌, ◌&&◌, ◌||◌, ℕ, Bool, true, false, List, Option, Some, None, Err, Result, refl, sym, ap, subst, ◌∙◌, if◌then◌else◌}
use Rattle.std.specs.Prelude.{IfErr, IfOk, not}
use Rattle.ntfs_base.specs.Bytes.{cluster_at}
use Rattle.ntfs_base.specs.Frames.{IsSettled}
use Rattle.ntfs_check_directories.specs.Asked.{directory_answer, directory_said, walk_answer}
use Rattle.ntfs_check_directories.specs.Names.{records_in}
use Rattle.ntfs_check_directories.specs.declared.asked.Asked.{Asked}
use Rattle.ntfs_check_records.proofs.AnswerLemmas.{answers-by, answers-of}
use Rattle.ntfs_check_records.proofs.RecordLemmas.{slot-mapped}
use Rattle.ntfs_check_records.specs.Asked.{asked_at, passes_asked}
use Rattle.ntfs_check_records.specs.Reading.{Answers, is_readable}
use Rattle.ntfs_record.specs.FileRecord.{FileRecord, Head, Laid}
use Rattle.ntfs_record.specs.Slots.{Slot, begins_baad, blank_head, is_in_use, map_laid, record_in, tells_own}
use Rattle.ntfs_rules.specs.Directories.{has_directory_flag, is_directory}
use Rattle.ntfs_rules.specs.Outcome.{check_origin}
use Rattle.ntfs_rules.specs.declared.fault.CheckFault.{CheckFault}
use Rattle.ntfs_volume.proofs.GatherLemmas.{IsFaulty, slot-faulty}
use Rattle.ntfs_runs.specs.Cells.{Cells, cells_below}
use Rattle.ntfs_volume.specs.Located.{Located, idle, live_located, located_slot, map_located, slot_at, sound_located, unsound_located, with_cells}
use Rattle.ntfs_volume.specs.Opened.{Opened}
use Rattle.ntfs_volume.specs.Records.{raw_record, read_of}
use Rattle.ntfs_volume.specs.declared.fault.VolumeFault.{VolumeFault}

-- ---- the answer of a record by what it says

split : (o : Opened) (content : List ℕ) (question : Asked) (n : ℕ) (s : Slot (Located (Laid (List ℕ)))) (live directory : Bool) (found : Option ℕ)
    → found ≡ (if live && directory then Some s.head.sequence else None)
    → (found ≡ None → (not live || (not directory || walk_answer question o content n s.head.sequence)) ≡ true)
    × ((q : ℕ) → found ≡ Some q → (not live || (not directory || walk_answer question o content n s.head.sequence)) ≡ walk_answer question o content n q)
split o content question n s true true found is = (λ none. absurd cc, λ q some. let same : s.head.sequence ≡ q = cc in ap (walk_answer question o content n) same)
split o content question n s true false found is = (λ none. refl, λ q some. absurd cc)
split o content question n s false directory found is = (λ none. refl, λ q some. absurd cc)

asked-held : (o : Opened) (content : List ℕ) (question : Asked) (n : ℕ) (raw : List ℕ) → raw_record o.geometry o.map (cluster_at content o.geometry.cluster) n ≡ Some raw
    → asked_at (directory_answer question o content) o (cluster_at content o.geometry.cluster) n ≡ passes_asked (directory_answer question o content) n (located_slot n (Some raw))
asked-held o content question n raw held = ap (λ (r : Option (List ℕ)). passes_asked (directory_answer question o content) n (located_slot n r)) held

pub answer-none : (o : Opened) (content : List ℕ) (question : Asked) (n : ℕ) (raw : List ℕ) (found : Option ℕ) → raw_record o.geometry o.map (cluster_at content o.geometry.cluster) n ≡ Some raw
    → found ≡ directory_said (located_slot n (Some raw)) → found ≡ None → true ≡ asked_at (directory_answer question o content) o (cluster_at content o.geometry.cluster) n
answer-none o content question n raw found held is none =
    let s = located_slot n (Some raw) in
    sym (asked-held o content question n raw held ∙ (split o content question n s s.is_live (is_directory s) found is).0 none)

pub answer-some : (o : Opened) (content : List ℕ) (question : Asked) (n q : ℕ) (raw : List ℕ) (found : Option ℕ) (result : Result Bool CheckFault) → raw_record o.geometry o.map (cluster_at content o.geometry.cluster) n ≡ Some raw
    → found ≡ directory_said (located_slot n (Some raw)) → found ≡ Some q → IfOk result (λ is. is ≡ walk_answer question o content n q) → IfErr result (λ fault. IsSettled (check_origin fault) → ⊥)
    → Answers (asked_at (directory_answer question o content) o (cluster_at content o.geometry.cluster) n) result
answer-some o content question n q raw found result held is some given cut =
    let s = located_slot n (Some raw) in
    answers-by _ _ result (sym (asked-held o content question n raw held ∙ (split o content question n s s.is_live (is_directory s) found is).1 q some)) (answers-of _ result given cut)

-- ---- a record that can't be read

-- one that isn't sound says nothing
abbrev IsBlank : Slot (Located (Laid (List ℕ))) → Type 0
IsBlank s = s.is_sound ≡ false → s.head ≡ blank_head

blank-own : (file : FileRecord) (own : Bool) → IsBlank (if own then sound_located file else unsound_located)
blank-own file true unsound = absurd cc
blank-own file false unsound = refl

blank-live : (n : ℕ) (said : Option FileRecord) → IsBlank (live_located n said)
blank-live n None = λ unsound. refl
blank-live n (Some file) = blank-own file (tells_own n file.layout.number)

blank-used : (n : ℕ) (raw : List ℕ) (live : Bool) → IsBlank (if live then live_located n (record_in raw) else idle (begins_baad raw))
blank-used n raw true = blank-live n (record_in raw)
blank-used n raw false = λ unsound. refl

blank-raw : (n : ℕ) (raw : Option (List ℕ)) → IsBlank (located_slot n raw)
unfolding located_slot
blank-raw n None = λ unsound. refl
blank-raw n (Some raw) = blank-used n raw (is_in_use raw)

said-blank : (s : Slot (Located (Laid (List ℕ)))) (live : Bool) (head : Head) → head ≡ blank_head → (if live && ((head.base == 0) && (head.flags / 2 % 2 == 1)) then Some s.head.sequence else None) ≡ None
said-blank s true head is = rw is refl
said-blank s false head is = refl

said-unread : (s : Slot (Located (Laid (List ℕ)))) (live sound : Bool) → (live && sound) ≡ false → (sound ≡ false → s.head ≡ blank_head) → None ≡ (if live && is_directory s then Some s.head.sequence else None)
unfolding has_directory_flag
said-unread s false sound unread blank = refl
said-unread s true false unread blank = sym (said-blank s true s.head (blank refl))
said-unread s true true unread blank = absurd cc

pub said-none : (n : ℕ) (raw : List ℕ) → is_readable (located_slot n (Some raw)) ≡ false → None ≡ directory_said (located_slot n (Some raw))
said-none n raw unread =
    let s = located_slot n (Some raw) in
    said-unread s s.is_live s.is_sound unread (blank-raw n (Some raw))

pub said-given : (n : ℕ) (raw : List ℕ) (file : FileRecord) (found : Option ℕ) → located_slot n (Some raw) ≡ sound_located file → found ≡ directory_said (sound_located file) → found ≡ directory_said (located_slot n (Some raw))
said-given n raw file found is said = said ∙ ap (λ (s : Slot (Located (Laid (List ℕ)))). directory_said s) (sym is)

-- a record that can't be read isn't in use, or is and isn't sound
pub slot-refused : (o : Opened) (content : List ℕ) (n : ℕ) (fault : VolumeFault) → 0 < o.geometry.record_size → read_of o.geometry o.map (cluster_at content o.geometry.cluster) n ≡ Err fault
    → IsFaulty n (slot_at (records_in o content) n) fault
unfolding with_cells
slot-refused o content n fault some read =
    subst (λ (slot : Slot (Located (Laid (Cells ℕ)))). IsFaulty n slot fault) (slot-mapped (map_located (map_laid (cells_below o.geometry.clusters))) 0 n (records_in o content))
    (slot-faulty o.geometry o.map (cluster_at content o.geometry.cluster) n fault some read)
