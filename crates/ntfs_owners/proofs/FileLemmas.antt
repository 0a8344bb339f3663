-- The runs of a file, step by step.
use Rattle.std.proofs.Common.{◌≡◌, ℕ, Bool, true, false, List, Result, Ok, Err, IfErr, IfOk, refl, sym, ap, ap₂, subst, ◌∙◌}
use Rattle.ntfs_base.specs.Frames.{Gives, IsSettled, Puts, PutsPrefix, must, refused_as, ◌>>=◌}
use Rattle.ntfs_base.specs.Sink.{SinkState}
use Rattle.ntfs_base.specs.declared.fault.PutFault.{PutFault}
use Rattle.ntfs_base.specs.declared.fault.PutFault.TheVariants as put
use Rattle.ntfs_base.specs.declared.refusal.Missing.TheVariants as missing
use Rattle.ntfs_print.specs.Fault.{gather_refusal, show_fault, show_origin}
use Rattle.ntfs_owners.specs.Held.{Held, IsCut, slots_held}
use Rattle.ntfs_owners.specs.OwnerLines.{held_lines}
use Rattle.ntfs_owners.specs.Owners.{all_runs, file_outcome, file_runs, is_of_file, live_sequence, read_refusal}
use Rattle.ntfs_print.specs.declared.fault.ShowFault.{ShowFault}
use Rattle.ntfs_print.specs.declared.fault.ShowFault.TheVariants as show
use Rattle.ntfs_survey.specs.Owned.{volume_survey}
use Rattle.ntfs_survey.specs.Surveying.{record_at}
use Rattle.ntfs_survey.specs.declared.owners.Owner.{Owner}
use Rattle.ntfs_volume.specs.Fault.{volume_origin}
use Rattle.ntfs_volume.specs.Located.{slots_of}
use Rattle.ntfs_volume.specs.Opened.{Opened}
use Rattle.ntfs_volume.specs.declared.fault.VolumeFault.{VolumeFault}
use Rattle.ntfs_volume.specs.declared.fault.VolumeFault.TheVariants as volume

-- ---- the base record

abbrev live_by : ℕ → Bool → ℕ → Result ℕ ShowFault
live_by r live sequence = must live (show.NotFound (missing.Record r)) >>= (λ _. Ok sequence)

pub sequence-found : (o : Opened) (f : ℕ → List ℕ) (r sequence : ℕ) → (record_at o f r).is_live ≡ true → sequence ≡ (record_at o f r).head.sequence → live_sequence o f r ≡ Ok sequence
unfolding live_sequence
sequence-found o f r sequence live is = ap₂ (λ b s. live_by r b s) live (sym is)

missing-record : (o : Opened) (f : ℕ → List ℕ) (r : ℕ) → (record_at o f r).is_live ≡ false → live_sequence o f r ≡ Err (show.NotFound (missing.Record r))
unfolding live_sequence
missing-record o f r idle = ap (λ b. live_by r b (record_at o f r).head.sequence) idle

gives-missing : (o : Opened) (f : ℕ → List ℕ) (r : ℕ) (fault : VolumeFault) → (IsSettled (volume_origin fault) → (fault ≡ volume.Absent) × ((record_at o f r).is_live ≡ false))
    → IsSettled (show_origin (read_refusal r fault)) → live_sequence o f r ≡ Err (read_refusal r fault)
gives-missing o f r volume.Absent is settled = missing-record o f r (is tt).1
gives-missing o f r volume.NotNtfs is settled = let none = (is tt).0 in absurd cc
gives-missing o f r (volume.BadGeometry field value) is settled = let none = (is tt).0 in absurd cc
gives-missing o f r (volume.ImageShort len need) is settled = let none = (is tt).0 in absurd cc
gives-missing o f r (volume.Damaged rule number) is settled = let none = (is tt).0 in absurd cc
gives-missing o f r volume.NoAttribute is settled = let none = (is tt).0 in absurd cc
gives-missing o f r volume.ReadFault is settled = absurd settled
gives-missing o f r volume.WriteFault is settled = absurd settled
gives-missing o f r volume.NoMemory is settled = absurd settled

pub sequence-refused : (o : Opened) (f : ℕ → List ℕ) (r : ℕ) (fault : VolumeFault) (result : ShowFault) → result ≡ read_refusal r fault
    → (IsSettled (volume_origin fault) → (fault ≡ volume.Absent) × ((record_at o f r).is_live ≡ false)) → IsSettled (show_origin result) → live_sequence o f r ≡ Err result
sequence-refused o f r fault result same is settled =
    gives-missing o f r fault is (subst (λ (e : ShowFault). IsSettled (show_origin e)) same settled) ∙ ap Err (sym same)

-- ---- the runs

abbrev Survey : Type 0
Survey = Result (List Owner) VolumeFault

abbrev runs_by : Opened → (ℕ → List ℕ) → ℕ → Survey → Result ℕ ShowFault → Result (List Held) ShowFault
runs_by o f r survey live =
    refused_as (gather_refusal 0) survey >>= (λ _. live >>= (λ sequence. Ok (slots_held (is_of_file r sequence) all_runs 0 (slots_of o.geometry o.map f))))

refused-before : (o : Opened) (f : ℕ → List ℕ) (r : ℕ) (survey : Survey) (live : Result ℕ ShowFault) (fault : ShowFault) → refused_as (gather_refusal 0) survey ≡ Err fault → runs_by o f r survey live ≡ Err fault
refused-before o f r (Ok owners) live fault is = absurd cc
refused-before o f r (Err other) live fault is = let same : gather_refusal 0 other ≡ fault = cc in ap Err same

pub file-unsurveyed : (o : Opened) (f : ℕ → List ℕ) (r : ℕ) (fault : ShowFault) → refused_as (gather_refusal 0) (volume_survey o f) ≡ Err fault → file_runs o f r ≡ Err fault
unfolding file_runs
file-unsurveyed o f r fault is = refused-before o f r (volume_survey o f) (live_sequence o f r) fault is

pub file-missing : (o : Opened) (f : ℕ → List ℕ) (r : ℕ) (owners : List Owner) (fault : ShowFault) → volume_survey o f ≡ Ok owners → live_sequence o f r ≡ Err fault → file_runs o f r ≡ Err fault
unfolding file_runs
file-missing o f r owners fault is live = ap₂ (λ survey live. runs_by o f r survey live) is live

pub file-found : (o : Opened) (f : ℕ → List ℕ) (r sequence : ℕ) (owners : List Owner) (held : List Held) → volume_survey o f ≡ Ok owners → live_sequence o f r ≡ Ok sequence
    → held ≡ slots_held (is_of_file r sequence) all_runs 0 (slots_of o.geometry o.map f) → file_runs o f r ≡ Ok held
unfolding file_runs
file-found o f r sequence owners held is live held_is = ap₂ (λ survey live. runs_by o f r survey live) is live ∙ ap Ok (sym held_is)

-- a value that is found
pub same-ok : {T E : Type 0} (x y : T) → ◌≡◌ {A = Result T E} (Ok x) (Ok y) → x ≡ y
same-ok x y is = cc

-- a survey in the words of a printing call
pub survey-gave : (o : Opened) (f : ℕ → List ℕ) (owners : List Owner) → refused_as (gather_refusal 0) (volume_survey o f) ≡ Ok owners → volume_survey o f ≡ Ok owners
survey-gave o f owners is = by_survey (volume_survey o f) is
  where
    by_survey : (s : Survey) → refused_as (gather_refusal 0) s ≡ Ok owners → s ≡ Ok owners
    by_survey (Ok found) is = cc
    by_survey (Err fault) is = absurd cc

-- ---- what is printed

pub file-refused : (o : Opened) (f : ℕ → List ℕ) (r : ℕ) (fault : ShowFault) → file_runs o f r ≡ Err fault → file_outcome o f r ≡ Err fault
unfolding file_outcome
file-refused o f r fault is = rw is refl

pub file-printed : (o : Opened) (f : ℕ → List ℕ) (r : ℕ) (held : List Held) → file_runs o f r ≡ Ok held → file_outcome o f r ≡ Ok (held_lines held)
unfolding file_outcome
file-printed o f r held is = rw is refl

-- a refusal of the sink cuts the work off
pub sink-cuts : (fault : PutFault) → IsSettled (show_origin (show_fault fault)) → ⊥
sink-cuts put.Failed settled = settled
sink-cuts put.NoMemory settled = settled

-- bytes that were cut off
pub puts-cut : (bytes : List ℕ) (old new : SinkState) (fault : ShowFault) → (IsSettled (show_origin fault) → ⊥) → PutsPrefix bytes old new → Puts show_origin (Ok bytes) old (Err fault) new
puts-cut bytes old new fault never prefix = record { answer = λ settled. absurd (never settled); output = λ settled. absurd (never settled); prefix = prefix }

-- a reading that was cut off isn't settled
pub cut-never : (fault : ShowFault) → IsCut fault → IsSettled (show_origin fault) → ⊥
cut-never show.ReadFault cut settled = settled
cut-never show.NoMemory cut settled = settled
cut-never show.WriteFault cut settled = settled
cut-never (show.NotFound what) cut settled = cut
cut-never (show.NotPlain flags) cut settled = cut
cut-never (show.Damaged rule number) cut settled = cut

-- what a reading gives that can only be cut off
pub gives-cut : {T U : Type 0} (view : T → U) (expected : Result U ShowFault) (result : Result T ShowFault) → IfOk result (λ x. expected ≡ Ok (view x)) → IfErr result IsCut
    → Gives show_origin view expected result
gives-cut view expected (Ok x) is cut = is
gives-cut view expected (Err fault) is cut = λ settled. absurd (cut-never fault cut settled)

pub if-ok : {T E : Type 0} (A B : T → Type 0) (result : Result T E) → ((x : T) → A x → B x) → IfOk result A → IfOk result B
if-ok A B (Ok x) step is = step x is
if-ok A B (Err fault) step is = is
