-- What is found of a volume that keeps all rules.
use Rattle.std.proofs.Common.{◌≡◌, ◌++◌, ◌∙◌, refl, ap, sym, arith, ℕ, List, [], ◌∷◌, Option, Some, None, Result, Ok, Err}
use Rattle.std.specs.Prelude.{All, IfErr, IfOk, IsTrue}
use Rattle.std.specs.List.{AllByRecursion, flat_map}
use Rattle.ntfs_base.specs.Bytes.{cluster_at}
use Rattle.ntfs_base.specs.Frames.{Gives, IsSettled, ◌>>=◌}
use Rattle.ntfs_base.specs.Image.{ImageState}
use Rattle.ntfs_base.specs.declared.refusal.Rule.{Rule}
use Rattle.ntfs_base.specs.declared.refusal.Rule.TheVariants as rule
use Rattle.ntfs_bitmap.specs.ClusterSet.{Clusters}
use Rattle.ntfs_check.proofs.BootLemmas.{boot-begun}
use Rattle.ntfs_check.proofs.JudgedLemmas.{volume_seen}
use Rattle.ntfs_check.specs.Findings.{VolumeFindings, again, examined, findings_of}
use Rattle.ntfs_check.specs.Judged.{judged, rule_15}
use Rattle.ntfs_check_clusters.specs.Outcome.{claimed_set}
use Rattle.ntfs_check_fixed.specs.Facts.{VolumeFacts, facts_of}
use Rattle.ntfs_record.specs.Parsing.{unless_found}
use Rattle.ntfs_rules.proofs.ClearLemmas.{c7-clear}
use Rattle.ntfs_rules.proofs.DataLemmas.{c4-is, c7-is, numbers-are}
use Rattle.ntfs_rules.specs.Accepts.{Broken, Line, claims_in, fault_of, first_broken, first_rules, further_rules, or_broken}
use Rattle.ntfs_rules.specs.Outcome.{check_origin, unless_broken}
use Rattle.ntfs_rules.specs.Records.{c4}
use Rattle.ntfs_rules.specs.VolumeData.{Records, VolumeData, volume_data}
use Rattle.ntfs_rules.specs.declared.fault.CheckFault.{CheckFault}
use Rattle.ntfs_survey.proofs.OwnedLemmas.{claims-from}
use Rattle.ntfs_survey.specs.Owned.{LiesBelow, owned, owner_claims, owners_of, survey_of, volume_survey}
use Rattle.ntfs_survey.specs.declared.owners.Owner.{Owner}
use Rattle.ntfs_volume.specs.Fault.{volume_origin}
use Rattle.ntfs_volume.specs.Located.{slots_of, with_cells}
use Rattle.ntfs_volume.specs.Opened.{Opened}
use Rattle.ntfs_volume.specs.declared.fault.VolumeFault.{VolumeFault}
use Rattle.ntfs_volume.specs.declared.fault.VolumeFault.TheVariants as volume

-- ---- rules that are kept

or-parts : (rule : Rule) (o : Option ℕ) (rest : Option Broken) → or_broken rule o rest ≡ None → (o ≡ None) × (rest ≡ None)
or-parts rule None rest is = (refl, is)
or-parts rule (Some number) rest is = absurd cc

-- where no line of a table is broken, none is
all-clear : (lines : List Line) → first_broken lines ≡ None → AllByRecursion (λ (l : Line). l.broken ≡ None) lines
all-clear [] is = tt
all-clear (l ∷ lines) is = let parts = or-parts l.rule l.broken (first_broken lines) is in (parts.0, all-clear lines parts.1)

lines-clear : (v : VolumeData) → fault_of v ≡ None → AllByRecursion (λ (l : Line). l.broken ≡ None) (first_rules v ++ further_rules v)
unfolding fault_of
lines-clear v is = all-clear (first_rules v ++ further_rules v) is

c4-clear : (v : VolumeData) → fault_of v ≡ None → c4 v.slots ≡ None
c4-clear v is = (lines-clear v is).0

pub c15-clear : (v : VolumeData) → fault_of v ≡ None → rule_15 v ≡ None
c15-clear v is = (lines-clear v is).1.1.1.1.1.1.1.1.1.1.1.0

-- ---- the survey

none-found : (torn wrong : Option ℕ) (owners : List Owner) → torn ≡ None → wrong ≡ None
    → (unless_found torn (volume.Damaged rule.C4) >>= (λ _. unless_found wrong (volume.Damaged rule.C7) >>= (λ _. Ok owners))) ≡ Ok owners
none-found None None owners whole right = refl
none-found (Some n) wrong owners whole right = absurd cc
none-found None (Some n) owners whole right = absurd cc

survey-clear : (o : Opened) (f : ℕ → List ℕ) → fault_of (volume_data o f) ≡ None → volume_survey o f ≡ Ok (owners_of (slots_of o.geometry o.map f))
unfolding survey_of c4
survey-clear o f is =
    let v = volume_data o f in
    let slots = slots_of o.geometry o.map f in
    none-found (c4 slots) _ (owners_of slots) (sym (c4-is o f) ∙ c4-clear v is) (sym (c7-is o f) ∙ c7-clear v is)

-- it isn't refused
pub survey-kept : (o : Opened) (f : ℕ → List ℕ) (facts : VolumeFacts) (fault : VolumeFault) → fault_of (volume_data o f) ≡ None → (IsSettled (volume_origin fault) → volume_survey o f ≡ Err fault)
    → IsSettled (check_origin (again fault)) → ◌≡◌ {A = Result VolumeFacts CheckFault} (Ok facts) (Err (again fault))
survey-kept o f facts (volume.Damaged broken number) clear is settled = let refused = is tt in let given = survey-clear o f clear in absurd cc
survey-kept o f facts volume.NotNtfs clear is settled = absurd settled
survey-kept o f facts (volume.BadGeometry field value) clear is settled = absurd settled
survey-kept o f facts (volume.ImageShort len need) clear is settled = absurd settled
survey-kept o f facts volume.Absent clear is settled = absurd settled
survey-kept o f facts volume.NoAttribute clear is settled = absurd settled
survey-kept o f facts volume.ReadFault clear is settled = absurd settled
survey-kept o f facts volume.WriteFault clear is settled = absurd settled
survey-kept o f facts volume.NoMemory clear is settled = absurd settled

claims-are : (o : Opened) (f : ℕ → List ℕ) → claims_in (volume_data o f) ≡ flat_map owner_claims (owners_of (slots_of o.geometry o.map f))
unfolding with_cells
claims-are o f =
    ap (λ (slots : Records ℕ). owned slots) (numbers-are o f) ∙ sym (claims-from o.geometry.clusters 0 (slots_of o.geometry o.map f))

same-ok : (a b : List Owner) → ◌≡◌ {A = Result (List Owner) VolumeFault} (Ok a) (Ok b) → a ≡ b
same-ok a b is = cc

-- its owners claim what the volume's records do
pub owners-claim : (o : Opened) (f : ℕ → List ℕ) (owners : List Owner) → fault_of (volume_data o f) ≡ None → volume_survey o f ≡ Ok owners → claims_in (volume_data o f) ≡ flat_map owner_claims owners
owners-claim o f owners clear is =
    claims-are o f ∙ ap (λ (them : List Owner). flat_map owner_claims them) (same-ok (owners_of (slots_of o.geometry o.map f)) owners (sym (survey-clear o f clear) ∙ is))

-- what reading the facts finds, by these owners
abbrev pub FindsFacts : Opened → List Owner → Result VolumeFacts CheckFault → List ℕ → Type 0
FindsFacts o owners result content =
    let v = volume_data o (cluster_at content o.geometry.cluster) in
    rule_15 v ≡ None → claims_in v ≡ flat_map owner_claims owners → All (LiesBelow v.geometry.clusters) owners → IfOk result (λ facts. facts ≡ facts_of v)

-- what it gives of a volume that keeps all rules, by the image as it is seen
abbrev pub GivesFacts : Opened → Result VolumeFacts CheckFault → ImageState → Type 0
GivesFacts o result s =
    IsTrue s.is_told → fault_of (volume_seen o s) ≡ None → Gives check_origin (λ facts. facts) (Ok (facts_of (volume_seen o s))) result

pub facts-given : (expected : VolumeFacts) (result : Result VolumeFacts CheckFault) → IfOk result (λ facts. facts ≡ expected) → IfErr result (λ fault. IsSettled (check_origin fault) → ⊥)
    → Gives check_origin (λ facts. facts) (Ok expected) result
facts-given expected (Ok facts) found cut = ap Ok (sym found)
facts-given expected (Err fault) found cut = λ settled. absurd (cut settled)

-- ---- a volume that is judged, and what is found of it

broken-none : {T : Type 0} (broken : Option Broken) (value given : T) → unless_broken broken value ≡ Ok given → broken ≡ None
broken-none None value given is = refl
broken-none (Some b) value given is = absurd cc

broken-value : {T : Type 0} (broken : Option Broken) (value given : T) → unless_broken broken value ≡ Ok given → value ≡ given
broken-value None value given is = cc
broken-value (Some b) value given is = absurd cc

none-given : {T : Type 0} (broken : Option Broken) (value : T) → broken ≡ None → unless_broken broken value ≡ Ok value
none-given None value none = refl
none-given (Some b) value none = absurd cc

broken-err : {T U : Type 0} (broken : Option Broken) (value : T) (other : U) (fault : CheckFault) → unless_broken broken value ≡ Err fault → unless_broken broken other ≡ Err fault
broken-err None value other fault is = absurd cc
broken-err (Some b) value other fault is = cc

pub judged-clear : (v : VolumeData) (set : Clusters) → judged v ≡ Ok set → fault_of v ≡ None
unfolding judged
judged-clear v set is = broken-none (fault_of v) (claimed_set v.geometry.clusters (claims_in v)) set is

pub judged-refused : (v : VolumeData) (fault : CheckFault) → judged v ≡ Err fault → examined v ≡ Err fault
unfolding judged examined
judged-refused v fault is = broken-err (fault_of v) (claimed_set v.geometry.clusters (claims_in v)) (findings_of v) fault is

pub facts-differ : (facts : VolumeFacts) (fault : CheckFault) → ◌≡◌ {A = Result VolumeFacts CheckFault} (Ok facts) (Err fault) → ⊥
facts-differ facts fault is = absurd cc

with_facts : Clusters → VolumeFacts → VolumeFindings
with_facts set facts = record { owned = set; facts = facts }

pub all-found : (v : VolumeData) (set : Clusters) (facts : VolumeFacts) → judged v ≡ Ok set → ◌≡◌ {A = Result VolumeFacts CheckFault} (Ok (facts_of v)) (Ok facts)
    → examined v ≡ Ok (record { owned = set; facts = facts })
unfolding judged examined with_facts
all-found v set facts is found =
    let same : facts_of v ≡ facts = cc in
    none-given (fault_of v) (findings_of v) (judged-clear v set is)
    ∙ ap (λ (s : Clusters). Ok (with_facts s (facts_of v))) (broken-value (fault_of v) (claimed_set v.geometry.clusters (claims_in v)) set is)
    ∙ ap (λ (k : VolumeFacts). Ok (with_facts set k)) same

-- record 7 has a cluster
pub begun : (o : Opened) (f : ℕ → List ℕ) (facts : VolumeFacts) → fault_of (volume_data o f) ≡ None → ◌≡◌ {A = Result VolumeFacts CheckFault} (Ok (facts_of (volume_data o f))) (Ok facts) → facts.boot_end ≡ 0 → ⊥
unfolding facts_of
begun o f facts clear found none =
    let same : facts_of (volume_data o f) ≡ facts = cc in
    let end = ap (λ (k : VolumeFacts). k.boot_end) same in
    omega (arith, boot-begun o f clear, end, none)
