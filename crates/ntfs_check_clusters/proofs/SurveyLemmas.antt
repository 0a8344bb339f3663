-- Rules C4 and C7, by the survey of all records.
use Rattle.std.proofs.Common.{◌≡◌, ℕ, List, Option, Some, None, Result, Ok, Err, refl, ap, ◌∙◌}
use Rattle.ntfs_base.specs.Frames.{Gives, IsSettled, ◌>>=◌}
use Rattle.ntfs_base.specs.declared.refusal.Rule.{Rule}
use Rattle.ntfs_base.specs.declared.refusal.Rule.TheVariants as rule
use Rattle.ntfs_check_clusters.specs.Outcome.{after_survey, owners_or_wrong, surveyed}
use Rattle.ntfs_record.specs.Parsing.{unless_found}
use Rattle.ntfs_rules.specs.Outcome.{check_origin, unless_number}
use Rattle.ntfs_rules.specs.Records.{c4, c7}
use Rattle.ntfs_rules.specs.declared.fault.CheckFault.{CheckFault}
use Rattle.ntfs_survey.specs.Owned.{owners_of, survey_of, volume_survey}
use Rattle.ntfs_survey.specs.declared.owners.Owner.{Owner}
use Rattle.ntfs_volume.specs.Fault.{volume_origin}
use Rattle.ntfs_volume.specs.Located.{slots_of, with_cells}
use Rattle.ntfs_volume.specs.Opened.{Opened}
use Rattle.ntfs_volume.specs.declared.fault.VolumeFault.{VolumeFault}
use Rattle.ntfs_volume.specs.declared.fault.VolumeFault.TheVariants as volume

-- what a survey says
abbrev said_by : Result (List Owner) VolumeFault → Result (Result (List Owner) ℕ) CheckFault
said_by (Ok owners) = Ok (Ok owners)
said_by (Err fault) = after_survey fault

said-found : (torn wrong : Option ℕ) (owners : List Owner)
    → unless_number rule.C4 torn (owners_or_wrong wrong owners)
    ≡ said_by (unless_found torn (volume.Damaged rule.C4) >>= (λ _. unless_found wrong (volume.Damaged rule.C7) >>= (λ _. Ok owners)))
said-found (Some n) wrong owners = refl
said-found None (Some n) owners = refl
said-found None None owners = refl

said-survey : (o : Opened) (f : ℕ → List ℕ) → surveyed o f ≡ said_by (volume_survey o f)
unfolding survey_of c4 c7
said-survey o f = said-found (c4 (slots_of o.geometry o.map f)) (c7 (with_cells o.geometry.clusters (slots_of o.geometry o.map f))) (owners_of (slots_of o.geometry o.map f))

pub survey-given : (o : Opened) (f : ℕ → List ℕ) (owners : List Owner) → volume_survey o f ≡ Ok owners → surveyed o f ≡ Ok (Ok owners)
survey-given o f owners is = said-survey o f ∙ ap said_by is

survey-err : (o : Opened) (f : ℕ → List ℕ) (fault : VolumeFault) → volume_survey o f ≡ Err fault → surveyed o f ≡ after_survey fault
survey-err o f fault is = said-survey o f ∙ ap said_by is

other-rule : (o : Opened) (f : ℕ → List ℕ) (broken : Rule) (number : ℕ) → (surveyed o f ≡ after_survey (volume.Damaged broken number)) → Gives check_origin (λ found. found) (surveyed o f) (after_survey (volume.Damaged broken number))
other-rule o f rule.C1 number is = λ settled. is
other-rule o f rule.C2 number is = λ settled. is
other-rule o f rule.C3 number is = λ settled. is
other-rule o f rule.C4 number is = λ settled. is
other-rule o f rule.C5 number is = λ settled. is
other-rule o f rule.C6 number is = λ settled. is
other-rule o f rule.C7 number is = is
other-rule o f rule.C8 number is = λ settled. is
other-rule o f rule.C9 number is = λ settled. is
other-rule o f rule.C10 number is = λ settled. is
other-rule o f rule.C11 number is = λ settled. is
other-rule o f rule.C12 number is = λ settled. is
other-rule o f rule.C13 number is = λ settled. is
other-rule o f rule.C14 number is = λ settled. is
other-rule o f rule.C15 number is = λ settled. is
other-rule o f rule.C16 number is = λ settled. is

pub survey-refused : (o : Opened) (f : ℕ → List ℕ) (fault : VolumeFault) → (IsSettled (volume_origin fault) → volume_survey o f ≡ Err fault) → Gives check_origin (λ found. found) (surveyed o f) (after_survey fault)
survey-refused o f (volume.Damaged broken number) is = other-rule o f broken number (survey-err o f (volume.Damaged broken number) (is tt))
survey-refused o f volume.NotNtfs is = λ settled. absurd settled
survey-refused o f (volume.BadGeometry field value) is = λ settled. absurd settled
survey-refused o f (volume.ImageShort len need) is = λ settled. absurd settled
survey-refused o f volume.Absent is = λ settled. absurd settled
survey-refused o f volume.NoAttribute is = λ settled. absurd settled
survey-refused o f volume.ReadFault is = λ settled. absurd settled
survey-refused o f volume.WriteFault is = λ settled. absurd settled
survey-refused o f volume.NoMemory is = λ settled. absurd settled
