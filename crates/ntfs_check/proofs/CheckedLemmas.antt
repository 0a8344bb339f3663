-- What stands of a volume that was checked.
use Rattle.std.proofs.Common.{◌≡◌, ◌∙◌, refl, ap, sym, subst, ℕ, List, Option, Some, None, Ok, Err}
use Rattle.std.specs.Prelude.{IsTrue}
use Rattle.std.specs.Option.{option_map}
use Rattle.ntfs_base.specs.Frames.{IsSettled}
use Rattle.ntfs_base.specs.Image.{ImageState}
use Rattle.ntfs_base.specs.declared.refusal.Rule.{Rule}
use Rattle.ntfs_check.proofs.JudgedLemmas.{volume_seen}
use Rattle.ntfs_check.specs.Checked.{StandsOn, Verdict}
use Rattle.ntfs_check.specs.Findings.{Fit, VolumeFindings, examined, findings_of}
use Rattle.ntfs_rules.specs.Accepts.{Accepts, Broken, damaged, fault_of, first_fault, opened_fault}
use Rattle.ntfs_rules.specs.Laws.{data_in}
use Rattle.ntfs_rules.specs.Outcome.{check_origin, unless_broken}
use Rattle.ntfs_rules.specs.VolumeData.{VolumeData}
use Rattle.ntfs_rules.specs.declared.fault.CheckFault.{CheckFault}
use Rattle.ntfs_rules.specs.declared.fault.CheckFault.TheVariants as check
use Rattle.ntfs_volume.specs.Opened.{HasClusters, Opened, opened_of}
use Rattle.ntfs_volume.specs.declared.fault.VolumeFault.TheVariants as volume

-- ---- a volume that is examined

given-none : {T : Type 0} (broken : Option Broken) (value given : T) → unless_broken broken value ≡ Ok given → broken ≡ None
given-none None value given is = refl
given-none (Some b) value given is = absurd cc

given-value : {T : Type 0} (broken : Option Broken) (value given : T) → unless_broken broken value ≡ Ok given → given ≡ value
given-value None value given is = cc
given-value (Some b) value given is = absurd cc

examined-clear : (v : VolumeData) (f : VolumeFindings) → examined v ≡ Ok f → fault_of v ≡ None
unfolding examined
examined-clear v f is = given-none (fault_of v) (findings_of v) f is

pub examined-found : (v : VolumeData) (f : VolumeFindings) → examined v ≡ Ok f → f ≡ findings_of v
unfolding examined
examined-found v f is = given-value (fault_of v) (findings_of v) f is

clear-examined : (v : VolumeData) → fault_of v ≡ None → examined v ≡ Ok (findings_of v)
unfolding examined
clear-examined v none = ap (λ (broken : Option Broken). unless_broken broken (findings_of v)) none

-- ---- an image that opens

fault-opened : (image : List ℕ) (o : Opened) → opened_of image ≡ Ok o → first_fault image ≡ option_map damaged (fault_of (data_in image o))
unfolding first_fault
fault-opened image o is = ap (opened_fault image) is

pub examined-accepted : (image : List ℕ) (o : Opened) (f : VolumeFindings) → opened_of image ≡ Ok o → examined (data_in image o) ≡ Ok f → Accepts image
examined-accepted image o f opened is = fault-opened image o opened ∙ ap (option_map damaged) (examined-clear (data_in image o) f is)

none-broken : (broken : Option Broken) → option_map damaged broken ≡ None → broken ≡ None
none-broken None is = refl
none-broken (Some b) is = absurd cc

pub accepted-examined : (image : List ℕ) (o : Opened) → opened_of image ≡ Ok o → Accepts image → examined (data_in image o) ≡ Ok (findings_of (data_in image o))
accepted-examined image o opened is = clear-examined (data_in image o) (none-broken (fault_of (data_in image o)) (sym (fault-opened image o opened) ∙ is))

refused-broken : (broken : Option Broken) (value : VolumeFindings) (rule : Rule) (number : ℕ) → unless_broken broken value ≡ Err (check.Damaged rule number) → option_map damaged broken ≡ Some (volume.Damaged rule number)
refused-broken None value rule number is = absurd cc
refused-broken (Some b) value rule number is = cc

broken-refused : (broken : Option Broken) (value : VolumeFindings) (rule : Rule) (number : ℕ) → option_map damaged broken ≡ Some (volume.Damaged rule number) → unless_broken broken value ≡ Err (check.Damaged rule number)
broken-refused None value rule number is = absurd cc
broken-refused (Some b) value rule number is = cc

pub refused-first : (image : List ℕ) (o : Opened) (rule : Rule) (number : ℕ) → opened_of image ≡ Ok o → examined (data_in image o) ≡ Err (check.Damaged rule number) → first_fault image ≡ Some (volume.Damaged rule number)
unfolding examined
refused-first image o rule number opened is =
    fault-opened image o opened ∙ refused-broken (fault_of (data_in image o)) (findings_of (data_in image o)) rule number is

pub first-refused : (image : List ℕ) (o : Opened) (rule : Rule) (number : ℕ) → opened_of image ≡ Ok o → first_fault image ≡ Some (volume.Damaged rule number) → examined (data_in image o) ≡ Err (check.Damaged rule number)
unfolding examined
first-refused image o rule number opened is =
    broken-refused (fault_of (data_in image o)) (findings_of (data_in image o)) rule number (sym (fault-opened image o opened) ∙ is)

pub verdict-refused : (image : List ℕ) (o : Opened) (fault : CheckFault) → opened_of image ≡ Ok o → (IsSettled (check_origin fault) → examined (data_in image o) ≡ Err fault) → Verdict {T = VolumeFindings} image (Err fault)
verdict-refused image o (check.Damaged rule number) opened is = refused-first image o rule number opened (is tt)
verdict-refused image o check.ReadFault opened is = tt
verdict-refused image o check.NoMemory opened is = tt

-- ---- what stands

pub stands-given : (s : ImageState) (o : Opened) (f : VolumeFindings) → HasClusters s.size o → Fit o f → (IsTrue s.is_told → opened_of s.content ≡ Ok o) → (IsTrue s.is_told → examined (volume_seen o s) ≡ Ok f) → StandsOn s o f
stands-given s o f held fit opened is = record {
  held = held;
  fit = fit;
  accepted = λ told. examined-accepted s.content o f (opened told) (is told);
  opened = opened;
  found = λ told. examined-found (volume_seen o s) f (is told);
}

-- after a call that only reads
pub stands-still : (old new : ImageState) (o p : Opened) (f : VolumeFindings) → new ≡ old → p ≡ o → StandsOn old o f → StandsOn new p f
stands-still old new o p f seen kept stands =
    subst (λ (s : ImageState). StandsOn s p f) (sym seen) (subst (λ (q : Opened). StandsOn old q f) (sym kept) stands)
