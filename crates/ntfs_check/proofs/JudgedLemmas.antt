-- Lines of rules, one after the other.
use Rattle.std.proofs.Common.{◌≡◌, ◌++◌, ℕ, List, [], ◌∷◌, Option, Some, None, refl, ap, sym, ◌∙◌}
use Rattle.ntfs_base.specs.Bytes.{cluster_at}
use Rattle.ntfs_base.specs.Frames.{Gives}
use Rattle.ntfs_base.specs.Image.{ImageState}
use Rattle.ntfs_base.specs.declared.refusal.Rule.{Rule}
use Rattle.ntfs_base.specs.declared.refusal.Rule.TheVariants as rule
use Rattle.ntfs_check.specs.Judged.{Keeps, judged, last_rules, rule_15, rule_16}
use Rattle.ntfs_check_clusters.specs.Outcome.{claimed_set, judged_first}
use Rattle.ntfs_bitmap.specs.ClusterSet.{Clusters}
use Rattle.ntfs_rules.specs.Accepts.{Broken, Line, claims_in, fault_of, first_broken, first_rules, further_rules, or_broken}
use Rattle.ntfs_rules.specs.Directories.{c13, c14}
use Rattle.ntfs_rules.specs.Outcome.{check_origin, judged_by, unless_broken, unless_number}
use Rattle.ntfs_rules.specs.VolumeData.{VolumeData, contents, listings, volume_data}
use Rattle.ntfs_rules.specs.declared.fault.CheckFault.{CheckFault}
use Rattle.ntfs_volume.specs.Opened.{Opened}
use Rattle.std.specs.Prelude.{IsTrue, Result, Ok, Err}

-- the lines behind others that are kept
behind-line : (rule : Rule) (here : Option ℕ) (rest more last : Option Broken) → (rest ≡ None → more ≡ last) → or_broken rule here rest ≡ None → or_broken rule here more ≡ last
behind-line rule None rest more last later none = later none
behind-line rule (Some number) rest more last later none = absurd cc

pub behind-kept : (lines more : List Line) → first_broken lines ≡ None → first_broken (lines ++ more) ≡ first_broken more
behind-kept [] more kept = refl
behind-kept (l ∷ lines) more kept = behind-line l.rule l.broken (first_broken lines) (first_broken (lines ++ more)) (first_broken more) (behind-kept lines more) kept

-- one that is broken, whatever stands behind
before-line : (rule : Rule) (here : Option ℕ) (rest more : Option Broken) (broken : Broken) → (rest ≡ Some broken → more ≡ Some broken) → or_broken rule here rest ≡ Some broken → or_broken rule here more ≡ Some broken
before-line rule None rest more broken later is = later is
before-line rule (Some number) rest more broken later is = is

pub before-broken : (lines more : List Line) (broken : Broken) → first_broken lines ≡ Some broken → first_broken (lines ++ more) ≡ Some broken
before-broken [] more broken is = absurd cc
before-broken (l ∷ lines) more broken is = before-line l.rule l.broken (first_broken lines) (first_broken (lines ++ more)) broken (before-broken lines more broken) is

-- ---- the whole

unless-ok : {T : Type 0} (broken : Option Broken) (value given : T) → unless_broken broken value ≡ Ok given → broken ≡ None
unless-ok None value given is = refl
unless-ok (Some b) value given is = absurd cc

unless-value : {T : Type 0} (broken : Option Broken) (value given : T) → unless_broken broken value ≡ Ok given → value ≡ given
unless-value None value given is = cc
unless-value (Some b) value given is = absurd cc

unless-none : {T : Type 0} (broken : Option Broken) (value : T) → broken ≡ None → unless_broken broken value ≡ Ok value
unless-none None value none = refl
unless-none (Some b) value none = absurd cc

unless-err : {T U : Type 0} (broken : Option Broken) (value : T) (other : U) (fault : CheckFault) → unless_broken broken value ≡ Err fault → unless_broken broken other ≡ Err fault
unless-err None value other fault is = absurd cc
unless-err (Some b) value other fault is = cc

all-kept : (v : VolumeData) → first_broken (first_rules v) ≡ None → first_broken (further_rules v) ≡ None → fault_of v ≡ None
unfolding fault_of
all-kept v first further = behind-kept (first_rules v) (further_rules v) first ∙ further

-- the first half is broken, or the second where the first is kept
first-refused : (v : VolumeData) (set : Clusters) (fault : CheckFault) → unless_broken (first_broken (first_rules v)) set ≡ Err fault → unless_broken (fault_of v) set ≡ Err fault
unfolding fault_of
first-refused v set fault is = go (first_broken (first_rules v)) refl is
  where
    go : (broken : Option Broken) → first_broken (first_rules v) ≡ broken → unless_broken broken set ≡ Err fault → unless_broken (first_broken (first_rules v ++ further_rules v)) set ≡ Err fault
    go None same is = absurd cc
    go (Some b) same is = ap (λ (broken : Option Broken). unless_broken broken set) (before-broken (first_rules v) (further_rules v) b same) ∙ is

pub judged-first-refused : (v : VolumeData) (fault : CheckFault) → judged_first v ≡ Err fault → judged v ≡ Err fault
unfolding judged judged_first
judged-first-refused v fault is = first-refused v (claimed_set v.geometry.clusters (claims_in v)) fault is

pub kept-first : (v : VolumeData) (set : Clusters) → judged_first v ≡ Ok set → Keeps (first_rules v)
unfolding judged_first
kept-first v set is = unless-ok (first_broken (first_rules v)) (claimed_set v.geometry.clusters (claims_in v)) set is

further-refused : (v : VolumeData) (set : Clusters) (fault : CheckFault) → Keeps (first_rules v) → unless_broken (first_broken (further_rules v)) (tt {0}) ≡ Err fault → unless_broken (fault_of v) set ≡ Err fault
unfolding fault_of
further-refused v set fault kept is =
    ap (λ (broken : Option Broken). unless_broken broken set) (behind-kept (first_rules v) (further_rules v) kept)
    ∙ unless-err (first_broken (further_rules v)) tt set fault is

pub judged-further-refused : (v : VolumeData) (fault : CheckFault) → Keeps (first_rules v) → unless_broken (first_broken (further_rules v)) (tt {0}) ≡ Err fault → judged v ≡ Err fault
unfolding judged
judged-further-refused v fault kept is = further-refused v (claimed_set v.geometry.clusters (claims_in v)) fault kept is

pub judged-kept : (v : VolumeData) (set : Clusters) → judged_first v ≡ Ok set → unless_broken (first_broken (further_rules v)) (tt {0}) ≡ Ok tt → judged v ≡ Ok set
unfolding judged judged_first
judged-kept v set first further =
    let mine = claimed_set v.geometry.clusters (claims_in v) in
    unless-none (fault_of v) mine (all-kept v (unless-ok (first_broken (first_rules v)) mine set first) (unless-ok (first_broken (further_rules v)) tt tt further))
    ∙ ap Ok (unless-value (first_broken (first_rules v)) mine set first)

-- ---- calls one after the other, over an image that stays as it was

-- the volume of an image as it is seen
abbrev pub volume_seen : Opened → ImageState → VolumeData
volume_seen o s = volume_data o (cluster_at s.content o.geometry.cluster)

-- what a call that judges a volume gives, where it is told and something holds of it
abbrev pub GivesWhere : Opened → (VolumeData → Type 0) → (VolumeData → Result (Unit {0}) CheckFault) → Result (Unit {0}) CheckFault → ImageState → Type 0
GivesWhere o Holds expected result s =
    IsTrue s.is_told → Holds (volume_seen o s) → Gives check_origin (λ done. done) (expected (volume_seen o s)) result

-- what a call that judges a volume gives, where it is told
abbrev pub GivesAt : Opened → (VolumeData → Result (Unit {0}) CheckFault) → Result (Unit {0}) CheckFault → ImageState → Type 0
GivesAt o expected result s = IsTrue s.is_told → Gives check_origin (λ done. done) (expected (volume_seen o s)) result

-- rules C13 to C15 of a volume, each by itself
abbrev pub orders : VolumeData → Result (Unit {0}) CheckFault
orders v = unless_number rule.C13 (c13 v.geometry (listings v) (contents v)) tt

abbrev pub names : VolumeData → Result (Unit {0}) CheckFault
names v = unless_number rule.C14 (c14 v.geometry (listings v) (contents v)) tt

abbrev pub fixed : VolumeData → Result (Unit {0}) CheckFault
fixed v = unless_number rule.C15 (rule_15 v) tt

abbrev pub mirror : VolumeData → Result (Unit {0}) CheckFault
mirror v = unless_number rule.C16 (rule_16 v) tt

pub number-none : (rule : Rule) (here : Option ℕ) (done : Unit {0}) → unless_number rule here (tt {0}) ≡ Ok done → here ≡ None
number-none rule None done is = refl
number-none rule (Some number) done is = absurd cc

-- one line behind those that are kept
pub passed-line : (rule : Rule) (here : Option ℕ) (rest : Option Broken) → here ≡ None → unless_broken (or_broken rule here rest) (tt {0}) ≡ unless_broken rest tt
passed-line rule None rest none = refl
passed-line rule (Some number) rest none = absurd cc

pub refused-line : (rule : Rule) (here : Option ℕ) (rest : Option Broken) (fault : CheckFault) → unless_number rule here (tt {0}) ≡ Err fault → unless_broken (or_broken rule here rest) (tt {0}) ≡ Err fault
refused-line rule None rest fault is = absurd cc
refused-line rule (Some number) rest fault is = is

pub last-line : (rule : Rule) (here : Option ℕ) → unless_number rule here (tt {0}) ≡ unless_broken (or_broken rule here None) tt
last-line rule None = refl
last-line rule (Some number) = refl

-- the last rules, by the third and the fourth of them
pub third-refused : (v : VolumeData) (fault : CheckFault) → c13 v.geometry (listings v) (contents v) ≡ None → c14 v.geometry (listings v) (contents v) ≡ None
    → unless_number rule.C15 (rule_15 v) (tt {0}) ≡ Err fault → judged_by (last_rules v) (tt {0}) ≡ Err fault
third-refused v fault orders names is =
    passed-line rule.C13 (c13 v.geometry (listings v) (contents v)) _ orders
    ∙ passed-line rule.C14 (c14 v.geometry (listings v) (contents v)) _ names
    ∙ refused-line rule.C15 (rule_15 v) (or_broken rule.C16 (rule_16 v) None) fault is

pub fourth-judges : (v : VolumeData) → c13 v.geometry (listings v) (contents v) ≡ None → c14 v.geometry (listings v) (contents v) ≡ None → rule_15 v ≡ None
    → unless_number rule.C16 (rule_16 v) (tt {0}) ≡ judged_by (last_rules v) (tt {0})
fourth-judges v orders names fixed =
    last-line rule.C16 (rule_16 v)
    ∙ sym (passed-line rule.C13 (c13 v.geometry (listings v) (contents v)) _ orders
    ∙ passed-line rule.C14 (c14 v.geometry (listings v) (contents v)) _ names
    ∙ passed-line rule.C15 (rule_15 v) (or_broken rule.C16 (rule_16 v) None) fixed)
