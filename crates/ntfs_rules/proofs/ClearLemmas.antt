-- What a volume that breaks no rule keeps, rule by rule.
use Rattle.std.proofs.Common.{◌≡◌, ◌++◌, ℕ, Bool, true, false, List, [], ◌∷◌, map, Option, Some, None, Result, Ok, Err, refl, if◌then◌else◌}
use Rattle.std.specs.List.{AllByRecursion}
use Rattle.ntfs_base.specs.Bytes.{Cluster}
use Rattle.ntfs_base.specs.Checks.{Check, first_wrong}
use Rattle.ntfs_base.specs.declared.refusal.Rule.{Rule}
use Rattle.ntfs_directory.specs.UpCase.{data_kind}
use Rattle.ntfs_rules.specs.Accepts.{Broken, Line, claims_in, fault_of, first_broken, first_rules, further_rules, or_broken}
use Rattle.ntfs_rules.specs.Clusters.{c8}
use Rattle.ntfs_rules.specs.Files.{c11, c12}
use Rattle.ntfs_rules.specs.FixedRecords.{c15, passes, row_0, row_7, fixed_rows}
use Rattle.ntfs_rules.specs.Records.{c7}
use Rattle.ntfs_rules.specs.VolumeData.{VolumeData, listings, numbers, stream_in}
use Rattle.ntfs_volume.specs.Streams.{Gathered}
use Rattle.ntfs_volume.specs.declared.fault.VolumeFault.{VolumeFault}

-- ---- tables

or-parts : (rule : Rule) (o : Option ℕ) (rest : Option Broken) → or_broken rule o rest ≡ None → (o ≡ None) × (rest ≡ None)
or-parts rule None rest is = (refl, is)
or-parts rule (Some number) rest is = absurd cc

-- where no line of a table is broken, none is
all-clear : (lines : List Line) → first_broken lines ≡ None → AllByRecursion (λ (l : Line). l.broken ≡ None) lines
all-clear [] is = tt
all-clear (l ∷ lines) is = let parts = or-parts l.rule l.broken (first_broken lines) is in (parts.0, all-clear lines parts.1)

wrong-parts : {X : Type 0} (holds : Bool) (names : X) (rest : Option X) → (if holds then rest else Some names) ≡ None → (holds ≡ true) × (rest ≡ None)
wrong-parts true names rest is = (refl, is)
wrong-parts false names rest is = absurd cc

-- where no test is wrong, all hold
pub all-hold : {X : Type 0} (checks : List (Check X)) → first_wrong checks ≡ None → AllByRecursion (λ (c : Check X). c.holds ≡ true) checks
all-hold [] is = tt
all-hold (c ∷ checks) is = let parts = wrong-parts c.holds c.names (first_wrong checks) is in (parts.0, all-hold checks parts.1)

-- ---- rules

lines-clear : (v : VolumeData) → fault_of v ≡ None → AllByRecursion (λ (l : Line). l.broken ≡ None) (first_rules v ++ further_rules v)
unfolding fault_of
lines-clear v is = all-clear (first_rules v ++ further_rules v) is

pub c7-clear : (v : VolumeData) → fault_of v ≡ None → c7 (numbers v) ≡ None
c7-clear v is = (lines-clear v is).1.1.1.0

pub c8-clear : (v : VolumeData) → fault_of v ≡ None → c8 (claims_in v) ≡ None
c8-clear v is = (lines-clear v is).1.1.1.1.0

pub c11-clear : (v : VolumeData) → fault_of v ≡ None → c11 (listings v) v.slots ≡ None
c11-clear v is = (lines-clear v is).1.1.1.1.1.1.1.0

pub c12-clear : (v : VolumeData) → fault_of v ≡ None → c12 v.geometry.cluster (listings v) (numbers v) ≡ None
c12-clear v is = (lines-clear v is).1.1.1.1.1.1.1.1.0

c15-clear : (v : VolumeData) → fault_of v ≡ None → c15 v.geometry (map (λ (k : Cluster). k.number) v.table) (listings v) (numbers v) ≡ None
c15-clear v is = (lines-clear v is).1.1.1.1.1.1.1.1.1.1.1.0

rows-clear : (v : VolumeData) → fault_of v ≡ None → AllByRecursion (λ (c : Check ℕ). c.holds ≡ true) (fixed_rows v.geometry (map (λ (k : Cluster). k.number) v.table) (listings v) (numbers v))
unfolding c15
rows-clear v is = all-hold (fixed_rows v.geometry (map (λ (k : Cluster). k.number) v.table) (listings v) (numbers v)) (c15-clear v is)

pub row_0-clear : (v : VolumeData) → fault_of v ≡ None → row_0 v.geometry (map (λ (k : Cluster). k.number) v.table) (stream_in v 0 data_kind []) ≡ true
row_0-clear v is = (rows-clear v is).0

pub row_7-clear : (v : VolumeData) → fault_of v ≡ None → row_7 v.geometry (listings v) (stream_in v 7 data_kind []) ≡ true
row_7-clear v is = (rows-clear v is).1.1.1.1.1.1.0

-- ---- streams that pass a test

pub passed : {X : Type 0} (test : Gathered X → Bool) (found : Result (Gathered X) VolumeFault) → passes test found ≡ true → (s : Gathered X) × (found ≡ Ok s) × (test s ≡ true)
passed test (Ok s) is = (s, refl, is)
passed test (Err fault) is = absurd cc
