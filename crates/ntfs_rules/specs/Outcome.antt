-- The answers of calls that judge a volume. The words are ours.
use Rattle.std.specs.Prelude.{ℕ, List, Option, Some, None, Result, Ok, Err}
use Rattle.ntfs_base.specs.Frames.{Origin, content, reading, memory}
use Rattle.ntfs_base.specs.declared.refusal.Rule.{Rule}
use Rattle.ntfs_rules.specs.Accepts.{Broken, Line, first_broken}
use Rattle.ntfs_rules.specs.declared.fault.CheckFault.{CheckFault}
use Rattle.ntfs_rules.specs.declared.fault.CheckFault.TheVariants as check
use Rattle.ntfs_volume.specs.declared.fault.VolumeFault.{VolumeFault}
use Rattle.ntfs_volume.specs.declared.fault.VolumeFault.TheVariants as volume

-- where a refusal comes from
abbrev pub check_origin : CheckFault → Origin
check_origin (check.Damaged rule number) = content
check_origin check.ReadFault = reading
check_origin check.NoMemory = memory

-- a value, unless a rule is broken
abbrev pub unless_broken : {T : Type 0} → Option Broken → T → Result T CheckFault
unless_broken None value = Ok value
unless_broken (Some broken) value = Err (check.Damaged broken.rule broken.number)

-- the same by the lines of a table
abbrev pub judged_by : {T : Type 0} → List Line → T → Result T CheckFault
judged_by lines value = unless_broken (first_broken lines) value

-- one rule alone
abbrev pub unless_number : {T : Type 0} → Rule → Option ℕ → T → Result T CheckFault
unless_number rule None value = Ok value
unless_number rule (Some number) value = Err (check.Damaged rule number)

-- what cut a call on a volume off, where its refusal says nothing of the volume; a call that only reads doesn't meet a
-- write that fails
abbrev pub cut_of : VolumeFault → Option CheckFault
cut_of volume.ReadFault = Some check.ReadFault
cut_of volume.WriteFault = Some check.ReadFault
cut_of volume.NoMemory = Some check.NoMemory
cut_of other = None
