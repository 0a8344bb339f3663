-- Answers that may be cut off.
use Rattle.std.proofs.Common.{◌≡◌, Bool, Result, Ok, Err, subst}
use Rattle.std.specs.Prelude.{IfErr, IfOk}
use Rattle.ntfs_base.specs.Frames.{IsSettled}
use Rattle.ntfs_check_records.specs.Reading.{Answers}
use Rattle.ntfs_rules.specs.Outcome.{check_origin}
use Rattle.ntfs_rules.specs.declared.fault.CheckFault.{CheckFault}

-- answers by equal tests
pub answers-by : (test other : Bool) (result : Result Bool CheckFault) → test ≡ other → Answers test result → Answers other result
answers-by test other result same = subst (λ b. Answers b result) same

pub answers-of : (test : Bool) (result : Result Bool CheckFault) → IfOk result (λ is. is ≡ test) → IfErr result (λ fault. IsSettled (check_origin fault) → ⊥) → Answers test result
answers-of test (Ok is) found cut = found
answers-of test (Err fault) found cut = cut
