-- The calls of a device in memory: they are numbered from 1 on, and a list says which of them are to fail. The words
-- are ours.
use Rattle.std.specs.Prelude.{◌≡◌, ◌+◌, ◌==◌, ℕ, List, [], ◌∷◌, ◌++◌, take, Option, Some, None, Result, is_err, is_some, nat_lt, if◌then◌else◌}
use Rattle.ntfs_base.specs.Causes.{last_count}
use Rattle.ntfs_base.specs.declared.calls.Calls.{Calls}
use Rattle.ntfs_base.specs.declared.calls.FailingCall.{FailingCall}
use Rattle.ntfs_base.specs.declared.calls.Leaves.{Leaves}
use Rattle.ntfs_base.specs.declared.calls.Leaves.TheVariants as leaves

-- one more; a count stops at its last value
abbrev pub one_more : ℕ → ℕ
one_more n = if nat_lt n last_count then n + 1 else n

-- the list with a further call that is to fail
abbrev pub plan_call : ℕ → Leaves → List FailingCall → List FailingCall
plan_call number leaves calls = calls ++ record { number = number; leaves = leaves } ∷ []

-- what the call of this number leaves, where it is to fail
abbrev pub failing_at : ℕ → List FailingCall → Option Leaves
failing_at number [] = None
failing_at number (call ∷ calls) = if call.number == number then Some call.leaves else failing_at number calls

-- what the next call leaves, where it is to fail
abbrev pub next_failing : Calls → Option Leaves
next_failing calls = failing_at (one_more calls.made) calls.failing.items

-- one call was made, and it failed exactly where the list says so
pub record AsPlanned {T E : Type 0} (old : Calls) (result : Result T E) (new : Calls) : Type 0 where
  pub fails : is_err result ≡ is_some (next_failing old)
  pub made : new.made ≡ one_more old.made
  pub failing : new.failing ≡ old.failing

-- the count after a call: one more where it failed
abbrev pub count_after : {T E : Type 0} → ℕ → Result T E → ℕ
count_after old result = if is_err result then one_more old else old

-- what a failing write or `set_len` leaves of these two: what was before, or what was asked
abbrev pub left_by : {X : Type 0} → Option Leaves → X → X → X
left_by None before asked = before
left_by (Some leaves.Before) before asked = before
left_by (Some leaves.Asked) before asked = asked
left_by (Some (leaves.Front n)) before asked = before

-- the bytes of a put or an append that go: all, where it isn't to fail; else none, all, or a front of so many
abbrev pub front_by : Option Leaves → List ℕ → List ℕ
front_by None bytes = bytes
front_by (Some leaves.Before) bytes = []
front_by (Some leaves.Asked) bytes = bytes
front_by (Some (leaves.Front n)) bytes = take n bytes
