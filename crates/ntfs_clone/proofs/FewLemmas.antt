-- How many commands a clone image has.
use Rattle.std.proofs.Common.{◌≡◌, ◌≤◌, ◌<◌, ◌+◌, ◌-◌, ◌*◌, ℕ, zero, suc, Bool, true, false, not, ◌&&◌, List, length, drop, refl, sym, ap, ◌∙◌, subst, arith, nat_le, nat_lt, nat_eq, if◌then◌else◌, Option, Some, None, Ok}
use Rattle.std.proofs.lemmas.Bool.{eqb-true, ltb-true}
use Rattle.ntfs_base.specs.Frames.{must, ◌>>=◌}
use Rattle.ntfs_clone.specs.declared.fault.CloneFault.TheVariants.{BadClone}
use Rattle.ntfs_clone.specs.declared.header.CloneHeader.{CloneHeader}
use Rattle.ntfs_clone.specs.Commands.{Command, gap, cluster, and_behind, are_all, clone_commands, command_length, commands_from, commands_length, covered_count, is_empty_gap, kept_if, may_follow, next_command, right_commands}
use Rattle.ntfs_clone.specs.Reading.{commands_left}

first-of : (a b : Bool) → (a && b) ≡ true → a ≡ true
first-of true b is = refl
first-of false b is = absurd cc

second-of : (a b : Bool) → (a && b) ≡ true → b ≡ true
second-of true b is = is
second-of false b is = absurd cc

kept-may : (is : Command → Bool) (found : Option Command) (command : Command) → kept_if is found ≡ Some command → is command ≡ true
kept-may is None command kept = absurd cc
kept-may is (Some x) command kept = two (is x) refl kept
  where
    two : (b : Bool) → is x ≡ b → (if b then Some x else None) ≡ Some command → is command ≡ true
    two true holds kept = let same : x ≡ command = cc in subst (λ (c : Command). is c ≡ true) same holds
    two false holds kept = absurd cc

next-may : (c room : ℕ) (after : Bool) (bytes : List ℕ) (command : Command) → next_command c room after bytes ≡ Some command → may_follow room after command ≡ true
unfolding next_command
next-may c room after bytes command is = kept-may (may_follow room after) _ command is

not-zero : (n : ℕ) → nat_eq n 0 ≡ false → 0 < n
not-zero zero some = absurd cc
not-zero (suc n) some = omega arith

-- a command leaves room for fewer
fewer-left : (room : ℕ) (after : Bool) (command : Command) → may_follow room after command ≡ true → 1 + commands_left (room - covered_count command) (is_empty_gap command) ≤ commands_left room after
fewer-left room after (cluster bytes) may = let some = ltb-true 0 room may in two after
  where
    two : (b : Bool) → 1 + (2 * (room - 1) + 1) ≤ commands_left room b
    two true = let some = ltb-true 0 room may in omega (arith, some)
    two false = let some = ltb-true 0 room may in omega (arith, some)
fewer-left room after (gap count) may = two after (nat_eq count 0) refl may
  where
    two : (after empty : Bool) → nat_eq count 0 ≡ empty → ((nat_lt 0 room && nat_le count room) && not (after && nat_eq count 0)) ≡ true
        → 1 + commands_left (room - count) (nat_eq count 0) ≤ commands_left room after
    two true true none may = absurd (both-empty none may)
      where
        both-empty : nat_eq count 0 ≡ true → ((nat_lt 0 room && nat_le count room) && not (nat_eq count 0)) ≡ true → ⊥
        both-empty none may = let no = second-of (nat_lt 0 room && nat_le count room) (not (nat_eq count 0)) may in let e = sym (ap not none) ∙ no in cc
    two false true none may = let zero_is = eqb-true count 0 none in rw none (omega (arith, zero_is))
    two true false some may =
        let fits = first-of (nat_lt 0 room && nat_le count room) _ may in
        let room_is = ltb-true 0 room (first-of (nat_lt 0 room) (nat_le count room) fits) in
        let count_is = not-zero count some in
        rw some (omega (arith, room_is, count_is))
    two false false some may =
        let fits = first-of (nat_lt 0 room && nat_le count room) _ may in
        let room_is = ltb-true 0 room (first-of (nat_lt 0 room) (nat_le count room) fits) in
        let count_is = not-zero count some in
        rw some (omega (arith, room_is, count_is))

few-from : (most c room : ℕ) (after : Bool) (bytes : List ℕ) → length (commands_from most c room after bytes) ≤ commands_left room after
few-from zero c room after bytes = omega arith
few-from (suc most) c room after bytes = two (next_command c room after bytes) refl (λ flag r rest. few-from most c r flag rest)
  where
    two : (found : Option Command) → next_command c room after bytes ≡ found → ((flag : Bool) (r : ℕ) (rest : List ℕ) → length (commands_from most c r flag rest) ≤ commands_left r flag)
        → length (and_behind found (λ command. commands_from most c (room - covered_count command) (is_empty_gap command) (drop (command_length command) bytes))) ≤ commands_left room after
    two None is behind = omega arith
    two (Some command) is behind =
        let rest = behind (is_empty_gap command) (room - covered_count command) (drop (command_length command) bytes) in
        let left = fewer-left room after command (next-may c room after bytes command is) in
        omega (arith, rest, left)

-- a whole image has few
pub few-commands : (h : CloneHeader) (bytes : List ℕ) (commands : List Command) → clone_commands h bytes ≡ Ok commands → length commands ≤ 4 * h.clusters + 8
unfolding clone_commands right_commands
few-commands h bytes commands is = two (are_all h bytes (right_commands h bytes)) is
  where
    two : (b : Bool) → (must b (BadClone (h.offset + commands_length (right_commands h bytes))) >>= (λ done. Ok (right_commands h bytes))) ≡ Ok commands → length commands ≤ 4 * h.clusters + 8
    two true is =
        let same : right_commands h bytes ≡ commands = cc in
        let few = few-from (length bytes) h.cluster (h.clusters + 1) false bytes in
        let e = ap length same in
        omega (arith, few, e)
    two false is = absurd cc
