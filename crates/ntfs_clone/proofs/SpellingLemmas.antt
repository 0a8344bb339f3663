-- Commands as they are spelled: what is spelled is read, and what is read was spelled so.
use Rattle.std.proofs.Common.{◌≡◌, ◌≤◌, ◌<◌, ◌+◌, ◌-◌, ◌^◌, ℕ, zero, suc, Bool, true, false, not, ◌&&◌, List, [], ◌∷◌, ◌++◌, length, take, drop, refl, sym, ap, ◌∙◌, arith, nat_le, nat_lt, nat_eq, Some, None, Ok, length-append}
use Rattle.std.proofs.lemmas.Bool.{le-leb, leb-true, eq-eqb}
use Rattle.std.proofs.Math.Seq.{take-append_seam, drop-append_seam}
use Rattle.byteorder.specs.Endian.{little_bytes}
use Rattle.byteorder.specs.Numbers.{length-bytes_low_first}
use Rattle.ntfs_base.specs.Bytes.{number_at}
use Rattle.ntfs_base.proofs.BytesLemmas.{number_at-append}
use Rattle.ntfs_base.proofs.PieceLemmas.{number-bytes}
use Rattle.ntfs_clone.specs.declared.header.CloneHeader.{CloneHeader}
use Rattle.ntfs_clone.specs.Commands.{AreSequenced, Command, gap, cluster, command_bytes, commands_bytes, command_in, command_length, commands_length, next_command, commands_from, and_behind, covered_count, covered, may_follow, is_empty_gap, right_commands, clone_commands}
use Rattle.ntfs_clone.specs.Header.{IsHeader}
use Rattle.ntfs_clone.proofs.ReadingLemmas.{commands-none}

length-command : (command : Command) → length (command_bytes command) ≡ command_length command
length-command (gap count) = let e = length-bytes_low_first 0 8 count in omega (arith, e)
length-command (cluster bytes) = omega arith

length-spelled : (commands : List Command) → length (commands_bytes commands) ≡ commands_length commands
length-spelled [] = refl
length-spelled (command ∷ commands) =
    let one = length-command command in
    let rest = length-spelled commands in
    let all = length-append (command_bytes command) (commands_bytes commands) in
    omega (arith, one, rest, all)

-- a command that may stand there, with whatever stands behind it
spelled-next : (c room : ℕ) (after : Bool) (command : Command) (rest : List ℕ) → room < 2 ^ 64
    → command_length command ≡ (elim command [ gap count ↦ 9 | cluster bytes ↦ 1 + c ]) → may_follow room after command ≡ true
    → next_command c room after (command_bytes command ++ rest) ≡ Some command
unfolding next_command command_in
spelled-next c room after (gap count) rest most size may =
    let long = length-append (little_bytes 8 count) rest in
    let eight = length-bytes_low_first 0 8 count in
    let whole : nat_le 8 (length (little_bytes 8 count ++ rest)) ≡ true = le-leb 8 (length (little_bytes 8 count ++ rest)) (omega (arith, long, eight)) in
    let few : count ≤ room = leb-true count room (second (nat_lt 0 room) (nat_le count room) (not (after && nat_eq count 0)) may) in
    let number : number_at 8 0 (little_bytes 8 count ++ rest) ≡ count =
    number_at-append 8 0 (little_bytes 8 count) rest (omega (arith, eight)) ∙ number-bytes 8 count (omega (arith, few, most)) in
    rw (whole, number, may) refl
  where
    second : (a b d : Bool) → ((a && b) && d) ≡ true → b ≡ true
    second true true d is = refl
    second true false d is = is
    second false b d is = absurd cc
spelled-next c room after (cluster bytes) rest most size may =
    let long = length-append bytes rest in
    let is : length bytes ≡ c = omega (arith, size) in
    let whole : nat_le c (length (bytes ++ rest)) ≡ true = le-leb c (length (bytes ++ rest)) (omega (arith, long, is)) in
    let front : take c (bytes ++ rest) ≡ bytes = ap (λ n. take n (bytes ++ rest)) (sym is) ∙ take-append_seam bytes rest in
    rw (whole, front, may) refl

drop-command : (command : Command) (rest : List ℕ) → drop (command_length command) (command_bytes command ++ rest) ≡ rest
drop-command command rest =
    ap (λ n. drop n (command_bytes command ++ rest)) (sym (length-command command)) ∙ drop-append_seam (command_bytes command) rest

some-length : (command : Command) → 0 < command_length command
some-length (gap count) = omega arith
some-length (cluster bytes) = omega arith

none-left : (c room : ℕ) (after : Bool) → next_command c room after [] ≡ None
unfolding next_command command_in
none-left c room after = refl

reads-spelled : (commands : List Command) (most c room : ℕ) (after : Bool) → room < 2 ^ 64 → AreSequenced c room after commands
    → length (commands_bytes commands) ≤ most → commands_from most c room after (commands_bytes commands) ≡ commands
reads-spelled [] most c room after small order within = commands-none most c room after [] (none-left c room after)
reads-spelled (x ∷ xs) zero c room after small order within =
    let some = some-length x in
    let size = length-command x in
    let all = length-append (command_bytes x) (commands_bytes xs) in
    absurd (omega (arith, some, size, all, within))
reads-spelled (x ∷ xs) (suc m) c room after small order within =
    let some = some-length x in
    let size = length-command x in
    let all = length-append (command_bytes x) (commands_bytes xs) in
    let next = spelled-next c room after x (commands_bytes xs) small order.0 order.1 in
    let behind = reads-spelled xs m c (room - covered_count x) (is_empty_gap x) (omega arith) order.2 (omega (arith, some, size, all, within)) in
    ap (λ found. and_behind found (λ command. commands_from m c (room - covered_count command) (is_empty_gap command) (drop (command_length command) (command_bytes x ++ commands_bytes xs)))) next
    ∙ ap (λ rest. x ∷ commands_from m c (room - covered_count x) (is_empty_gap x) rest) (drop-command x (commands_bytes xs))
    ∙ ap (λ ys. x ∷ ys) behind

-- commands in their order, which cover all clusters
pub spelled-read : (h : CloneHeader) (commands : List Command) → IsHeader h → AreSequenced h.cluster (h.clusters + 1) false commands → h.clusters ≤ covered commands
    → clone_commands h (commands_bytes commands) ≡ Ok commands
unfolding clone_commands right_commands
spelled-read h commands header order all =
    let read = reads-spelled commands (length (commands_bytes commands)) h.cluster (h.clusters + 1) false (omega (arith, header.most_clusters)) order (omega arith) in
    let size : nat_eq (commands_length commands) (length (commands_bytes commands)) ≡ true = eq-eqb _ _ (sym (length-spelled commands)) in
    let whole : nat_le h.clusters (covered commands) ≡ true = le-leb h.clusters (covered commands) all in
    rw (read, size, whole) refl
