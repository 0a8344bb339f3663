-- How far a clone image was read, command by command.
use Rattle.std.proofs.Common.{◌≡◌, ◌≤◌, ◌<◌, ◌+◌, ◌-◌, ℕ, zero, suc, Bool, true, false, ◌&&◌, List, [], ◌∷◌, ◌++◌, length, drop, refl, sym, ap, ◌∙◌, subst, arith, nat_le, nat_eq, Option, Some, None, Result, Ok, Err, length-append, append_assoc}
use Rattle.std.specs.Prelude.{option_map}
use Rattle.std.proofs.lemmas.Bool.{le-leb, leb-false, leb-true, eqb-true, eq-eqb}
use Rattle.std.proofs.lemmas.List.{length-take, length-drop, take-append-le, drop-append-le, append-nil}
use Rattle.ntfs_base.specs.Frames.{must, ◌>>=◌}
use Rattle.ntfs_base.specs.Bytes.{number_at}
use Rattle.ntfs_base.proofs.BytesLemmas.{number_at-append}
use Rattle.ntfs_clone.specs.declared.command.Next.{Next}
use Rattle.ntfs_clone.specs.declared.command.Next.TheVariants as next
use Rattle.ntfs_clone.specs.declared.command.Progress.{Progress}
use Rattle.ntfs_clone.specs.declared.fault.CloneFault.{CloneFault}
use Rattle.ntfs_clone.specs.declared.fault.CloneFault.TheVariants.{BadClone}
use Rattle.ntfs_clone.specs.declared.header.CloneHeader.{CloneHeader}
use Rattle.ntfs_clone.specs.Commands.{Command, gap, cluster, command_length, command_in, next_command, commands_from, commands_length, covered_count, covered, may_follow, kept_if, is_empty_gap, right_commands, clone_commands, and_behind, emptied}
use Rattle.ntfs_clone.specs.Reading.{IsBehind, HasRead, IsAllowed, command_found, found_length}

-- before the first command
pub behind-start : (h : CloneHeader) (all : List ℕ) (p : Progress) → p.room ≡ h.clusters + 1 → p.after_empty ≡ false → p.place ≡ h.offset
    → IsBehind h all [] p all
unfolding right_commands
behind-start h all p room after place = record {
  most = length all;
  parts = rw (room, after) refl;
  enough = omega arith;
  place = omega (arith, place);
  room = omega (arith, room);
  bytes = omega arith;
}

length-commands : (read : List Command) (command : Command) → commands_length (read ++ command ∷ []) ≡ commands_length read + command_length command
length-commands [] command = omega arith
length-commands (x ∷ xs) command = let more = length-commands xs command in omega arith

covered-more : (read : List Command) (command : Command) → covered (read ++ command ∷ []) ≡ covered read + covered_count command
covered-more [] command = omega arith
covered-more (x ∷ xs) command = let more = covered-more xs command in omega arith

none-in : (c room : ℕ) (after : Bool) (command : Command) → next_command c room after [] ≡ Some command → ⊥
unfolding next_command command_in
none-in c room after command is = absurd cc

-- the commands behind one
pub commands-step : (most c room : ℕ) (after : Bool) (rest : List ℕ) (command : Command) → length rest ≤ most → next_command c room after rest ≡ Some command
    → (m : ℕ) × (most ≡ suc m) × (commands_from most c room after rest ≡ command ∷ commands_from m c (room - covered_count command) (is_empty_gap command) (drop (command_length command) rest))
commands-step zero c room after [] command within is = absurd (none-in c room after command is)
commands-step zero c room after (x ∷ xs) command within is = absurd (omega arith)
commands-step (suc m) c room after rest command within is =
    (m, refl, ap (λ found. and_behind found (λ command. commands_from m c (room - covered_count command) (is_empty_gap command) (drop (command_length command) rest))) is)

pub commands-none : (most c room : ℕ) (after : Bool) (rest : List ℕ) → next_command c room after rest ≡ None → commands_from most c room after rest ≡ []
commands-none zero c room after rest is = refl
commands-none (suc m) c room after rest is =
    ap (λ found. and_behind found (λ command. commands_from m c (room - covered_count command) (is_empty_gap command) (drop (command_length command) rest))) is

some-length : (command : Command) → 0 < command_length command
some-length (gap count) = omega arith
some-length (cluster bytes) = omega arith

-- behind one more command
pub behind-step : (h : CloneHeader) (all : List ℕ) (read : List Command) (p q : Progress) (rest : List ℕ) (command : Command)
    → IsBehind h all read p rest → next_command h.cluster p.room p.after_empty rest ≡ Some command
    → command_length command ≤ length rest → covered_count command ≤ p.room
    → q.room ≡ p.room - covered_count command → q.after_empty ≡ is_empty_gap command → q.place ≡ p.place + command_length command
    → IsBehind h all (read ++ command ∷ []) q (drop (command_length command) rest)
behind-step h all read p q rest command is found within covers_less room after place =
    let step = commands-step is.most h.cluster p.room p.after_empty rest command is.enough found in
    let some = some-length command in
    let size = length-drop (command_length command) rest in
    let lengths = length-commands read command in
    let rooms = covered-more read command in
    record {
      most = step.0;
      parts = is.parts ∙ ap (λ xs. read ++ xs) step.2 ∙ sym (append_assoc read (command ∷ []) _)
          ∙ rw (room, after) refl;
      enough = omega (arith, size, some, within, step.1, is.enough);
      place = omega (arith, place, is.place, lengths);
      room = omega (arith, room, rooms, covers_less, is.room);
      bytes = omega (arith, size, within, lengths, is.bytes);
    }

-- none follows
pub behind-end : (h : CloneHeader) (all : List ℕ) (read : List Command) (p : Progress) (rest : List ℕ)
    → IsBehind h all read p rest → next_command h.cluster p.room p.after_empty rest ≡ None → right_commands h all ≡ read
behind-end h all read p rest is none =
    is.parts ∙ ap (λ xs. read ++ xs) (commands-none is.most h.cluster p.room p.after_empty rest none) ∙ append-nil read

-- a whole command, with whatever stands behind it
command_in-more : (c kind : ℕ) (rest more : List ℕ) → 8 ≤ c → c ≤ length rest → command_in c (kind ∷ (rest ++ more)) ≡ command_in c (kind ∷ rest)
unfolding command_in
command_in-more c kind rest more least within =
    let long = length-append rest more in
    let eight : nat_le 8 (length (rest ++ more)) ≡ true = le-leb 8 (length (rest ++ more)) (omega arith) in
    let eight_here : nat_le 8 (length rest) ≡ true = le-leb 8 (length rest) (omega arith) in
    let whole : nat_le c (length (rest ++ more)) ≡ true = le-leb c (length (rest ++ more)) (omega arith) in
    let whole_here : nat_le c (length rest) ≡ true = le-leb c (length rest) (omega arith) in
    let number : number_at 8 0 (rest ++ more) ≡ number_at 8 0 rest = number_at-append 8 0 rest more (omega arith) in
    rw (eight, eight_here, whole, whole_here, number, take-append-le c rest more within) refl

-- where so many bytes wait that a command is whole, or all that are left, those that wait tell it
pub next-enough : (c room : ℕ) (after : Bool) (here more : List ℕ) → 8 ≤ c → (length here < c + 1 → more ≡ [])
    → next_command c room after (here ++ more) ≡ next_command c room after here
unfolding next_command
next-enough c room after here more least enough = two (nat_le (c + 1) (length here)) refl
  where
    two : (b : Bool) → nat_le (c + 1) (length here) ≡ b → next_command c room after (here ++ more) ≡ next_command c room after here
    two true is = ap (kept_if (may_follow room after)) (whole here (leb-true (c + 1) (length here) is))
      where
        whole : (here : List ℕ) → c + 1 ≤ length here → command_in c (here ++ more) ≡ command_in c here
        whole [] within = absurd (omega arith)
        whole (kind ∷ rest) within = command_in-more c kind rest more least (omega arith)
    two false is = ap (λ xs. next_command c room after (here ++ xs)) (enough (leb-false (c + 1) (length here) is)) ∙ ap (next_command c room after) (append-nil here)

-- how long a command is that was found whole
pub found-length : (c : ℕ) (bytes : List ℕ) (command : Next) → found_length c command ≤ length bytes → command_length (command_found c bytes command) ≡ found_length c command
found-length c bytes (next.Gap count) within = refl
found-length c bytes next.Cluster within = simp (length-take, length-drop) (omega arith)

pub found-covers : (c room : ℕ) (after : Bool) (bytes : List ℕ) (command : Next) → IsAllowed room after command → covered_count (command_found c bytes command) ≤ room
found-covers c room after bytes (next.Gap count) is = is.1
found-covers c room after bytes next.Cluster is = omega arith

-- two tests that hold alike
same-tests : (a b : Bool) → (a ≡ true → b ≡ true) → (b ≡ true → a ≡ true) → a ≡ b
same-tests true b one other = sym (one refl)
same-tests false false one other = refl
same-tests false true one other = other refl

-- what is answered where none follows
pub ends-so : (h : CloneHeader) (all : List ℕ) (read : List Command) (p : Progress) (rest : List ℕ)
    → IsBehind h all read p rest → next_command h.cluster p.room p.after_empty rest ≡ None
    → emptied (clone_commands h all) ≡ must (nat_eq (length rest) 0 && nat_le p.room 1) (BadClone p.place)
unfolding clone_commands
ends-so h all read p rest is none =
    let whole : nat_eq (commands_length read) (length all) ≡ nat_eq (length rest) 0 =
    same-tests _ _ (λ yes_all. let e = eqb-true (commands_length read) (length all) yes_all in eq-eqb (length rest) 0 (omega (arith, e, is.bytes)))
    (λ none_left. let e = eqb-true (length rest) 0 none_left in eq-eqb (commands_length read) (length all) (omega (arith, e, is.bytes))) in
    let covers_all : nat_le h.clusters (covered read) ≡ nat_le p.room 1 =
    same-tests _ _ (λ held. let e = leb-true h.clusters (covered read) held in le-leb p.room 1 (omega (arith, e, is.room)))
    (λ held. let e = leb-true p.room 1 held in le-leb h.clusters (covered read) (omega (arith, e, is.room))) in
    rw (behind-end h all read p rest is none, whole, covers_all) (both (nat_eq (length rest) 0 && nat_le p.room 1))
  where
    both : (b : Bool) → emptied (must b (BadClone (h.offset + commands_length read)) >>= (λ done. Ok read)) ≡ must b (BadClone p.place)
    both true = refl
    both false = ap (λ n. Err (BadClone n)) (sym is.place)

-- one more command was read
pub behind-next : (h : CloneHeader) (all : List ℕ) (read : List Command) (p q : Progress) (rest here more left : List ℕ) (found : Option Next) (command : Next)
    → IsBehind h all read p rest → here ++ more ≡ rest
    → option_map (command_found h.cluster here) found ≡ next_command h.cluster p.room p.after_empty (here ++ more) → found ≡ Some command
    → IsAllowed p.room p.after_empty command → found_length h.cluster command ≤ length here
    → q.room ≡ p.room - covered_count (command_found h.cluster here command) → q.after_empty ≡ is_empty_gap (command_found h.cluster here command)
    → q.place ≡ p.place + found_length h.cluster command → left ≡ drop (found_length h.cluster command) here
    → IsBehind h all (read ++ command_found h.cluster here command ∷ []) q (left ++ more)
behind-next h all read p q rest here more left found command is same exact some allowed whole room after place passed =
    let x = command_found h.cluster here command in
    let size : command_length x ≡ found_length h.cluster command = found-length h.cluster here command whole in
    let next : next_command h.cluster p.room p.after_empty rest ≡ Some x =
    ap (next_command h.cluster p.room p.after_empty) (sym same) ∙ sym exact ∙ ap (option_map (command_found h.cluster here)) some in
    let long : length rest ≡ length here + length more = ap length (sym same) ∙ length-append here more in
    let behind = behind-step h all read p q rest x is next (omega (arith, size, long)) (found-covers h.cluster p.room p.after_empty here command allowed) room after (place ∙ ap (λ n. p.place + n) (sym size)) in
    let where_now : drop (command_length x) rest ≡ left ++ more =
    ap (λ n. drop n rest) size ∙ ap (drop (found_length h.cluster command)) (sym same) ∙ drop-append-le (found_length h.cluster command) here more whole
    ∙ ap (λ xs. xs ++ more) (sym passed) in
    subst (λ (xs : List ℕ). IsBehind h all (read ++ x ∷ []) q xs) where_now behind

pub read-step : (h : CloneHeader) (all : List ℕ) (p q : Progress) (rest here more left : List ℕ) (found : Option Next) (command : Next)
    → HasRead h all p rest → here ++ more ≡ rest
    → option_map (command_found h.cluster here) found ≡ next_command h.cluster p.room p.after_empty (here ++ more) → found ≡ Some command
    → IsAllowed p.room p.after_empty command → found_length h.cluster command ≤ length here
    → q.room ≡ p.room - covered_count (command_found h.cluster here command) → q.after_empty ≡ is_empty_gap (command_found h.cluster here command)
    → q.place ≡ p.place + found_length h.cluster command → left ≡ drop (found_length h.cluster command) here
    → HasRead h all q (left ++ more)
read-step h all p q rest here more left found command is same exact some allowed whole room after place passed = record {
  read = is.read ++ command_found h.cluster here command ∷ [];
  behind = behind-next h all is.read p q rest here more left found command is.behind same exact some allowed whole room after place passed;
}

-- nothing waits and nothing is left to give, or more than one cluster is still to be covered
pub waits-none : (c : ℕ) (here more : List ℕ) → (length here < c + 1 → more ≡ []) → nat_eq (length here) 0 ≡ nat_eq (length (here ++ more)) 0
waits-none c here more enough =
    same-tests _ _ (λ none. let e = eqb-true (length here) 0 none in let m = ap length (enough (omega (arith, e))) in let all = length-append here more in eq-eqb (length (here ++ more)) 0 (omega (arith, e, m, all)))
    (λ none. let e = eqb-true (length (here ++ more)) 0 none in let all = length-append here more in eq-eqb (length here) 0 (omega (arith, e, all)))

-- the answer where none follows
pub read-end : (h : CloneHeader) (all : List ℕ) (p : Progress) (rest here more : List ℕ) (found : Option Next) (result : Result (Unit {0}) CloneFault)
    → HasRead h all p rest → here ++ more ≡ rest → (length here < h.cluster + 1 → more ≡ [])
    → option_map (command_found h.cluster here) found ≡ next_command h.cluster p.room p.after_empty (here ++ more) → found ≡ None
    → result ≡ must (nat_eq (length here) 0 && nat_le p.room 1) (BadClone p.place)
    → emptied (clone_commands h all) ≡ result
read-end h all p rest here more found result is same enough exact none said =
    let next : next_command h.cluster p.room p.after_empty rest ≡ None =
    ap (next_command h.cluster p.room p.after_empty) (sym same) ∙ sym exact ∙ ap (option_map (command_found h.cluster here)) none in
    ends-so h all is.read p rest is.behind next
    ∙ ap (λ xs. must (nat_eq (length xs) 0 && nat_le p.room 1) (BadClone p.place)) (sym same)
    ∙ ap (λ b. must (b && nat_le p.room 1) (BadClone p.place)) (sym (waits-none h.cluster here more enough)) ∙ sym said

-- what was read, where none follows
pub read-all : (h : CloneHeader) (all : List ℕ) (commands : List Command) (p : Progress) (rest here more : List ℕ) (found : Option Next)
    → IsBehind h all commands p rest → here ++ more ≡ rest
    → option_map (command_found h.cluster here) found ≡ next_command h.cluster p.room p.after_empty (here ++ more) → found ≡ None
    → right_commands h all ≡ commands
read-all h all commands p rest here more found is same exact none =
    behind-end h all commands p rest is
    (ap (next_command h.cluster p.room p.after_empty) (sym same) ∙ sym exact ∙ ap (option_map (command_found h.cluster here)) none)

-- the commands end before the tail
pub before-tail : (h : CloneHeader) (all : List ℕ) (commands : List Command) (p : Progress) (rest : List ℕ) → IsBehind h all commands p rest
    → nat_eq p.room 1 ≡ nat_eq (covered commands) h.clusters
before-tail h all commands p rest is =
    same-tests _ _ (λ one. let e = eqb-true p.room 1 one in eq-eqb (covered commands) h.clusters (omega (arith, e, is.room)))
    (λ whole. let e = eqb-true (covered commands) h.clusters whole in eq-eqb p.room 1 (omega (arith, e, is.room)))
