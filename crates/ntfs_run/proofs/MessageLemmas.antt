-- Digits without zeros in front, texts that are appended in parts, and names in two pieces.
use Rattle.std.proofs.Common.{◌≡◌, ◌≢◌, ◌≤◌, ◌<◌, ◌-◌, ◌==◌, ◌&&◌, ℕ, List, [], ◌∷◌, ◌++◌, length, get_or, take, drop, refl, sym, ap, ◌∙◌, arith, append_assoc, true, false, nat_lt, if◌then◌else◌}
use Rattle.std.proofs.Common.{Result, Ok}
use Rattle.std.proofs.lemmas.Bool.{lt-ltb, le-ltb, ne_eqb}
use Rattle.std.proofs.lemmas.List.{append-nil, take_all}
use Rattle.ntfs_base.specs.declared.refusal.Named.{Named}
use Rattle.ntfs_base.specs.declared.refusal.Named.TheVariants as named
use Rattle.ntfs_words.specs.declared.request.Request.{Request}
use Rattle.ntfs_words.specs.declared.request.Request.TheVariants as request
use Rattle.ntfs_words.specs.declared.request.WordsFault.{WordsFault}
use Rattle.ntfs_run.specs.Message.{end_in, end_named, file_named, name_in, without_zeros, word_in, word_named}
use Rattle.ntfs_run.specs.declared.status.Status.{Status}
use Rattle.ntfs_run.specs.declared.status.Status.TheVariants as status

-- a zero in front of further digits goes
pub without_zeros-zero : (digits : List ℕ) (n : ℕ) → 1 < length digits → get_or digits 0 0 ≡ 48 → n ≡ length digits - 1 → without_zeros (take n (drop 1 digits)) ≡ without_zeros digits
unfolding without_zeros
without_zeros-zero [] n long front is = absurd (omega arith)
without_zeros-zero (x ∷ xs) n long front is =
    let all = take_all n xs (omega arith) in
    let more : nat_lt 0 (length xs) ≡ true = lt-ltb 0 (length xs) (omega arith) in
    rw (front, more, all) refl

-- a last digit stays, and so does one that is no zero
pub without_zeros-last : (digits : List ℕ) → length digits ≤ 1 → digits ≡ without_zeros digits
unfolding without_zeros
without_zeros-last [] short = refl
without_zeros-last (x ∷ xs) short = let none : nat_lt 0 (length xs) ≡ false = le-ltb 0 (length xs) (omega arith) in
    rw none (elim (x == 48) as (λ b. x ∷ xs ≡ (if b && false then without_zeros xs else x ∷ xs)) [ true ↦ refl | false ↦ refl ])

pub without_zeros-other : (digits : List ℕ) → get_or digits 0 0 ≢ 48 → digits ≡ without_zeros digits
unfolding without_zeros
without_zeros-other [] other = refl
without_zeros-other (x ∷ xs) other = let apart : (x == 48) ≡ false = ne_eqb x 48 other in rw apart refl

-- three texts after one
pub append_three : (a b c d : List ℕ) → ((a ++ b) ++ c) ++ d ≡ a ++ ((b ++ c) ++ d)
append_three a b c d = append_assoc (a ++ b) c d ∙ append_assoc a b (c ++ d) ∙ ap (λ rest. a ++ rest) (sym (append_assoc b c d))

-- ---- names

name_pieces : (request : Request) (file : Named) → word_named request file ++ end_named request file ≡ file_named request file
name_pieces (request.Trial seed name) named.Clone = refl
name_pieces (request.Trial seed name) named.Back = refl
name_pieces request file = append-nil (file_named request file)

-- the name that a status speaks of is its two pieces
pub pieces : (reading : Result Request WordsFault) (s : Status) → word_in reading s ++ end_in reading s ≡ name_in reading s
pieces (Ok request) (status.Absent file) = name_pieces request file
pieces (Ok request) (status.Present file) = name_pieces request file
pieces reading other = refl
