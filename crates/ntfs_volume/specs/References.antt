-- References of file records (the Linux-NTFS documentation, "File Reference"): a number in the low 48 bits, and above
-- it the sequence number that the record had, or 0 where any may stand.
use Rattle.std.specs.Prelude.{◌/◌, ◌%◌, ◌^◌, ◌==◌, ◌&&◌, ◌||◌, not, ℕ, Bool}

-- the number of the record that is named (the Linux-NTFS documentation, "File Reference")
abbrev pub target : ℕ → ℕ
target reference = reference % 2 ^ 48

-- the sequence number that the record is said to have, 0 where none is said; the word is ours
abbrev pub turn : ℕ → ℕ
turn reference = reference / 2 ^ 48

-- the reference names the record of this number and sequence number; the word is ours
unfoldable pub matches : ℕ → ℕ → ℕ → Bool
matches reference number sequence =
    (target reference == number) && ((turn reference == 0) || (turn reference == sequence))

-- a base reference names the record of this number and sequence number as the base; that of a base record is 0 and
-- names none (the Linux-NTFS documentation, "File Record", "base_mft_record")
unfoldable pub has_base : ℕ → ℕ → ℕ → Bool
has_base base number sequence = not (base == 0) && matches base number sequence

-- the record of a number and a base reference is a part of the file of this base record: it is that record, or has it
-- as its base; the word is ours
abbrev pub belongs : ℕ → ℕ → ℕ → ℕ → Bool
belongs number base of_number of_sequence = (number == of_number) || has_base base of_number of_sequence
