-- Values of options, and the refusals of lines that a command takes. The words are ours.
use Rattle.std.specs.Prelude.{◌==◌, ℕ, List, count_by, Bool, Option, Some, None, Result, Ok}
use Rattle.std.specs.Option.{ok_or}
use Rattle.clap.specs.Words.{Text}
use Rattle.ntfs_base.specs.Frames.{◌>>=◌}
use Rattle.ntfs_base.specs.declared.refusal.UsageKind.TheVariants as usage
use Rattle.ntfs_words.specs.Numbers.{kind_of, number_of, range_of, size_of}
use Rattle.ntfs_words.specs.declared.request.WordsFault.{WordsFault}
use Rattle.ntfs_words.specs.declared.request.WordsFault.TheVariants.{Usage}

-- options that don't go together, or one that is missing
abbrev pub combination : WordsFault
combination = Usage usage.Combination

-- exactly one of some options was given
abbrev pub is_one : List Bool → Bool
is_one given = count_by (λ one. one) given == 1

-- a word that spells no number, type, size or range
abbrev pub no_number : WordsFault
no_number = Usage usage.Number

-- two host files of one name
abbrev pub same_name_usage : WordsFault
same_name_usage = Usage usage.SameName

-- the number of a word
abbrev pub number_word : Text → Result ℕ WordsFault
number_word text = ok_or (number_of text) no_number

-- the number of an option that may be missing
unfoldable pub number_in : Option Text → Result (Option ℕ) WordsFault
number_in None = Ok None
number_in (Some text) = do
  number ← number_word text
  Ok (Some number)

-- the range of a word
abbrev pub range_word : Text → Result (ℕ × ℕ) WordsFault
range_word text = ok_or (range_of text) no_number

-- the type of an attribute, 0x80 ($DATA) where none is given
unfoldable pub kind_in : Option Text → Result ℕ WordsFault
kind_in None = Ok 128
kind_in (Some text) = ok_or (kind_of text) no_number

-- the size of an option that may be missing
unfoldable pub size_in : Option Text → Result (Option ℕ) WordsFault
size_in None = Ok None
size_in (Some text) = do
  size ← ok_or (size_of text) no_number
  Ok (Some size)
