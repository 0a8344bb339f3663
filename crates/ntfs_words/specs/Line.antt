-- The words of one tool, in clap's own words: a tool's command is a table of rules, a line is taken where clap finds
-- no fault in it, and then has clap's rows, one for each part that was given. The words are ours.
use Rattle.std.specs.Prelude.{◌==◌, ◌&&◌, ◌||◌, ℕ, Bool, true, false, not, List, [], ◌∷◌, length, codes, Option, Some}
use Rattle.std.specs.Prelude.{is_some, Result, Ok, Err, if◌then◌else◌}
use Rattle.std.specs.List.{list_any}
use Rattle.std.specs.Option.{ok_or, option_map_or}
use Rattle.std.specs.Str.{bytes_eq}
use Rattle.clap.specs.Words.{App, Row, Rule, Text, fault_of, first_of, matches_of, new_app, new_rule}
use Rattle.clap.specs.declared.builder.ArgAction.TheVariants.{SetTrue}
use Rattle.clap.specs.declared.error.kind.ErrorKind.{ErrorKind}
use Rattle.clap.specs.declared.error.kind.ErrorKind.TheVariants.{OutOfMemory}
use Rattle.ntfs_base.specs.Frames.{Gives, Origin, content, memory}
use Rattle.ntfs_base.specs.declared.refusal.UsageKind.TheVariants as usage
use Rattle.ntfs_words.specs.declared.part.Part.{Part}
use Rattle.ntfs_words.specs.declared.part.Part.TheVariants.{Flag, LongFlag, Valued, Needed, Optional}
use Rattle.ntfs_words.specs.declared.request.WordsFault.{WordsFault}
use Rattle.ntfs_words.specs.declared.request.WordsFault.TheVariants.{Usage, NoMemory}

-- ---- refusals

abbrev pub words_origin : WordsFault → Origin
words_origin (Usage kind) = content
words_origin NoMemory = memory

-- the answer that a definition gives, but for want of memory
abbrev pub Reads : {T : Type 0} → Result T WordsFault → Result T WordsFault → Type 0
Reads expected result = Gives words_origin (λ value. value) expected result

-- ---- a tool's table

-- an option without a value
abbrev pub flag : ℕ → Text → Rule
flag short long = record (new_rule long) { long = Some long; short = Some short; action = Some SetTrue }

-- an option without a value that has no letter
abbrev pub long_flag : Text → Rule
long_flag long = record (new_rule long) { long = Some long; action = Some SetTrue }

-- an option with one value
abbrev pub valued : ℕ → Text → Rule
valued short long = record (new_rule long) { long = Some long; short = Some short }

-- a positional word that must be there, and one that may be missing
abbrev pub needed : Text → Rule
needed name = record (new_rule name) { required = true }

abbrev pub optional : Text → Rule
optional name = new_rule name

-- a part of the code's table
abbrev pub rule_for : Part → Rule
rule_for (Flag short long) = flag short long.now
rule_for (LongFlag long) = long_flag long.now
rule_for (Valued short long) = valued short long.now
rule_for (Needed name) = needed name.now
rule_for (Optional name) = optional name.now

-- a command of these rules without options for help and the version
abbrev pub app_with : Text → List Rule → App
app_with name rules = record {
  top = record (new_app name).top { rules = rules; disable_help_flag = true; disable_version_flag = true };
  subs = [];
}

-- the same letter
abbrev pub are_same_letter : Option ℕ → Option ℕ → Bool
are_same_letter (Some first) (Some second) = first == second
are_same_letter first second = false

-- no letter and no name of a table stands twice; clap itself doesn't look
unfoldable pub are_distinct : List Rule → Bool
are_distinct [] = true
are_distinct (rule ∷ rules) =
    not (list_any (λ other. are_same_letter rule.short other.short || bytes_eq rule.id other.id) rules)
    && are_distinct rules

-- ---- a line

-- the rows of the words, where the command takes them
unfoldable pub line_of : App → List Text → Result (List Row) WordsFault
line_of app words = if length (fault_of app words) == 0 then Ok (matches_of app words) else Err (Usage usage.Line)

-- the option was given
unfoldable pub is_on : Text → List Row → Bool
is_on id rows = option_map_or (λ text. bytes_eq text (codes "true")) (first_of id rows) false

-- the value of an option, or a positional word
abbrev pub text_of : Text → List Row → Option Text
text_of id rows = first_of id rows

-- the option or word was given
abbrev pub is_given : Text → List Row → Bool
is_given id rows = is_some (text_of id rows)

-- a word that clap has found to be there
unfoldable pub word_of : Text → List Row → Result Text WordsFault
word_of id rows = ok_or (text_of id rows) (Usage usage.Line)

-- what clap refuses is the line, but for want of memory
abbrev pub clap_refusal : ErrorKind → WordsFault
clap_refusal OutOfMemory = NoMemory
clap_refusal kind = Usage usage.Line

-- a word that begins with a hyphen (45), as options do
unfoldable pub begins_with_hyphen : Text → Bool
begins_with_hyphen [] = false
begins_with_hyphen (c ∷ word) = c == 45
