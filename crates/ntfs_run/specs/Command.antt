-- What the words of a command line ask of the tools that stand, or how they are refused. The first word names the tool.
-- The rules are ours.
use Rattle.std.specs.Prelude.{◌≡◌, ℕ, Bool, true, false, List, Option, Result}
use Rattle.std.specs.Option.{ok_or}
use Rattle.ntfs_base.specs.Frames.{◌>>=◌}
use Rattle.ntfs_base.specs.declared.refusal.UsageKind.TheVariants as usage
use Rattle.ntfs_words.specs.Clone.{are_same}
use Rattle.ntfs_words.specs.Numbers.{only_if}
use Rattle.ntfs_words.specs.Tool.{tool_of}
use Rattle.ntfs_words.specs.Words.{asked}
use Rattle.ntfs_words.specs.declared.request.Request.{Request}
use Rattle.ntfs_words.specs.declared.request.Request.TheVariants as request
use Rattle.ntfs_words.specs.declared.request.WordsFault.{WordsFault}
use Rattle.ntfs_words.specs.declared.request.WordsFault.TheVariants.{Usage}
use Rattle.ntfs_words.specs.declared.tool.Tool.{Tool}
use Rattle.ntfs_words.specs.declared.tool.Tool.TheVariants.{Info, Ls, Cat, Cluster, Cp, Clone, Resize, Fix, Make, Trial}

-- a tool that stands; the word of another one names no tool yet
abbrev pub is_standing : Tool → Bool
is_standing Info = true
is_standing Ls = true
is_standing Cat = true
is_standing Cluster = true
is_standing Cp = false
is_standing Clone = true
is_standing Resize = false
is_standing Fix = false
is_standing Make = true
is_standing Trial = true

-- the tool of a command line
abbrev pub tool_in : List (List ℕ) → Option Tool
tool_in words = only_if is_standing (tool_of words)

-- what a command line asks for
unfoldable pub request_in : List (List ℕ) → Result Request WordsFault
request_in words = do
  tool ← ok_or (tool_in words) (Usage usage.Tool)
  asked words

-- the names of ntfsclone are those of two files
abbrev pub HasApartNames : Request → Type 0
HasApartNames (request.Clone save restore no_action force output overwrite source) = are_same source output ≡ false
HasApartNames other = Unit {0}
