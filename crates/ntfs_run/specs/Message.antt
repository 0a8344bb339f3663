-- The line that says why a command was refused: the tool's word, a colon and a space, a text, and a line feed. The
-- texts are this project's own.
use Rattle.std.specs.Prelude.{◌==◌, ◌&&◌, nat_lt, ℕ, List, [], ◌∷◌, ◌++◌, length, codes, Option, Some, None, Result, Ok}
use Rattle.std.specs.Prelude.{if◌then◌else◌, unwrap_or}
use Rattle.std.specs.Fmt.{decimal}
use Rattle.std.specs.Int.{w16, w32, to_be_bytes}
use Rattle.hex.specs.Hex.{encode_lower}
use Rattle.ntfs_base.specs.declared.refusal.Lack.{Lack}
use Rattle.ntfs_base.specs.declared.refusal.Lack.TheVariants as lack
use Rattle.ntfs_base.specs.declared.refusal.Missing.{Missing}
use Rattle.ntfs_base.specs.declared.refusal.Missing.TheVariants as missing
use Rattle.ntfs_base.specs.declared.refusal.Named.{Named}
use Rattle.ntfs_base.specs.declared.refusal.Named.TheVariants as named
use Rattle.ntfs_base.specs.declared.refusal.Rule.{Rule}
use Rattle.ntfs_base.specs.declared.refusal.Rule.TheVariants.{C1, C2, C3, C4, C5, C6, C7, C8, C9, C10, C11, C12, C13}
use Rattle.ntfs_base.specs.declared.refusal.Rule.TheVariants.{C14, C15, C16}
use Rattle.ntfs_base.specs.declared.refusal.UsageKind.{UsageKind}
use Rattle.ntfs_base.specs.declared.refusal.UsageKind.TheVariants as usage
use Rattle.ntfs_words.specs.Tool.{tool_name}
use Rattle.ntfs_words.specs.declared.request.Request.{Request}
use Rattle.ntfs_words.specs.declared.request.Request.TheVariants as request
use Rattle.ntfs_words.specs.declared.request.WordsFault.{WordsFault}
use Rattle.ntfs_words.specs.declared.tool.Tool.{Tool}
use Rattle.ntfs_run.specs.Command.{request_in, tool_in}
use Rattle.ntfs_run.specs.declared.status.Status.{Status}
use Rattle.ntfs_run.specs.declared.status.Status.TheVariants as status

-- a text and a number
abbrev pub with_number : List ℕ → ℕ → List ℕ
with_number text n = text ++ decimal n

-- the number of a rule, C1 to C16
abbrev pub rule_number : Rule → ℕ
rule_number C1 = 1
rule_number C2 = 2
rule_number C3 = 3
rule_number C4 = 4
rule_number C5 = 5
rule_number C6 = 6
rule_number C7 = 7
rule_number C8 = 8
rule_number C9 = 9
rule_number C10 = 10
rule_number C11 = 11
rule_number C12 = 12
rule_number C13 = 13
rule_number C14 = 14
rule_number C15 = 15
rule_number C16 = 16

-- a rule and a record
abbrev pub rule_text : Rule → ℕ → List ℕ
rule_text rule number = with_number (codes "C") (rule_number rule) ++ with_number (codes " record ") number

-- lower-case hexadecimal digits without leading zeros
unfoldable pub without_zeros : List ℕ → List ℕ
without_zeros [] = []
without_zeros (digit ∷ digits) =
    if digit == 48 && nat_lt 0 (length digits) then without_zeros digits else digit ∷ digits

-- an attribute type
abbrev pub type_text : ℕ → List ℕ
type_text kind = codes "0x" ++ without_zeros (encode_lower (to_be_bytes w32 kind))

-- the flags of an attribute, in four digits
abbrev pub flags_text : ℕ → List ℕ
flags_text flags = codes "0x" ++ encode_lower (to_be_bytes w16 flags)

abbrev pub usage_text : UsageKind → List ℕ
usage_text usage.Tool = codes "tool"
usage_text usage.Line = codes "line"
usage_text usage.Combination = codes "combination"
usage_text usage.Number = codes "number"
usage_text usage.SameName = codes "same name"

abbrev pub lack_text : Lack → List ℕ
lack_text lack.Image = codes "image"
lack_text lack.Count = codes "count"
lack_text lack.Boot = codes "boot"

abbrev pub missing_text : Missing → List ℕ
missing_text (missing.Part index) = with_number (codes "path part ") index
missing_text (missing.Record number) = with_number (codes "record ") number
missing_text missing.Stream = codes "stream"

-- the text of a status, up to the name of a file
unfoldable pub status_text : Status → List ℕ
status_text status.Done = []
status_text (status.Usage kind) = codes "usage: " ++ usage_text kind
status_text (status.Absent file) = codes "no such file: "
status_text (status.Present file) = codes "file exists: "
status_text status.NotNtfs = codes "not an NTFS volume"
status_text (status.BadGeometry field value) =
    with_number (codes "bad geometry: field ") field ++ with_number (codes " value ") value
status_text (status.ImageShort len need) =
    with_number (codes "image has ") len ++ with_number (codes " bytes, needs ") need
status_text (status.Damaged rule number) = codes "damaged: rule " ++ rule_text rule number
status_text status.Dirty = codes "volume is dirty"
status_text (status.ShortClusters need free) =
    (with_number (codes "needs ") need ++ with_number (codes " clusters, ") free) ++ codes " are free"
status_text (status.ShortRun need longest) =
    with_number (codes "needs ") need ++ with_number (codes " clusters in a row, longest free run is ") longest
status_text (status.ShortRoom number need have) =
    (with_number (codes "record ") number ++ with_number (codes " needs ") need)
    ++ with_number (codes " bytes, has ") have
status_text (status.ShortGeometry kind have need) =
    ((codes "size out of range: " ++ lack_text kind) ++ with_number (codes " has ") have)
    ++ with_number (codes ", needs ") need
status_text (status.NotFound what) = codes "not found: " ++ missing_text what
status_text (status.NotPlain flags) = codes "stream is not plain: flags " ++ flags_text flags
status_text (status.Guarded number kind) =
    ((with_number (codes "record ") number ++ codes " type ") ++ type_text kind) ++ codes " may not be written"
status_text (status.TooLong have want) =
    with_number (codes "stream has room for ") have ++ with_number (codes " bytes, source has ") want
status_text (status.BadClone place) = with_number (codes "bad clone image at byte ") place
status_text status.ReadFault = codes "read fault"
status_text status.WriteFault = codes "write fault"
status_text status.NoMemory = codes "no memory"
status_text (status.CannotMend rule number) = codes "cannot mend: rule " ++ rule_text rule number

-- the tool's word: the first word where it names a tool, else the name of the program
abbrev pub tool_word : Option Tool → List ℕ
tool_word None = codes "ntfsprogs"
tool_word (Some tool) = tool_name tool

-- the name of a host file of a request
abbrev pub file_named : Request → Named → List ℕ
file_named (request.Info mft number image) named.Image = image
file_named (request.Ls all numbers classify recursive system dos path image) named.Image = image
file_named (request.Cat place kind name image) named.Image = image
file_named (request.Cluster ask image) named.Image = image
file_named (request.Clone save restore no_action force output overwrite source) named.Source = unwrap_or source []
file_named (request.Clone save restore no_action force output overwrite source) named.Output = unwrap_or output []
file_named (request.Make file seed clusters cluster) named.Output = file
file_named (request.Trial seed name) named.Output = name
file_named (request.Trial seed name) named.Clone = name ++ codes ".clone"
file_named (request.Trial seed name) named.Back = name ++ codes ".back"
file_named request other = []

-- the word of a request that such a name begins with: the name itself, but for the second and third file of ntfstrial
abbrev pub word_named : Request → Named → List ℕ
word_named (request.Trial seed name) named.Clone = name
word_named (request.Trial seed name) named.Back = name
word_named request file = file_named request file

-- what stands behind that word
abbrev pub end_named : Request → Named → List ℕ
end_named (request.Trial seed name) named.Clone = codes ".clone"
end_named (request.Trial seed name) named.Back = codes ".back"
end_named request file = []

-- the name that a status speaks of, for words that were read so
abbrev pub name_in : Result Request WordsFault → Status → List ℕ
name_in (Ok request) (status.Absent file) = file_named request file
name_in (Ok request) (status.Present file) = file_named request file
name_in reading other = []

-- its two pieces
abbrev pub word_in : Result Request WordsFault → Status → List ℕ
word_in (Ok request) (status.Absent file) = word_named request file
word_in (Ok request) (status.Present file) = word_named request file
word_in reading other = []

abbrev pub end_in : Result Request WordsFault → Status → List ℕ
end_in (Ok request) (status.Absent file) = end_named request file
end_in (Ok request) (status.Present file) = end_named request file
end_in reading other = []

-- the line for a status
unfoldable pub line_for : Option Tool → Result Request WordsFault → Status → List ℕ
line_for tool reading status =
    ((tool_word tool ++ codes ": ") ++ status_text status) ++ (name_in reading status ++ (10 ∷ []))

-- nothing where the work was done
abbrev pub message_for : Option Tool → Result Request WordsFault → Status → List ℕ
message_for tool reading status.Done = []
message_for tool reading other = line_for tool reading other

-- the message of a command line
abbrev pub message_of : List (List ℕ) → Status → List ℕ
message_of words status = message_for (tool_in words) (request_in words) status
