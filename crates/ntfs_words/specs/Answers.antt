-- What each tool can answer to words: requests of its own, and refusals. The words are ours.
use Rattle.std.specs.Prelude.{◌≡◌, IsTrue, Option, Some, None}
use Rattle.ntfs_base.specs.declared.refusal.UsageKind.{UsageKind}
use Rattle.ntfs_base.specs.declared.refusal.UsageKind.TheVariants as usage
use Rattle.ntfs_words.specs.Make.{is_in_range}
use Rattle.ntfs_words.specs.declared.request.Request.{Request}
use Rattle.ntfs_words.specs.declared.request.Request.TheVariants as request
use Rattle.ntfs_words.specs.declared.request.WordsFault.{WordsFault}
use Rattle.ntfs_words.specs.declared.request.WordsFault.TheVariants.{Usage, NoMemory}
use Rattle.ntfs_words.specs.declared.tool.Tool.{Tool}
use Rattle.ntfs_words.specs.declared.tool.Tool.TheVariants.{Info, Ls, Cat, Cluster, Cp, Clone, Resize, Fix, Make, Trial}

-- the tool of a request
abbrev pub tool_for : Request → Tool
tool_for (request.Info mft number image) = Info
tool_for (request.Ls all numbers classify recursive system dos path image) = Ls
tool_for (request.Cat target kind name image) = Cat
tool_for (request.Cluster ask image) = Cluster
tool_for (request.Cp kind name no_action image source target) = Cp
tool_for (request.Clone save restore no_action force output overwrite source) = Clone
tool_for (request.Resize info no_action force size image) = Resize
tool_for (request.Fix no_action clear_dirty clear_bad rebuild image) = Fix
tool_for (request.Make file seed clusters cluster) = Make
tool_for (request.Trial seed name) = Trial

-- the numbers of ntfsmake are in the ranges of a volume
abbrev pub HasRanges : Request → Type 0
HasRanges (request.Make file seed clusters cluster) = IsTrue (is_in_range clusters cluster)
HasRanges other = Unit {0}

-- a request of this tool, with its numbers in their ranges
pub record IsRequestOf (tool : Tool) (request : Request) : Type 0 where
  pub tool_is : tool_for request ≡ tool
  pub ranges : HasRanges request

-- the kinds of Usage that the words of a tool can have; `None` is no tool
abbrev pub CanMisuse : Option Tool → UsageKind → Type 0
CanMisuse None usage.Tool = Unit {0}
CanMisuse (Some tool) usage.Line = Unit {0}
CanMisuse (Some Info) usage.Combination = Unit {0}
CanMisuse (Some Info) usage.Number = Unit {0}
CanMisuse (Some Cat) usage.Combination = Unit {0}
CanMisuse (Some Cat) usage.Number = Unit {0}
CanMisuse (Some Cluster) usage.Combination = Unit {0}
CanMisuse (Some Cluster) usage.Number = Unit {0}
CanMisuse (Some Cp) usage.Number = Unit {0}
CanMisuse (Some Cp) usage.SameName = Unit {0}
CanMisuse (Some Clone) usage.Combination = Unit {0}
CanMisuse (Some Clone) usage.SameName = Unit {0}
CanMisuse (Some Resize) usage.Combination = Unit {0}
CanMisuse (Some Resize) usage.Number = Unit {0}
CanMisuse (Some Fix) usage.Combination = Unit {0}
CanMisuse (Some Make) usage.Number = Unit {0}
CanMisuse (Some Trial) usage.Number = Unit {0}
CanMisuse tool other = ⊥

-- the faults of its words; where there is no tool, no memory is taken
abbrev pub CanFail : Option Tool → WordsFault → Type 0
CanFail tool (Usage kind) = CanMisuse tool kind
CanFail (Some tool) NoMemory = Unit {0}
CanFail None NoMemory = ⊥
