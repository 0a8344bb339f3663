-- The tools, by the first word of a command line. Eight have the names of the public ntfsprogs; the others are ours.
use Rattle.std.specs.Prelude.{ℕ, List, [], ◌∷◌, codes, find, Option, None}
use Rattle.std.specs.Str.{bytes_eq}
use Rattle.ntfs_words.specs.declared.tool.Tool.{Tool}
use Rattle.ntfs_words.specs.declared.tool.Tool.TheVariants.{Info, Ls, Cat, Cluster, Cp, Clone, Resize, Fix, Make, Trial}

-- the name of a tool
unfoldable pub tool_name : Tool → List ℕ
tool_name Info = codes "ntfsinfo"
tool_name Ls = codes "ntfsls"
tool_name Cat = codes "ntfscat"
tool_name Cluster = codes "ntfscluster"
tool_name Cp = codes "ntfscp"
tool_name Clone = codes "ntfsclone"
tool_name Resize = codes "ntfsresize"
tool_name Fix = codes "ntfsfix"
tool_name Make = codes "ntfsmake"
tool_name Trial = codes "ntfstrial"

abbrev pub tools : List Tool
tools = Info ∷ Ls ∷ Cat ∷ Cluster ∷ Cp ∷ Clone ∷ Resize ∷ Fix ∷ Make ∷ Trial ∷ []

-- the tool that a word names
unfoldable pub tool_named : List ℕ → Option Tool
tool_named word = find (λ tool. bytes_eq word (tool_name tool)) tools

-- the tool of a command line
abbrev pub tool_of : List (List ℕ) → Option Tool
tool_of [] = None
tool_of (word ∷ words) = tool_named word
