-- What the words of a command line ask for, or how they are refused. The first word names the tool.
use Rattle.std.specs.Prelude.{List, [], ◌∷◌, Option, Some, None, Result, Err}
use Rattle.clap.specs.Words.{App, Text}
use Rattle.ntfs_base.specs.declared.refusal.UsageKind.TheVariants as usage
use Rattle.ntfs_words.specs.Cat.{cat_app, cat_asked}
use Rattle.ntfs_words.specs.Clone.{clone_app, clone_asked}
use Rattle.ntfs_words.specs.Cluster.{cluster_app, cluster_asked}
use Rattle.ntfs_words.specs.Cp.{cp_app, cp_asked}
use Rattle.ntfs_words.specs.Fix.{fix_app, fix_asked}
use Rattle.ntfs_words.specs.Info.{info_app, info_asked}
use Rattle.ntfs_words.specs.Ls.{ls_app, ls_asked}
use Rattle.ntfs_words.specs.Make.{make_app, make_asked}
use Rattle.ntfs_words.specs.Resize.{resize_app, resize_asked}
use Rattle.ntfs_words.specs.Trial.{trial_app, trial_asked}
use Rattle.ntfs_words.specs.Tool.{tool_of}
use Rattle.ntfs_words.specs.declared.request.Request.{Request}
use Rattle.ntfs_words.specs.declared.request.WordsFault.{WordsFault}
use Rattle.ntfs_words.specs.declared.request.WordsFault.TheVariants.{Usage}
use Rattle.ntfs_words.specs.declared.tool.Tool.{Tool}
use Rattle.ntfs_words.specs.declared.tool.Tool.TheVariants.{Info, Ls, Cat, Cluster, Cp, Clone, Resize, Fix, Make, Trial}

-- the commands of all tools
abbrev pub commands : List App
commands = info_app ∷ ls_app ∷ cat_app ∷ cluster_app ∷ cp_app ∷ clone_app ∷ resize_app ∷ fix_app ∷ make_app ∷ trial_app
    ∷ []

-- what is asked of a tool
abbrev pub tool_asked : Option Tool → List Text → Result Request WordsFault
tool_asked None words = Err (Usage usage.Tool)
tool_asked (Some Info) words = info_asked words
tool_asked (Some Ls) words = ls_asked words
tool_asked (Some Cat) words = cat_asked words
tool_asked (Some Cluster) words = cluster_asked words
tool_asked (Some Cp) words = cp_asked words
tool_asked (Some Clone) words = clone_asked words
tool_asked (Some Resize) words = resize_asked words
tool_asked (Some Fix) words = fix_asked words
tool_asked (Some Make) words = make_asked words
tool_asked (Some Trial) words = trial_asked words

-- what a command line asks for
abbrev pub asked : List Text → Result Request WordsFault
asked words = tool_asked (tool_of words) words
