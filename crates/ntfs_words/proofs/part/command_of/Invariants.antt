use Rattle.std.proofs.Common.{◌≡◌, map, take}
use Rattle.clap.specs.Words.{app_of}
use Rattle.ntfs_words.specs.Line.{app_with, rule_for}
use Rattle.ntfs_words.proofs.part.command_of.Given as goal

abbrev pub invariant-parts : goal.invariant-parts
invariant-parts l = app_of l.command ≡ app_with l.fn.name (map rule_for (take l.part-index l.parts))
