use Rattle.std.proofs.Common.{◌≡◌, ◌+◌, ◌≤◌, length}
use denote.Text.{Utf8}
use denote.Shadow.{shadow}
use Rattle.ntfs_directory.specs.Paths.{path_parts}
use Rattle.ntfs_directory.proofs.path.count_parts.Given as goal

abbrev pub invariant-parts : goal.invariant-parts
invariant-parts l =
    shadow (Utf8 l.rest) × (l.count + length (path_parts l.rest) ≡ length (path_parts l.path))
    × (l.count + length l.rest ≤ length l.path)

abbrev pub decreases-parts : goal.decreases-parts
decreases-parts l = length l.rest
