use Rattle.std.proofs.Common.{◌≡◌, ◌≤◌, length}
use denote.Text.{Utf8}
use denote.Shadow.{shadow}
use Rattle.ntfs_directory.specs.Paths.{path_parts}
use Rattle.ntfs_directory.proofs.parts.first_part.Given as goal

abbrev pub invariant-slashes : goal.invariant-slashes
invariant-slashes l =
    shadow (Utf8 l.rest) × (path_parts l.path ≡ path_parts l.rest) × (length l.rest ≤ length l.path)

abbrev pub decreases-slashes : goal.decreases-slashes
decreases-slashes l = length l.rest
