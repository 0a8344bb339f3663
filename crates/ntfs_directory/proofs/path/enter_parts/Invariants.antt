use Rattle.std.proofs.Common.{◌≡◌, ◌+◌, ◌≤◌, length}
use Rattle.std.specs.Prelude.{IsTrue}
use denote.Text.{Utf8}
use denote.Shadow.{shadow}
use Rattle.ntfs_base.specs.Causes.{HaveNotFallen}
use Rattle.ntfs_directory.specs.Paths.{parts_from, path_parts}
use Rattle.ntfs_directory.proofs.path.enter_parts.Given as goal

abbrev pub invariant-parts : goal.invariant-parts
invariant-parts g l =
    shadow (Utf8 l.rest)
    × (length l.block ≡ l.table.geometry.record_size)
    × (g.G.Image.seen l.image ≡ g.G.Image.seen l.initial.image)
    × HaveNotFallen (g.G.Image.faults l.initial.image) (g.G.Image.faults l.image)
    × (l.index + length l.rest ≤ length l.path)
    × (IsTrue (g.G.Image.seen l.initial.image).is_told
    → parts_from l.table.geometry l.table.map (g.G.Image.seen l.initial.image).content l.upper l.index l.at (path_parts l.rest)
    ≡ parts_from l.table.geometry l.table.map (g.G.Image.seen l.initial.image).content l.upper 0 l.fn.from (path_parts l.path))

abbrev pub decreases-parts : goal.decreases-parts
decreases-parts g l = length l.rest
