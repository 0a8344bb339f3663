-- How far a clone image was read. The words are ours.
use Rattle.std.specs.Prelude.{◌≡◌, ◌≤◌, ◌+◌, ◌-◌, ◌*◌, ◌<◌, ◌^◌, ℕ, Bool, true, false, List, ◌++◌, length, take, drop}
use Rattle.ntfs_base.specs.Source.{SourceState}
use Rattle.ntfs_clone.specs.declared.command.Next.{Next}
use Rattle.ntfs_clone.specs.declared.command.Next.TheVariants as next
use Rattle.ntfs_clone.specs.declared.command.Progress.{Progress}
use Rattle.ntfs_clone.specs.declared.header.CloneHeader.{CloneHeader}
use Rattle.ntfs_clone.specs.declared.input.Input.{Input}
use Rattle.ntfs_clone.specs.Commands.{Command, gap, cluster, commands_from, commands_length, covered, right_commands}
use Rattle.ntfs_clone.specs.Taking.{to_come}

-- the command that was found at the front of these bytes
abbrev pub command_found : ℕ → List ℕ → Next → Command
command_found c bytes (next.Gap count) = gap count
command_found c bytes next.Cluster = cluster (take c (drop 1 bytes))

-- how many bytes it has
abbrev pub found_length : ℕ → Next → ℕ
found_length c (next.Gap count) = 9
found_length c next.Cluster = 1 + c

-- it may stand there
abbrev pub IsAllowed : ℕ → Bool → Next → Type 0
IsAllowed room after_empty (next.Gap count) = (0 < room) × (count ≤ room) × (after_empty ≡ true → 0 < count)
IsAllowed room after_empty next.Cluster = 0 < room

-- how many commands may still come: each covers some room, but for a gap of 0, and no two of these follow one another
abbrev pub commands_left : ℕ → Bool → ℕ
commands_left room true = 2 * room
commands_left room false = 2 * room + 1

-- the place of the next command is a number of 64 bits, whatever may still come
abbrev pub HasPlace : Progress → Type 0
HasPlace p = p.place + 65537 * commands_left p.room p.after_empty < 2 ^ 62

-- the bytes that wait in a buffer
abbrev pub waiting : Input → List ℕ
waiting input = take (input.end - input.start) (drop input.start input.bytes.items)

-- the bytes that were not read yet: those that wait, and those that the source has still to give
abbrev pub unread : Input → SourceState → List ℕ
unread input source = waiting input ++ to_come source

-- of the bytes behind a header these commands were read, and the rest is left
pub record IsBehind (h : CloneHeader) (all : List ℕ) (read : List Command) (p : Progress) (rest : List ℕ) : Type 0 where
  pub most : ℕ
  pub parts : right_commands h all ≡ read ++ commands_from most h.cluster p.room p.after_empty rest
  pub enough : length rest ≤ most
  pub place : p.place ≡ h.offset + commands_length read
  pub room : p.room + covered read ≡ h.clusters + 1
  pub bytes : length all ≡ commands_length read + length rest

-- some commands were read so
pub record HasRead (h : CloneHeader) (all : List ℕ) (p : Progress) (rest : List ℕ) : Type 0 where
  pub read : List Command
  pub behind : IsBehind h all read p rest
