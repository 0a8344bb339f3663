-- The commands of a clone image, which stand behind its header: a gap is the byte 0 and a number of clusters in eight
-- bytes, a cluster is the byte 1 and its bytes. They cover the volume's clusters in order, and perhaps its tail, which
-- counts as one cluster more (the stock ntfsclone's image; what is refused and where, and the words, are ours).
use Rattle.std.specs.Prelude.{◌≡◌, ◌+◌, ◌-◌, ◌*◌, ◌==◌, ◌&&◌, ℕ, zero, suc, Bool, true, false, not, List, [], ◌∷◌, ◌++◌, length, take, drop, replicate, nat_le, nat_lt, if◌then◌else◌, Option, Some, None, Result, Ok, Err}
use Rattle.byteorder.specs.Endian.{little_bytes}
use Rattle.ntfs_base.specs.Bytes.{number_at}
use Rattle.ntfs_base.specs.Frames.{must, ◌>>=◌}
use Rattle.ntfs_clone.specs.declared.fault.CloneFault.{CloneFault}
use Rattle.ntfs_clone.specs.declared.fault.CloneFault.TheVariants.{BadClone}
use Rattle.ntfs_clone.specs.declared.header.CloneHeader.{CloneHeader}
use Rattle.ntfs_clone.specs.Header.{clone_header}

pub data Command : Type 0 where
  -- so many clusters that the image leaves out
  gap : ℕ → Command
  -- one cluster, with its bytes
  cluster : List ℕ → Command

-- ---- what a command is

-- its bytes in a clone image
abbrev pub command_bytes : Command → List ℕ
command_bytes (gap count) = 0 ∷ little_bytes 8 count
command_bytes (cluster bytes) = 1 ∷ bytes

abbrev pub commands_bytes : List Command → List ℕ
commands_bytes [] = []
commands_bytes (command ∷ commands) = command_bytes command ++ commands_bytes commands

-- how many bytes these are
abbrev pub command_length : Command → ℕ
command_length (gap count) = 9
command_length (cluster bytes) = 1 + length bytes

abbrev pub commands_length : List Command → ℕ
commands_length [] = 0
commands_length (command ∷ commands) = command_length command + commands_length commands

-- how many clusters it covers
abbrev pub covered_count : Command → ℕ
covered_count (gap count) = count
covered_count (cluster bytes) = 1

abbrev pub covered : List Command → ℕ
covered [] = 0
covered (command ∷ commands) = covered_count command + covered commands

-- what it puts on a volume whose clusters have c bytes
abbrev pub command_content : ℕ → Command → List ℕ
command_content c (gap count) = replicate (count * c) 0
command_content c (cluster bytes) = bytes

abbrev pub commands_content : ℕ → List Command → List ℕ
commands_content c [] = []
commands_content c (command ∷ commands) = command_content c command ++ commands_content c commands

-- ---- which commands follow one another

abbrev pub is_empty_gap : Command → Bool
is_empty_gap (gap count) = count == 0
is_empty_gap (cluster bytes) = false

-- some room is left and it covers no more than that, and it isn't a gap of 0 directly behind one
abbrev pub may_follow : ℕ → Bool → Command → Bool
may_follow room after_empty (gap count) =
    nat_lt 0 room && nat_le count room && not (after_empty && (count == 0))
may_follow room after_empty (cluster bytes) = nat_lt 0 room

-- commands of clusters of c bytes that follow one another so
abbrev pub AreSequenced : ℕ → ℕ → Bool → List Command → Type 0
AreSequenced c room after_empty [] = Unit {0}
AreSequenced c room after_empty (command ∷ commands) =
    (command_length command ≡ (elim command [ gap count ↦ 9 | cluster bytes ↦ 1 + c ]))
    × (may_follow room after_empty command ≡ true)
    × AreSequenced c (room - covered_count command) (is_empty_gap command) commands

-- ---- reading them

-- the command with which the bytes begin; none where there is no such command, or it is cut off
unfoldable pub command_in : ℕ → List ℕ → Option Command
command_in c [] = None
command_in c (kind ∷ rest) =
    if kind == 0 then (if nat_le 8 (length rest) then Some (gap (number_at 8 0 rest)) else None)
    else (if kind == 1 then (if nat_le c (length rest) then Some (cluster (take c rest)) else None) else None)

-- the same, where it may stand there
abbrev pub kept_if : (Command → Bool) → Option Command → Option Command
kept_if is None = None
kept_if is (Some command) = if is command then Some command else None

unfoldable pub next_command : ℕ → ℕ → Bool → List ℕ → Option Command
next_command c room after_empty bytes = kept_if (may_follow room after_empty) (command_in c bytes)

-- a command, where there is one, and those behind it
abbrev pub and_behind : Option Command → (Command → List Command) → List Command
and_behind None behind = []
and_behind (Some command) behind = command ∷ behind command

-- the commands with which the bytes begin, up to the first that is wrong or cut off; at most so many
abbrev pub commands_from : ℕ → ℕ → ℕ → Bool → List ℕ → List Command
commands_from zero c room after_empty bytes = []
commands_from (suc most) c room after_empty bytes =
    and_behind (next_command c room after_empty bytes) (λ command.
    commands_from most c (room - covered_count command) (is_empty_gap command) (drop (command_length command) bytes))

-- those of an image with this header, of which the bytes behind the header are given: each has a byte at least
unfoldable pub right_commands : CloneHeader → List ℕ → List Command
right_commands h bytes = commands_from (length bytes) h.cluster (h.clusters + 1) false bytes

-- nothing stands behind them, and they cover all clusters
abbrev pub are_all : CloneHeader → List ℕ → List Command → Bool
are_all h bytes commands = (commands_length commands == length bytes) && nat_le h.clusters (covered commands)

-- the commands, where they are all; else the place of the first that is wrong or cut off, or of the first byte behind
-- the end
unfoldable pub clone_commands : CloneHeader → List ℕ → Result (List Command) CloneFault
clone_commands h bytes = do
  _ ← must (are_all h bytes (right_commands h bytes)) (BadClone (h.offset + commands_length (right_commands h bytes)))
  Ok (right_commands h bytes)

-- the same without them
abbrev pub emptied : {X E : Type 0} → Result X E → Result (Unit {0}) E
emptied (Ok x) = Ok tt
emptied (Err fault) = Err fault

-- ---- the whole image

pub record Clone : Type 0 where
  pub header : CloneHeader
  pub commands : List Command

-- what the bytes of a clone image say, or the first place that is wrong
unfoldable pub read_clone : List ℕ → Result Clone CloneFault
read_clone bytes = do
  h ← clone_header bytes
  commands ← clone_commands h (drop h.offset bytes)
  Ok (record { header = h; commands = commands })
