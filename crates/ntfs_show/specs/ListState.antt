-- A listing on its way: what is left to be printed, by the walks that aren't at their ends. The words are ours.
use Rattle.std.specs.Prelude.{◌≡◌, ◌<◌, ◌≤◌, ◌+◌, ◌-◌, ◌^◌, ◌++◌, ℕ, zero, suc, Bool, false, List, [], ◌∷◌, length, take, Option, Some, None, Result, Ok, Err, vec_len, if◌then◌else◌}
use Rattle.ntfs_base.specs.Frames.{IsSettled}
use Rattle.ntfs_base.specs.Sink.{SinkState, after_put}
use Rattle.ntfs_directory.specs.State.{DirectoryState, IsOn, answered, left_of}
use Rattle.ntfs_volume.specs.Opened.{Opened}
use Rattle.ntfs_print.specs.Fault.{show_origin}
use Rattle.ntfs_show.specs.Listing.{Enter, Next, also_met, front_below, was_entered, list_entries, record_numbers}
use Rattle.ntfs_print.specs.Printing.{Printing, before, stops}
use Rattle.ntfs_print.specs.declared.fault.ShowFault.{ShowFault}
use Rattle.ntfs_show.specs.declared.list_walk.Desk.{Desk}
use Rattle.ntfs_show.specs.declared.list_options.ListOptions.{ListOptions}
use Rattle.ntfs_show.specs.declared.list_walk.Turn.{Turn}
use Rattle.ntfs_show.specs.declared.list_walk.Turn.TheVariants as turn

-- what prints a directory below, and what is printed after this one
pub record Around : Type 0 where
  pub enter : Enter
  pub next : Next

-- what is left to be printed of a directory that is walked, and what is printed after it
unfoldable pub left_to_list : ListOptions → Opened → List ℕ → Around → List ℕ → DirectoryState → Next
left_to_list o v image around front d met =
    list_entries o v image around.enter front d.number (left_of v.geometry image d).entries
    (left_of v.geometry image d).fault around.next met

-- behind a line: the directory that is to be entered, where there is one, and the other entries
abbrev pub below_to_list : Enter → List ℕ → Next → List ℕ → Option ℕ → Printing ShowFault
below_to_list enter front others met None = others met
below_to_list enter front others met (Some number) = enter front number others (also_met number met)

-- what is left after a turn
abbrev pub after_turn : ListOptions → Opened → List ℕ → Around → List ℕ → DirectoryState → List ℕ → Turn
    → Printing ShowFault
after_turn o v image around front d met (turn.Given below) =
    below_to_list around.enter (front_below front d.walk.key) (left_to_list o v image around front d) met below
after_turn o v image around front d met turn.Ended = around.next met

-- what is left when its entries end, or one of them is to be entered
abbrev pub after_entries : ListOptions → Opened → List ℕ → Around → List ℕ → DirectoryState → List ℕ → Option ℕ
    → Printing ShowFault
after_entries o v image around front d met None = around.next met
after_entries o v image around front d met (Some number) =
    around.enter (front_below front d.walk.key) number (left_to_list o v image around front d) (also_met number met)

-- ---- one directory

-- it is walked on a volume of this geometry, under this number, and has answered no fault
pub record IsWalked (v : Opened) (number : ℕ) (d : DirectoryState) : Type 0 where
  pub on : IsOn v.geometry d
  pub bears : d.number ≡ number
  pub sound : answered d ≡ None

-- a directory that is to be entered has a number that a reference can have, and wasn't met
abbrev pub IsNew : List ℕ → Option ℕ → Type 0
IsNew met None = Unit {0}
IsNew met (Some number) = (number < record_numbers) × (was_entered number met ≡ false)

-- that of a turn
abbrev pub IsNewTurn : List ℕ → Turn → Type 0
IsNewTurn met (turn.Given below) = IsNew met below
IsNewTurn met turn.Ended = Unit {0}

-- where a turn gave an entry
abbrev pub IfTurnGiven : Turn → Type 0 → Type 0
IfTurnGiven (turn.Given below) is = is
IfTurnGiven turn.Ended is = Unit {0}

-- what a listing works with stays: its options, and the room for a record
pub record IsSameDesk (old new : Desk) : Type 0 where
  pub options : new.options ≡ old.options
  pub block : vec_len new.block ≡ vec_len old.block
