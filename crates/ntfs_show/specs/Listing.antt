-- What is printed of a directory: a line for each entry that is shown, in the order of its index, and with the
-- recursion the lines of a directory's entries right behind its own (the manual page ntfsls(8) on the options; the
-- Linux-NTFS documentation, "$FILE_NAME", on names and their namespaces, and "Directory"). The texts, the refusals and
-- the words are ours.
use Rattle.std.specs.Prelude.{◌==◌, ◌&&◌, ◌||◌, ◌++◌, ◌^◌, ℕ, zero, suc, Bool, false, not, nat_le, length, slice_index, List, [], ◌∷◌, Option, Some, None, Result, Ok, Err, if◌then◌else◌}
use Rattle.std.specs.BTreeMap.{is_at}
use Rattle.std.specs.BTreeSet.{insert_key}
use Rattle.std.specs.Fmt.{decimal}
use Rattle.std.specs.List.{list_any}
use Rattle.std.specs.Ordering.{nat_cmp}
use Rattle.ntfs_directory.specs.Directory.{DirectoryWalk, begun_walk}
use Rattle.ntfs_directory.specs.Entries.{entry_record, key_name, key_namespace}
use Rattle.ntfs_directory.specs.declared.entries.EntryRecord.{EntryRecord}
use Rattle.ntfs_index.specs.Node.{IndexEntry}
use Rattle.ntfs_upcase.specs.Names.{text_bytes}
use Rattle.ntfs_volume.specs.Opened.{Opened}
use Rattle.ntfs_volume.specs.References.{target}
use Rattle.ntfs_volume.specs.declared.fault.VolumeFault.{VolumeFault}
use Rattle.ntfs_print.specs.Fault.{gather_refusal}
use Rattle.ntfs_print.specs.Numbers.{line_end}
use Rattle.ntfs_print.specs.Printing.{Printing, before, prints, stops}
use Rattle.ntfs_print.specs.declared.fault.ShowFault.{ShowFault}
use Rattle.ntfs_show.specs.declared.list_options.ListOptions.{ListOptions}

-- ---- which entries are shown, by their keys

-- the namespaces of names: 0 POSIX, 1 Win32, 2 DOS, 3 both of these at once
unfoldable pub is_shown_namespace : ListOptions → ℕ → Bool
is_shown_namespace o n = (n == 3) || (n == (if o.dos then 2 else 1)) || (o.all && (n == 0))

-- a name that begins with a dollar sign, in UTF-16LE the bytes 0x24 and 0, is taken for that of a system file
unfoldable pub is_system_name : List ℕ → Bool
is_system_name name = nat_le 2 (length name) && (slice_index name 0 == 0x24) && (slice_index name 1 == 0)

unfoldable pub is_shown : ListOptions → List ℕ → Bool
is_shown o key = is_shown_namespace o (key_namespace key) && (o.system || not (is_system_name (key_name key)))

-- ---- the line of an entry

-- the number of its record and a space, where numbers are asked for
unfoldable pub number_text : ListOptions → ℕ → List ℕ
number_text o number = if o.numbers then decimal number ++ 32 ∷ [] else []

-- a slash behind a directory, where the kinds are asked for
unfoldable pub kind_text : ListOptions → Bool → List ℕ
kind_text o is_directory = if o.classify && is_directory then 47 ∷ [] else []

-- its path from the start: that of its directory, and its name in UTF-8
abbrev pub entry_path : List ℕ → List ℕ → List ℕ
entry_path front key = front ++ text_bytes (key_name key)

-- what stands before the names of its own entries, where it is a directory
abbrev pub front_below : List ℕ → List ℕ → List ℕ
front_below front key = front ++ (text_bytes (key_name key) ++ 47 ∷ [])

unfoldable pub entry_line : ListOptions → ℕ → List ℕ → Bool → List ℕ
entry_line o number path is_directory = number_text o number ++ (path ++ (kind_text o is_directory ++ line_end))

-- ---- the directories that were met, by their numbers, ascending

abbrev pub was_entered : ℕ → List ℕ → Bool
was_entered number met = list_any (is_at (nat_cmp number)) met

abbrev pub also_met : ℕ → List ℕ → List ℕ
also_met number met = insert_key nat_cmp met number

-- with the recursion a directory is entered the first time that it is met
unfoldable pub is_entered : ListOptions → Bool → ℕ → List ℕ → Bool
is_entered o is_directory number met = o.recursive && is_directory && not (was_entered number met)

-- ---- what is printed

-- the record of an entry of directory d with this reference has the directory flag
abbrev pub directory_flag : ℕ → Result EntryRecord VolumeFault → Result Bool ShowFault
directory_flag d (Ok found) = Ok found.is_directory
directory_flag d (Err fault) = Err (gather_refusal d fault)

-- what is printed from some point on, by the directories that were met before
abbrev pub Next : Type 0
Next = List ℕ → Printing ShowFault

-- nothing more
abbrev pub nothing_more : Next
nothing_more met = prints []

-- what is printed from a directory on, by the front of the names of its entries, its number, and what comes behind it
abbrev pub Enter : Type 0
Enter = List ℕ → ℕ → Next → Next

-- where the walk of directory d ends
abbrev pub list_end : ℕ → Option VolumeFault → Next → Next
list_end d None next met = next met
list_end d (Some fault) next met = stops (gather_refusal d fault)

-- an entry by its record: its line, and what is behind that, which depends on its being a directory
abbrev pub entry_printing : ListOptions → List ℕ → IndexEntry → Result Bool ShowFault → (Bool → Printing ShowFault)
    → Printing ShowFault
entry_printing o front entry (Ok is_directory) behind =
    before (entry_line o (target entry.reference) (entry_path front entry.key) is_directory) (behind is_directory)
entry_printing o front entry (Err fault) behind = stops fault

-- a directory that is entered, and the other entries; `enter` prints a directory
abbrev pub list_below : Enter → Bool → List ℕ → ℕ → Next → Next
list_below enter is front number others met = if is then enter front number others (also_met number met) else others met

module _ (o : ListOptions) (v : Opened) (image : List ℕ) where
  -- an entry of directory d with this reference is a directory, by its record, which is read where the options need it
  unfoldable pub entry_kind : ℕ → ℕ → Result Bool ShowFault
  entry_kind d reference =
      if o.classify || o.recursive then directory_flag d (entry_record v.geometry v.map image d reference)
      else Ok false

  -- an entry of directory d, before whose name this front stands: nothing where it isn't shown; and then the others
  abbrev pub list_given : Enter → List ℕ → ℕ → IndexEntry → Next → Next
  list_given enter front d entry others met =
      if is_shown o entry.key
      then entry_printing o front entry (entry_kind d entry.reference)
      (λ is_directory. list_below enter (is_entered o is_directory (target entry.reference) met)
      (front_below front entry.key) (target entry.reference) others met)
      else others met

  -- the entries of directory d, and what comes then
  abbrev pub list_entries : Enter → List ℕ → ℕ → List IndexEntry → Option VolumeFault → Next → Next
  list_entries enter front d [] fault next met = list_end d fault next met
  list_entries enter front d (entry ∷ entries) fault next met =
      list_given enter front d entry (list_entries enter front d entries fault next) met

  -- those of its walk, where it begins
  abbrev pub list_walk : Enter → List ℕ → ℕ → Result DirectoryWalk VolumeFault → Next → Next
  list_walk enter front d (Ok walk) next met = list_entries enter front d walk.entries walk.fault next met
  list_walk enter front d (Err fault) next met = stops (gather_refusal d fault)

  -- directory d, and so many levels of directories at most, of which it is the first
  unfoldable pub list_directory : ℕ → Enter
  list_directory zero front d next met = next met
  list_directory (suc levels) front d next met =
      list_walk (list_directory levels) front d (begun_walk v.geometry v.map image d) next met

-- how many numbers of records there are: a reference has 48 bits for one
unfoldable pub record_numbers : ℕ
record_numbers = 2 ^ 48

-- what is printed from a directory on, which is met at the start, and nothing then. There are more levels than numbers:
-- each directory that is entered has one of its own, so that they suffice.
unfoldable pub list_of : ListOptions → Opened → List ℕ → ℕ → Printing ShowFault
list_of o v image start = list_directory o v image (suc record_numbers) [] start nothing_more (start ∷ [])
