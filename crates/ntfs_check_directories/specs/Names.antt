-- The name of an entry, sought in the record to which it leads. The words are ours.
use Rattle.std.specs.Prelude.{◌&&◌, ◌||◌, ℕ, Bool, false, List, [], Option, Some, None, Result, Ok, Err}
use Rattle.std.specs.List.{list_all, list_any}
use Rattle.ntfs_base.specs.Bytes.{cluster_at}
use Rattle.ntfs_check_directories.specs.declared.name.Sought.{Sought}
use Rattle.ntfs_directory.specs.Directory.{DirectoryWalk}
use Rattle.ntfs_record.specs.FileRecord.{Laid}
use Rattle.ntfs_record.specs.Slots.{Slot}
use Rattle.ntfs_record.specs.Views.{Shown}
use Rattle.ntfs_rules.specs.Directories.{file_name_kind, is_name_of, leads_to_name}
use Rattle.ntfs_rules.specs.Files.{names_base}
use Rattle.ntfs_volume.specs.Gather.{Extent, extents, is_of}
use Rattle.ntfs_volume.specs.Gathering.{shown_id}
use Rattle.ntfs_volume.specs.Located.{Located, slots_of}
use Rattle.ntfs_volume.specs.Opened.{Opened}
use Rattle.ntfs_volume.specs.References.{target}
use Rattle.ntfs_volume.specs.Streams.{lists_of}
use Rattle.ntfs_volume.specs.declared.fault.VolumeFault.{VolumeFault}

-- the records of an opened volume, where the image has this content
abbrev pub records_in : Opened → List ℕ → List (Slot (Located (Laid (List ℕ))))
records_in o content = slots_of o.geometry o.map (cluster_at content o.geometry.cluster)

-- a value is the name
abbrev pub is_sought : Sought → List ℕ → Bool
is_sought sought value = is_name_of sought.directory sought.sequence sought.key.now value

-- the value of a resident attribute is
abbrev pub shows_value : Sought → Shown → Bool
shows_value sought shown = shown.body.is_resident && is_sought sought shown.body.value

-- so is that of an unnamed $FILE_NAME
abbrev pub shows_name : Sought → Shown → Bool
shows_name sought shown = is_of file_name_kind [] (shown_id shown) && shows_value sought shown

-- an extent is the name
abbrev pub is_extent : {P : Type 0} → Sought → Extent P → Bool
is_extent sought e = e.attribute.face.is_resident && is_sought sought e.attribute.face.value

-- whether an extent is, where one is found
abbrev pub shown_by : {P : Type 0} → Sought → Result (Extent P) VolumeFault → Option Bool
shown_by sought (Ok e) = Some (is_extent sought e)
shown_by sought (Err fault) = None

-- one of the extents is, or one was before; none where they can't be found
abbrev pub have_sought : {P : Type 0} → Bool → Sought → Result (List (Extent P)) VolumeFault → Bool
have_sought before sought (Ok found) = before || list_any (is_extent sought) found
have_sought before sought (Err fault) = false

-- a reference leads to a record that has the name
unfoldable pub leads_at : Opened → List ℕ → Sought → ℕ → Bool
leads_at o content sought reference =
    names_base (records_in o content) reference
    && have_sought false sought (extents (lists_of o.geometry (cluster_at content o.geometry.cluster)
    (records_in o content)) (records_in o content) (target reference) file_name_kind [])

-- the entries of a walk of directory d, which has this sequence number, lead to records that have their names
unfoldable pub all_lead : Opened → List ℕ → ℕ → ℕ → DirectoryWalk → Bool
all_lead o content d sequence walk =
    list_all (leads_to_name (lists_of o.geometry (cluster_at content o.geometry.cluster) (records_in o content))
    (records_in o content) d sequence) walk.entries
