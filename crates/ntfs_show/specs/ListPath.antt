-- What is printed of the directory that a path names, or the refusal of the path. The words are ours.
use Rattle.std.specs.Prelude.{ℕ, List, Result, Ok, Err}
use Rattle.ntfs_directory.specs.Paths.{directory_at}
use Rattle.ntfs_directory.specs.declared.path_fault.PathFault.{PathFault}
use Rattle.ntfs_volume.specs.Opened.{Opened}
use Rattle.ntfs_show.specs.Listing.{list_of}
use Rattle.ntfs_print.specs.Fault.{path_refusal}
use Rattle.ntfs_print.specs.Printing.{Printing, stops}
use Rattle.ntfs_print.specs.declared.fault.ShowFault.{ShowFault}
use Rattle.ntfs_show.specs.declared.list_options.ListOptions.{ListOptions}

abbrev pub list_found : ListOptions → Opened → List ℕ → Result ℕ PathFault → Printing ShowFault
list_found o v image (Ok start) = list_of o v image start
list_found o v image (Err fault) = stops (path_refusal fault)

-- what is printed of the directory that a path names
unfoldable pub list_outcome : ListOptions → Opened → List ℕ → List ℕ → Printing ShowFault
list_outcome o v image path = list_found o v image (directory_at v.geometry v.map image path)
