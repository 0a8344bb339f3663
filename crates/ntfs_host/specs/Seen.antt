-- The real outside as contracts see it: nothing is told of content. The words are ours.
use Rattle.std.specs.Prelude.{false, [], map}
use Rattle.std.specs.String.{string_bytes}
use Rattle.std.specs.FinMap.{empty}
use Rattle.ntfs_base.specs.Image.{ImageState}
use Rattle.ntfs_base.specs.Shelf.{ShelfState}
use Rattle.ntfs_base.specs.Source.{SourceState}
use Rattle.ntfs_base.specs.Sink.{SinkState}
use Rattle.ntfs_host.specs.declared.disk_file.DiskFile.{DiskFile}
use Rattle.ntfs_host.specs.declared.disk_shelf.DiskShelf.{DiskShelf}

-- an open file: its name, and the length that it keeps
abbrev pub seen_file : DiskFile → ImageState
seen_file file = record { is_told = false; content = []; size = file.size; name = string_bytes file.name; lower = [] }

-- the files of the system: the names of those that are attached
abbrev pub seen_shelf : {R : Type 0} → DiskShelf R → ShelfState
seen_shelf shelf = record { is_told = false; files = empty; attached = map string_bytes shelf.attached.items }

-- standard input
abbrev pub seen_input : SourceState
seen_input = record { is_told = false; bytes = []; given = 0; name = [] }

-- standard output and standard error
abbrev pub seen_output : SinkState
seen_output = record { is_told = false; content = []; name = [] }
