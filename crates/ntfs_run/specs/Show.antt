-- What the requests of the tools that only show print: an arm for each tool. The words are ours.
use Rattle.std.specs.Prelude.{ℕ, Bool, true, false, List, Some, None, if◌then◌else◌}
use Rattle.ntfs_base.specs.declared.refusal.UsageKind.TheVariants as usage
use Rattle.ntfs_print.specs.Printing.{Printing, printing_of, stops}
use Rattle.ntfs_volume.specs.Opened.{Opened}
use Rattle.ntfs_words.specs.declared.request.Request.{Request}
use Rattle.ntfs_words.specs.declared.request.Request.TheVariants as request
use Rattle.ntfs_run.specs.Cat.{CatRefuses, cat_bytes, stream_name}
use Rattle.ntfs_run.specs.Cluster.{ClusterRefuses, owner_lines}
use Rattle.ntfs_run.specs.Info.{GeometryRefuses, RecordRefuses, image_lines, record_lines}
use Rattle.ntfs_run.specs.Ls.{ListRefuses, list_lines}
use Rattle.ntfs_run.specs.Shown.{of_volume}
use Rattle.ntfs_run.specs.declared.status.Status.{Status}
use Rattle.ntfs_run.specs.declared.status.Status.TheVariants as status

-- the geometry alone is asked for, for which no volume is opened
abbrev pub asks_geometry : Request → Bool
asks_geometry (request.Info mft None image) = true
asks_geometry other = false

-- the requests that print
abbrev pub only_shows : Request → Bool
only_shows (request.Info mft number image) = true
only_shows (request.Ls all numbers classify recursive system dos path image) = true
only_shows (request.Cat place kind name image) = true
only_shows (request.Cluster question image) = true
only_shows other = false

-- what is printed of an opened volume, whose image has these bytes. No other request is taken
unfoldable pub volume_printing : Request → Opened → List ℕ → Printing Status
volume_printing (request.Info mft (Some number) image) volume bytes = record_lines number volume bytes
volume_printing (request.Ls all numbers classify recursive system dos path image) volume bytes =
    list_lines (record {
      all = all;
      numbers = numbers;
      classify = classify;
      recursive = recursive;
      system = system;
      dos = dos;
    }) path volume bytes
volume_printing (request.Cat place kind name image) volume bytes =
    printing_of (cat_bytes place kind (stream_name name) volume bytes)
volume_printing (request.Cluster question image) volume bytes = printing_of (owner_lines question volume bytes)
volume_printing other volume bytes = stops (status.Usage usage.Tool)

-- what is printed of an image of these bytes
unfoldable pub image_printing : Request → List ℕ → Printing Status
image_printing request bytes =
    if asks_geometry request then printing_of (image_lines bytes)
    else of_volume bytes (λ volume. volume_printing request volume bytes)

-- the refusals of the requests that are taken
abbrev pub ShowRefuses : Request → Status → Type 0
ShowRefuses (request.Info mft None image) fault = GeometryRefuses fault
ShowRefuses (request.Info mft (Some number) image) fault = RecordRefuses fault
ShowRefuses (request.Ls all numbers classify recursive system dos path image) fault = ListRefuses fault
ShowRefuses (request.Cat place kind name image) fault = CatRefuses fault
ShowRefuses (request.Cluster question image) fault = ClusterRefuses fault
ShowRefuses other fault = Unit {0}
