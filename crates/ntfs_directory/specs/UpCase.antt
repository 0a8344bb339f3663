-- The table of upper-case units of a volume: the unnamed $DATA of record 10 (the Linux-NTFS documentation, "$UpCase";
-- the refusals are ours).
use Rattle.std.specs.Prelude.{◌==◌, ◌&&◌, ℕ, Bool, false, not, List, [], Result, Ok, Err}
use Rattle.ntfs_base.specs.Bytes.{cluster_at}
use Rattle.ntfs_base.specs.Frames.{must, ◌>>=◌}
use Rattle.ntfs_boot.specs.declared.geometry.Geometry.{Geometry}
use Rattle.ntfs_directory.specs.Allocation.{allocation_bytes}
use Rattle.ntfs_directory.specs.Fault.{unwalkable}
use Rattle.ntfs_runs.specs.Cells.{are_cells}
use Rattle.ntfs_upcase.specs.Names.{units}
use Rattle.ntfs_volume.specs.MftMap.{Map}
use Rattle.ntfs_volume.specs.Streams.{Gathered, Stream, gather_of}
use Rattle.ntfs_volume.specs.declared.fault.VolumeFault.{VolumeFault}
use Rattle.ntfs_volume.specs.declared.fault.VolumeFault.TheVariants as volume

-- the record of $UpCase
abbrev pub up_case_record : ℕ
up_case_record = 10

-- the type of $DATA
abbrev pub data_kind : ℕ
data_kind = 0x80

-- two bytes for each of the 65,536 units
abbrev pub up_case_size : ℕ
up_case_size = 131072

-- no flags, that size, and initialised to its end
unfoldable pub has_table_sizes : Stream ℕ → Bool
has_table_sizes s = (s.flags == 0) && (s.size == up_case_size) && (s.valid == up_case_size)

-- a stream is a table: it isn't resident, as no record has room for one, and has these sizes and no hole, on a volume
-- of n clusters
unfoldable pub is_up_case : ℕ → Stream ℕ → Bool
is_up_case n s = not s.is_resident && (has_table_sizes s && are_cells false n s.cells)

-- the stream that was gathered, which must be there
abbrev pub up_case_found : Result (Gathered ℕ) VolumeFault → Result (Stream ℕ) VolumeFault
up_case_found (Ok found) = Ok found.stream
up_case_found (Err volume.Absent) = Err (unwalkable up_case_record)
up_case_found (Err volume.NoAttribute) = Err (unwalkable up_case_record)
up_case_found (Err fault) = Err fault

-- the table of a volume with this map, as its list of units
unfoldable pub up_case_of : Geometry → Map → List ℕ → Result (List ℕ) VolumeFault
up_case_of g map image = do
  s ← up_case_found (gather_of g map (cluster_at image g.cluster) up_case_record data_kind [])
  _ ← must (is_up_case g.clusters s) (unwalkable up_case_record)
  Ok (units (allocation_bytes g image s))
