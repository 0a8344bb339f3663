-- The file records of the volume, in order of their number: their names, attributes and streams. The table is this
-- project's own; the files below 12 are those of every volume (the Linux-NTFS documentation, "NTFS Files").
use Rattle.std.specs.Prelude.{List, [], ◌∷◌, ◌++◌, Some, None, codes}
use Rattle.ntfs_make.specs.declared.table.LowestVcn.TheVariants.{Zero, Behind}
use Rattle.ntfs_make.specs.declared.table.Size.TheVariants.{Exact, Clusters, ClusterAnd, Bitmap, Volume}
use Rattle.ntfs_make.specs.declared.table.Size.TheVariants as a_size
use Rattle.ntfs_make.specs.declared.table.PlannedRun.TheVariants.{NoRun, InArea, Holes, BeforeBad, Bad, BehindBad}
use Rattle.ntfs_make.specs.Table.{RowValue, name_with, standard_attribute, name_attribute, value_attribute, list_attribute}
use Rattle.ntfs_make.specs.Table.{list_entry, root_attribute, extent_attribute, one_run, data_attribute, row_with, file_row}
use Rattle.ntfs_make.specs.Table.{unused_row, ChildRoot, EmptyRoot, OneRoot}

-- the files of every volume, and the records that they leave free
unfoldable pub system_rows : List RowValue
system_rows =
    row_with 0 1 None
    (standard_attribute
    ∷ list_attribute (list_entry 0x10 Zero 0 0 ∷ list_entry 0x30 Zero 0 2 ∷ list_entry 0x80 Zero 0 3
    ∷ list_entry 0x80 (Behind 1) 28 0 ∷ list_entry 0xB0 Zero 0 4 ∷ [])
    ∷ name_attribute 5 3 (codes "$MFT")
    ∷ extent_attribute 0x80 [] (one_run NoRun (InArea 1) (InArea 7) (Exact 65536))
    ∷ value_attribute 0xB0 [] (0xFF ∷ 0x0F ∷ 0xFF ∷ 0x1F ∷ 0xFF ∷ 0xFF ∷ 0 ∷ 0 ∷ [])
    ∷ [])
    ∷ file_row 1 (codes "$MFTMirr") (data_attribute (InArea 2) (Exact 4096))
    ∷ file_row 2 (codes "$LogFile") (data_attribute (InArea 3) (Exact 65536))
    ∷ file_row 3 (codes "$Volume") (value_attribute 0x70 [] (0 ∷ 0 ∷ 0 ∷ 0 ∷ 0 ∷ 0 ∷ 0 ∷ 0 ∷ 3 ∷ 1 ∷ 0 ∷ 0 ∷ []))
    ∷ file_row 4 (codes "$AttrDef") (value_attribute 0x80 [] [])
    ∷ row_with 5 3 None
    (standard_attribute
    ∷ name_attribute 5 3 (codes ".")
    ∷ root_attribute ChildRoot
    ∷ extent_attribute 0xA0 (codes "$I30") (one_run NoRun (InArea 6) NoRun (Exact 4096))
    ∷ value_attribute 0xB0 (codes "$I30") (1 ∷ 0 ∷ 0 ∷ 0 ∷ 0 ∷ 0 ∷ 0 ∷ 0 ∷ [])
    ∷ [])
    ∷ file_row 6 (codes "$Bitmap") (data_attribute (InArea 4) Bitmap)
    ∷ file_row 7 (codes "$Boot") (data_attribute (InArea 0) (Exact 8192))
    ∷ row_with 8 1 None
    (standard_attribute
    ∷ name_attribute 5 3 (codes "$BadClus")
    ∷ value_attribute 0x80 [] []
    ∷ extent_attribute 0x80 (codes "$Bad") (record {
      flags = 0x0000;
      unit = 0;
      compressed_size = None;
      before = NoRun;
      first = BeforeBad;
      second = Bad;
      third = BehindBad;
      behind = NoRun;
      size = Volume;
      initialised = Exact 0;
    })
    ∷ [])
    ∷ file_row 9 (codes "$Secure") (value_attribute 0x80 [] [])
    ∷ file_row 10 (codes "$UpCase") (data_attribute (InArea 5) (Exact 131072))
    ∷ row_with 11 3 None
    (standard_attribute
    ∷ name_attribute 5 3 (codes "$Extend")
    ∷ root_attribute EmptyRoot
    ∷ [])
    ∷ unused_row 12 ∷ unused_row 13 ∷ unused_row 14 ∷ unused_row 15
    ∷ []

-- a file of each kind, and the extensions of records
unfoldable pub kind_rows : List RowValue
kind_rows =
    file_row 16 (codes "resident.txt") (value_attribute 0x80 [] (codes "hello, ntfs" ++ 10 ∷ []))
    ∷ file_row 17 (codes "empty.bin") (data_attribute NoRun (Exact 0))
    ∷ file_row 18 (codes "sparse.bin") (extent_attribute 0x80 [] (record {
      flags = 0x8000;
      unit = 0;
      compressed_size = Some (a_size.InArea 8);
      before = NoRun;
      first = Holes 2;
      second = InArea 8;
      third = Holes 1;
      behind = NoRun;
      size = Clusters 4;
      initialised = Clusters 4;
    }))
    ∷ file_row 19 (codes "half.bin") (extent_attribute 0x80 [] (record {
      flags = 0x0000;
      unit = 0;
      compressed_size = None;
      before = NoRun;
      first = InArea 9;
      second = NoRun;
      third = NoRun;
      behind = NoRun;
      size = ClusterAnd 5;
      initialised = Exact 10;
    }))
    ∷ file_row 20 (codes "packed.bin") (extent_attribute 0x80 [] (record {
      flags = 0x0001;
      unit = 4;
      compressed_size = Some (a_size.InArea 10);
      before = NoRun;
      first = InArea 10;
      second = Holes 12;
      third = NoRun;
      behind = NoRun;
      size = Clusters 16;
      initialised = Clusters 16;
    }))
    ∷ row_with 21 1 None
    (standard_attribute
    ∷ list_attribute (list_entry 0x10 Zero 21 0 ∷ list_entry 0x30 Zero 21 2 ∷ list_entry 0x80 Zero 21 3
    ∷ list_entry 0x80 (Behind 11) 22 0 ∷ [])
    ∷ name_attribute 5 3 (codes "listed.bin")
    ∷ extent_attribute 0x80 [] (one_run NoRun (InArea 11) (InArea 12) (Clusters 2))
    ∷ [])
    ∷ row_with 22 1 (Some 21)
    (extent_attribute 0x80 [] (one_run (InArea 11) (InArea 12) NoRun (Exact 0))
    ∷ [])
    ∷ row_with 23 3 None
    (standard_attribute
    ∷ name_attribute 5 3 (codes "Dir")
    ∷ root_attribute (OneRoot 24 (name_with 23 3 (codes "inner.txt")))
    ∷ [])
    ∷ row_with 24 1 None
    (standard_attribute
    ∷ name_attribute 23 3 (codes "inner.txt")
    ∷ value_attribute 0x80 [] (codes "inner" ++ 10 ∷ [])
    ∷ [])
    ∷ row_with 25 1 None
    (standard_attribute
    ∷ name_attribute 5 1 (codes "long name.txt")
    ∷ name_attribute 5 2 (codes "LONGNA~1.TXT")
    ∷ value_attribute 0x80 [] []
    ∷ [])
    ∷ row_with 26 1 None
    (standard_attribute
    ∷ name_attribute 5 0 (codes "A.txt")
    ∷ value_attribute 0x80 [] (codes "A" ++ 10 ∷ [])
    ∷ [])
    ∷ row_with 27 1 None
    (standard_attribute
    ∷ name_attribute 5 0 (codes "a.txt")
    ∷ value_attribute 0x80 [] (codes "a" ++ 10 ∷ [])
    ∷ [])
    ∷ row_with 28 1 (Some 0)
    (extent_attribute 0x80 [] (one_run (InArea 1) (InArea 7) NoRun (Exact 0))
    ∷ [])
    ∷ unused_row 29 ∷ unused_row 30 ∷ unused_row 31
    ∷ []

-- sixteen files
unfoldable pub file_rows : List RowValue
file_rows =
    file_row 32 (codes "file00") (data_attribute (InArea 13) (a_size.InArea 13))
    ∷ file_row 33 (codes "file01") (data_attribute (InArea 14) (a_size.InArea 14))
    ∷ file_row 34 (codes "file02") (data_attribute (InArea 15) (a_size.InArea 15))
    ∷ file_row 35 (codes "file03") (data_attribute (InArea 16) (a_size.InArea 16))
    ∷ file_row 36 (codes "file04") (data_attribute (InArea 17) (a_size.InArea 17))
    ∷ file_row 37 (codes "file05") (data_attribute (InArea 18) (a_size.InArea 18))
    ∷ file_row 38 (codes "file06") (data_attribute (InArea 19) (a_size.InArea 19))
    ∷ file_row 39 (codes "file07") (data_attribute (InArea 20) (a_size.InArea 20))
    ∷ file_row 40 (codes "file08") (data_attribute (InArea 21) (a_size.InArea 21))
    ∷ file_row 41 (codes "file09") (data_attribute (InArea 22) (a_size.InArea 22))
    ∷ file_row 42 (codes "file10") (data_attribute (InArea 23) (a_size.InArea 23))
    ∷ file_row 43 (codes "file11") (data_attribute (InArea 24) (a_size.InArea 24))
    ∷ file_row 44 (codes "file12") (data_attribute (InArea 25) (a_size.InArea 25))
    ∷ file_row 45 (codes "file13") (data_attribute (InArea 26) (a_size.InArea 26))
    ∷ file_row 46 (codes "file14") (data_attribute (InArea 27) (a_size.InArea 27))
    ∷ file_row 47 (codes "file15") (data_attribute (InArea 28) (a_size.InArea 28))
    ∷ []

-- records that are not in use
unfoldable pub spare_rows : List RowValue
spare_rows =
    unused_row 48
    ∷ unused_row 49 ∷ unused_row 50 ∷ unused_row 51 ∷ unused_row 52
    ∷ unused_row 53 ∷ unused_row 54 ∷ unused_row 55 ∷ unused_row 56
    ∷ unused_row 57 ∷ unused_row 58 ∷ unused_row 59 ∷ unused_row 60
    ∷ unused_row 61 ∷ unused_row 62 ∷ unused_row 63
    ∷ []

-- all records
abbrev pub rows : List RowValue
rows = system_rows ++ (kind_rows ++ (file_rows ++ spare_rows))
