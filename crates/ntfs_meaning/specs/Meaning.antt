-- The meaning of a volume: what its records in use say, wherever the image has it (the Linux-NTFS documentation, "File
-- Record", "Attribute Header", "Data Runs" and "Files"; the word, and what is left out, are ours). It is one map over
-- the contents, so that each record and each attribute stands in it, in its order; what is left out is blank there.
use Rattle.std.specs.Prelude.{◌++◌, ◌==◌, ◌&&◌, ◌||◌, ℕ, Bool, true, false, List, [], drop, map, take, if◌then◌else◌}
use Rattle.std.specs.Str.{bytes_eq}
use Rattle.ntfs_directory.specs.UpCase.{data_kind}
use Rattle.ntfs_record.specs.FileRecord.{Attribute, Face, Head, Laid}
use Rattle.ntfs_record.specs.Slots.{Slot, map_slots}
use Rattle.ntfs_rules.specs.FixedRecords.{bad_name, volume_information_kind}
use Rattle.ntfs_rules.specs.VolumeData.{VolumeData, contents}
use Rattle.ntfs_runs.specs.Cells.{Cells}
use Rattle.ntfs_volume.specs.Laws.{in_cells}
use Rattle.ntfs_volume.specs.Located.{Located}
use Rattle.ntfs_volume.specs.References.{target}

-- ---- what an attribute is for

-- the unnamed $DATA of $MFT, $MFTMirr, $LogFile or $Boot, whose clusters' bytes aren't part of the meaning; that of
-- $Bitmap; `$Bad` of $BadClus; $VOLUME_INFORMATION of $Volume, whose flags aren't; all others
pub data Role : Type 0 where
  Hidden : Role
  Bits : Role
  Bad : Role
  Info : Role
  Plain : Role

-- an attribute of this type and name is the unnamed $DATA
abbrev pub is_unnamed_data : ℕ → List ℕ → Bool
is_unnamed_data kind name = (kind == data_kind) && bytes_eq name []

-- record 0, 1, 2 or 7: $MFT, $MFTMirr, $LogFile or $Boot
abbrev pub is_hidden_record : ℕ → Bool
is_hidden_record r = (r == 0) || ((r == 1) || ((r == 2) || (r == 7)))

-- what the attributes of this type and name of base record r are for
unfoldable pub base_role : ℕ → ℕ → List ℕ → Role
base_role r kind name =
    if is_unnamed_data kind name && is_hidden_record r then Hidden
    else (if is_unnamed_data kind name && (r == 6) then Bits
    else (if ((kind == data_kind) && bytes_eq name bad_name) && (r == 8) then Bad
    else (if (kind == volume_information_kind) && (r == 3) then Info else Plain)))

-- the base record to whose file record r of this head belongs
abbrev pub owner : ℕ → Head → ℕ
owner r h = if h.base == 0 then r else target h.base

-- the role that an attribute has in the base record itself, or in another one of its file: only $DATA whose clusters'
-- bytes are left out goes on there
abbrev pub role_in : Bool → Role → Role
role_in true k = k
role_in false Hidden = Hidden
role_in false other = Plain

-- what an attribute of this type and name in record r of this head is for
unfoldable pub role : ℕ → Head → ℕ → List ℕ → Role
role r h kind name = role_in (h.base == 0) (base_role (owner r h) kind name)

-- ---- the meaning

-- what tells the attribute from others, and nothing else
abbrev pub id_alone : Face → Face
id_alone face = record {
  kind = face.kind;
  name = face.name;
  flags = 0;
  instance = face.instance;
  is_resident = false;
  value = [];
  lowest = face.lowest;
  next = 0;
  allocated = 0;
  size = 0;
  valid = 0;
  unit = [];
  packed = [];
}

-- the value of a $VOLUME_INFORMATION with 0 in place of the flags, 2 bytes at 0x0A
abbrev pub without_flags : List ℕ → List ℕ
without_flags value = take 0x0A value ++ (map (λ byte. 0) (take 2 (drop 0x0A value)) ++ drop 0x0C value)

-- the attribute with such a value
abbrev pub flagless : Face → Face
flagless face = record {
  kind = face.kind;
  name = face.name;
  flags = face.flags;
  instance = face.instance;
  is_resident = face.is_resident;
  value = without_flags face.value;
  lowest = face.lowest;
  next = face.next;
  allocated = face.allocated;
  size = face.size;
  valid = face.valid;
  unit = face.unit;
  packed = face.packed;
}

-- what an attribute of a role says beside its clusters
abbrev pub meant_face : Role → Face → Face
meant_face Hidden face = face
meant_face Bits face = id_alone face
meant_face Bad face = id_alone face
meant_face Info face = flagless face
meant_face Plain face = face

-- no cells
abbrev pub no_cells : Cells (List ℕ)
no_cells = record { is_right = true; cells = [] }

-- what its clusters say: their bytes, or only which VCNs are holes, or nothing
abbrev pub meant_cells : Role → Cells (List ℕ) → Cells (List ℕ)
meant_cells Hidden cells = in_cells (λ bytes. []) cells
meant_cells Bits cells = no_cells
meant_cells Bad cells = no_cells
meant_cells Info cells = cells
meant_cells Plain cells = cells

-- the meaning of an attribute of record r of this head, with nothing of where its parts stand
abbrev pub meant : ℕ → Head → Attribute (Located (Laid (Cells (List ℕ)))) → Attribute (Cells (List ℕ))
meant r h a = record {
  face = meant_face (role r h a.face.kind a.face.name) a.face;
  payload = meant_cells (role r h a.face.kind a.face.name) a.payload.payload.runs;
}

-- what each record says, by its number
abbrev pub Meaning : Type 0
Meaning = List (Slot (Cells (List ℕ)))

-- the meaning of a volume: of each record whether it is in use, its head, and what its attributes mean; a record that
-- isn't in use has the blank head and no attributes
unfoldable pub meaning : VolumeData → Meaning
meaning v = map_slots meant 0 (contents v)
