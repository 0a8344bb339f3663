-- What is printed of one file record: its head in six lines, and a line for each of its attributes (the Linux-NTFS
-- documentation, "File Record", "Attribute Header" and "Data Runs", on what these are). The texts, their order, the
-- refusals and the words are ours.
use Rattle.std.specs.Prelude.{◌≡◌, ◌⊎◌, ◌-◌, ◌==◌, ◌||◌, ◌++◌, ℕ, Bool, List, [], length, map, codes, Some, None, Result, Ok, Err, IfErr, if◌then◌else◌}
use Rattle.std.specs.Fmt.{decimal}
use Rattle.std.specs.List.{flat_map, list_all, take_while}
use Rattle.ntfs_base.specs.Bytes.{cluster_at}
use Rattle.ntfs_base.specs.Causes.{Rose}
use Rattle.ntfs_base.specs.Frames.{Because, IsSettled, Origin, SinkHasNotFallen, refused_as}
use Rattle.ntfs_base.specs.declared.refusal.Missing.TheVariants as missing
use Rattle.ntfs_base.specs.declared.refusal.Rule.TheVariants as rule
use Rattle.ntfs_base.specs.declared.sink.Sink as sink
use Rattle.ntfs_record.specs.FileRecord.{FileRecord}
use Rattle.ntfs_record.specs.Parsing.{parse_of}
use Rattle.ntfs_record.specs.Views.{Shown, ShownBody, placed_of, shown_placed}
use Rattle.ntfs_print.specs.Fault.{show_origin}
use Rattle.ntfs_print.specs.Numbers.{line_end}
use Rattle.ntfs_print.specs.Label.{kind_and_name}
use Rattle.ntfs_print.specs.Printing.{Printing, stops}
use Rattle.ntfs_print.specs.declared.fault.ShowFault.{ShowFault}
use Rattle.ntfs_print.specs.declared.fault.ShowFault.TheVariants as show
use Rattle.ntfs_show.specs.declared.record_info.Caption.{Caption}
use Rattle.ntfs_show.specs.declared.record_info.Caption.TheVariants.{Number, Sequence, Links, Flags, Base, InUse, Resident, Vcn, To, Size, Valid, Runs}
use Rattle.ntfs_survey.specs.Owned.{runs_in}
use Rattle.ntfs_survey.specs.Surveying.{spells_cells}
use Rattle.ntfs_volume.specs.Opened.{Opened}
use Rattle.ntfs_volume.specs.Records.{read_of}
use Rattle.ntfs_volume.specs.declared.fault.VolumeFault.{VolumeFault}
use Rattle.ntfs_volume.specs.declared.fault.VolumeFault.TheVariants as volume

-- ---- the head

-- the text in front of a number
unfoldable pub caption_text : Caption → List ℕ
caption_text Number = codes "record: "
caption_text Sequence = codes "sequence: "
caption_text Links = codes "links: "
caption_text Flags = codes "flags: "
caption_text Base = codes "base: "
caption_text InUse = codes "bytes in use: "
caption_text Resident = codes " resident "
caption_text Vcn = codes " vcn "
caption_text To = codes "-"
caption_text Size = codes " size "
caption_text Valid = codes " valid "
caption_text Runs = codes " runs "

-- such a text and a decimal number
abbrev pub captioned : Caption → ℕ → List ℕ
captioned caption n = caption_text caption ++ decimal n

-- these as a line
abbrev pub captioned_line : Caption → ℕ → List ℕ
captioned_line caption n = captioned caption n ++ line_end

-- the six lines of record r
unfoldable pub head_lines : ℕ → FileRecord → List ℕ
head_lines r file =
    captioned_line Number r
    ++ captioned_line Sequence file.head.sequence
    ++ captioned_line Links file.head.links
    ++ captioned_line Flags file.head.flags
    ++ captioned_line Base file.head.base
    ++ captioned_line InUse file.layout.in_use

-- ---- the line of an attribute

-- the highest VCN, which is the one before the next; it is a signed number, and -1 where there is no VCN
abbrev pub highest_text : ℕ → List ℕ
highest_text next = if next == 0 then codes "-1" else decimal (next - 1)

-- what the line says of a resident attribute with a value of so many bytes
unfoldable pub resident_text : ℕ → List ℕ
resident_text size = captioned_line Resident size

-- what it says of another one: its VCNs, the size and the initialised size of the stream in bytes, and how many runs
-- its mapping pairs spell
unfoldable pub runs_text : ℕ → ℕ → ℕ → ℕ → ℕ → List ℕ
runs_text lowest next size valid count =
    captioned Vcn lowest
    ++ (caption_text To ++ highest_text next)
    ++ captioned Size size
    ++ captioned Valid valid
    ++ captioned_line Runs count

-- what it says of the body of an attribute
abbrev pub body_text : ShownBody → List ℕ
body_text body =
    if body.is_resident then resident_text (length body.value)
    else runs_text body.lowest body.next body.size body.valid (length (runs_in body.pairs))

-- the line of an attribute
unfoldable pub attribute_line : Shown → List ℕ
attribute_line shown = kind_and_name shown.kind shown.name ++ body_text shown.body

-- ---- what is printed

-- the body keeps rule C7 on a volume of n clusters: its mapping pairs spell a cell for each of its VCNs; a resident one
-- has none
unfoldable pub keeps_cells : ℕ → ShownBody → Bool
keeps_cells n body = body.is_resident || spells_cells n (body.next - body.lowest) body.pairs

-- the same of an attribute
abbrev pub has_right_cells : ℕ → Shown → Bool
has_right_cells n shown = keeps_cells n shown.body

-- its line, where it keeps the rule
abbrev pub line_if_right : ℕ → Shown → List ℕ
line_if_right n shown = if has_right_cells n shown then attribute_line shown else []

-- the lines of the attributes above the first that breaks the rule
unfoldable pub attribute_lines : ℕ → List Shown → List ℕ
attribute_lines n attributes = flat_map attribute_line (take_while (has_right_cells n) attributes)

-- all attributes keep it
unfoldable pub all_keep_cells : ℕ → List Shown → Bool
all_keep_cells n attributes = list_all (has_right_cells n) attributes

-- what is shown of the attributes, in their order
abbrev pub shown_attributes : FileRecord → List Shown
shown_attributes file = map shown_placed (placed_of file)

-- record r, which says this: the head and these lines, and then rule C7 where an attribute breaks it
unfoldable pub file_printing : ℕ → ℕ → FileRecord → Printing ShowFault
file_printing n r file = record {
  output = head_lines r file ++ attribute_lines n (shown_attributes file);
  fault = if all_keep_cells n (shown_attributes file) then None else Some (show.Damaged rule.C7 r);
}

-- what is printed of a value, or nothing but the refusal to give it
abbrev pub printing_after : {A E : Type 0} → Result A E → (A → Printing E) → Printing E
printing_after (Ok x) printing = printing x
printing_after (Err fault) printing = stops fault

-- record r, whose unfixed bytes these are
unfoldable pub block_printing : ℕ → ℕ → List ℕ → Printing ShowFault
block_printing n r block =
    printing_after (refused_as (λ _. show.Damaged rule.C4 r) (parse_of block)) (file_printing n r)

-- a refusal to read record r: it isn't in use, or was not to be read; else something is wrong with it
abbrev pub record_refusal : ℕ → VolumeFault → ShowFault
record_refusal r volume.Absent = show.NotFound (missing.Record r)
record_refusal r volume.ReadFault = show.ReadFault
record_refusal r volume.WriteFault = show.WriteFault
record_refusal r volume.NoMemory = show.NoMemory
record_refusal r other = show.Damaged rule.C4 r

-- record r of an opened volume
unfoldable pub record_printing : Opened → List ℕ → ℕ → Printing ShowFault
record_printing o image r =
    printing_after
    (refused_as (record_refusal r) (read_of o.geometry o.map (cluster_at image o.geometry.cluster) r))
    (block_printing o.geometry.clusters r)

-- a refusal that the printing of record r can give, whatever the image tells
abbrev pub IsRecordRefusal : ℕ → ShowFault → Type 0
IsRecordRefusal r (show.NotFound what) = what ≡ missing.Record r
IsRecordRefusal r (show.Damaged broken number) = ((broken ≡ rule.C4) ⊎ (broken ≡ rule.C7)) × (number ≡ r)
IsRecordRefusal r show.ReadFault = Unit {0}
IsRecordRefusal r show.WriteFault = Unit {0}
IsRecordRefusal r show.NoMemory = Unit {0}
IsRecordRefusal r other = ⊥

-- ---- the sink

-- a refusal of the sink, or of memory
abbrev pub IsInterrupted : ShowFault → Type 0
IsInterrupted fault = IsSettled (show_origin fault) → ⊥

-- a call over a sink, which takes memory of its own too, and over nothing else outside
pub record PrintsAlone {K T E : Type 0} (k : sink.Ghosts K) (origin : E → Origin) (old new : K)
    (result : Result T E) : Type 0 where
  pub puts : SinkHasNotFallen (k.faults old) (k.faults new)
  pub cause : IfErr result (λ fault. Because (origin fault) ⊥ (Rose (k.faults old).failures (k.faults new).failures)
      (Unit {0}))
