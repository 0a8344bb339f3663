-- The runs of a volume's attributes, with the text that tells in a line whose they are (the Linux-NTFS documentation,
-- "Attribute Header" and "Data Runs", on where an attribute's clusters are told, and "File Record" on base records).
-- The texts and the words are ours.
use Rattle.std.specs.Prelude.{◌+◌, ◌&&◌, ℕ, suc, Bool, true, false, List, [], ◌∷◌, ◌++◌, codes, map, nat_lt, Option, Some, None, string_bytes, if◌then◌else◌}
use Rattle.std.specs.Fmt.{decimal}
use Rattle.std.specs.List.{list_any}
use Rattle.ntfs_record.specs.FileRecord.{Laid}
use Rattle.ntfs_record.specs.Slots.{Slot}
use Rattle.ntfs_record.specs.Views.{Shown}
use Rattle.ntfs_runs.specs.declared.run.Run.{Run}
use Rattle.ntfs_print.specs.Label.{kind_and_name}
use Rattle.ntfs_print.specs.declared.fault.ShowFault.{ShowFault}
use Rattle.ntfs_print.specs.declared.fault.ShowFault.TheVariants as show
use Rattle.ntfs_owners.specs.declared.holding.Holding.{Holding}
use Rattle.ntfs_owners.specs.declared.held.Wanted.{Wanted}
use Rattle.ntfs_owners.specs.declared.held.Wanted.TheVariants as wanted
use Rattle.ntfs_survey.specs.Owned.{runs_in}
use Rattle.ntfs_survey.specs.Surveying.{shown_located}
use Rattle.ntfs_volume.specs.Located.{Located}
use Rattle.ntfs_volume.specs.References.{belongs}

-- the runs of an attribute from a VCN on, as they are spelled, and the text in front of a VCN in its lines
pub record Held : Type 0 where
  pub text : List ℕ
  pub lowest : ℕ
  pub runs : List Run

-- that text: the number of the record, and the attribute's type and name
unfoldable pub holder_text : ℕ → ℕ → List ℕ → List ℕ
holder_text r kind name = codes "record " ++ (decimal r ++ (codes " " ++ (kind_and_name kind name ++ codes " vcn ")))

-- ---- of the records and the runs that pass two tests, the first of a record's number and base reference

-- an attribute of record r, of this type and name, with these mapping pairs from a VCN on; wrong ones have no runs
unfoldable pub pairs_held : (List Run → Bool) → ℕ → ℕ → List ℕ → ℕ → List ℕ → List Held
pairs_held runs_pass r kind name lowest pairs =
    if runs_pass (runs_in pairs)
    then record { text = holder_text r kind name; lowest = lowest; runs = runs_in pairs } ∷ []
    else []

-- an attribute of record r; a resident one has no runs
unfoldable pub shown_held : (List Run → Bool) → ℕ → Shown → List Held
shown_held runs_pass r shown =
    if shown.body.is_resident then []
    else pairs_held runs_pass r shown.kind shown.name shown.body.lowest shown.body.pairs

-- the attributes of record r in their order
unfoldable pub all_shown_held : (List Run → Bool) → ℕ → List Shown → List Held
all_shown_held runs_pass r [] = []
all_shown_held runs_pass r (shown ∷ rest) = shown_held runs_pass r shown ++ all_shown_held runs_pass r rest

-- record r; one that isn't in use, or can't be read, has no attributes
unfoldable pub slot_held : (ℕ → ℕ → Bool) → (List Run → Bool) → ℕ → Slot (Located (Laid (List ℕ))) → List Held
slot_held passes runs_pass r s =
    if passes r s.head.base then all_shown_held runs_pass r (map shown_located s.attributes) else []

-- the records from number r on, ascending
unfoldable pub slots_held : (ℕ → ℕ → Bool) → (List Run → Bool) → ℕ → List (Slot (Located (Laid (List ℕ)))) → List Held
slots_held passes runs_pass r [] = []
slots_held passes runs_pass r (s ∷ ss) = slot_held passes runs_pass r s ++ slots_held passes runs_pass (suc r) ss

-- ---- what is wanted

-- so many clusters in a row have one from a cluster on, below another one; a hole has none
abbrev pub row_reaches : ℕ → ℕ → ℕ → Option ℕ → Bool
row_reaches from end count None = false
row_reaches from end count (Some first) = nat_lt first end && nat_lt from (first + count)

-- the run has such a cluster
unfoldable pub reaches : ℕ → ℕ → Run → Bool
reaches from end run = row_reaches from end run.length run.lcn

-- the record is wanted: for a file it is its base record, or has that as its base
abbrev pub wants_record : Wanted → ℕ → ℕ → Bool
wants_record (wanted.File number sequence) r base = belongs r base number sequence
wants_record (wanted.Range from end) r base = true

-- the runs are wanted: for a range of clusters one of them has a cluster in it
abbrev pub wants_runs : Wanted → List Run → Bool
wants_runs (wanted.File number sequence) runs = true
wants_runs (wanted.Range from end) runs = list_any (reaches from end) runs

-- what is kept of an attribute
abbrev pub held_of : Holding → Held
held_of holding = record { text = string_bytes holding.text; lowest = holding.lowest; runs = holding.runs }

-- a refusal that cuts a reading off: a read or want of memory
abbrev pub IsCut : ShowFault → Type 0
IsCut show.ReadFault = Unit {0}
IsCut show.NoMemory = Unit {0}
IsCut other = ⊥
