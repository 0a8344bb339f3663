-- The lines of a record's attributes, one after another, and what is printed of a record.
use Rattle.std.proofs.Common.{◌≡◌, ◌+◌, ◌==◌, ◌&&◌, ℕ, suc, Bool, true, false, List, [], ◌∷◌, ◌++◌, length, take, refl, sym, ap, subst, ◌∙◌, arith, append_assoc, Result, Ok, Err, Some, None, if◌then◌else◌}
use Rattle.std.specs.List.{flat_map, prefix_len}
use Rattle.std.proofs.lemmas.List.{append-nil}
use Rattle.ntfs_base.specs.Bytes.{cluster_at}
use Rattle.ntfs_base.specs.Frames.{Origin, PutsPrefix, refused_as}
use Rattle.ntfs_base.specs.Sink.{SinkState}
use Rattle.ntfs_base.specs.declared.fault.PutFault.{PutFault}
use Rattle.ntfs_base.specs.declared.fault.PutFault.TheVariants as put
use Rattle.ntfs_base.specs.declared.refusal.Rule.TheVariants as rule
use Rattle.ntfs_record.specs.FileRecord.{FileRecord}
use Rattle.ntfs_record.specs.Parsing.{parse_of}
use Rattle.ntfs_record.specs.Views.{Shown}
use Rattle.ntfs_record.specs.declared.fault.RecordFault.{RecordFault}
use Rattle.ntfs_runs.specs.Cells.{are_cells, cells_below}
use Rattle.ntfs_runs.specs.Clusters.{vcns}
use Rattle.ntfs_runs.specs.Reading.{reading}
use Rattle.ntfs_runs.specs.declared.run.Run.{Run}
use Rattle.ntfs_runs.proofs.CellsLemmas.{cells_of-right, cells_of-wrong}
use Rattle.ntfs_survey.specs.Owned.{runs_in}
use Rattle.ntfs_survey.specs.Surveying.{spells_cells}
use Rattle.ntfs_volume.specs.Opened.{Opened}
use Rattle.ntfs_volume.specs.Records.{read_of}
use Rattle.ntfs_print.specs.Fault.{show_fault}
use Rattle.ntfs_print.specs.Label.{kind_and_name}
use Rattle.ntfs_print.specs.Pending.{IsPrinted, Pushes}
use Rattle.ntfs_print.specs.Printing.{Printing, Prints, stops}
use Rattle.ntfs_show.specs.RecordInfo.{IsInterrupted, IsRecordRefusal, all_keep_cells, attribute_line, attribute_lines, block_printing, body_text, file_printing, has_right_cells, head_lines, line_if_right, record_printing, record_refusal, shown_attributes}
use Rattle.ntfs_print.specs.declared.fault.ShowFault.{ShowFault}
use Rattle.ntfs_print.specs.declared.fault.ShowFault.TheVariants as show
use Rattle.ntfs_print.proofs.PendingLemmas.{pushes-none}

-- ---- mapping pairs

pub spells-right : (n count : ℕ) (pairs : List ℕ) (runs : List Run) → (reading pairs).is_right ≡ true → runs ≡ (reading pairs).runs
    → spells_cells n count pairs ≡ (are_cells true n (vcns runs) && (length (vcns runs) == count))
unfolding cells_below
spells-right n count pairs runs right are = let cells = cells_of-right pairs runs right are in rw (cells.0, cells.1) refl

pub spells-wrong : (n count : ℕ) (pairs : List ℕ) → (reading pairs).is_right ≡ false → spells_cells n count pairs ≡ false
unfolding cells_below
spells-wrong n count pairs wrong = rw (cells_of-wrong pairs wrong) refl

pub count-spelled : (pairs : List ℕ) (runs : List Run) → (reading pairs).is_right ≡ true → runs ≡ (reading pairs).runs → length runs ≡ length (runs_in pairs)
count-spelled pairs runs right are = ap length (are ∙ sym (step (reading pairs).is_right (reading pairs).runs right))
  where
    step : (right : Bool) (runs : List Run) → right ≡ true → (if right then runs else []) ≡ runs
    step true runs is = refl
    step false runs is = absurd cc

-- ---- attributes

-- what follows the line of an attribute
abbrev pub lines_behind : ℕ → Shown → List Shown → List ℕ
lines_behind n x rest = if has_right_cells n x then attribute_lines n rest else []

lines-step : (n : ℕ) (x : Shown) (rest : List Shown) → attribute_lines n (x ∷ rest) ≡ line_if_right n x ++ lines_behind n x rest
unfolding attribute_lines
lines-step n x rest = by-right (has_right_cells n x) refl
  where
    one-more : 1 + prefix_len (has_right_cells n) rest ≡ suc (prefix_len (has_right_cells n) rest)
    one-more = omega arith

    by-right : (right : Bool) → has_right_cells n x ≡ right → attribute_lines n (x ∷ rest) ≡ line_if_right n x ++ lines_behind n x rest
    by-right true is = rw is (ap (λ k. flat_map attribute_line (take k (x ∷ rest))) one-more)
    by-right false is = rw is refl

-- so far and this line, and then what follows it
pub left-cut : (n : ℕ) (left rest : List Shown) (x : Shown) (printed all : List ℕ) → left ≡ x ∷ rest → printed ++ attribute_lines n left ≡ all
    → all ≡ (printed ++ line_if_right n x) ++ lines_behind n x rest
left-cut n left rest x printed all is same =
    sym same ∙ ap (λ xs. printed ++ attribute_lines n xs) is ∙ ap (λ ys. printed ++ ys) (lines-step n x rest)
    ∙ sym (append_assoc printed (line_if_right n x) (lines_behind n x rest))

behind-right : (n : ℕ) (x : Shown) (rest : List Shown) → has_right_cells n x ≡ true → lines_behind n x rest ≡ attribute_lines n rest
behind-right n x rest is = rw is refl

behind-wrong : (n : ℕ) (x : Shown) (rest : List Shown) → has_right_cells n x ≡ false → lines_behind n x rest ≡ []
behind-wrong n x rest is = rw is refl

pub left-next : (n : ℕ) (left rest : List Shown) (x : Shown) (printed all : List ℕ) → left ≡ x ∷ rest → has_right_cells n x ≡ true → printed ++ attribute_lines n left ≡ all
    → (printed ++ line_if_right n x) ++ attribute_lines n rest ≡ all
left-next n left rest x printed all is right same =
    ap (λ ys. (printed ++ line_if_right n x) ++ ys) (sym (behind-right n x rest right)) ∙ sym (left-cut n left rest x printed all is same)

pub left-stop : (n : ℕ) (left rest : List Shown) (x : Shown) (printed all : List ℕ) → left ≡ x ∷ rest → has_right_cells n x ≡ false → printed ++ attribute_lines n left ≡ all
    → printed ++ line_if_right n x ≡ all
left-stop n left rest x printed all is wrong same =
    sym (append-nil (printed ++ line_if_right n x)) ∙ ap (λ ys. (printed ++ line_if_right n x) ++ ys) (sym (behind-wrong n x rest wrong))
    ∙ sym (left-cut n left rest x printed all is same)

pub left-end : (n : ℕ) (left : List Shown) (printed all : List ℕ) → left ≡ [] → printed ++ attribute_lines n left ≡ all → printed ≡ all
unfolding attribute_lines
left-end n left printed all is same = sym (append-nil printed) ∙ ap (λ xs. printed ++ attribute_lines n xs) (sym is) ∙ same

keep-step : (n : ℕ) (x : Shown) (rest : List Shown) → all_keep_cells n (x ∷ rest) ≡ (has_right_cells n x && all_keep_cells n rest)
unfolding all_keep_cells
keep-step n x rest = refl

keep-by : (n : ℕ) (left rest : List Shown) (x : Shown) (right all : Bool) → left ≡ x ∷ rest → has_right_cells n x ≡ right → all_keep_cells n left ≡ all → (right && all_keep_cells n rest) ≡ all
keep-by n left rest x right all is known same =
    ap (λ b. b && all_keep_cells n rest) (sym known) ∙ sym (keep-step n x rest) ∙ ap (all_keep_cells n) (sym is) ∙ same

pub keep-next : (n : ℕ) (left rest : List Shown) (x : Shown) (all : Bool) → left ≡ x ∷ rest → has_right_cells n x ≡ true → all_keep_cells n left ≡ all → all_keep_cells n rest ≡ all
keep-next n left rest x all is right same = keep-by n left rest x true all is right same

pub keep-stop : (n : ℕ) (left rest : List Shown) (x : Shown) (all : Bool) → left ≡ x ∷ rest → has_right_cells n x ≡ false → all_keep_cells n left ≡ all → false ≡ all
keep-stop n left rest x all is wrong same = keep-by n left rest x false all is wrong same

keep-none : (n : ℕ) → all_keep_cells n [] ≡ true
unfolding all_keep_cells
keep-none n = refl

pub keep-end : (n : ℕ) (left : List Shown) (all : Bool) → left ≡ [] → all_keep_cells n left ≡ all → true ≡ all
keep-end n left all is same = sym (keep-none n) ∙ ap (all_keep_cells n) (sym is) ∙ same

-- ---- calls that print

pub pushes-passed : {T U D E : Type 0} (a b waiting held : List ℕ) (before after : SinkState) (x : T) (y : U) → a ≡ b → Pushes {E = D} a waiting before (Ok x) held after
    → Pushes {E = E} b waiting before (Ok y) held after
pushes-passed a b waiting held before after x y is pushed =
    record { whole = subst (λ xs. IsPrinted (waiting ++ xs) before held after) is pushed.whole; part = tt }

pub pushes-failed : {T U D E : Type 0} (a b waiting held kept : List ℕ) (before after : SinkState) (d : D) (e : E) → a ≡ b → Pushes {T = T} a waiting before (Err d) held after
    → Pushes {T = U} b waiting before (Err e) kept after
pushes-failed a b waiting held kept before after d e is pushed =
    record { whole = tt; part = subst (λ xs. PutsPrefix (waiting ++ xs) before after) is pushed.part }

pub both-same : (a b c d : List ℕ) → a ≡ c → b ≡ d → a ++ b ≡ c ++ d
both-same a b c d one two = ap (λ xs. xs ++ b) one ∙ ap (λ ys. c ++ ys) two

-- the line of an attribute, and nothing where its pairs aren't right
pub line-right : (n : ℕ) (x : Shown) (text : List ℕ) → has_right_cells n x ≡ true → text ≡ body_text x.body → kind_and_name x.kind x.name ++ text ≡ line_if_right n x
unfolding attribute_line
line-right n x text is same = rw is (ap (λ t. kind_and_name x.kind x.name ++ t) same)

pub pushes-wrong : (n : ℕ) (x : Shown) (waiting : List ℕ) (sink : SinkState) → has_right_cells n x ≡ false → Pushes {E = ShowFault} (line_if_right n x) waiting sink (Ok false) waiting sink
pushes-wrong n x waiting sink is = rw is (pushes-none waiting sink false)

pub prints-by : {E : Type 0} (origin : E → Origin) (a b : Printing E) (old : SinkState) (result : Result (Unit {0}) E) (new : SinkState) → a ≡ b → Prints origin b old result new
    → Prints origin a old result new
prints-by {E = E} origin a b old result new is = subst (λ (e : Printing E). Prints origin e old result new) (sym is)

-- the first text
pub printed-first : (waiting text head held : List ℕ) (old new : SinkState) → waiting ≡ [] → text ≡ head → IsPrinted (waiting ++ text) old held new → IsPrinted head old held new
printed-first waiting text head held old new none is = subst (λ xs. IsPrinted xs old held new) (ap (λ xs. xs ++ text) none ∙ is)

-- ---- refusals

-- one of the sink, in the words of a printing call
pub put-cut : (fault : PutFault) → IsInterrupted (show_fault fault)
put-cut put.Failed = λ settled. absurd settled
put-cut put.NoMemory = λ settled. absurd settled

-- what cuts a printing off is listed
pub cut-listed : (r : ℕ) (fault : ShowFault) → IsInterrupted fault → IsRecordRefusal r fault
cut-listed r (show.NotFound what) cut = absurd (cut tt)
cut-listed r (show.NotPlain flags) cut = absurd (cut tt)
cut-listed r (show.Damaged broken number) cut = absurd (cut tt)
cut-listed r show.ReadFault cut = tt
cut-listed r show.WriteFault cut = tt
cut-listed r show.NoMemory cut = tt

-- ---- a record

pub file-output : (n r : ℕ) (file : FileRecord) → (file_printing n r file).output ≡ head_lines r file ++ attribute_lines n (shown_attributes file)
unfolding file_printing
file-output n r file = refl

pub file-right : (n r : ℕ) (file : FileRecord) → all_keep_cells n (shown_attributes file) ≡ true → (file_printing n r file).fault ≡ None
unfolding file_printing
file-right n r file is = rw is refl

pub file-wrong : (n r : ℕ) (file : FileRecord) → all_keep_cells n (shown_attributes file) ≡ false → (file_printing n r file).fault ≡ Some (show.Damaged rule.C7 r)
unfolding file_printing
file-wrong n r file is = rw is refl

pub block-refused : (n r : ℕ) (block : List ℕ) (fault : RecordFault) → parse_of block ≡ Err fault → block_printing n r block ≡ stops (show.Damaged rule.C4 r)
unfolding block_printing
block-refused n r block fault is = rw is refl

pub block-parsed : (n r : ℕ) (block : List ℕ) (file : FileRecord) → parse_of block ≡ Ok file → block_printing n r block ≡ file_printing n r file
unfolding block_printing
block-parsed n r block file is = rw is refl

pub record-refused : (o : Opened) (image : List ℕ) (r : ℕ) (fault : ShowFault)
    → refused_as (record_refusal r) (read_of o.geometry o.map (cluster_at image o.geometry.cluster) r) ≡ Err fault → record_printing o image r ≡ stops fault
unfolding record_printing
record-refused o image r fault is = rw is refl

pub record-read : (o : Opened) (image : List ℕ) (r : ℕ) (block : List ℕ)
    → refused_as (record_refusal r) (read_of o.geometry o.map (cluster_at image o.geometry.cluster) r) ≡ Ok block → record_printing o image r ≡ block_printing o.geometry.clusters r block
unfolding record_printing
record-read o image r block is = rw is refl
