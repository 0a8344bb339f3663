-- $MFT's map, step by step.
use Rattle.std.proofs.Common.{◌≡◌, ◌≤◌, ◌<◌, ◌+◌, ◌*◌, ◌==◌, ◌&&◌, ◌++◌, ℕ, List, [], ◌∷◌, length, map, take, min, refl, sym, ap, ◌∙◌, subst, arith, length-append, Bool, true, false, Option, Some, None, Result, Ok, Err, if◌then◌else◌}
use Rattle.std.specs.Prelude.{find}
use Rattle.std.specs.Option.{option_map}
use Rattle.ntfs_base.specs.Bytes.{cluster_at, raw_of, stream}
use Rattle.ntfs_base.specs.Frames.{◌>>=◌}
use Rattle.ntfs_boot.specs.Geometry.{bytes_of_clusters}
use Rattle.ntfs_boot.specs.declared.geometry.Geometry.{Geometry}
use Rattle.ntfs_runs.specs.Cells.{are_cells}
use Rattle.ntfs_runs.specs.Clusters.{AreWithin, vcns}
use Rattle.ntfs_runs.specs.Reading.{reading}
use Rattle.ntfs_runs.specs.declared.run.Run.{Run}
use Rattle.ntfs_runs.proofs.CellsLemmas.{are_cells-append, cells_of-right, cells_of-wrong, vcns-append}
use Rattle.std.proofs.lemmas.List.{places, same_lists}
use Rattle.ntfs_attrlist.specs.Entry.{Listed}
use Rattle.ntfs_record.specs.FileRecord.{Attribute, FileRecord, attributes_of}
use Rattle.ntfs_record.specs.Views.{Shown}
use Rattle.ntfs_volume.specs.Known.{IsKnown, behind_known, extended_clusters, joined_clusters, known_clusters}
use Rattle.ntfs_volume.specs.MftMap.{extension_of, extent_in, extent_of_entry, is_named, live_record, no_map, table_clusters}
use Rattle.ntfs_volume.specs.References.{has_base, target}
use Rattle.ntfs_volume.specs.Views.{is_wanted, told}
use Rattle.ntfs_volume.specs.declared.wanted.Wanted.TheVariants as wanted
use Rattle.ntfs_volume.proofs.ListLemmas.{find-map, found-none, found-some}
use Rattle.ntfs_volume.specs.Opened.{AreTableRuns}
use Rattle.ntfs_volume.specs.StreamBytes.{clusters_in}
use Rattle.ntfs_volume.specs.declared.fault.VolumeFault.{VolumeFault}
use Rattle.ntfs_volume.specs.declared.known.Known.{Known}
use Rattle.ntfs_volume.proofs.AnswerLemmas.{given}
use Rattle.ntfs_volume.proofs.PieceLemmas.{clusters-long, length-cells}
use Rattle.ntfs_volume.proofs.TableLemmas.{holes-too, length-clusters, table-bytes}

-- ---- the clusters of one extent

pub joined-wrong : (before : List ℕ) (n r : ℕ) (pairs : List ℕ) → (reading pairs).is_right ≡ false → joined_clusters before n r pairs ≡ Err (no_map r)
unfolding table_clusters
joined-wrong before n r pairs wrong = rw (cells_of-wrong pairs wrong) refl

pub joined-right : (before : List ℕ) (n r : ℕ) (pairs : List ℕ) (runs : List Run) (below : Bool) → (reading pairs).is_right ≡ true → runs ≡ (reading pairs).runs → are_cells false n (vcns runs) ≡ below
    → joined_clusters before n r pairs ≡ (if below then Ok (before ++ clusters_in (vcns runs)) else Err (no_map r))
unfolding table_clusters
joined-right before n r pairs runs true right read is =
    let cells = cells_of-right pairs runs right read in
    rw (cells.0, ap (are_cells false n) cells.1 ∙ is) (ap (λ xs. Ok (before ++ clusters_in xs)) cells.1)
joined-right before n r pairs runs false right read is =
    let cells = cells_of-right pairs runs right read in
    rw (cells.0, ap (are_cells false n) cells.1 ∙ is) refl

pub clusters-append : (xs ys : List (Option ℕ)) → clusters_in (xs ++ ys) ≡ clusters_in xs ++ clusters_in ys
unfolding clusters_in
clusters-append [] ys = refl
clusters-append (None ∷ xs) ys = clusters-append xs ys
clusters-append (Some k ∷ xs) ys = ap (λ ks. k ∷ ks) (clusters-append xs ys)

pub known-append : (front rest : List Run) → clusters_in (vcns (front ++ rest)) ≡ clusters_in (vcns front) ++ clusters_in (vcns rest)
known-append front rest = ap clusters_in (vcns-append front rest) ∙ clusters-append (vcns front) (vcns rest)

within_append : (front rest : List Run) → AreWithin front → AreWithin rest → AreWithin (front ++ rest)
within_append [] rest first second = second
within_append (run ∷ front) rest first second = (first.0, within_append front rest first.1 second)

both_true : (a b : Bool) → a ≡ true → b ≡ true → (a && b) ≡ true
both_true a b first second = rw (first, second) refl

pub table-append : (n : ℕ) (front rest : List Run) → AreTableRuns n front → are_cells false n (vcns rest) ≡ true → AreWithin rest → AreTableRuns n (front ++ rest)
table-append n front rest table cells within = record {
  cells = ap (are_cells false n) (vcns-append front rest) ∙ are_cells-append false n (vcns front) (vcns rest) ∙ both_true (are_cells false n (vcns front)) (are_cells false n (vcns rest)) table.cells cells;
  within = within_append front rest table.within within;
}

pub count-append : (front rest : List Run) → length (vcns (front ++ rest)) ≡ length (vcns front) + length (vcns rest)
count-append front rest = ap length (vcns-append front rest) ∙ length-append (vcns front) (vcns rest)

-- ---- the extent that an entry names

named_found : (entry : Listed) (holder : FileRecord) → find (is_wanted (wanted.Extent entry.lowest entry.instance)) (map told (attributes_of holder))
    ≡ option_map told (find (λ (a : Attribute _). is_named entry a.face) (attributes_of holder))
named_found entry holder = find-map told (is_wanted (wanted.Extent entry.lowest entry.instance)) (λ a. is_named entry a.face) (λ a. refl) (attributes_of holder)

pub extent-none : (n : ℕ) (entry : Listed) (holder : FileRecord) → None ≡ find (is_wanted (wanted.Extent entry.lowest entry.instance)) (map told (attributes_of holder))
    → extent_in n entry holder ≡ Err (no_map 0)
unfolding extent_in
extent-none n entry holder is = rw (found-none (find (λ (a : Attribute _). is_named entry a.face) (attributes_of holder)) (is ∙ named_found entry holder)) refl

pub extent-resident : (n : ℕ) (entry : Listed) (holder : FileRecord) (s : Shown) → Some s ≡ find (is_wanted (wanted.Extent entry.lowest entry.instance)) (map told (attributes_of holder))
    → s.body.is_resident ≡ true → extent_in n entry holder ≡ Err (no_map 0)
unfolding extent_in
extent-resident n entry holder s is resident =
    let found = found-some (find (λ (a : Attribute _). is_named entry a.face) (attributes_of holder)) s (is ∙ named_found entry holder) in
    rw (found.1, ap (λ (t : Shown). t.body.is_resident) found.2 ∙ resident) refl

pub extent-runs : (n : ℕ) (entry : Listed) (holder : FileRecord) (s : Shown) (pairs : List ℕ) → Some s ≡ find (is_wanted (wanted.Extent entry.lowest entry.instance)) (map told (attributes_of holder))
    → s.body.is_resident ≡ false → s.body.pairs ≡ pairs → extent_in n entry holder ≡ table_clusters n (target entry.reference) pairs
unfolding extent_in
extent-runs n entry holder s pairs is resident same =
    let found = found-some (find (λ (a : Attribute _). is_named entry a.face) (attributes_of holder)) s (is ∙ named_found entry holder) in
    rw (found.1, ap (λ (t : Shown). t.body.is_resident) found.2 ∙ resident, ap (λ (t : Shown). t.body.pairs) found.2 ∙ same) refl

-- ---- the extent of an extension record

pub extended-missing : (g : Geometry) (f : ℕ → List ℕ) (valid : ℕ) (first : FileRecord) (known : List ℕ) (entry : Listed) → raw_of g.record_size (take valid (stream f known)) (target entry.reference) ≡ None
    → extended_clusters g f valid first known entry ≡ Err (no_map 0)
unfolding extended_clusters extension_of
extended-missing g f valid first known entry is = rw is refl

pub extended-dead : (g : Geometry) (f : ℕ → List ℕ) (valid : ℕ) (first : FileRecord) (known : List ℕ) (entry : Listed) (raw : List ℕ) → raw_of g.record_size (take valid (stream f known)) (target entry.reference) ≡ Some raw
    → live_record raw ≡ None → extended_clusters g f valid first known entry ≡ Err (no_map 0)
unfolding extended_clusters extension_of
extended-dead g f valid first known entry raw is dead = rw (is, dead) refl

pub extended-other : (g : Geometry) (f : ℕ → List ℕ) (valid : ℕ) (first : FileRecord) (known : List ℕ) (entry : Listed) (raw : List ℕ) (said : FileRecord) → raw_of g.record_size (take valid (stream f known)) (target entry.reference) ≡ Some raw
    → live_record raw ≡ Some said → has_base said.head.base 0 first.head.sequence ≡ false → extended_clusters g f valid first known entry ≡ Err (no_map 0)
unfolding extended_clusters extension_of
extended-other g f valid first known entry raw said is live base = rw (is, live, base) refl

pub extended-own : (g : Geometry) (f : ℕ → List ℕ) (valid : ℕ) (first : FileRecord) (known : List ℕ) (entry : Listed) (raw : List ℕ) (said : FileRecord) → raw_of g.record_size (take valid (stream f known)) (target entry.reference) ≡ Some raw
    → live_record raw ≡ Some said → has_base said.head.base 0 first.head.sequence ≡ true → extended_clusters g f valid first known entry ≡ behind_known known (extent_in g.clusters entry said)
unfolding extended_clusters extension_of
extended-own g f valid first known entry raw said is live base = rw (is, live, base) refl

-- the initialised part of what is known
pub known-part : (f : ℕ → List ℕ) (c count bytes valid : ℕ) (known : List ℕ) → length (stream f known) ≡ count * c → bytes ≡ min (min (count * c) 18446744073709551615) valid → valid < 18446744073709551616
    → take bytes (stream f known) ≡ take valid (stream f known)
known-part f c count bytes valid known long is small = same_lists _ _ (grind (arith, places)) (λ k d h. grind (arith, places))

-- what was read of the record of a number, in the initialised part of what is known
pub known-raw : (content : List ℕ) (size : ℕ) (g : Geometry) (known : Known) (shown : List Run) (all bytes valid number r : ℕ) (there : Bool) (block : List ℕ)
    → length content ≡ size → bytes_of_clusters g ≤ size → IsKnown g.clusters known → shown ≡ known.runs
    → all ≡ min (known.count * g.cluster) 18446744073709551615 → bytes ≡ min all valid → valid < 18446744073709551616 → number ≡ r
    → ◌≡◌ {A = Result (Option (List ℕ)) VolumeFault} (Ok (raw_of g.record_size (take bytes (stream (cluster_at content g.cluster) (clusters_in (vcns shown)))) number)) (Ok (if there then Some block else None))
    → raw_of g.record_size (take valid (stream (cluster_at content g.cluster) (known_clusters known))) r ≡ (if there then Some block else None)
known-raw content size g known shown all bytes valid number r there block told held is same first part small place read =
    let f = cluster_at content g.cluster in
    let cells = vcns known.runs in
    let room : bytes_of_clusters g ≤ length content = subst (λ (n : ℕ). bytes_of_clusters g ≤ n) (sym told) held in
    let count = length-cells f true g.cluster g.clusters cells (clusters-long content g.cluster g.clusters room) (holes-too g.clusters cells is.table.cells) in
    let long : length (stream f (known_clusters known)) ≡ known.count * g.cluster
    = sym (ap length (table-bytes f g.cluster g.clusters cells is.table.cells)) ∙ count ∙ ap (λ n. n * g.cluster) (sym is.counted) in
    let whole = known-part f g.cluster known.count bytes valid (known_clusters known) long (part ∙ ap (λ n. min n valid) first) small in
    ap (λ xs. raw_of g.record_size xs r) (sym whole)
    ∙ ap (raw_of g.record_size (take bytes (stream f (known_clusters known)))) (sym place)
    ∙ ap (λ rs. raw_of g.record_size (take bytes (stream f (clusters_in (vcns rs)))) number) (sym same)
    ∙ sym (given _ _ read)

-- how many clusters are known
pub known-count : (n : ℕ) (known : Known) → IsKnown n known → length (known_clusters known) ≡ known.count
known-count n known is = length-clusters n (vcns known.runs) is.table.cells ∙ sym is.counted

-- ---- the extent of an entry

pub entry-gap : (g : Geometry) (f : ℕ → List ℕ) (valid : ℕ) (first : FileRecord) (known : List ℕ) (entry : Listed) → (entry.lowest == length known) ≡ false → extent_of_entry g f valid first known entry ≡ Err (no_map 0)
unfolding extent_of_entry
entry-gap g f valid first known entry is = rw is refl

pub entry-own : (g : Geometry) (f : ℕ → List ℕ) (valid : ℕ) (first : FileRecord) (known : List ℕ) (entry : Listed) → (entry.lowest == length known) ≡ true → (target entry.reference == 0) ≡ true
    → extent_of_entry g f valid first known entry ≡ extent_in g.clusters entry first
unfolding extent_of_entry
entry-own g f valid first known entry is own = rw (is, own) refl

behind_chain : (known : List ℕ) (r : Result FileRecord VolumeFault) (k : FileRecord → Result (List ℕ) VolumeFault) → behind_known known (r >>= k) ≡ (r >>= (λ holder. behind_known known (k holder)))
behind_chain known (Ok holder) k = refl
behind_chain known (Err fault) k = refl

pub entry-extension : (g : Geometry) (f : ℕ → List ℕ) (valid : ℕ) (first : FileRecord) (known : List ℕ) (entry : Listed) → (entry.lowest == length known) ≡ true → (target entry.reference == 0) ≡ false
    → behind_known known (extent_of_entry g f valid first known entry) ≡ extended_clusters g f valid first known entry
unfolding extent_of_entry extended_clusters
entry-extension g f valid first known entry is own = rw (is, own) (behind_chain known (extension_of g f valid first known (target entry.reference)) (extent_in g.clusters entry))
