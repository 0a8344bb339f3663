-- The directory of a path, and the end of a listing.
use Rattle.std.proofs.Common.{◌≡◌, ℕ, List, [], ◌++◌, Some, None, Result, Ok, Err, refl, sym, ap, ◌∙◌, append_assoc}
use Rattle.std.proofs.lemmas.List.{append-nil}
use Rattle.ntfs_base.specs.Frames.{IsSettled, PutsPrefix}
use Rattle.ntfs_base.specs.Sink.{SinkState, after_put}
use Rattle.ntfs_base.proofs.SinkLemmas.{after_put-append}
use Rattle.ntfs_directory.specs.Paths.{directory_at, path_origin}
use Rattle.ntfs_directory.specs.declared.path_fault.PathFault.{PathFault}
use Rattle.ntfs_directory.specs.declared.path_fault.PathFault.TheVariants as path
use Rattle.ntfs_volume.specs.Opened.{Opened}
use Rattle.ntfs_print.specs.Fault.{show_origin}
use Rattle.ntfs_show.specs.ListPath.{list_found, list_outcome}
use Rattle.ntfs_print.specs.Fault.{path_refusal}
use Rattle.ntfs_show.specs.Listing.{list_of}
use Rattle.ntfs_print.specs.Printing.{Printing, Prints, before, end_of, prints, stops}
use Rattle.ntfs_show.specs.Progress.{Goes, ListsOrStops, Stops}
use Rattle.ntfs_print.specs.declared.fault.ShowFault.{ShowFault}
use Rattle.ntfs_show.specs.declared.list_options.ListOptions.{ListOptions}
use Rattle.ntfs_print.proofs.PendingLemmas.{prefix-behind, prefix-more, prefix-whole}

-- ---- the path

-- a refusal that didn't cut the work off didn't as one of a path
pub path-settled : (fault : PathFault) → IsSettled (show_origin (path_refusal fault)) → IsSettled (path_origin fault)
path-settled (path.NotFound what) settled = settled
path-settled (path.Damaged rule number) settled = settled
path-settled path.ReadFault settled = settled
path-settled path.NoMemory settled = settled

module _ (o : ListOptions) (v : Opened) (image text : List ℕ) where
  pub path-found : (start : ℕ) → directory_at v.geometry v.map image text ≡ Ok start
      → list_outcome o v image text ≡ list_of o v image start
  unfolding list_outcome
  path-found start is = ap (list_found o v image) is

  pub path-refused : (fault : PathFault) → directory_at v.geometry v.map image text ≡ Err fault
      → list_outcome o v image text ≡ stops (path_refusal fault)
  unfolding list_outcome
  path-refused fault is = ap (list_found o v image) is

-- ---- the end: what waits is put

module _ (expected : Printing ShowFault) (front waiting : List ℕ) (was now after : SinkState)
    (put : now ≡ after_put front was) where
  all-put : after ≡ after_put waiting now → after ≡ after_put (front ++ waiting) was
  all-put rest = rest ∙ ap (after_put waiting) put ∙ sym (after_put-append front waiting was)

  pub list-ended : expected ≡ before front (before waiting (prints [])) → after ≡ after_put waiting now
      → Prints show_origin expected was (Ok tt) after
  list-ended is rest =
      let text : expected.output ≡ front ++ waiting =
      ap (λ (p : Printing ShowFault). p.output) is ∙ ap (λ (bytes : List ℕ). front ++ bytes) (append-nil waiting) in
      let all : after ≡ after_put expected.output was =
      all-put rest ∙ ap (λ (bytes : List ℕ). after_put bytes was) (sym text) in
      record {
        answer = λ settled. sym (ap (λ (p : Printing ShowFault). end_of p.fault) is);
        output = λ settled. all;
        prefix = prefix-whole expected.output was after all;
      }

  -- it was refused
  pub list-stopped : (fault : ShowFault)
      → (IsSettled (show_origin fault) → expected ≡ before (front ++ waiting) (stops fault))
      → (rest : List ℕ) × (expected.output ≡ (front ++ waiting) ++ rest) → after ≡ after_put waiting now
      → Prints show_origin expected was (Err fault) after
  list-stopped fault ends cut rest = record {
    answer = λ settled. sym (ap (λ (p : Printing ShowFault). end_of p.fault) (ends settled));
    output = λ settled. all-put rest ∙ ap (λ (bytes : List ℕ). after_put bytes was)
        (sym (ap (λ (p : Printing ShowFault). p.output) (ends settled) ∙ append-nil (front ++ waiting)));
    prefix = prefix-more expected.output (front ++ waiting) cut.0 was after cut.1
        (prefix-whole (front ++ waiting) was after (all-put rest));
  }

  -- the last lines were cut off
  pub list-cut : (fault : ShowFault) → (IsSettled (show_origin fault) → ⊥)
      → (rest : List ℕ) × (expected.output ≡ (front ++ waiting) ++ rest) → PutsPrefix waiting now after
      → Prints show_origin expected was (Err fault) after
  list-cut fault never cut part = record {
    answer = λ settled. absurd (never settled);
    output = λ settled. absurd (never settled);
    prefix = prefix-more expected.output (front ++ waiting) cut.0 was after cut.1
        (prefix-behind (front ++ waiting) front waiting was now after refl put part);
  }

-- by how the listing went, where nothing waited before
pub list-put : (told : Type 0) (expected : Printing ShowFault) (result : Result (Unit {0}) ShowFault)
    (waiting : List ℕ) (was now after : SinkState) → told
    → ListsOrStops {I = Unit {0}} told (λ all. before [] expected) was result (λ done all. before waiting (prints [])) waiting now
    → after ≡ after_put waiting now → Prints show_origin expected was result after
list-put told expected (Ok done) waiting was now after is goes rest =
    list-ended expected goes.front waiting was now after goes.put (goes.rest is tt) rest
list-put told expected (Err fault) waiting was now after is stops rest =
    list-stopped expected stops.front waiting was now after stops.put fault (λ settled. stops.end is settled tt)
    (stops.cut is tt) rest

pub list-unput : (told : Type 0) (expected : Printing ShowFault) (result : Result (Unit {0}) ShowFault)
    (waiting : List ℕ) (was now after : SinkState) (fault : ShowFault) → told
    → ListsOrStops {I = Unit {0}} told (λ all. before [] expected) was result (λ done all. before waiting (prints [])) waiting now
    → (IsSettled (show_origin fault) → ⊥) → PutsPrefix waiting now after
    → Prints show_origin expected was (Err fault) after
list-unput told expected (Ok done) waiting was now after fault is goes never part =
    list-cut expected goes.front waiting was now after goes.put fault never
    ([], ap (λ (p : Printing ShowFault). p.output) (goes.rest is tt) ∙ sym (append_assoc goes.front waiting [])) part
list-unput told expected (Err other) waiting was now after fault is stops never part =
    list-cut expected stops.front waiting was now after stops.put fault never (stops.cut is tt) part
