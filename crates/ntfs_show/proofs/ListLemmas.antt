-- A listing on its way: how steps follow one another, and what a call that prints does to it.
use Rattle.std.proofs.Common.{◌≡◌, ◌≤◌, ℕ, List, [], ◌++◌, length, take, drop, Result, Ok, Err, refl, sym, ap, ◌∙◌, append_assoc}
use Rattle.std.proofs.lemmas.List.{append-nil, take-append-drop}
use Rattle.ntfs_base.specs.Frames.{IsSettled, PutsPrefix}
use Rattle.ntfs_base.specs.Sink.{SinkState, after_put}
use Rattle.ntfs_base.specs.declared.fault.PutFault.{PutFault}
use Rattle.ntfs_base.specs.declared.fault.PutFault.TheVariants as put
use Rattle.ntfs_base.proofs.SinkLemmas.{after_put-append, after_put-nil}
use Rattle.ntfs_print.specs.Fault.{show_fault, show_origin}
use Rattle.ntfs_show.specs.Progress.{Goes, ListsOrStops, Stops}
use Rattle.ntfs_print.specs.Pending.{IsPrinted}
use Rattle.ntfs_print.specs.Printing.{Printing, before, stops}
use Rattle.ntfs_print.specs.declared.fault.ShowFault.{ShowFault}

-- ---- bytes before a printing

pub before-append : (a b : List ℕ) (p : Printing ShowFault) → before a (before b p) ≡ before (a ++ b) p
before-append a b p =
    ap (λ (bytes : List ℕ). let q : Printing ShowFault = record { output = bytes; fault = p.fault } in q)
    (sym (append_assoc a b p.output))

pub before-same : (a b c d : List ℕ) (p : Printing ShowFault) → a ++ b ≡ c ++ d
    → before a (before b p) ≡ before c (before d p)
before-same a b c d p same =
    before-append a b p ∙ ap (λ bytes. before bytes p) same ∙ sym (before-append c d p)

-- ---- steps

module _ {I : Type 0} (told : Type 0) where
  -- nothing was put, and as much is left
  pub goes-none : (old new : I → Printing ShowFault) (was : SinkState) → (told → (i : I) → old i ≡ new i)
      → Goes told old new was was
  goes-none old new was same =
      record { front = []; put = sym (after_put-nil was); rest = λ is i. same is i }

  pub goes-then : (old mid new : I → Printing ShowFault) (was now after : SinkState) → Goes told old mid was now
      → Goes told mid new now after → Goes told old new was after
  goes-then old mid new was now after first next = record {
    front = first.front ++ next.front;
    put = next.put ∙ ap (after_put next.front) first.put ∙ sym (after_put-append first.front next.front was);
    rest = λ is i. first.rest is i ∙ ap (before first.front) (next.rest is i)
        ∙ before-append first.front next.front (new i);
  }

  pub stops-then : (old mid : I → Printing ShowFault) (fault : ShowFault) (was now : SinkState) (waiting : List ℕ)
      (after : SinkState) → Goes told old mid was now → Stops told mid fault now waiting after
      → Stops told old fault was waiting after
  stops-then old mid fault was now waiting after first next = record {
    front = first.front ++ next.front;
    put = next.put ∙ ap (after_put next.front) first.put ∙ sym (after_put-append first.front next.front was);
    cut = λ is i. (
      (next.cut is i).0,
      ap (λ p. p.output) (first.rest is i) ∙ ap (λ bytes. first.front ++ bytes) (next.cut is i).1
          ∙ sym (append_assoc first.front (next.front ++ waiting) (next.cut is i).0)
          ∙ ap (λ bytes. bytes ++ (next.cut is i).0) (sym (append_assoc first.front next.front waiting)),
    );
    end = λ is settled i. first.rest is i ∙ ap (before first.front) (next.end is settled i)
        ∙ before-append first.front (next.front ++ waiting) (stops fault)
        ∙ ap (λ bytes. before bytes (stops fault)) (sym (append_assoc first.front next.front waiting));
  }

  -- it stops before anything more is printed
  pub stops-here : (p : I → Printing ShowFault) (fault : ShowFault) (waiting : List ℕ) (was : SinkState)
      → (told → IsSettled (show_origin fault) → (i : I) → p i ≡ stops fault)
      → Stops told (λ i. before waiting (p i)) fault was waiting was
  stops-here p fault waiting was end = record {
    front = [];
    put = sym (after_put-nil was);
    cut = λ is i. ((p i).output, refl);
    end = λ is settled i. ap (before waiting) (end is settled i);
  }

  -- text was printed behind what waited
  pub goes-pushed : (old p : I → Printing ShowFault) (text waiting : List ℕ) (was : SinkState) (held : List ℕ)
      (now : SinkState) → (told → (i : I) → old i ≡ before text (p i)) → IsPrinted (waiting ++ text) was held now
      → Goes told (λ i. before waiting (old i)) (λ i. before held (p i)) was now
  goes-pushed old p text waiting was held now is printed = record {
    front = printed.front;
    put = printed.put;
    rest = λ told i. ap (before waiting) (is told i)
        ∙ before-same waiting text printed.front held (p i) printed.parts;
  }

  -- the sink cut it off
  pub stops-cut : (old p : I → Printing ShowFault) (fault : ShowFault) (text waiting : List ℕ) (was : SinkState)
      (held : List ℕ) (now : SinkState) → (IsSettled (show_origin fault) → ⊥) → held ≡ []
      → (told → (i : I) → old i ≡ before text (p i)) → PutsPrefix (waiting ++ text) was now
      → Stops told (λ i. before waiting (old i)) fault was held now
  stops-cut old p fault text waiting was held now never none is (k, within, put) = record {
    front = take k (waiting ++ text);
    put = put;
    cut = λ told i. (
      drop k (waiting ++ text) ++ (p i).output,
      ap (λ q. waiting ++ q.output) (is told i) ∙ sym (append_assoc waiting text (p i).output)
          ∙ ap (λ bytes. bytes ++ (p i).output) (sym (take-append-drop k (waiting ++ text)))
          ∙ append_assoc (take k (waiting ++ text)) (drop k (waiting ++ text)) (p i).output
          ∙ ap (λ bytes. bytes ++ (drop k (waiting ++ text) ++ (p i).output))
          (sym (ap (λ bytes. take k (waiting ++ text) ++ bytes) none ∙ append-nil (take k (waiting ++ text)))),
    );
    end = λ told settled i. absurd (never settled);
  }

-- ---- the same of what is around

module _ {I J : Type 0} (told : Type 0) (f : J → I) where
  pub goes-at : (old new : I → Printing ShowFault) (first last : J → Printing ShowFault) (was now : SinkState)
      → Goes told old new was now → (told → (j : J) → first j ≡ old (f j)) → (told → (j : J) → new (f j) ≡ last j)
      → Goes told first last was now
  goes-at old new first last was now goes begins ends = record {
    front = goes.front;
    put = goes.put;
    rest = λ is j. begins is j ∙ goes.rest is (f j) ∙ ap (before goes.front) (ends is j);
  }

  pub stops-at : (old : I → Printing ShowFault) (first : J → Printing ShowFault) (fault : ShowFault) (was : SinkState)
      (waiting : List ℕ) (now : SinkState) → Stops told old fault was waiting now
      → (told → (j : J) → first j ≡ old (f j)) → Stops told first fault was waiting now
  stops-at old first fault was waiting now stops begins = record {
    front = stops.front;
    put = stops.put;
    cut = λ is j. ((stops.cut is (f j)).0, ap (λ p. p.output) (begins is j) ∙ (stops.cut is (f j)).1);
    end = λ is settled j. begins is j ∙ stops.end is settled (f j);
  }

-- ---- refusals that cut the work off

pub put-never : (fault : PutFault) → IsSettled (show_origin (show_fault fault)) → ⊥
put-never put.Failed settled = settled
put-never put.NoMemory settled = settled

-- what is printed may be said in other words
pub lists-as : {T I : Type 0} (told : Type 0) (first old : I → Printing ShowFault) (was : SinkState)
    (result : Result T ShowFault) (new : T → I → Printing ShowFault) (waiting : List ℕ) (now : SinkState)
    → (told → (i : I) → first i ≡ old i) → ListsOrStops told old was result new waiting now
    → ListsOrStops told first was result new waiting now
lists-as told first old was (Ok x) new waiting now same goes =
    goes-at told (λ i. i) old (new x) first (new x) was now goes same (λ is i. refl)
lists-as told first old was (Err fault) new waiting now same stops =
    stops-at told (λ i. i) old first fault was waiting now stops same
