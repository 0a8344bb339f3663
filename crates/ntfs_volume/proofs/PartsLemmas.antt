-- What taking one part more changes of the parts so far.
use Rattle.std.proofs.Common.{◌≡◌, ◌+◌, ◌-◌, ◌==◌, ◌≤◌, ◌&&◌, ◌||◌, ℕ, Bool, true, false, List, [], ◌∷◌, ◌++◌, length, Option, Some, None, Result, Ok, Err, refl, sym, ap, ◌∙◌, subst, arith, if◌then◌else◌}
use Rattle.std.specs.Prelude.{OnOk, is_some, option_map}
use Rattle.std.proofs.lemmas.Bool.{false≢true}
use Rattle.std.proofs.lemmas.Bool.Decides.{nat_tests}
use Rattle.std.proofs.lemmas.Bool.{and_from}
use Rattle.std.proofs.lemmas.List.{length-append}
use Rattle.ntfs_base.specs.Frames.{must, ◌>>=◌}
use Rattle.ntfs_record.specs.Views.{shown_body, shown_view}
use Rattle.ntfs_record.specs.declared.attribute.AttributeView.{AttributeView}
use Rattle.ntfs_record.specs.declared.attribute.Body.{Body}
use Rattle.ntfs_runs.specs.Cells.{are_cells, cells_below}
use Rattle.ntfs_runs.specs.Clusters.{AreWithin, vcns}
use Rattle.ntfs_runs.specs.declared.run.Run.{Run}
use Rattle.ntfs_runs.proofs.CellsLemmas.{are_cells-append, vcns-append}
use Rattle.ntfs_base.specs.declared.refusal.Rule.TheVariants as rule
use Rattle.ntfs_boot.specs.declared.geometry.Geometry.{Geometry}
use Rattle.ntfs_volume.specs.Gathering.{AreParts, AreRuns, First, Progress, added, apart, finished, finished_from, first_finished, first_of, is_settled, joined, met, no_parts, or_first, runs_finished, shown_first, shown_part, shown_parts, taken, wrong_in}
use Rattle.ntfs_volume.specs.StreamBytes.{have_room}
use Rattle.ntfs_volume.specs.StreamViews.{gathered_by}
use Rattle.ntfs_volume.specs.Streams.{Gathered, IsReadable, Part, runs_stream, value_stream}
use Rattle.ntfs_volume.specs.declared.fault.VolumeFault.{VolumeFault}
use Rattle.ntfs_volume.specs.declared.fault.VolumeFault.TheVariants as volume
use Rattle.ntfs_volume.specs.declared.stream.Content.{Content}
use Rattle.ntfs_volume.specs.declared.stream.Content.TheVariants as content
use Rattle.ntfs_volume.specs.declared.parts.First.{First as FirstExtent}
use Rattle.ntfs_volume.specs.declared.parts.Parts.{Parts}

-- the value of a content
abbrev value_in : Content → Option (List ℕ)
value_in (content.Value bytes) = Some bytes.items
value_in (content.Runs size valid runs) = None

abbrev ok_gathered : Gathered ℕ → Result (Gathered ℕ) VolumeFault
ok_gathered s = Ok s

abbrev parts_of : Option FirstExtent → List Run → ℕ → Bool → Option ℕ → ℕ → Parts
parts_of first runs next joins wrong count =
    record { first = first; runs = runs; next = next; joins = joins; wrong = wrong; count = count }

pub parts-none : (runs : List Run) → runs ≡ [] → shown_parts (parts_of None runs 0 true None 0) ≡ no_parts
unfolding vcns
parts-none runs is = rw is refl

pub parts-start : (n : ℕ) (runs : List Run) → runs ≡ [] → AreParts n (parts_of None runs 0 true None 0)
unfolding vcns are_cells
parts-start n runs is = record { cells = rw is refl; within = rw is tt; counted = λ _. rw is refl }

pub none_of : {X : Type 0} (o : Option X) → is_some o ≡ false → o ≡ None
none_of None is = refl
none_of (Some x) is = absurd cc

pub some_of : {X : Type 0} (o : Option X) → is_some o ≡ true → (x : X) × (o ≡ Some x)
some_of None is = absurd cc
some_of (Some x) is = (x, refl)

-- a further part is met
pub meet-further : (old : Parts) (part : Part ℕ) → is_some old.first ≡ true
    → shown_parts (parts_of old.first old.runs old.next old.joins old.wrong (old.count + 1)) ≡ met (shown_parts old) part
meet-further old part is =
    step old.first (vcns old.runs) old.next old.joins old.wrong (old.count + 1) (first_of part) is
  where
    step : (o : Option FirstExtent) (cells : List (Option ℕ)) (next : ℕ) (joins : Bool) (wrong : Option ℕ) (count : ℕ) (g : First) → is_some o ≡ true
        → ◌≡◌ {A = Progress} (record { first = option_map shown_first o; cells = cells; next = next; joins = joins; wrong = wrong; count = count })
        (record { first = or_first (option_map shown_first o) g; cells = cells; next = next; joins = joins; wrong = wrong; count = count })
    step (Some x) cells next joins wrong count g is = refl
    step None cells next joins wrong count g is = absurd cc

-- the first part is met
pub meet-first : (old : Parts) (first : FirstExtent) (part : Part ℕ) → old.first ≡ None → shown_first first ≡ first_of part
    → shown_parts (parts_of (Some first) old.runs old.next old.joins old.wrong (old.count + 1)) ≡ met (shown_parts old) part
meet-first old first part none is =
    step old.first (vcns old.runs) old.next old.joins old.wrong (old.count + 1) (shown_first first) (first_of part) none is
  where
    step : (o : Option FirstExtent) (cells : List (Option ℕ)) (next : ℕ) (joins : Bool) (wrong : Option ℕ) (count : ℕ) (f g : First) → o ≡ None → f ≡ g
        → ◌≡◌ {A = Progress} (record { first = Some f; cells = cells; next = next; joins = joins; wrong = wrong; count = count })
        (record { first = or_first (option_map shown_first o) g; cells = cells; next = next; joins = joins; wrong = wrong; count = count })
    step None cells next joins wrong count f g none is = ap (λ f. record { first = Some f; cells = cells; next = next; joins = joins; wrong = wrong; count = count }) is
    step (Some x) cells next joins wrong count f g none is = absurd cc

-- ---- one that joins

pub join-more : (old : Parts) (runs more : List Run) (lowest next : ℕ) (joins : Bool) → joins ≡ (old.joins && (lowest == old.next)) → joins ≡ true → more ≡ old.runs ++ runs
    → shown_parts (parts_of old.first more next joins old.wrong old.count) ≡ joined (shown_parts old) lowest next (vcns runs)
join-more old runs more lowest next joins is true_is all =
    step (shown_parts old) (vcns runs) (vcns more) next (old.joins && (lowest == old.next)) joins is true_is (ap vcns all ∙ vcns-append old.runs runs)
  where
    step : (p : Progress) (cells all : List (Option ℕ)) (next : ℕ) (b joins : Bool) → joins ≡ b → joins ≡ true → all ≡ p.cells ++ cells
        → ◌≡◌ {A = Progress} (record { first = p.first; cells = all; next = next; joins = joins; wrong = p.wrong; count = p.count })
        (record { first = p.first; cells = if b then p.cells ++ cells else p.cells; next = next; joins = b; wrong = p.wrong; count = p.count })
    step p cells all next true true is holds same = ap (λ cells. record { first = p.first; cells = cells; next = next; joins = true; wrong = p.wrong; count = p.count }) same
    step p cells all next false true is holds same = absurd cc
    step p cells all next b false is holds same = absurd cc

pub join-apart : (old : Parts) (runs : List Run) (lowest next : ℕ) (joins : Bool) → joins ≡ (old.joins && (lowest == old.next)) → joins ≡ false
    → shown_parts (parts_of old.first old.runs next joins old.wrong old.count) ≡ joined (shown_parts old) lowest next (vcns runs)
join-apart old runs lowest next joins is false_is =
    step (shown_parts old) (vcns runs) next (old.joins && (lowest == old.next)) joins is false_is
  where
    step : (p : Progress) (cells : List (Option ℕ)) (next : ℕ) (b joins : Bool) → joins ≡ b → joins ≡ false
        → ◌≡◌ {A = Progress} (record { first = p.first; cells = p.cells; next = next; joins = joins; wrong = p.wrong; count = p.count })
        (record { first = p.first; cells = if b then p.cells ++ cells else p.cells; next = next; joins = b; wrong = p.wrong; count = p.count })
    step p cells next false false is other = refl
    step p cells next true false is other = absurd cc
    step p cells next b true is other = absurd cc

within-append : (a b : List Run) → AreWithin a → AreWithin b → AreWithin (a ++ b)
within-append [] b one two = two
within-append (run ∷ runs) b one two = (one.0, within-append runs b one.1 two)

eqb-true : (a b : ℕ) → (a == b) ≡ true → a ≡ b
eqb-true a b is = grind (arith, nat_tests)

and-left : (a b : Bool) → (a && b) ≡ true → a ≡ true
and-left true b is = refl
and-left false b is = is

and-right : (a b : Bool) → (a && b) ≡ true → b ≡ true
and-right true b is = is
and-right false b is = absurd cc

pub join-parts : (n : ℕ) (old : Parts) (runs more : List Run) (lowest next : ℕ) (joins : Bool) → joins ≡ (old.joins && (lowest == old.next)) → joins ≡ true → more ≡ old.runs ++ runs
    → AreParts n old → lowest ≤ next → length (vcns runs) ≡ next - lowest → are_cells true n (vcns runs) ≡ true → AreWithin runs
    → AreParts n (parts_of old.first more next joins old.wrong old.count)
join-parts n old runs more lowest next joins is holds all are fits count cells within =
    let both : (old.joins && (lowest == old.next)) ≡ true = sym is ∙ holds in
    let came = are.counted (and-left old.joins (lowest == old.next) both) in
    let begins = eqb-true lowest old.next (and-right old.joins (lowest == old.next) both) in
    let joined_cells : vcns more ≡ vcns old.runs ++ vcns runs = ap vcns all ∙ vcns-append old.runs runs in
    record {
      cells = ap (are_cells true n) joined_cells ∙ are_cells-append true n (vcns old.runs) (vcns runs) ∙ and_from (are_cells true n (vcns old.runs)) (are_cells true n (vcns runs)) are.cells cells;
      within = subst AreWithin (sym all) (within-append old.runs runs are.within within);
      counted = λ _.
          let long = ap length joined_cells ∙ length-append (vcns old.runs) (vcns runs) in
          omega (arith, long, came, begins, count, fits);
    }

pub apart-parts : (n : ℕ) (old : Parts) (next : ℕ) (joins : Bool) → joins ≡ false → AreParts n old → AreParts n (parts_of old.first old.runs next joins old.wrong old.count)
apart-parts n old next joins other are = record { cells = are.cells; within = are.within; counted = λ holds. absurd (false≢true (sym other ∙ holds)) }

-- ---- one that is added

abbrev added_by : Progress → Part ℕ → Bool → Bool → Progress
added_by p part resident right =
    if resident then apart p
    else (if resident || right then joined p part.lowest part.next part.runs.cells else wrong_in p part.number)

abbrev right_of : Part ℕ → Bool
right_of part = part.runs.is_right && (length part.runs.cells == part.next - part.lowest)

-- a part by its view and its body
abbrev part_with : ℕ → ℕ → AttributeView → Body → Part ℕ
part_with n r view body = shown_part n r (record {
  place = view.place;
  kind = view.kind;
  name = view.name.now;
  flags = view.flags;
  instance = view.instance;
  body = shown_body body;
})

pub add-resident : (n r : ℕ) (p : Progress) (view : AttributeView) → (shown_body view.body).is_resident ≡ true
    → apart p ≡ added p (shown_part n r (shown_view view))
unfolding added
add-resident n r p view is =
    sym (ap (λ b. added_by p (shown_part n r (shown_view view)) b (right_of (shown_part n r (shown_view view)))) is)

by-tests : (p : Progress) (part : Part ℕ) (right : Bool) → part.is_resident ≡ false → right_of part ≡ right → added p part ≡ added_by p part false right
unfolding added
by-tests p part right runs is =
    ap (λ b. added_by p part b (right_of part)) runs ∙ ap (λ b. added_by p part false b) is

-- of a part with these runs
pub add-wrong : (n r : ℕ) (p : Progress) (view : AttributeView) (count : ℕ) (pairs : List ℕ) → (shown_body view.body).is_resident ≡ false
    → count ≡ (shown_body view.body).next - (shown_body view.body).lowest → pairs ≡ (shown_body view.body).pairs → AreRuns n count pairs None
    → wrong_in p r ≡ added p (shown_part n r (shown_view view))
add-wrong n r p view count pairs runs vcns_is pairs_is wrong =
    let other : right_of (shown_part n r (shown_view view)) ≡ false =
    ap (λ pairs. (cells_below n pairs).is_right && (length (cells_below n pairs).cells == (shown_body view.body).next - (shown_body view.body).lowest)) (sym pairs_is)
    ∙ ap (λ count. (cells_below n pairs).is_right && (length (cells_below n pairs).cells == count)) (sym vcns_is) ∙ wrong in
    sym (by-tests p (shown_part n r (shown_view view)) false runs other)

eqb-same : (a b : ℕ) → a ≡ b → (a == b) ≡ true
eqb-same a b is = grind (arith, nat_tests)

pub add-right : (n r : ℕ) (p : Progress) (view : AttributeView) (count lowest next : ℕ) (pairs : List ℕ) (list : List Run) → (shown_body view.body).is_resident ≡ false
    → count ≡ (shown_body view.body).next - (shown_body view.body).lowest → pairs ≡ (shown_body view.body).pairs
    → lowest ≡ (shown_body view.body).lowest → next ≡ (shown_body view.body).next → AreRuns n count pairs (Some list)
    → joined p lowest next (vcns list) ≡ added p (shown_part n r (shown_view view))
add-right n r p view count lowest next pairs list runs vcns_is pairs_is low_is next_is right =
    let length_is : (length (cells_below n pairs).cells == count) ≡ true = eqb-same (length (cells_below n pairs).cells) count (ap length right.1 ∙ right.2) in
    let test : right_of (shown_part n r (shown_view view)) ≡ true =
    ap (λ pairs. (cells_below n pairs).is_right && (length (cells_below n pairs).cells == (shown_body view.body).next - (shown_body view.body).lowest)) (sym pairs_is)
    ∙ ap (λ count. (cells_below n pairs).is_right && (length (cells_below n pairs).cells == count)) (sym vcns_is)
    ∙ and_from (cells_below n pairs).is_right (length (cells_below n pairs).cells == count) right.0 length_is in
    ap (λ k. joined p k next (vcns list)) low_is ∙ ap (λ k. joined p (shown_body view.body).lowest k (vcns list)) next_is
    ∙ ap (λ cells. joined p (shown_body view.body).lowest (shown_body view.body).next cells) (sym right.1 ∙ ap (λ pairs. (cells_below n pairs).cells) pairs_is)
    ∙ sym (by-tests p (shown_part n r (shown_view view)) true runs test)

-- ---- one that is taken

pub take-settled : (p q : Progress) (part : Part ℕ) (settled : Bool) → q ≡ met p part → settled ≡ is_settled q → settled ≡ true → q ≡ taken p part
unfolding taken
take-settled p q part settled is test holds =
    let same : is_settled (met p part) ≡ true = sym (ap is_settled is) ∙ sym test ∙ holds in
    is ∙ sym (ap (λ b. if b then met p part else added (met p part) part) same)

pub take-added : (p q s : Progress) (part : Part ℕ) (settled : Bool) → q ≡ met p part → settled ≡ is_settled q → settled ≡ false → s ≡ added q part → s ≡ taken p part
unfolding taken
take-added p q s part settled is test other last =
    let same : is_settled (met p part) ≡ false = sym (ap is_settled is) ∙ sym test ∙ other in
    last ∙ ap (λ q. added q part) is ∙ sym (ap (λ b. if b then met p part else added (met p part) part) same)

-- ---- the stream of the parts

pub finish-none : (c r : ℕ) (parts : Parts) → parts.first ≡ None → finished c r (shown_parts parts) ≡ Err volume.NoAttribute
unfolding finished_from
finish-none c r parts is = ap (λ first. finished_from c r (shown_parts parts) (option_map shown_first first)) is

finish-first : (c r : ℕ) (parts : Parts) (first : FirstExtent) → parts.first ≡ Some first
    → finished c r (shown_parts parts) ≡ first_finished c r (shown_parts parts) (shown_first first) (shown_first first).value
unfolding finished_from
finish-first c r parts first is = ap (λ first. finished_from c r (shown_parts parts) (option_map shown_first first)) is

pub finish-value : (c r : ℕ) (parts : Parts) (first : FirstExtent) (content : Content) → parts.first ≡ Some first → (shown_first first).value ≡ value_in content
    → is_some (value_in content) ≡ true → finished c r (shown_parts parts) ≡ Ok (gathered_by first.flags first.number first.place parts.count content)
unfolding first_finished
finish-value c r parts first (content.Value bytes) is value some =
    finish-first c r parts first is ∙ ap (first_finished c r (shown_parts parts) (shown_first first)) value
finish-value c r parts first (content.Runs size valid runs) is value some = absurd cc

finish-no_value : (c r : ℕ) (parts : Parts) (first : FirstExtent) → parts.first ≡ Some first → (shown_first first).value ≡ None
    → finished c r (shown_parts parts) ≡ runs_finished c r (shown_parts parts) (shown_first first) parts.wrong
unfolding first_finished
finish-no_value c r parts first is value =
    finish-first c r parts first is ∙ ap (first_finished c r (shown_parts parts) (shown_first first)) value

pub finish-wrong : (c r : ℕ) (parts : Parts) (first : FirstExtent) (wrong : ℕ) → parts.first ≡ Some first → (shown_first first).value ≡ None → parts.wrong ≡ Some wrong
    → finished c r (shown_parts parts) ≡ Err (volume.Damaged rule.C7 wrong)
unfolding runs_finished
finish-wrong c r parts first wrong is value at =
    finish-no_value c r parts first is value ∙ ap (runs_finished c r (shown_parts parts) (shown_first first)) at

room-step : (joins : Bool) (c k next size valid : ℕ) → (joins ≡ true → k ≡ next) → (joins && have_room c k size valid) ≡ (joins && have_room c next size valid)
room-step true c k next size valid same = ap (λ k. have_room c k size valid) (same refl)
room-step false c k next size valid same = refl

pub finish-runs : (n c r : ℕ) (parts : Parts) (first : FirstExtent) (fits : Bool) → AreParts n parts → parts.first ≡ Some first → (shown_first first).value ≡ None → parts.wrong ≡ None
    → fits ≡ (parts.joins && have_room c parts.next first.size first.valid)
    → finished c r (shown_parts parts) ≡ (if fits then Ok (gathered_by first.flags first.number first.place parts.count (content.Runs first.size first.valid parts.runs)) else Err (volume.Damaged rule.C12 r))
unfolding runs_finished
finish-runs n c r parts first fits are is value at test =
    finish-no_value c r parts first is value ∙ ap (runs_finished c r (shown_parts parts) (shown_first first)) at
    ∙ by_fit (parts.joins && have_room c (length (vcns parts.runs)) first.size first.valid) fits (room-step parts.joins c (length (vcns parts.runs)) parts.next first.size first.valid are.counted ∙ sym test)
  where
    by_fit : (a b : Bool) → a ≡ b
        → (must a (volume.Damaged rule.C12 r) >>= (λ _. ok_gathered (gathered_by first.flags first.number first.place parts.count (content.Runs first.size first.valid parts.runs))))
        ≡ (if b then Ok (gathered_by first.flags first.number first.place parts.count (content.Runs first.size first.valid parts.runs)) else Err (volume.Damaged rule.C12 r))
    by_fit true true is = refl
    by_fit false false is = refl
    by_fit true false is = absurd cc
    by_fit false true is = absurd cc

pub finish-readable : (g : Geometry) (parts : Parts) (first : FirstExtent) (fits : Bool) → AreParts g.clusters parts
    → fits ≡ (parts.joins && have_room g.cluster parts.next first.size first.valid) → fits ≡ true
    → IsReadable g (runs_stream first.flags first.size first.valid (vcns parts.runs))
finish-readable g parts first fits are test holds =
    let both = sym (room-step parts.joins g.cluster (length (vcns parts.runs)) parts.next first.size first.valid are.counted) in
    record {
      cells = are.cells;
      room = λ _. and-right parts.joins (have_room g.cluster (length (vcns parts.runs)) first.size first.valid) (sym both ∙ sym test ∙ holds);
    }

pub value-readable : (g : Geometry) (flags : ℕ) (value : List ℕ) → IsReadable g (value_stream flags value)
unfolding are_cells
value-readable g flags value = record { cells = refl; room = λ e. absurd cc }

pub on_ok_map : {T E : Type 0} {P Q : Type 0} (found : Result T E) → (P → Q) → OnOk found P → OnOk found Q
on_ok_map (Ok x) f is = f is
on_ok_map (Err e) f is = is

pub readable-as : (g : Geometry) (a b : Gathered ℕ) → a ≡ b → IsReadable g b.stream → IsReadable g a.stream
readable-as g a b is = subst (λ (s : Gathered ℕ). IsReadable g s.stream) (sym is)
