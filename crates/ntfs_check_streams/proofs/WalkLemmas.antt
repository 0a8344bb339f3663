-- Tests along lists, and attributes joined along a record.
use Rattle.std.proofs.Common.{◌≡◌, ◌&&◌, ◌==◌, ℕ, Bool, true, false, List, [], ◌∷◌, Option, Some, None, Result, Ok, Err, refl, sym, ap, ◌∙◌, if◌then◌else◌}
use Rattle.std.specs.Prelude.{IfOk, IfSome}
use Rattle.std.specs.List.{list_all}
use Rattle.std.specs.Str.{bytes_eq}
use Rattle.std.proofs.lemmas.Bool.{eqb-true}
use Rattle.std.proofs.lemmas.Slice.Eq.{bytes_eq-Decides}
use Rattle.ntfs_attrlist.specs.Entry.{Listed}
use Rattle.ntfs_attrlist.specs.Views.{shown_entry}
use Rattle.ntfs_attrlist.specs.declared.entry.ListEntry.{ListEntry}
use Rattle.ntfs_attrlist.specs.declared.fault.BadEntry.{BadEntry}
use Rattle.ntfs_check_streams.specs.Join.{join, join_shown, span_shown}
use Rattle.ntfs_check_streams.specs.Last.{like_last}
use Rattle.ntfs_check_streams.specs.declared.join.Joined.{Joined}
use Rattle.ntfs_record.specs.Views.{Shown}
use Rattle.ntfs_rules.specs.declared.fault.CheckFault.{CheckFault}
use Rattle.ntfs_volume.proofs.AnswerLemmas.{and-left, and-right}
use Rattle.ntfs_volume.specs.Gather.{is_of, lists}
use Rattle.ntfs_volume.specs.Gathering.{shown_id}

module _ {A : Type 0} (test : A → Bool) (xs : List A) (answer : Bool) (same : list_all test xs ≡ answer) where
  pub all-failed : (x : A) (rest : List A) → xs ≡ x ∷ rest → test x ≡ false → false ≡ answer
  all-failed x rest first fails = sym (ap (λ b. b && list_all test rest) fails) ∙ sym (ap (list_all test) first) ∙ same

  pub all-passed : (x : A) (rest : List A) → xs ≡ x ∷ rest → test x ≡ true → list_all test rest ≡ answer
  all-passed x rest first passes = sym (ap (λ b. b && list_all test rest) passes) ∙ sym (ap (list_all test) first) ∙ same

  pub all-end : xs ≡ [] → true ≡ answer
  all-end none = sym (ap (list_all test) none) ∙ same

-- ---- entries

-- an entry of the type and name of the one before has its answer
pub like-holds : (of : ℕ → List ℕ → Bool) (last : Option ListEntry) (entry : Listed) (like : Bool) → like ≡ like_last last entry → like ≡ true → IfSome last (λ other. of other.kind other.name.now ≡ true) → true ≡ of entry.kind entry.name
like-holds of None entry like is holds before = absurd (let e : false ≡ true = sym is ∙ holds in cc)
like-holds of (Some other) entry like is holds before =
    let both : lists entry.kind entry.name (shown_entry other) ≡ true = sym is ∙ holds in
    let kind = eqb-true other.kind entry.kind (and-left (other.kind == entry.kind) (bytes_eq other.name.now entry.name) both) in
    let name = (bytes_eq-Decides other.name.now entry.name).0 (and-right (other.kind == entry.kind) (bytes_eq other.name.now entry.name) both) in
    sym before ∙ ap (λ k. of k other.name.now) kind ∙ ap (λ n. of entry.kind n) name

-- ---- a record's own attributes

pub shown-taken : (kind : ℕ) (name : List ℕ) (before next whole : Joined) (shown rest : List Shown) (s : Shown) → join_shown kind name before shown ≡ whole → shown ≡ s ∷ rest → is_of kind name (shown_id s) ≡ true
    → next ≡ join kind before (span_shown s.body) → join_shown kind name next rest ≡ whole
unfolding join_shown
shown-taken kind name before next whole shown rest s same first of is =
    ap (λ (j : Joined). join_shown kind name j rest) is
    ∙ sym (ap (λ b. join_shown kind name (if b then join kind before (span_shown s.body) else before) rest) of)
    ∙ sym (ap (join_shown kind name before) first) ∙ same

pub shown-other : (kind : ℕ) (name : List ℕ) (before whole : Joined) (shown rest : List Shown) (s : Shown) → join_shown kind name before shown ≡ whole → shown ≡ s ∷ rest → is_of kind name (shown_id s) ≡ false
    → join_shown kind name before rest ≡ whole
unfolding join_shown
shown-other kind name before whole shown rest s same first other =
    sym (ap (λ b. join_shown kind name (if b then join kind before (span_shown s.body) else before) rest) other)
    ∙ sym (ap (join_shown kind name before) first) ∙ same

pub shown-end : (kind : ℕ) (name : List ℕ) (before whole : Joined) (shown : List Shown) → join_shown kind name before shown ≡ whole → shown ≡ [] → before ≡ whole
unfolding join_shown
shown-end kind name before whole shown same none = sym (ap (join_shown kind name before) none) ∙ same

pub given-as : (result : Result Bool CheckFault) (a b : Bool) → a ≡ b → IfOk result (λ is. is ≡ a) → IfOk result (λ is. is ≡ b)
given-as (Ok is) a b same given = given ∙ same
given-as (Err fault) a b same given = tt

-- ---- two tests

pub first-fails : (a b : Bool) → a ≡ false → false ≡ (a && b)
first-fails true b is = absurd cc
first-fails false b is = refl

pub second-of : (a b : Bool) → a ≡ true → b ≡ (a && b)
second-of true b is = refl
second-of false b is = absurd cc
