-- The counts and the lists of failing calls of a shelf in memory.
use Rattle.std.proofs.Common.{◌≡◌, ℕ, List, [], refl, sym, ap, ◌∙◌, Bool, true, false, Option, Some, None, IsSomeAnd}
use Rattle.std.specs.FinMap.{insert}
use Rattle.std.specs.Str.{bytes_eq}
use Rattle.ntfs_base.specs.Calls.{plan_call}
use Rattle.ntfs_base.specs.MemShelf.{place_of, made_by, failing_by, files_of, KeepsOthers, KeepsFiles, KeepsCalls, KeepsAll, AddsFile, PlansCall}
use Rattle.ntfs_base.specs.declared.calls.Calls.{Calls}
use Rattle.ntfs_base.specs.declared.calls.Leaves.{Leaves}
use Rattle.ntfs_base.specs.declared.memory.place.Place.{Place}
use Rattle.ntfs_base.proofs.ShelfLemmas.{same_name}

-- what is kept of one name and of all others is kept of all names
kept_by_name : {X : Type 0} (f : Option Place → X) (name q : List ℕ) (old new : List Place) → KeepsOthers name old new
    → f (place_of name new) ≡ f (place_of name old) → (b : Bool) → bytes_eq q name ≡ b
    → f (place_of q new) ≡ f (place_of q old)
kept_by_name f name q old new others here true is =
    let same = same_name q name is in
    ap (λ n. f (place_of n new)) same ∙ here ∙ sym (ap (λ n. f (place_of n old)) same)
kept_by_name f name q old new others here false is = ap f (others q is)

pub keeps_all : (name : List ℕ) (old new : List Place) → KeepsFiles name old new → KeepsCalls name old new
    → KeepsAll old new
keeps_all name old new kept calls = record {
  files = kept.files;
  made = λ q. kept_by_name made_by name q old new kept.others calls.made (bytes_eq q name) refl;
  failing = λ q. kept_by_name failing_by name q old new kept.others calls.failing (bytes_eq q name) refl;
}

-- two steps that keep the calls
pub calls_then : (name : List ℕ) (a b c : List Place) → KeepsCalls name a b → KeepsCalls name b c → KeepsCalls name a c
calls_then name a b c one two = record { made = two.made ∙ one.made; failing = two.failing ∙ one.failing }

made_there : (place : Option Place) (calls : Calls) → IsSomeAnd place (λ p. p.calls ≡ calls) → made_by place ≡ calls.made
made_there None calls is = absurd is
made_there (Some p) calls is = ap (λ calls. calls.made) is

failing_there : (place : Option Place) (calls : Calls) → IsSomeAnd place (λ p. p.calls ≡ calls)
    → failing_by place ≡ calls.failing.items
failing_there None calls is = absurd is
failing_there (Some p) calls is = ap (λ calls. calls.failing.items) is

-- a file that was put into the place of its name, with new calls
pub adds_file : (name bytes : List ℕ) (a b c : List Place) (calls : Calls) → KeepsFiles name a b
    → files_of c ≡ insert (files_of b) name bytes → IsSomeAnd (place_of name c) (λ p. p.calls ≡ calls)
    → KeepsOthers name b c → calls.made ≡ 0 → calls.failing.items ≡ [] → AddsFile name bytes a c
adds_file name bytes a b c calls kept put there others made failing = record {
  files = put ∙ ap (λ files. insert files name bytes) kept.files;
  made = made_there (place_of name c) calls there ∙ made;
  failing = failing_there (place_of name c) calls there ∙ failing;
  others = λ q other. others q other ∙ kept.others q other;
}

-- a call that is planned once the name has a place
pub plans_then : (name : List ℕ) (number : ℕ) (leaves : Leaves) (a b c : List Place) → KeepsFiles name a b
    → KeepsCalls name a b → PlansCall name number leaves b c → PlansCall name number leaves a c
plans_then name number leaves a b c kept calls plans = record {
  files = plans.files ∙ kept.files;
  made = plans.made ∙ calls.made;
  failing = plans.failing ∙ ap (plan_call number leaves) calls.failing;
  others = λ q other. plans.others q other ∙ kept.others q other;
}
