-- What a shelf in memory has after an attach, a create and a release.
use Rattle.std.proofs.Common.{Result, Ok, Err, IfOk, OnOk, OnErr, ◌≡◌, ◌<◌, ◌+◌, ◌&&◌, ◌||◌, ℕ, suc, List, [], ◌∷◌, ◌++◌, length, get_or, set, map, take, drop, append_assoc, refl, sym, ap, subst, ◌∙◌, inl, inr, ◌⊎◌, arith, Bool, true, false, Option, Some, None, IsSome, is_some, String, string_bytes, add-one, if◌then◌else◌, cond}
use Rattle.std.proofs.lemmas.Slice.Eq.{bytes_eq-Decides}
use Rattle.std.proofs.lemmas.Cmp.{nat_list_cmp_total}
use Rattle.std.specs.Option.{option_map, option_and_then}
use Rattle.std.proofs.lemmas.Bool.{false≢true}
use Rattle.std.proofs.lemmas.List.{get_or-map, take-map, drop-map, map-append, length-map}
use Rattle.std.specs.declared.alloc.Global.{Global}
use Rattle.std.proofs.lemmas.Option.{same_Some}
use Rattle.std.proofs.Math.Seq.{drop-cons, take-suc}
use Rattle.std.specs.Ordering.{nat_cmp}
use Rattle.std.specs.Cmp.Lexicographic.{slice_cmp, texts_ties}
use Rattle.std.specs.FinMap.{get, insert, get-empty, get-insert, get-remove, same_map, slice_cmp-IsAntisymmetric, nat_cmp-IsAntisymmetric}
use Rattle.std.specs.Str.{bytes_eq}
use Rattle.ntfs_base.specs.Shelf.{Files, has_name, without, after_attach, after_create, after_release}
use Rattle.ntfs_base.specs.Image.{ImageState}
use Rattle.ntfs_base.specs.MemShelf.{place_of, index_of, place_bytes, files_with, files_of, all_placed, IsFresh, KeepsOthers, KeepsPlaces, KeepsFiles, KeepsCalls, CreatesFile, made_by, failing_by, seen_mem_shelf}
use Rattle.ntfs_base.specs.declared.memory.place.Place.{Place}

pub same_name : (a b : List ℕ) → bytes_eq a b ≡ true → a ≡ b
same_name a b is = (bytes_eq-Decides a b).0 is

pub name_same : (a b : List ℕ) → a ≡ b → bytes_eq a b ≡ true
name_same a b is = (bytes_eq-Decides a b).1 is

cond_none : {X : Type 0} (b : Bool) (x : X) (o : Option X) → cond b (Some x) o ≡ None → (b ≡ false) × (o ≡ None)
cond_none true x o e = absurd (cc)
cond_none false x o e = (refl, e)

map_none : {X Y : Type 0} (f : X → Y) (o : Option X) → option_map f o ≡ None → o ≡ None
map_none f None e = refl
map_none f (Some x) e = absurd (cc)

-- no place of a name
pub place_of-none : (name : List ℕ) (ps : List Place) → index_of name ps ≡ None → place_of name ps ≡ None
place_of-none name [] e = refl
place_of-none name (p ∷ ps) e =
    let parts = cond_none (bytes_eq name (string_bytes p.name)) 0 (option_map (λ i. i + 1) (index_of name ps)) e in
    let rest = place_of-none name ps (map_none (λ i. i + 1) (index_of name ps) parts.1) in
    rw (parts.0, rest) refl

-- a place of a new name is the last
pub index_of-push : (name : List ℕ) (ps : List Place) (p : Place) → index_of name ps ≡ None
    → string_bytes p.name ≡ name → index_of name (ps ++ p ∷ []) ≡ Some (length ps)
index_of-push name [] p e named = rw (name_same name (string_bytes p.name) (sym named)) refl
index_of-push name (x ∷ ps) p e named =
    let parts = cond_none (bytes_eq name (string_bytes x.name)) 0 (option_map (λ i. i + 1) (index_of name ps)) e in
    let rest = index_of-push name ps p (map_none (λ i. i + 1) (index_of name ps) parts.1) named in
    rw (parts.0, rest) (ap Some (omega arith))

-- two tests of which at most one holds can be made in either order
swapped : {X : Type 0} (a b : Bool) (x y z : X) → (a ≡ true → b ≡ true → ⊥)
    → cond a x (cond b y z) ≡ cond b y (cond a x z)
swapped true true x y z never = absurd (never refl refl)
swapped true false x y z never = refl
swapped false b x y z never = refl

-- the places after one of a new name was put at the end
pub place_of-push : (name q : List ℕ) (ps : List Place) (p : Place) → index_of name ps ≡ None
    → string_bytes p.name ≡ name
    → place_of q (ps ++ p ∷ []) ≡ (if bytes_eq q (string_bytes p.name) then Some p else place_of q ps)
place_of-push name q [] p e named = refl
place_of-push name q (x ∷ ps) p e named =
    let parts = cond_none (bytes_eq name (string_bytes x.name)) 0 (option_map (λ i. i + 1) (index_of name ps)) e in
    let rest = place_of-push name q ps p (map_none (λ i. i + 1) (index_of name ps) parts.1) named in
    let apart : bytes_eq q (string_bytes x.name) ≡ true → bytes_eq q (string_bytes p.name) ≡ true → ⊥ =
    λ one two. false≢true (sym parts.0 ∙ name_same name (string_bytes x.name) (sym named ∙ sym (same_name q (string_bytes p.name) two) ∙ same_name q (string_bytes x.name) one)) in
    ap (λ o. cond (bytes_eq q (string_bytes x.name)) (Some x) o) rest ∙ swapped _ _ _ _ _ apart

-- what stands at the index of a name
pub record StandsAt (name : List ℕ) (ps : List Place) (i : ℕ) : Type 0 where
  pub within : i < length ps
  pub place : (d : Place) → place_of name ps ≡ Some (get_or ps i d)
  pub named : (d : Place) → string_bytes (get_or ps i d).name ≡ name

map_some : (o : Option ℕ) (i : ℕ) → option_map (λ j. j + 1) o ≡ Some i → (j : ℕ) × (o ≡ Some j) × (i ≡ suc j)
map_some None i e = absurd (cc)
map_some (Some j) i e = let same = same_Some (j + 1) i e in (j, refl, omega arith)

stands_first : (name : List ℕ) (p : Place) (ps : List Place) (i : ℕ)
    → ((j : ℕ) → index_of name ps ≡ Some j → StandsAt name ps j) → (b : Bool)
    → bytes_eq name (string_bytes p.name) ≡ b
    → cond b (Some 0) (option_map (λ j. j + 1) (index_of name ps)) ≡ Some i → StandsAt name (p ∷ ps) i
stands_first name p ps i rest true is found =
    subst (StandsAt name (p ∷ ps)) (same_Some 0 i found)
    (record { within = omega arith; place = λ d. rw is refl; named = λ d. sym (same_name _ _ is) })
stands_first name p ps i rest false is found =
    let next = map_some (index_of name ps) i found in
    let there = rest next.0 next.1 in
    let within = there.within in
    subst (StandsAt name (p ∷ ps)) (sym next.2)
    (record { within = omega arith; place = λ d. rw is (there.place d); named = λ d. there.named d })

pub stands_at : (name : List ℕ) (ps : List Place) (i : ℕ) → index_of name ps ≡ Some i → StandsAt name ps i
stands_at name [] i e = absurd (cc)
stands_at name (p ∷ ps) i e =
    stands_first name p ps i (λ j f. stands_at name ps j f) (bytes_eq name (string_bytes p.name)) refl e

same_test : (q a b : List ℕ) → a ≡ b → bytes_eq q a ≡ bytes_eq q b
same_test q a b same = ap (bytes_eq q) same

-- what a test hides where it comes first again
hidden : {X : Type 0} (b : Bool) (x y z : X) → cond b x (cond b y z) ≡ cond b x z
hidden true x y z = refl
hidden false x y z = refl

set_first : (name q : List ℕ) (x : Place) (ps : List Place) (i : ℕ) (p : Place) → string_bytes p.name ≡ name
    → ((j : ℕ) → index_of name ps ≡ Some j → place_of q (set ps j p) ≡ cond (bytes_eq q (string_bytes p.name)) (Some p) (place_of q ps))
    → (b : Bool) → bytes_eq name (string_bytes x.name)
    ≡ b → cond b (Some 0) (option_map (λ j. j + 1) (index_of name ps)) ≡ Some i
    → place_of q (set (x ∷ ps) i p)
    ≡ cond (bytes_eq q (string_bytes p.name)) (Some p)
    (cond (bytes_eq q (string_bytes x.name)) (Some x) (place_of q ps))
set_first name q x ps i p named rest true is found =
    let same =
    same_test q (string_bytes x.name) (string_bytes p.name)
    (sym (same_name name (string_bytes x.name) is) ∙ sym named) in
    subst (λ i. place_of q (set (x ∷ ps) i p) ≡ cond (bytes_eq q (string_bytes p.name)) (Some p) (cond (bytes_eq q (string_bytes x.name)) (Some x) (place_of q ps)))
    (same_Some 0 i found) (rw same (sym (hidden (bytes_eq q (string_bytes p.name)) (Some p) (Some x) (place_of q ps))))
set_first name q x ps i p named rest false is found =
    let next = map_some (index_of name ps) i found in
    let there = rest next.0 next.1 in
    let apart : bytes_eq q (string_bytes x.name) ≡ true → bytes_eq q (string_bytes p.name) ≡ true → ⊥ =
    λ one two. false≢true (sym is ∙ name_same name (string_bytes x.name) (sym named ∙ sym (same_name q (string_bytes p.name) two) ∙ same_name q (string_bytes x.name) one)) in
    subst (λ i. place_of q (set (x ∷ ps) i p) ≡ cond (bytes_eq q (string_bytes p.name)) (Some p) (cond (bytes_eq q (string_bytes x.name)) (Some x) (place_of q ps)))
    (sym next.2) (ap (λ o. cond (bytes_eq q (string_bytes x.name)) (Some x) o) there ∙ swapped _ _ _ _ _ apart)

-- the places after the one of a name was replaced by one of that name
pub place_of-set : (name q : List ℕ) (ps : List Place) (i : ℕ) (p : Place) → index_of name ps ≡ Some i
    → string_bytes p.name ≡ name
    → place_of q (set ps i p) ≡ (if bytes_eq q (string_bytes p.name) then Some p else place_of q ps)
place_of-set name q [] i p e named = absurd (cc)
place_of-set name q (x ∷ ps) i p e named =
    set_first name q x ps i p named (λ j f. place_of-set name q ps j p f named) (bytes_eq name (string_bytes x.name))
    refl e

-- the file of a name is the first place's
get-files_with : (o : Option (List ℕ)) (name q : List ℕ) (rest : Files)
    → get (files_with o name rest) q ≡ cond (bytes_eq q name) o (get rest q)
get-files_with None name q rest =
    get-remove nat_list_cmp_total rest name q ∙ ap (λ b. cond b None (get rest q)) (sym (texts_ties q name))
get-files_with (Some bytes) name q rest =
    get-insert nat_list_cmp_total rest name bytes q
    ∙ ap (λ b. cond b (Some bytes) (get rest q)) (sym (texts_ties q name))

then_cond : (b : Bool) (p : Place) (o : Option Place)
    → option_and_then place_bytes (cond b (Some p) o) ≡ cond b (place_bytes p) (option_and_then place_bytes o)
then_cond true p o = refl
then_cond false p o = refl

pub get-files_of : (ps : List Place) (q : List ℕ) → get (files_of ps) q ≡ option_and_then place_bytes (place_of q ps)
unfolding files_of
get-files_of [] q = get-empty (slice_cmp nat_cmp) q
get-files_of (p ∷ ps) q =
    get-files_with (place_bytes p) (string_bytes p.name) q (files_of ps)
    ∙ ap (cond (bytes_eq q (string_bytes p.name)) (place_bytes p)) (get-files_of ps q)
    ∙ sym (then_cond (bytes_eq q (string_bytes p.name)) p (place_of q ps))

same_files : (a b : Files) → ((q : List ℕ) → get a q ≡ get b q) → a ≡ b
same_files a b alike = same_map nat_list_cmp_total (slice_cmp-IsAntisymmetric nat_cmp-IsAntisymmetric) a b alike

-- what the file of a name is after its place was replaced or made
after_place : (ps ps' : List Place) (p : Place) (q : List ℕ)
    → place_of q ps' ≡ cond (bytes_eq q (string_bytes p.name)) (Some p) (place_of q ps)
    → get (files_of ps') q ≡ cond (bytes_eq q (string_bytes p.name)) (place_bytes p) (get (files_of ps) q)
after_place ps ps' p q is =
    get-files_of ps' q ∙ ap (option_and_then place_bytes) is
    ∙ then_cond (bytes_eq q (string_bytes p.name)) p (place_of q ps)
    ∙ ap (cond (bytes_eq q (string_bytes p.name)) (place_bytes p)) (sym (get-files_of ps q))

kept_by : (b : Bool) (o here : Option (List ℕ)) → (b ≡ true → o ≡ here) → cond b o here ≡ here
kept_by true o here same = same refl
kept_by false o here same = refl

-- a place that is replaced by one with the same file keeps all files
pub files_of-kept : (ps ps' : List Place) (p : Place)
    → ((q : List ℕ) → place_of q ps' ≡ cond (bytes_eq q (string_bytes p.name)) (Some p) (place_of q ps))
    → place_bytes p ≡ option_and_then place_bytes (place_of (string_bytes p.name) ps) → files_of ps' ≡ files_of ps
files_of-kept ps ps' p is same =
    same_files (files_of ps') (files_of ps) (λ q. after_place ps ps' p q (is q) ∙ kept_by (bytes_eq q (string_bytes p.name)) (place_bytes p) (get (files_of ps) q)
    (λ here. same ∙ ap (λ n. option_and_then place_bytes (place_of n ps)) (sym (same_name q (string_bytes p.name) here)) ∙ sym (get-files_of ps q)))

-- a place that is replaced by one with another file changes that file alone
pub files_of-insert : (ps ps' : List Place) (p : Place) (bytes : List ℕ)
    → ((q : List ℕ) → place_of q ps' ≡ cond (bytes_eq q (string_bytes p.name)) (Some p) (place_of q ps))
    → place_bytes p ≡ Some bytes → files_of ps' ≡ insert (files_of ps) (string_bytes p.name) bytes
files_of-insert ps ps' p bytes is new =
    same_files (files_of ps') (insert (files_of ps) (string_bytes p.name) bytes) (λ q. after_place ps ps' p q (is q)
    ∙ ap (λ o. cond (bytes_eq q (string_bytes p.name)) o (get (files_of ps) q)) new
    ∙ sym (get-insert nat_list_cmp_total (files_of ps) (string_bytes p.name) bytes q ∙ ap (λ b. cond b (Some bytes) (get (files_of ps) q)) (sym (texts_ties q (string_bytes p.name)))))

some_cond : (b : Bool) (p : Place) (o : Option Place) → is_some o ≡ true → is_some (cond b (Some p) o) ≡ true
some_cond true p o is = refl
some_cond false p o is = is

-- no name loses its place
pub places_kept : (ps ps' : List Place) (p : Place)
    → ((q : List ℕ) → place_of q ps' ≡ cond (bytes_eq q (string_bytes p.name)) (Some p) (place_of q ps))
    → KeepsPlaces ps ps'
places_kept ps ps' p is q had = rw (is q) (some_cond (bytes_eq q (string_bytes p.name)) p (place_of q ps) had)

-- other names keep theirs as it was
pub others_kept : (ps ps' : List Place) (p : Place) (name : List ℕ) → string_bytes p.name ≡ name
    → ((q : List ℕ) → place_of q ps' ≡ cond (bytes_eq q (string_bytes p.name)) (Some p) (place_of q ps))
    → KeepsOthers name ps ps'
others_kept ps ps' p name named is q other =
    is q ∙ ap (λ b. cond b (Some p) (place_of q ps)) (ap (bytes_eq q) named ∙ other)

-- the place itself
pub place_there : (ps ps' : List Place) (p : Place) (name : List ℕ) → string_bytes p.name ≡ name
    → ((q : List ℕ) → place_of q ps' ≡ cond (bytes_eq q (string_bytes p.name)) (Some p) (place_of q ps))
    → place_of name ps' ≡ Some p
place_there ps ps' p name named is =
    is name ∙ ap (λ b. cond b (Some p) (place_of name ps)) (name_same name (string_bytes p.name) (sym named))

-- the names that are attached keep their places
and_parts : (a b : Bool) → (a && b) ≡ true → (a ≡ true) × (b ≡ true)
and_parts true b e = (refl, e)
and_parts false b e = absurd (false≢true e)

pub all_placed-kept : (ps ps' : List Place) (names : List (List ℕ)) → KeepsPlaces ps ps' → all_placed ps names ≡ true
    → all_placed ps' names ≡ true
all_placed-kept ps ps' [] kept all = refl
all_placed-kept ps ps' (name ∷ names) kept all =
    let parts = and_parts (is_some (place_of name ps)) (all_placed ps names) all in
    let first = kept name parts.0 in
    let rest = all_placed-kept ps ps' names kept parts.1 in
    rw (first, rest) refl

pub all_placed-without : (ps : List Place) (name : List ℕ) (names : List (List ℕ)) → all_placed ps names ≡ true
    → all_placed ps (without name names) ≡ true
all_placed-without ps name [] all = refl
all_placed-without ps name (x ∷ names) all =
    let parts = and_parts (is_some (place_of x ps)) (all_placed ps names) all in
    let rest = all_placed-without ps name names parts.1 in
    elim (bytes_eq name x) as (λ b. all_placed ps (cond b names (x ∷ without name names)) ≡ true)
    [ true ↦ parts.1 | false ↦ rw (parts.0, rest) refl ]

or_parts : (a b : Bool) → (a || b) ≡ true → (a ≡ true) ⊎ (b ≡ true)
or_parts true b e = inl refl
or_parts false b e = inr e

pub all_placed-has : (ps : List Place) (name : List ℕ) (names : List (List ℕ)) → all_placed ps names ≡ true
    → has_name name names ≡ true → is_some (place_of name ps) ≡ true
all_placed-has ps name [] all has = absurd (false≢true has)
all_placed-has ps name (x ∷ names) all has =
    let parts = and_parts (is_some (place_of x ps)) (all_placed ps names) all in
    elim (or_parts (bytes_eq name x) (has_name name names) has) [
      | inl here ↦ subst (λ n. is_some (place_of n ps) ≡ true) (sym (same_name name x here)) parts.0
      | inr there ↦ all_placed-has ps name names parts.1 there
    ]

-- a replaced place with the same file keeps all files
pub kept_by_set : (name : List ℕ) (ps ps' : List Place) (p : Place) → string_bytes p.name ≡ name
    → ((q : List ℕ) → place_of q ps' ≡ cond (bytes_eq q (string_bytes p.name)) (Some p) (place_of q ps))
    → place_bytes p ≡ option_and_then place_bytes (place_of name ps) → KeepsFiles name ps ps'
kept_by_set name ps ps' p named is same = record {
  files = files_of-kept ps ps' p is (same ∙ ap (λ n. option_and_then place_bytes (place_of n ps)) (sym named));
  others = others_kept ps ps' p name named is;
  places = places_kept ps ps' p is;
}

pub kept_by_push : (name : List ℕ) (ps : List Place) (p : Place) → index_of name ps ≡ None → IsFresh name p
    → KeepsFiles name ps (ps ++ p ∷ [])
kept_by_push name ps p none fresh =
    kept_by_set name ps (ps ++ p ∷ []) p fresh.named (λ q. place_of-push name q ps p none fresh.named)
    (ap (option_map (λ v. v.items)) fresh.empty ∙ sym (ap (option_and_then place_bytes) (place_of-none name ps none)))

pub calls_by_push : (name : List ℕ) (ps : List Place) (p : Place) → index_of name ps ≡ None → IsFresh name p
    → KeepsCalls name ps (ps ++ p ∷ [])
calls_by_push name ps p none fresh =
    let there = place_there ps (ps ++ p ∷ []) p name fresh.named (λ q. place_of-push name q ps p none fresh.named) in
    let before = place_of-none name ps none in
    record {
      made = ap made_by there ∙ fresh.made ∙ sym (ap made_by before);
      failing = ap failing_by there ∙ fresh.failing ∙ sym (ap failing_by before);
    }

pub kept_same : (name : List ℕ) (ps ps' : List Place) → ps' ≡ ps → KeepsFiles name ps ps'
kept_same name ps ps' same =
    record {
      files = ap files_of same;
      others = λ q other. ap (place_of q) same;
      places = λ q is. ap (λ ps. is_some (place_of q ps)) same ∙ is;
    }

pub calls_same : (name : List ℕ) (ps ps' : List Place) → ps' ≡ ps → KeepsCalls name ps ps'
calls_same name ps ps' same =
    record {
      made = ap (λ ps. made_by (place_of name ps)) same;
      failing = ap (λ ps. failing_by (place_of name ps)) same;
    }

pub kept_then : (name : List ℕ) (a b c : List Place) → KeepsFiles name a b → KeepsFiles name b c → KeepsFiles name a c
kept_then name a b c one two = record {
  files = two.files ∙ one.files;
  others = λ q other. two.others q other ∙ one.others q other;
  places = λ q is. two.places q (one.places q is);
}

map_is_some : (o : Option ℕ) → IsSome o → IsSome (option_map (λ i. i + 1) o)
map_is_some None is = absurd (false≢true is)
map_is_some (Some i) is = refl

cond_is_some : (b : Bool) (p : Place) (ps : Option Place) (i : ℕ) (o : Option ℕ) → (is_some ps ≡ true → IsSome o)
    → is_some (cond b (Some p) ps) ≡ true → IsSome (cond b (Some i) (option_map (λ i. i + 1) o))
cond_is_some true p ps i o rest is = refl
cond_is_some false p ps i o rest is = map_is_some o (rest is)

-- a name with a place stands somewhere
pub IsSome-index_of : (name : List ℕ) (ps : List Place) → is_some (place_of name ps) ≡ true → IsSome (index_of name ps)
IsSome-index_of name [] is = absurd (false≢true is)
IsSome-index_of name (p ∷ ps) is =
    cond_is_some (bytes_eq name (string_bytes p.name)) p (place_of name ps) 0 (index_of name ps)
    (λ rest. IsSome-index_of name ps rest) is

-- a place that stands for a name, as an index reads it
pub named_there : (name : List ℕ) (ps : List Place) (i : ℕ) (p : Place) → index_of name ps ≡ Some i
    → p ≡ get_or ps i p → string_bytes p.name ≡ name
named_there name ps i p found is = ap (λ p. string_bytes p.name) is ∙ (stands_at name ps i found).named p

pub place_of-there : (name : List ℕ) (ps : List Place) (i : ℕ) (p : Place) → index_of name ps ≡ Some i
    → p ≡ get_or ps i p → place_of name ps ≡ Some p
place_of-there name ps i p found is = (stands_at name ps i found).place p ∙ ap Some (sym is)

pub file_there : (name : List ℕ) (ps : List Place) (i : ℕ) (p : Place) → index_of name ps ≡ Some i → p ≡ get_or ps i p
    → get (files_of ps) name ≡ place_bytes p
file_there name ps i p found is =
    get-files_of ps name ∙ ap (option_and_then place_bytes) (place_of-there name ps i p found is)

-- a clause on an `Ok` that follows from another
pub IfOk-then : {T E : Type 0} (P Q : T → Type 0) (r : Result T E) → ((x : T) → P x → Q x) → IfOk r P → IfOk r Q
IfOk-then P Q (Ok x) step is = step x is
IfOk-then P Q (Err e) step is = tt

-- what an `Ok` or an `Err` says, where it follows from what it said
pub OnOk-then : {T E : Type 0} (P Q : Type 0) (r : Result T E) → (P → Q) → OnOk r P → OnOk r Q
OnOk-then P Q (Ok x) step is = step is
OnOk-then P Q (Err e) step is = tt

pub OnErr-then : {T E : Type 0} (P Q : Type 0) (r : Result T E) → (P → Q) → OnErr r P → OnErr r Q
OnErr-then P Q (Ok x) step is = tt
OnErr-then P Q (Err e) step is = step is

-- a place that was replaced by one with an empty file, or, after a refusal, with the same
pub created_by_set : {T E : Type 0} (name : List ℕ) (ps ps' : List Place) (p : Place) (r : Result T E)
    → string_bytes p.name ≡ name
    → ((q : List ℕ) → place_of q ps' ≡ cond (bytes_eq q (string_bytes p.name)) (Some p) (place_of q ps))
    → OnOk r (place_bytes p ≡ Some []) → OnErr r (place_bytes p ≡ option_and_then place_bytes (place_of name ps)) → CreatesFile
    name ps r ps'
created_by_set name ps ps' p r named is created refused = record {
  created =
      OnOk-then _ _ r (λ empty. files_of-insert ps ps' p [] is empty ∙ ap (λ n. insert (files_of ps) n []) named)
      created;
  refused =
      OnErr-then _ _ r
      (λ same. files_of-kept ps ps' p is (same ∙ ap (λ n. option_and_then place_bytes (place_of n ps)) (sym named)))
      refused;
  others = others_kept ps ps' p name named is;
  places = places_kept ps ps' p is;
}

-- a place that was there or was made for the name before
pub created_then : {T E : Type 0} (name : List ℕ) (a b c : List Place) (r : Result T E) → KeepsFiles name a b
    → CreatesFile name b r c → CreatesFile name a r c
created_then name a b c r one two = record {
  created = OnOk-then _ _ r (λ is. is ∙ ap (λ files. insert files name []) one.files) two.created;
  refused = OnErr-then _ _ r (λ is. is ∙ one.files) two.refused;
  others = λ q other. two.others q other ∙ one.others q other;
  places = λ q is. two.places q (one.places q is);
}

-- where no place could be made
pub created_none : {T E : Type 0} (name : List ℕ) (a b : List Place) (e : E) → KeepsFiles name a b
    → CreatesFile {T = T} name a (Err e) b
created_none name a b e kept = record { created = tt; refused = kept.files; others = kept.others; places = kept.places }

-- the first of a name goes
pub without-here : (name : List ℕ) (xs : List (List ℕ)) (i : ℕ) → i < length xs
    → bytes_eq name (get_or xs i []) ≡ true → without name (drop i xs) ≡ drop (suc i) xs
without-here name xs i within is = rw (drop-cons xs i [], is) refl

-- another stays
pub without-next : (name : List ℕ) (xs : List (List ℕ)) (i : ℕ) → i < length xs → bytes_eq name (get_or xs i []) ≡ false
    → take i xs ++ without name (drop i xs) ≡ take (suc i) xs ++ without name (drop (suc i) xs)
without-next name xs i within is =
    rw (drop-cons xs i [], is, take-suc xs i [])
    (sym (append_assoc (take i xs) (get_or xs i [] ∷ []) (without name (drop (suc i) xs))))

texts_at : (items : List (String Global)) (i : ℕ) (text : String Global) → i < length items
    → text ≡ get_or items i text → get_or (map string_bytes items) i [] ≡ string_bytes text
texts_at items i text within is = get_or-map string_bytes items i text [] within ∙ ap string_bytes (sym is)

-- the list of texts without the one at a place, which is the first of its name
pub without_text : (name : List ℕ) (items after : List (String Global)) (i : ℕ) (text : String Global)
    → i < length items → text ≡ get_or items i text → bytes_eq name (string_bytes text) ≡ true
    → after ≡ take i items ++ drop (suc i) items
    → without name (map string_bytes items)
    ≡ take i (map string_bytes items) ++ without name (drop i (map string_bytes items))
    → map string_bytes after ≡ without name (map string_bytes items)
without_text name items after i text within is named removed so_far =
    let here = ap (bytes_eq name) (texts_at items i text within is) ∙ named in
    let many : i < length (map string_bytes items) = rw (length-map items string_bytes) within in
    ap (map string_bytes) removed ∙ map-append string_bytes (take i items) (drop (suc i) items)
    ∙ sym (so_far ∙ ap (λ rest. take i (map string_bytes items) ++ rest) (without-here name (map string_bytes items) i many here)
    ∙ rw (take-map string_bytes i items, drop-map string_bytes (suc i) items) refl)

-- another text stays
pub next_text : (name : List ℕ) (items : List (String Global)) (i : ℕ) (text : String Global) → i < length items
    → text ≡ get_or items i text → bytes_eq name (string_bytes text) ≡ false
    → without name (map string_bytes items)
    ≡ take i (map string_bytes items) ++ without name (drop i (map string_bytes items))
    → without name (map string_bytes items)
    ≡ take (i + 1) (map string_bytes items) ++ without name (drop (i + 1) (map string_bytes items))
next_text name items i text within is other so_far =
    let here = ap (bytes_eq name) (texts_at items i text within is) ∙ other in
    let many : i < length (map string_bytes items) = rw (length-map items string_bytes) within in
    rw add-one (so_far ∙ without-next name (map string_bytes items) i many here)

pub all_placed-cons : (ps : List Place) (name : List ℕ) (names : List (List ℕ)) → is_some (place_of name ps) ≡ true
    → all_placed ps names ≡ true → all_placed ps (name ∷ names) ≡ true
all_placed-cons ps name names first rest = rw (first, rest) refl

-- the shelf after a file was handed out
pub seen-attached : (name : List ℕ) (ps ps' : List Place) (names names' : List (String Global)) (text : String Global)
    → files_of ps' ≡ files_of ps → names' ≡ text ∷ names → string_bytes text ≡ name
    → seen_mem_shelf ps' names' ≡ after_attach name (seen_mem_shelf ps names)
unfolding after_attach
seen-attached name ps ps' names names' text files is named =
    let attached : map string_bytes names' ≡ name ∷ map string_bytes names = ap (map string_bytes) is
    ∙ ap (λ n. n ∷ map string_bytes names) named in
    λ i. record { is_told = true; files = files i; attached = attached i }

-- after an empty one was made
pub seen-created : (name : List ℕ) (ps ps' : List Place) (names names' : List (String Global)) (text : String Global)
    → files_of ps' ≡ insert (files_of ps) name [] → names' ≡ text ∷ names → string_bytes text ≡ name
    → seen_mem_shelf ps' names' ≡ after_create name (seen_mem_shelf ps names)
unfolding after_create
seen-created name ps ps' names names' text files is named =
    let attached : map string_bytes names' ≡ name ∷ map string_bytes names = ap (map string_bytes) is
    ∙ ap (λ n. n ∷ map string_bytes names) named in
    λ i. record { is_told = true; files = files i; attached = attached i }

-- and after one was taken back
pub seen-released : (file : ImageState) (ps ps' : List Place) (names names' : List (String Global))
    → files_of ps' ≡ insert (files_of ps) file.name file.content
    → map string_bytes names' ≡ without file.name (map string_bytes names)
    → seen_mem_shelf ps' names' ≡ after_release file (seen_mem_shelf ps names)
unfolding after_release
seen-released file ps ps' names names' files attached =
    λ i. record { is_told = true; files = files i; attached = attached i }

pub file_absent : (name : List ℕ) (ps : List Place) → index_of name ps ≡ None → get (files_of ps) name ≡ None
file_absent name ps none = get-files_of ps name ∙ ap (option_and_then place_bytes) (place_of-none name ps none)

-- a place that was found is there
pub is_some-place_of : (name : List ℕ) (ps : List Place) (i : ℕ) → index_of name ps ≡ Some i
    → is_some (place_of name ps) ≡ true
is_some-place_of name [] i found = absurd (cc)
is_some-place_of name (p ∷ ps) i found = ap is_some ((stands_at name (p ∷ ps) i found).place p)
