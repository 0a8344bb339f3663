-- Attributes and entries, one after the other.
use Rattle.std.proofs.Common.{◌≡◌, ◌≤◌, ◌+◌, ◌-◌, ◌*◌, ◌==◌, ◌&&◌, ◌++◌, ℕ, suc, List, [], ◌∷◌, length, map, take, drop, refl, sym, ap, ◌∙◌, subst, arith, cond, Bool, true, false, Option, Some, None, Result, Ok, Err, nat_le, if◌then◌else◌}
use Rattle.std.specs.Prelude.{find, filter, All, is_err, is_ok, replicate}
use Rattle.std.specs.Option.{option_map, ok_or}
use Rattle.std.specs.Result.{result_map_both}
use Rattle.std.proofs.lemmas.Bool.{leb-true}
use Rattle.std.proofs.lemmas.List.{append-nil, drop-replicate, drop_all, length-map, length-take-le, take_all}
use Rattle.ntfs_attrlist.specs.Entry.{Listed}
use Rattle.ntfs_attrlist.specs.Reading.{all_or_first}
use Rattle.ntfs_attrlist.specs.Views.{shown_item}
use Rattle.ntfs_attrlist.specs.declared.entry.ListEntry.{ListEntry}
use Rattle.ntfs_attrlist.specs.declared.fault.BadEntry.{BadEntry}
use Rattle.ntfs_record.specs.Attribute.{attribute_of}
use Rattle.ntfs_record.specs.FileRecord.{Attribute, FileRecord, Laid, attributes_of}
use Rattle.ntfs_record.specs.Views.{Placed, Shown, ShownBody, shown_body_of, shown_placed}
use Rattle.ntfs_runs.specs.Cells.{are_cells, cells_below, cells_of, map_cells}
use Rattle.ntfs_runs.specs.Clusters.{vcns}
use Rattle.ntfs_runs.specs.Reading.{reading, reading_from}
use Rattle.ntfs_runs.specs.declared.run.Run.{Run}
use Rattle.ntfs_runs.proofs.CellsLemmas.{cells_of-right, cells_of-wrong}
use Rattle.ntfs_boot.specs.declared.geometry.Geometry.{Geometry}
use Rattle.ntfs_volume.specs.Listing.{filled_attribute, filled_attributes, is_list_named, bytes_of_list, lists_named, most_list}
use Rattle.ntfs_volume.specs.ListViews.{is_shown_readable, list_bytes_of, readable_cells}
use Rattle.ntfs_volume.specs.MftMap.{no_map}
use Rattle.ntfs_volume.specs.StreamBytes.{have_room, runs_bytes}
use Rattle.ntfs_volume.specs.Views.{is_shown_list, told, unplaced}
use Rattle.ntfs_volume.specs.declared.fault.VolumeFault.{VolumeFault}
use Rattle.ntfs_volume.proofs.AnswerLemmas.{and-left, and-right}

find-rest : {X : Type 0} (p : X → Bool) (x : X) (rest : List X) → p x ≡ false → find p (x ∷ rest) ≡ find p rest
find-rest p x rest is = rw is refl

find-first : {X : Type 0} (p : X → Bool) (x : X) (rest : List X) → p x ≡ true → find p (x ∷ rest) ≡ Some x
find-first p x rest is = rw is refl

-- the first item isn't the one that is looked for
pub find-skip : {X : Type 0} (p : X → Bool) (xs rest : List X) (x : X) (found : Option X) → xs ≡ x ∷ rest → p x ≡ false → find p xs ≡ found → find p rest ≡ found
find-skip p xs rest x found is test same = sym (find-rest p x rest test) ∙ sym (ap (find p) is) ∙ same

-- or it is
pub find-take : {X : Type 0} (p : X → Bool) (xs rest : List X) (x : X) (found : Option X) → xs ≡ x ∷ rest → p x ≡ true → find p xs ≡ found → Some x ≡ found
find-take p xs rest x found is test same = sym (find-first p x rest test) ∙ sym (ap (find p) is) ∙ same

all_rest : {X : Type 0} (P : X → Type 0) (x : X) (rest : List X) → All P (x ∷ rest) → All P rest
all_rest P x rest all k d lt = all (suc k) d (omega arith)

pub all-rest : {X : Type 0} (P : X → Type 0) (xs rest : List X) (x : X) → xs ≡ x ∷ rest → All P xs → All P rest
all-rest P xs rest x is all = all_rest P x rest (subst (All P) is all)

pub all-first : {X : Type 0} (P : X → Type 0) (xs rest : List X) (x : X) → xs ≡ x ∷ rest → All P xs → P x
all-first P xs rest x is all = let whole : All P (x ∷ rest) = subst (All P) is all in whole 0 x (omega arith)

placed_told : (ps : List Placed) → map unplaced (map shown_placed ps) ≡ map told (map attribute_of (map (λ (p : Placed). p.raw) ps))
placed_told [] = refl
placed_told (p ∷ ps) = ap (λ xs. told (attribute_of p.raw) ∷ xs) (placed_told ps)

-- what the attributes in place show is what they say
pub placed-told : (ps : List Placed) (r : FileRecord) → map (λ (p : Placed). p.raw) ps ≡ r.raws → map unplaced (map shown_placed ps) ≡ map told (attributes_of r)
placed-told ps r is = placed_told ps ∙ ap (λ raws. map told (map attribute_of raws)) is

-- ---- entries

pub entry-bad : (items rest : List (Result Listed BadEntry)) (item : Result ListEntry BadEntry) → items ≡ shown_item item ∷ rest → is_err item ≡ true → is_ok (all_or_first items) ≡ false
entry-bad items rest (Ok x) is bad = absurd cc
entry-bad items rest (Err e) is bad = ap (λ xs. is_ok (all_or_first xs)) is

ok_map : {X Y E : Type 0} (f : X → Y) (r : Result X E) → is_ok (result_map_both f (λ e. e) r) ≡ is_ok r
ok_map f (Ok x) = refl
ok_map f (Err e) = refl

pub entry-good : (items rest : List (Result Listed BadEntry)) (item : Result ListEntry BadEntry) → items ≡ shown_item item ∷ rest → is_err item ≡ false → is_ok (all_or_first rest) ≡ is_ok (all_or_first items)
entry-good items rest (Ok x) is bad = sym (ap (λ xs. is_ok (all_or_first xs)) is ∙ ok_map _ (all_or_first rest))
entry-good items rest (Err e) is bad = absurd cc

-- ---- lists of a name

filter_step : {X Y : Type 0} (b : Bool) (x : X) (y : Y) (xs : List X) (ys : List Y) → length xs ≡ length ys → length (cond b (x ∷ xs) xs) ≡ length (cond b (y ∷ ys) ys)
filter_step true x y xs ys same = ap suc same
filter_step false x y xs ys same = same

pub lists-told : (name : List ℕ) (them : List (Attribute (Laid (List ℕ)))) → length (filter (is_shown_list name) (map told them)) ≡ lists_named name them
lists-told name [] = refl
lists-told name (a ∷ them) = filter_step (is_list_named name a.face) (told a) a (filter (is_shown_list name) (map told them)) (filter (λ (a : Attribute _). is_list_named name a.face) them) (lists-told name them)

pub lists-filled : (n : ℕ) (f : ℕ → List ℕ) (name : List ℕ) (them : List (Attribute (Laid (List ℕ)))) → lists_named name (filled_attributes n f them) ≡ lists_named name them
lists-filled n f name [] = refl
lists-filled n f name (a ∷ them) = filter_step (is_list_named name a.face) (filled_attribute n f a) a (filter (λ (a : Attribute _). is_list_named name a.face) (filled_attributes n f them)) (filter (λ (a : Attribute _). is_list_named name a.face) them) (lists-filled n f name them)

count_skip : {X : Type 0} (p : X → Bool) (x : X) (rest : List X) → p x ≡ false → length (filter p (x ∷ rest)) ≡ length (filter p rest)
count_skip p x rest is = rw is refl

count_take : {X : Type 0} (p : X → Bool) (x : X) (rest : List X) → p x ≡ true → length (filter p (x ∷ rest)) ≡ suc (length (filter p rest))
count_take p x rest is = rw is refl

pub count-skip : {X : Type 0} (p : X → Bool) (xs rest : List X) (x : X) (count all : ℕ) → xs ≡ x ∷ rest → p x ≡ false → count + length (filter p xs) ≡ all → count + length (filter p rest) ≡ all
count-skip p xs rest x count all is test same = ap (λ n. count + n) (sym (count_skip p x rest test) ∙ sym (ap (λ ys. length (filter p ys)) is)) ∙ same

pub count-take : {X : Type 0} (p : X → Bool) (xs rest : List X) (x : X) (count all : ℕ) → xs ≡ x ∷ rest → p x ≡ true → count + length (filter p xs) ≡ all → count + 1 + length (filter p rest) ≡ all
count-take p xs rest x count all is test same =
    let more = count_take p x rest test in
    let whole = ap (λ ys. length (filter p ys)) is in
    omega (arith, more, whole, same)

-- ---- the runs of a list

right_below : (b : Bool) → (true && b) ≡ b
right_below b = refl

pub below-right : (n : ℕ) (pairs : List ℕ) (runs : List Run) → (reading pairs).is_right ≡ true → runs ≡ (reading pairs).runs
    → ((cells_below n pairs).is_right ≡ are_cells true n (vcns runs)) × ((cells_below n pairs).cells ≡ vcns runs)
unfolding cells_below
below-right n pairs runs right read =
    let cells = cells_of-right pairs runs right read in
    (ap (λ b. b && are_cells true n (cells_of pairs).cells) cells.0 ∙ ap (are_cells true n) cells.1, cells.1)

pub below-wrong : (n : ℕ) (pairs : List ℕ) → (reading pairs).is_right ≡ false → (cells_below n pairs).is_right ≡ false
unfolding cells_below
below-wrong n pairs wrong = ap (λ b. b && are_cells true n (cells_of pairs).cells) (cells_of-wrong pairs wrong)

and_false : (a b : Bool) → (a && (false && b)) ≡ false
and_false true b = refl
and_false false b = refl

pub readable-wrong : (g : Geometry) (b : ShownBody) → (cells_below g.clusters b.pairs).is_right ≡ false → readable_cells g b ≡ Err (no_map 0)
unfolding readable_cells
readable-wrong g b wrong = rw (wrong, and_false (b.lowest == 0) (nat_le b.size most_list && have_room g.cluster (length (cells_below g.clusters b.pairs).cells) b.size b.valid)) refl

nothing_read : (reading []).is_right ≡ false
unfolding reading reading_from
nothing_read = refl

pub readable-none : (g : Geometry) (b : ShownBody) → b.pairs ≡ [] → readable_cells g b ≡ Err (no_map 0)
readable-none g b none = readable-wrong g b (ap (λ ps. (cells_below g.clusters ps).is_right) none ∙ below-wrong g.clusters [] nothing_read)

-- a list of these runs, all below the number of clusters, can be read where its sizes fit
pub readable-right : (g : Geometry) (b : ShownBody) (pairs : List ℕ) (runs : List Run) (lowest next size valid count : ℕ) (fits : Bool)
    → b.pairs ≡ pairs → b.lowest ≡ lowest → b.next ≡ next → b.size ≡ size → b.valid ≡ valid
    → (reading pairs).is_right ≡ true → runs ≡ (reading pairs).runs → are_cells true g.clusters (vcns runs) ≡ true → count ≡ length (vcns runs)
    → ((lowest == 0) && ((count == next) && (nat_le size most_list && have_room g.cluster count size valid))) ≡ fits
    → readable_cells g b ≡ (if fits then Ok (vcns runs) else Err (no_map 0))
unfolding readable_cells
readable-right g b pairs runs lowest next size valid count true same low nxt siz val right read below counted fits =
    let cells = below-right g.clusters pairs runs right read in
    rw (same, low, nxt, siz, val, cells.0 ∙ below, ap length cells.1 ∙ sym counted, fits) (ap Ok cells.1)
readable-right g b pairs runs lowest next size valid count false same low nxt siz val right read below counted fits =
    let cells = below-right g.clusters pairs runs right read in
    rw (same, low, nxt, siz, val, cells.0 ∙ below, ap length cells.1 ∙ sym counted, fits) refl

pub fits-list : (l next size valid c count : ℕ) → ((l == 0) && ((count == next) && (nat_le size most_list && have_room c count size valid))) ≡ true
    → (size ≤ count * c) × (valid ≤ size) × (size ≤ most_list)
fits-list l next size valid c count is =
    let rest = and-right (count == next) (nat_le size most_list && have_room c count size valid) (and-right (l == 0) ((count == next) && (nat_le size most_list && have_room c count size valid)) is) in
    let room = and-right (nat_le size most_list) (have_room c count size valid) rest in (
      leb-true size (count * c) (and-left (nat_le size (count * c)) (nat_le valid size) room),
      leb-true valid size (and-right (nat_le size (count * c)) (nat_le valid size) room),
      leb-true size most_list (and-left (nat_le size most_list) (have_room c count size valid) rest),
    )

pub front-read : (bytes block whole : List ℕ) (valid : ℕ) → bytes ≡ replicate (length bytes) 0 → valid ≤ length bytes → block ≡ take (length (take valid bytes)) (drop 0 whole)
    → take valid whole ++ replicate (length bytes - valid) 0 ≡ block ++ drop valid bytes
front-read bytes block whole valid zeros within is =
    let size : length (take valid bytes) ≡ valid = length-take-le valid bytes within in
    sym (ap (λ xs. xs ++ drop valid bytes) (is ∙ ap (λ n. take n whole) size) ∙ ap (λ xs. take valid whole ++ drop valid xs) zeros ∙ ap (λ xs. take valid whole ++ xs) (drop-replicate valid (length bytes) 0))

find_step : {A B : Type 0} (g : A → B) (b : Bool) (x : A) (found : Option B) (rest : Option A) → found ≡ option_map g rest
    → (if b then Some (g x) else found) ≡ option_map g (if b then Some x else rest)
find_step g true x found rest is = refl
find_step g false x found rest is = is

-- what is found of items that are mapped
pub find-map : {A B : Type 0} (g : A → B) (p : B → Bool) (q : A → Bool) → ((x : A) → p (g x) ≡ q x) → (xs : List A) → find p (map g xs) ≡ option_map g (find q xs)
find-map g p q same [] = refl
find-map g p q same (x ∷ xs) = rw (same x) (find_step g (q x) x (find p (map g xs)) (find q xs) (find-map g p q same xs))

-- an attribute in place is the one that is said
pub found-none : (o : Option (Attribute (Laid (List ℕ)))) → None ≡ option_map told o → o ≡ None
found-none None is = refl
found-none (Some a) is = absurd cc

pub found-some : (o : Option (Attribute (Laid (List ℕ)))) (s : Shown) → Some s ≡ option_map told o → (a : Attribute (Laid (List ℕ))) × (o ≡ Some a) × (told a ≡ s)
found-some None s is = absurd cc
found-some (Some a) s is = (a, refl, cc)

-- ---- the bytes of a list that isn't resident

length_cells : {X : Type 0} (f : ℕ → X) (cells : List (Option ℕ)) → length (map_cells f cells) ≡ length cells
length_cells f cells = length-map cells (option_map f)

pub list-many : (g : Geometry) (f : ℕ → List ℕ) (a : Attribute (Laid (List ℕ))) (said : FileRecord) (name : List ℕ) → a.face.is_resident ≡ false → a.face.name ≡ name
    → (lists_named name (attributes_of said) == 1) ≡ false → list_bytes_of g f a said ≡ None
unfolding bytes_of_list
list-many g f a said name resident same many =
    let count = lists-filled g.clusters f a.face.name (attributes_of said) ∙ ap (λ n. lists_named n (attributes_of said)) same in
    rw (resident, ap (λ n. n == 1) count ∙ many) refl

list_one : (g : Geometry) (f : ℕ → List ℕ) (a : Attribute (Laid (List ℕ))) (said : FileRecord) (name : List ℕ) (readable : Bool) → a.face.is_resident ≡ false → a.face.name ≡ name
    → (lists_named name (attributes_of said) == 1) ≡ true → is_shown_readable g (shown_body_of a) ≡ readable
    → list_bytes_of g f a said ≡ (if readable then Some (runs_bytes g.cluster a.face.size a.face.valid (map_cells f (cells_below g.clusters a.payload.runs).cells)) else None)
unfolding bytes_of_list
list_one g f a said name readable resident same one is =
    let count = lists-filled g.clusters f a.face.name (attributes_of said) ∙ ap (λ n. lists_named n (attributes_of said)) same in
    rw (resident, ap (λ n. n == 1) count ∙ one, length_cells f (cells_below g.clusters a.payload.runs).cells, is) refl

readable_bool : (g : Geometry) (b : ShownBody) (cells : List (Option ℕ)) (readable : Bool) → is_shown_readable g b ≡ readable → readable_cells g b ≡ Ok cells → (readable ≡ true) × ((cells_below g.clusters b.pairs).cells ≡ cells)
unfolding readable_cells
readable_bool g b cells true is gives = let same : ◌≡◌ {A = Result (List (Option ℕ)) VolumeFault} (Ok (cells_below g.clusters b.pairs).cells) (Ok cells) = sym (rw is refl) ∙ gives in (refl, cc)
readable_bool g b cells false is gives = let same : ◌≡◌ {A = Result (List (Option ℕ)) VolumeFault} (Err (no_map 0)) (Ok cells) = sym (rw is refl) ∙ gives in absurd cc

readable_fault : (g : Geometry) (b : ShownBody) (fault : VolumeFault) (readable : Bool) → is_shown_readable g b ≡ readable → readable_cells g b ≡ Err fault → (readable ≡ false) × (no_map 0 ≡ fault)
unfolding readable_cells
readable_fault g b fault true is gives = let same : ◌≡◌ {A = Result (List (Option ℕ)) VolumeFault} (Ok (cells_below g.clusters b.pairs).cells) (Err fault) = sym (rw is refl) ∙ gives in absurd cc
readable_fault g b fault false is gives = let same : ◌≡◌ {A = Result (List (Option ℕ)) VolumeFault} (Err (no_map 0)) (Err fault) = sym (rw is refl) ∙ gives in (refl, cc)

pub list-read : (g : Geometry) (f : ℕ → List ℕ) (a : Attribute (Laid (List ℕ))) (said : FileRecord) (s : Shown) (cells : List (Option ℕ)) → told a ≡ s → s.body.is_resident ≡ false
    → (lists_named s.name (attributes_of said) == 1) ≡ true → readable_cells g s.body ≡ Ok cells
    → list_bytes_of g f a said ≡ Some (runs_bytes g.cluster s.body.size s.body.valid (map_cells f cells))
list-read g f a said s cells same resident one gives =
    let body = ap (λ (t : Shown). t.body) same in
    let readable = readable_bool g (shown_body_of a) cells (is_shown_readable g (shown_body_of a)) refl (ap (readable_cells g) body ∙ gives) in
    list_one g f a said s.name true (ap (λ (t : Shown). t.body.is_resident) same ∙ resident) (ap (λ (t : Shown). t.name) same) one readable.0
    ∙ ap (λ (b : ShownBody). Some (runs_bytes g.cluster b.size b.valid (map_cells f (cells_below g.clusters a.payload.runs).cells))) body
    ∙ ap (λ xs. Some (runs_bytes g.cluster s.body.size s.body.valid (map_cells f xs))) readable.1

pub list-refused : (g : Geometry) (f : ℕ → List ℕ) (a : Attribute (Laid (List ℕ))) (said : FileRecord) (s : Shown) (fault : VolumeFault) → told a ≡ s → s.body.is_resident ≡ false
    → (lists_named s.name (attributes_of said) == 1) ≡ true → readable_cells g s.body ≡ Err fault → ok_or (list_bytes_of g f a said) (no_map 0) ≡ Err fault
list-refused g f a said s fault same resident one gives =
    let body = ap (λ (t : Shown). t.body) same in
    let readable = readable_fault g (shown_body_of a) fault (is_shown_readable g (shown_body_of a)) refl (ap (readable_cells g) body ∙ gives) in
    ap (λ o. ok_or o (no_map 0)) (list_one g f a said s.name false (ap (λ (t : Shown). t.body.is_resident) same ∙ resident) (ap (λ (t : Shown). t.name) same) one readable.0) ∙ ap Err readable.1

pub count-step : {X : Type 0} (p : X → Bool) (xs rest : List X) (x : X) (count all : ℕ) (b : Bool) → xs ≡ x ∷ rest → p x ≡ b → count + length (filter p xs) ≡ all
    → (if b then count + 1 else count) + length (filter p rest) ≡ all
count-step p xs rest x count all true is test same = count-take p xs rest x count all is test same
count-step p xs rest x count all false is test same = count-skip p xs rest x count all is test same

pub counted-most : (count : ℕ) (b : Bool) → (if b then count + 1 else count) ≤ count + 1
counted-most count true = omega arith
counted-most count false = omega arith

-- what is found is wanted
find_meets : {X : Type 0} (b : Bool) (x s : X) (p : X → Bool) (rest : Option X) → p x ≡ b → (rest ≡ Some s → p s ≡ true) → (if b then Some x else rest) ≡ Some s → p s ≡ true
find_meets true x s p rest test more is = let same : x ≡ s = cc in ap p (sym same) ∙ test
find_meets false x s p rest test more is = more is

pub find-meets : {X : Type 0} (p : X → Bool) (xs : List X) (s : X) → find p xs ≡ Some s → p s ≡ true
find-meets p [] s is = absurd cc
find-meets p (x ∷ xs) s is = find_meets (p x) x s p (find p xs) refl (find-meets p xs s) is

-- what is written back to a vector of as many bytes
pub list-back : (n : ℕ) (new items shown : List ℕ) → length new ≡ length shown → shown ≡ items → n ≡ length items → take n (new ++ drop (length new) items) ≡ new
list-back n new items shown long same count =
    let size : length items ≡ length new = sym (ap length same) ∙ sym long in
    let none = drop_all (length new) items (omega (arith, size)) in
    ap (λ rest. take n (new ++ rest)) none ∙ ap (take n) (append-nil new) ∙ take_all n new (omega (arith, size, count))
