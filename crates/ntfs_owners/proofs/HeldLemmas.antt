-- What records hold, one after another.
use Rattle.std.proofs.Common.{◌≡◌, ◌+◌, ◌-◌, ◌*◌, ◌<◌, ◌≤◌, ◌^◌, ◌||◌, ℕ, zero, suc, Bool, true, false, List, [], ◌∷◌, ◌++◌, drop, get_or, length, map, take, Option, Some, None, refl, sym, ap, ◌∙◌, arith, append_assoc, length-append, if◌then◌else◌}
use Rattle.std.specs.List.{list_any}
use Rattle.std.proofs.Math.Seq.{drop-append_seam, take-append_seam}
use Rattle.std.proofs.lemmas.Grind.{common_steps}
use Rattle.std.proofs.lemmas.List.{append-nil, drop_more, map-append}
use Rattle.ntfs_boot.specs.declared.geometry.Geometry.{Geometry}
use Rattle.ntfs_record.specs.FileRecord.{FileRecord, Laid}
use Rattle.ntfs_record.specs.Slots.{Slot, is_in_use, record_in, tells_own}
use Rattle.ntfs_record.specs.Views.{Placed, Shown, placed_of, shown_placed}
use Rattle.ntfs_runs.specs.Clusters.{vcns}
use Rattle.ntfs_runs.specs.Reading.{reading}
use Rattle.ntfs_runs.specs.declared.run.Run.{Run}
use Rattle.ntfs_runs.proofs.CellsLemmas.{no_run}
use Rattle.ntfs_owners.specs.Held.{Held, all_shown_held, held_of, holder_text, pairs_held, shown_held, slot_held, slots_held}
use Rattle.ntfs_owners.specs.declared.holding.Holding.{Holding}
use Rattle.ntfs_survey.specs.Owned.{runs_in}
use Rattle.ntfs_survey.specs.Surveying.{record_at, shown_located, slots_in}
use Rattle.ntfs_owners.proofs.ScanLemmas.{chunk-held, rest_of}
use Rattle.ntfs_volume.specs.Located.{Located, idle, live_located, located_of, located_slot, slots_from, slots_of, sound_located, unsound_located}
use Rattle.ntfs_volume.specs.Opened.{Opened}
use Rattle.ntfs_volume.specs.Scan.{HoldRecords, initialised_count}

abbrev Record : Type 0
Record = Slot (Located (Laid (List ℕ)))

abbrev Passes : Type 0
Passes = ℕ → ℕ → Bool

abbrev RunsPass : Type 0
RunsPass = List Run → Bool

-- ---- attributes

pub attributes-next : (q : RunsPass) (r : ℕ) (shown rest : List Shown) (x : Shown) (held more all : List Held) → shown ≡ x ∷ rest → more ≡ held ++ shown_held q r x
    → held ++ all_shown_held q r shown ≡ all → more ++ all_shown_held q r rest ≡ all
unfolding all_shown_held
attributes-next q r shown rest x held more all is added same =
    ap (λ xs. xs ++ all_shown_held q r rest) added ∙ append_assoc held (shown_held q r x) (all_shown_held q r rest)
    ∙ ap (λ xs. held ++ all_shown_held q r xs) (sym is) ∙ same

pub attributes-last : (q : RunsPass) (r : ℕ) (shown : List Shown) (held all : List Held) → shown ≡ [] → held ++ all_shown_held q r shown ≡ all → held ≡ all
unfolding all_shown_held
attributes-last q r shown held all is same = sym (append-nil held) ∙ ap (λ xs. held ++ all_shown_held q r xs) (sym is) ∙ same

-- nothing is added
pub adds-none : (held none : List Held) → none ≡ [] → held ≡ held ++ none
adds-none held none is = sym (ap (λ xs. held ++ xs) is ∙ append-nil held)

-- a resident attribute
pub held-resident : (q : RunsPass) (r : ℕ) (shown : Shown) → shown.body.is_resident ≡ true → shown_held q r shown ≡ []
unfolding shown_held
held-resident q r shown is = rw is refl

pub held-runs : (q : RunsPass) (r : ℕ) (shown : Shown) → shown.body.is_resident ≡ false
    → shown_held q r shown ≡ pairs_held q r shown.kind shown.name shown.body.lowest shown.body.pairs
unfolding shown_held
held-runs q r shown is = rw is refl

-- runs that aren't wanted, and wanted ones
pub pairs-unwanted : (q : RunsPass) (r kind : ℕ) (name : List ℕ) (lowest : ℕ) (pairs : List ℕ) (runs : List Run) → runs ≡ runs_in pairs → q runs ≡ false
    → pairs_held q r kind name lowest pairs ≡ []
unfolding pairs_held
pairs-unwanted q r kind name lowest pairs runs are is = rw (sym are, is) refl

pub pairs-wanted : (q : RunsPass) (r kind : ℕ) (name : List ℕ) (lowest : ℕ) (pairs : List ℕ) (runs : List Run) (text : List ℕ) → runs ≡ runs_in pairs → q runs ≡ true
    → text ≡ holder_text r kind name → pairs_held q r kind name lowest pairs ≡ record { text = text; lowest = lowest; runs = runs } ∷ []
unfolding pairs_held
pairs-wanted q r kind name lowest pairs runs text are is text_is = rw (sym are, is, text_is) refl

-- ---- one record

located-shown : (ps : List Placed) → map shown_located (map located_of ps) ≡ map shown_placed ps
located-shown [] = refl
located-shown (p ∷ ps) = ap (λ (rest : List Shown). shown_placed p ∷ rest) (located-shown ps)

none-held : (q : RunsPass) (r : ℕ) (b : Bool) → (if b then all_shown_held q r [] else []) ≡ []
unfolding all_shown_held
none-held q r true = refl
none-held q r false = refl

pub held-idle : (p : Passes) (q : RunsPass) (r : ℕ) (raw : List ℕ) → is_in_use raw ≡ false → slot_held p q r (located_slot r (Some raw)) ≡ []
unfolding slot_held located_slot
held-idle p q r raw idle = rw idle (none-held q r (p r 0))

pub held-live : (p : Passes) (q : RunsPass) (r : ℕ) (raw : List ℕ) → is_in_use raw ≡ true
    → slot_held p q r (located_slot r (Some raw)) ≡ slot_held p q r (live_located r (record_in raw))
unfolding located_slot
held-live p q r raw live = rw live refl

pub held-unread : (p : Passes) (q : RunsPass) (r : ℕ) (said : Option FileRecord) → said ≡ None → slot_held p q r (live_located r said) ≡ []
unfolding slot_held
held-unread p q r said is = ap (λ said. slot_held p q r (live_located r said)) is ∙ none-held q r (p r 0)

-- a record that is read, unless it tells another number
abbrev pub by_own : ℕ → FileRecord → Record
by_own r file = if tells_own r file.layout.number then sound_located file else unsound_located

pub held-read : (p : Passes) (q : RunsPass) (r : ℕ) (said : Option FileRecord) (file : FileRecord) → said ≡ Some file
    → slot_held p q r (live_located r said) ≡ slot_held p q r (by_own r file)
held-read p q r said file is = ap (λ said. slot_held p q r (live_located r said)) is

own-is : (r : ℕ) (file : FileRecord) (own : Bool) → tells_own r file.layout.number ≡ own → by_own r file ≡ (if own then sound_located file else unsound_located)
own-is r file own is = ap (λ (b : Bool). if b then sound_located file else unsound_located) is

pub held-other : (p : Passes) (q : RunsPass) (r : ℕ) (file : FileRecord) → tells_own r file.layout.number ≡ false → slot_held p q r (by_own r file) ≡ []
unfolding slot_held
held-other p q r file other = ap (slot_held p q r) (own-is r file false other) ∙ none-held q r (p r 0)

pub held-unwanted : (p : Passes) (q : RunsPass) (r : ℕ) (file : FileRecord) → tells_own r file.layout.number ≡ true → p r file.head.base ≡ false
    → slot_held p q r (by_own r file) ≡ []
unfolding slot_held
held-unwanted p q r file own is =
    ap (slot_held p q r) (own-is r file true own) ∙ ap (λ (b : Bool). if b then all_shown_held q r (map shown_located (map located_of (placed_of file))) else []) is

pub held-own : (p : Passes) (q : RunsPass) (r : ℕ) (file : FileRecord) → tells_own r file.layout.number ≡ true → p r file.head.base ≡ true
    → slot_held p q r (by_own r file) ≡ all_shown_held q r (map shown_placed (placed_of file))
unfolding slot_held
held-own p q r file own is =
    ap (slot_held p q r) (own-is r file true own) ∙ ap (λ (b : Bool). if b then all_shown_held q r (map shown_located (map located_of (placed_of file))) else []) is
    ∙ ap (all_shown_held q r) (located-shown (placed_of file))

-- ---- records in bytes

-- that adding the records that are left gives what adding all gives
abbrev pub Leads : Passes → RunsPass → ℕ → ℕ → List ℕ → List Held → List Held → Type 0
Leads p q size r rest held whole = (left : ℕ) × (length rest ≡ left * size) × (held ++ slots_held p q r (slots_in size rest r left) ≡ whole)

abbrev Parts : Passes → RunsPass → ℕ → ℕ → List ℕ → List ℕ → List Held → List Held → Type 0
Parts p q size r raw rest held whole =
    (left : ℕ) × (length rest ≡ left * size) × (held ++ (slot_held p q r (located_slot r (Some raw)) ++ slots_held p q (suc r) (slots_in size rest (suc r) left)) ≡ whole)

parts-of : (p : Passes) (q : RunsPass) (size r left : ℕ) (raws raw rest : List ℕ) (held whole : List Held) → 0 < size → raws ≡ raw ++ rest → length raw ≡ size
    → length raws ≡ left * size → held ++ slots_held p q r (slots_in size raws r left) ≡ whole → Parts p q size r raw rest held whole
unfolding slots_held slots_in
parts-of p q size r zero raws raw rest held whole some is long all same =
    let count = ap length is ∙ length-append raw rest in
    let none : zero * size ≡ 0 = omega arith in
    absurd (omega (arith, count, long, all, some, none))
parts-of p q size r (suc left) raws raw rest held whole some is long all same =
    let count = ap length is ∙ length-append raw rest in
    let more : suc left * size ≡ size + left * size = omega arith in
    let first : take size raws ≡ raw = ap (take size) is ∙ ap (λ k. take k (raw ++ rest)) (sym long) ∙ take-append_seam raw rest in
    let others : drop size raws ≡ rest = ap (drop size) is ∙ ap (λ k. drop k (raw ++ rest)) (sym long) ∙ drop-append_seam raw rest in (
      left,
      omega (arith, count, long, all, more),
      sym (ap (λ xs. held ++ (slot_held p q r (located_slot r (Some xs)) ++ slots_held p q (suc r) (slots_in size (drop size raws) (suc r) left))) first
          ∙ ap (λ xs. held ++ (slot_held p q r (located_slot r (Some raw)) ++ slots_held p q (suc r) (slots_in size xs (suc r) left))) others)
          ∙ same,
    )

pub leads-next : (p : Passes) (q : RunsPass) (size r : ℕ) (raws raw rest : List ℕ) (held more whole : List Held) → 0 < size → raws ≡ raw ++ rest → length raw ≡ size
    → more ≡ held ++ slot_held p q r (located_slot r (Some raw)) → Leads p q size r raws held whole → Leads p q size (r + 1) rest more whole
leads-next p q size r raws raw rest held more whole some is long added leads =
    let parts = parts-of p q size r leads.0 raws raw rest held whole some is long leads.1 leads.2 in
    let next : suc r ≡ r + 1 = omega arith in (
      parts.0,
      parts.1,
      ap (λ k. more ++ slots_held p q k (slots_in size rest k parts.0)) (sym next)
          ∙ ap (λ xs. xs ++ slots_held p q (suc r) (slots_in size rest (suc r) parts.0)) added
          ∙ append_assoc held (slot_held p q r (located_slot r (Some raw))) (slots_held p q (suc r) (slots_in size rest (suc r) parts.0)) ∙ parts.2,
    )

last-by : (p : Passes) (q : RunsPass) (size r left : ℕ) (rest : List ℕ) (held whole : List Held) → length rest < size → length rest ≡ left * size
    → held ++ slots_held p q r (slots_in size rest r left) ≡ whole → held ≡ whole
unfolding slots_held slots_in
last-by p q size r zero rest held whole few all same = sym (append-nil held) ∙ same
last-by p q size r (suc left) rest held whole few all same =
    let more : suc left * size ≡ size + left * size = omega arith in
    absurd (omega (arith, few, all, more))

pub leads-last : (p : Passes) (q : RunsPass) (size r : ℕ) (rest : List ℕ) (held whole : List Held) → length rest < size → Leads p q size r rest held whole → held ≡ whole
leads-last p q size r rest held whole few leads = last-by p q size r leads.0 rest held whole few leads.1 leads.2

-- ---- a scan of a volume

held-parts : (p : Passes) (q : RunsPass) (slot : ℕ → Record) (r a b : ℕ)
    → slots_held p q r (slots_from slot r (a + b)) ≡ slots_held p q r (slots_from slot r a) ++ slots_held p q (r + a) (slots_from slot (r + a) b)
unfolding slots_held slots_from
held-parts p q slot r zero b =
    ap (λ k. slots_held p q r (slots_from slot r k)) (let e : 0 + b ≡ b = omega arith in e)
    ∙ ap (λ k. slots_held p q k (slots_from slot k b)) (let e : r ≡ r + 0 = omega arith in e)
held-parts p q slot r (suc a) b =
    ap (λ k. slots_held p q r (slots_from slot r k)) (let e : suc a + b ≡ suc (a + b) = omega arith in e)
    ∙ ap (λ xs. slot_held p q r (slot r) ++ xs) (held-parts p q slot (suc r) a b)
    ∙ sym (append_assoc (slot_held p q r (slot r)) (slots_held p q (suc r) (slots_from slot (suc r) a)) (slots_held p q (suc r + a) (slots_from slot (suc r + a) b)))
    ∙ ap (λ k. (slot_held p q r (slot r) ++ slots_held p q (suc r) (slots_from slot (suc r) a)) ++ slots_held p q k (slots_from slot k b)) (let e : suc r + a ≡ r + suc a = omega arith in e)

-- the scan is at its first record
pub rest-first : (p : Passes) (q : RunsPass) (o : Opened) (f : ℕ → List ℕ) (next : ℕ) → next ≡ 0 → slots_held p q next (rest_of o f next) ≡ slots_held p q 0 (slots_of o.geometry o.map f)
unfolding slots_of
rest-first p q o f next is =
    ap (λ k. slots_held p q k (rest_of o f k)) is
    ∙ ap (λ count. slots_held p q 0 (slots_from (record_at o f) 0 count)) (let e : initialised_count o.geometry o.map - 0 ≡ initialised_count o.geometry o.map = omega arith in e)

-- some were added
pub rest-next : (p : Passes) (q : RunsPass) (o : Opened) (f : ℕ → List ℕ) (next count after : ℕ) (held more whole : List Held) → next + count ≤ initialised_count o.geometry o.map → after ≡ next + count
    → more ≡ held ++ slots_held p q next (slots_from (record_at o f) next count) → held ++ slots_held p q next (rest_of o f next) ≡ whole
    → more ++ slots_held p q after (rest_of o f after) ≡ whole
rest-next p q o f next count after held more whole le is added same =
    let all = initialised_count o.geometry o.map in
    ap (λ k. more ++ slots_held p q k (rest_of o f k)) is
    ∙ ap (λ xs. xs ++ slots_held p q (next + count) (rest_of o f (next + count))) added
    ∙ append_assoc held (slots_held p q next (slots_from (record_at o f) next count)) (slots_held p q (next + count) (rest_of o f (next + count)))
    ∙ ap (λ xs. held ++ xs) (sym (ap (λ k. slots_held p q next (slots_from (record_at o f) next k)) (let e : all - next ≡ count + (all - (next + count)) = omega (arith, le) in e)
    ∙ held-parts p q (record_at o f) next count (all - (next + count))))
    ∙ same

-- none is left
pub rest-last : (p : Passes) (q : RunsPass) (o : Opened) (f : ℕ → List ℕ) (next : ℕ) (held whole : List Held) → initialised_count o.geometry o.map ≤ next
    → held ++ slots_held p q next (rest_of o f next) ≡ whole → held ≡ whole
unfolding slots_held slots_from
rest-last p q o f next held whole past same =
    sym (append-nil held)
    ∙ ap (λ k. held ++ slots_held p q next (slots_from (record_at o f) next k)) (let e : 0 ≡ initialised_count o.geometry o.map - next = omega (arith, past) in e)
    ∙ same

-- ---- mapping pairs

runs-by : (right : Bool) (runs : List Run) → right ≡ true → (if right then runs else []) ≡ runs
runs-by true runs is = refl
runs-by false runs is = absurd cc

no-runs-by : (right : Bool) (runs : List Run) → right ≡ false → (if right then runs else []) ≡ []
no-runs-by true runs is = absurd cc
no-runs-by false runs is = refl

pub runs-wrong : (pairs : List ℕ) (runs : List Run) → (reading pairs).is_right ≡ false → runs ≡ [] → runs ≡ runs_in pairs
runs-wrong pairs runs wrong none = none ∙ sym (no-runs-by (reading pairs).is_right (reading pairs).runs wrong)

pub runs-right : (pairs : List ℕ) (runs : List Run) → (reading pairs).is_right ≡ true → runs ≡ (reading pairs).runs → runs ≡ runs_in pairs
runs-right pairs runs right are = are ∙ sym (runs-by (reading pairs).is_right (reading pairs).runs right)

pub few-none : (runs : List Run) → runs ≡ [] → length (vcns runs) ≤ 2 ^ 48
unfolding vcns
few-none runs none = let e = ap (λ runs. length (vcns runs)) none in omega (arith, e)

-- ---- one of the runs

pub any-next : (p : Run → Bool) (runs : List Run) (i : ℕ) (all : Bool) → i < length runs → p (get_or runs i no_run) ≡ false → list_any p (drop i runs) ≡ all → list_any p (drop (i + 1) runs) ≡ all
any-next p runs i all lt fails is = ap (λ b. b || list_any p (drop (i + 1) runs)) (sym fails) ∙ sym (ap (list_any p) (drop_more runs i no_run lt)) ∙ is

pub any-found : (p : Run → Bool) (runs : List Run) (i : ℕ) (all : Bool) → i < length runs → p (get_or runs i no_run) ≡ true → list_any p (drop i runs) ≡ all → true ≡ all
any-found p runs i all lt passes is = ap (λ b. b || list_any p (drop (i + 1) runs)) (sym passes) ∙ sym (ap (list_any p) (drop_more runs i no_run lt)) ∙ is

drop_past : (runs : List Run) (i : ℕ) → length runs ≤ i → drop i runs ≡ []
drop_past runs i past = grind (arith, common_steps)

pub any-last : (p : Run → Bool) (runs : List Run) (i : ℕ) (all : Bool) → length runs ≤ i → list_any p (drop i runs) ≡ all → false ≡ all
any-last p runs i all past is = sym (ap (list_any p) (drop_past runs i past)) ∙ is

-- ---- what is kept

pub held-push : (old new : List Holding) (x : Holding) (more : List Held) → new ≡ old ++ x ∷ [] → more ≡ held_of x ∷ [] → map held_of new ≡ map held_of old ++ more
held-push old new x more is held = ap (map held_of) is ∙ map-append held_of old (x ∷ []) ∙ ap (λ xs. map held_of old ++ xs) (sym held)

-- the records that a buffer was filled with, by a view of the geometry
pub chunk-added : (p : Passes) (q : RunsPass) (o : Opened) (f : ℕ → List ℕ) (g : Geometry) (next number count taken bytes : ℕ) (buffer : List ℕ) (held more : List Held) → number ≡ next → g ≡ o.geometry → count ≡ taken
    → bytes ≡ count * o.geometry.record_size → bytes ≤ length buffer → HoldRecords o.geometry o.map f next count buffer
    → more ≡ held ++ slots_held p q number (slots_in g.record_size (take bytes buffer) number count) → more ≡ held ++ slots_held p q next (slots_from (record_at o f) next taken)
chunk-added p q o f g next number count taken bytes buffer held more number_is view count_is bytes_is long holds added =
    added
    ∙ ap (λ xs. held ++ xs) (sym (ap (λ k. slots_held p q next (slots_from (record_at o f) next k)) (sym count_is)
    ∙ ap (slots_held p q next) (sym (chunk-held o f next count buffer (omega (arith, bytes_is, long)) holds))
    ∙ ap (λ k. slots_held p q next (slots_in o.geometry.record_size (take k buffer) next count)) (sym bytes_is)
    ∙ ap (λ r. slots_held p q r (slots_in o.geometry.record_size (take bytes buffer) r count)) (sym number_is)
    ∙ ap (λ (g : Geometry). slots_held p q number (slots_in g.record_size (take bytes buffer) number count)) (sym view)))
