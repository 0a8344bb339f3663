-- Parts taken one after another give the stream of all parts.
use Rattle.std.proofs.Common.{◌≡◌, ◌+◌, ◌-◌, ◌==◌, ◌&&◌, ◌||◌, ℕ, suc, Bool, true, false, List, [], ◌∷◌, ◌++◌, length, map, Option, Some, None, Result, Ok, Err, refl, sym, ap, ◌∙◌, arith, if◌then◌else◌, not}
use Rattle.std.proofs.lemmas.List.{append_assoc}
use Rattle.std.specs.List.{filter}
use Rattle.ntfs_attrlist.specs.Entry.{Listed}
use Rattle.ntfs_base.specs.Frames.{must, ◌>>=◌}
use Rattle.ntfs_base.specs.declared.refusal.Rule.TheVariants as rule
use Rattle.ntfs_record.specs.FileRecord.{Laid}
use Rattle.ntfs_record.specs.Slots.{Slot}
use Rattle.ntfs_runs.specs.Cells.{Cells}
use Rattle.ntfs_volume.specs.Gather.{Extent, all_found, found_in, lists}
use Rattle.ntfs_volume.specs.Gathering.{First, Progress, added, all_taken, entry_part, entry_parts, finished, finished_from, first_finished, found_part, gathered_first, is_settled, no_parts, runs_finished, taken}
use Rattle.ntfs_volume.specs.Located.{Located, slot_at}
use Rattle.ntfs_volume.specs.References.{target}
use Rattle.ntfs_volume.specs.StreamBytes.{have_room}
use Rattle.ntfs_volume.specs.Streams.{Gathered, Part, all_right, cells_in, join_from, part_of, runs_stream, stream_of, stream_of_runs, value_stream}
use Rattle.ntfs_volume.specs.declared.fault.VolumeFault.{VolumeFault}
use Rattle.ntfs_volume.specs.declared.fault.VolumeFault.TheVariants as volume

abbrev first_by : ℕ → ℕ → ℕ → Option (List ℕ) → ℕ → ℕ → First
first_by number place flags value size valid =
    record { number = number; place = place; flags = flags; value = value; size = size; valid = valid }

abbrev state : First → List (Option ℕ) → ℕ → Bool → Option ℕ → ℕ → Progress
state first cells next joins wrong count =
    record { first = Some first; cells = cells; next = next; joins = joins; wrong = wrong; count = count }

abbrev outcome : ℕ → ℕ → First → ℕ → Result (Unit {0}) VolumeFault → Bool → List (Option ℕ) → Result (Gathered ℕ) VolumeFault
outcome c r f count right joins cells = do
  _ ← right
  _ ← must (joins && have_room c (length cells) f.size f.valid) (volume.Damaged rule.C12 r)
  Ok (gathered_first f count (runs_stream f.flags f.size f.valid cells))

nil-right : (xs : List (Option ℕ)) → xs ++ [] ≡ xs
nil-right [] = refl
nil-right (x ∷ xs) = ap (λ (rest : List (Option ℕ)). x ∷ rest) (nil-right xs)

plus-none : (n : ℕ) → n + 0 ≡ n
plus-none n = omega arith

plus-one : (n k : ℕ) → (n + 1) + k ≡ n + suc k
plus-one n k = omega arith

-- a value stays
value-rest : (c r number place flags : ℕ) (value : List ℕ) (size valid : ℕ) (cells : List (Option ℕ)) (next : ℕ) (joins : Bool) (wrong : Option ℕ) (count : ℕ) (ps : List (Part ℕ))
    → finished c r (all_taken (state (first_by number place flags (Some value) size valid) cells next joins wrong count) ps)
    ≡ Ok (gathered_first (first_by number place flags (Some value) size valid) (count + length ps) (value_stream flags value))
unfolding finished_from first_finished all_taken taken
value-rest c r number place flags value size valid cells next joins wrong count [] =
    ap (λ k. Ok (gathered_first (first_by number place flags (Some value) size valid) k (value_stream flags value))) (sym (plus-none count))
value-rest c r number place flags value size valid cells next joins wrong count (p ∷ ps) =
    value-rest c r number place flags value size valid cells next joins wrong (count + 1) ps
    ∙ ap (λ k. Ok (gathered_first (first_by number place flags (Some value) size valid) k (value_stream flags value))) (plus-one count (length ps))

-- wrong pairs stay
wrong-rest : (c r number place flags size valid : ℕ) (cells : List (Option ℕ)) (next : ℕ) (joins : Bool) (wrong count : ℕ) (ps : List (Part ℕ))
    → finished c r (all_taken (state (first_by number place flags None size valid) cells next joins (Some wrong) count) ps) ≡ Err (volume.Damaged rule.C7 wrong)
unfolding finished_from first_finished runs_finished all_taken taken
wrong-rest c r number place flags size valid cells next joins wrong count [] = refl
wrong-rest c r number place flags size valid cells next joins wrong count (p ∷ ps) =
    wrong-rest c r number place flags size valid cells next joins wrong (count + 1) ps

-- the part that is met, by what its tests say
abbrev step : First → List (Option ℕ) → ℕ → Bool → ℕ → Part ℕ → Bool → Bool → Bool → Progress
step f cells next joins count p resident right follows =
    if resident then state f cells next false None count
    else (if right then state f (if joins && follows then cells ++ p.runs.cells else cells) p.next (joins && follows) None count
    else state f cells next joins (Some p.number) count)

-- parts that don't join
apart-rest : (c r number place flags size valid : ℕ) (cells : List (Option ℕ)) (next count : ℕ) (ps : List (Part ℕ)) (k : ℕ) (others : List (Option ℕ))
    → finished c r (all_taken (state (first_by number place flags None size valid) cells next false None count) ps)
    ≡ outcome c r (first_by number place flags None size valid) k (all_right ps) false others
unfolding finished_from first_finished runs_finished all_taken taken added all_right
apart-rest c r number place flags size valid cells next count [] k others = refl
apart-rest c r number place flags size valid cells next count (p ∷ ps) k others =
    apart-step p.is_resident (p.runs.is_right && (length p.runs.cells == p.next - p.lowest)) (λ next. apart-rest c r number place flags size valid cells next (count + 1) ps k others)
  where
    apart-step : (resident right : Bool)
        → ((next : ℕ) → finished c r (all_taken (state (first_by number place flags None size valid) cells next false None (count + 1)) ps) ≡ outcome c r (first_by number place flags None size valid) k (all_right ps) false others)
        → finished c r (all_taken (step (first_by number place flags None size valid) cells next false (count + 1) p resident (resident || right) (p.lowest == next)) ps)
        ≡ outcome c r (first_by number place flags None size valid) k (must (resident || right) (volume.Damaged rule.C7 p.number) >>= (λ _. all_right ps)) false others
    apart-step true right rest = rest next
    apart-step false true rest = rest p.next
    apart-step false false rest = wrong-rest c r number place flags size valid cells next false p.number (count + 1) ps

-- parts that join so far, and one more
joined-step : (c r number place flags size valid : ℕ) (cells : List (Option ℕ)) (next count : ℕ) (p : Part ℕ) (ps : List (Part ℕ)) (resident right follows : Bool)
    → ((more : List (Option ℕ)) (next : ℕ) → finished c r (all_taken (state (first_by number place flags None size valid) more next true None (count + 1)) ps)
    ≡ outcome c r (first_by number place flags None size valid) ((count + 1) + length ps) (all_right ps) (join_from next ps) (more ++ cells_in ps))
    → finished c r (all_taken (step (first_by number place flags None size valid) cells next true (count + 1) p resident (resident || right) follows) ps)
    ≡ outcome c r (first_by number place flags None size valid) (count + length (p ∷ ps)) (must (resident || right) (volume.Damaged rule.C7 p.number) >>= (λ _. all_right ps))
    (not resident && (follows && join_from p.next ps)) (cells ++ (p.runs.cells ++ cells_in ps))
joined-step c r number place flags size valid cells next count p ps true right follows rest =
    apart-rest c r number place flags size valid cells next (count + 1) ps (count + length (p ∷ ps)) (cells ++ (p.runs.cells ++ cells_in ps))
joined-step c r number place flags size valid cells next count p ps false false follows rest =
    wrong-rest c r number place flags size valid cells next true p.number (count + 1) ps
joined-step c r number place flags size valid cells next count p ps false true false rest =
    apart-rest c r number place flags size valid cells p.next (count + 1) ps (count + length (p ∷ ps)) (cells ++ (p.runs.cells ++ cells_in ps))
joined-step c r number place flags size valid cells next count p ps false true true rest =
    rest (cells ++ p.runs.cells) p.next
    ∙ ap (λ k. outcome c r (first_by number place flags None size valid) k (all_right ps) (join_from p.next ps) ((cells ++ p.runs.cells) ++ cells_in ps)) (plus-one count (length ps))
    ∙ ap (λ cells. outcome c r (first_by number place flags None size valid) (count + length (p ∷ ps)) (all_right ps) (join_from p.next ps) cells) (append_assoc cells p.runs.cells (cells_in ps))

joined-rest : (c r number place flags size valid : ℕ) (cells : List (Option ℕ)) (next count : ℕ) (ps : List (Part ℕ))
    → finished c r (all_taken (state (first_by number place flags None size valid) cells next true None count) ps)
    ≡ outcome c r (first_by number place flags None size valid) (count + length ps) (all_right ps) (join_from next ps) (cells ++ cells_in ps)
unfolding finished_from first_finished runs_finished all_taken taken added all_right join_from cells_in
joined-rest c r number place flags size valid cells next count [] =
    ap (λ k. outcome c r (first_by number place flags None size valid) k (Ok tt) true cells) (sym (plus-none count))
    ∙ ap (λ cells. outcome c r (first_by number place flags None size valid) (count + 0) (Ok tt) true cells) (sym (nil-right cells))
joined-rest c r number place flags size valid cells next count (p ∷ ps) =
    joined-step c r number place flags size valid cells next count p ps p.is_resident (p.runs.is_right && (length p.runs.cells == p.next - p.lowest)) (p.lowest == next)
    (λ more next. joined-rest c r number place flags size valid more next (count + 1) ps)

-- the first part
start-step : (c r : ℕ) (p : Part ℕ) (ps : List (Part ℕ)) (resident right : Bool)
    → finished c r (all_taken (if is_settled (state (first_by p.number p.place p.flags (if resident then Some p.value else None) p.size p.valid) [] 0 true None 1)
    then state (first_by p.number p.place p.flags (if resident then Some p.value else None) p.size p.valid) [] 0 true None 1
    else step (first_by p.number p.place p.flags (if resident then Some p.value else None) p.size p.valid) [] 0 true 1 p resident (resident || right) (p.lowest == 0)) ps)
    ≡ (if resident then Ok (gathered_first (first_by p.number p.place p.flags None p.size p.valid) (length (p ∷ ps)) (value_stream p.flags p.value))
    else outcome c r (first_by p.number p.place p.flags None p.size p.valid) (length (p ∷ ps)) (must (resident || right) (volume.Damaged rule.C7 p.number) >>= (λ _. all_right ps))
    (not resident && ((p.lowest == 0) && join_from p.next ps)) (p.runs.cells ++ cells_in ps))
start-step c r p ps true right =
    value-rest c r p.number p.place p.flags p.value p.size p.valid [] 0 true None 1 ps
    ∙ ap (λ k. Ok (gathered_first (first_by p.number p.place p.flags None p.size p.valid) k (value_stream p.flags p.value))) (omega arith)
start-step c r p ps false right =
    joined-step c r p.number p.place p.flags p.size p.valid [] 0 0 p ps false right (p.lowest == 0) (λ more next. joined-rest c r p.number p.place p.flags p.size p.valid more next 1 ps)
    ∙ ap (λ k. outcome c r (first_by p.number p.place p.flags None p.size p.valid) k (must right (volume.Damaged rule.C7 p.number) >>= (λ _. all_right ps))
    ((p.lowest == 0) && join_from p.next ps) (p.runs.cells ++ cells_in ps)) (omega arith)

-- all parts, one after the other, give the stream
pub finish-all : (c r : ℕ) (ps : List (Part ℕ)) → finished c r (all_taken no_parts ps) ≡ stream_of c r ps
unfolding finished_from all_taken taken added stream_of stream_of_runs all_right join_from cells_in
finish-all c r [] = refl
finish-all c r (p ∷ ps) = start-step c r p ps p.is_resident (p.runs.is_right && (length p.runs.cells == p.next - p.lowest))

-- ---- the entries of a list

entry-found : (x : Result (Extent (Located (Laid (Cells ℕ)))) VolumeFault) (p : Progress) (more : Progress → Result Progress VolumeFault) (rest : Result (List (Extent (Located (Laid (Cells ℕ))))) VolumeFault)
    → ((q : Progress) → more q ≡ (rest >>= (λ es. Ok (all_taken q (map part_of es)))))
    → ((x >>= (λ e. Ok (taken p (part_of e)))) >>= more) ≡ ((x >>= (λ e. rest >>= (λ es. Ok (e ∷ es)))) >>= (λ es. Ok (all_taken p (map part_of es))))
unfolding all_taken
entry-found (Err fault) p more rest is = refl
entry-found (Ok e) p more (Err fault) is = is (taken p (part_of e))
entry-found (Ok e) p more (Ok es) is = is (taken p (part_of e))

entry-step : (x : Result (Extent (Located (Laid (Cells ℕ)))) VolumeFault) (p : Progress) (more : Progress → Result Progress VolumeFault) (r : ℕ) (sequence : ℕ) (slots : List (Slot (Located (Laid (Cells ℕ))))) (e : Listed) (es : List Listed) (listed : Bool)
    → x ≡ found_in r sequence e (slot_at slots (target e.reference))
    → ((q : Progress) → more q ≡ (all_found r sequence slots es >>= (λ xs. Ok (all_taken q (map part_of xs)))))
    → ((if listed then (x >>= (λ e. Ok (taken p (part_of e)))) else Ok p) >>= more) ≡ (all_found r sequence slots (if listed then e ∷ es else es) >>= (λ xs. Ok (all_taken p (map part_of xs))))
unfolding all_found
entry-step x p more r sequence slots e es true found is =
    entry-found x p more (all_found r sequence slots es) is
    ∙ ap (λ x. (x >>= (λ e. all_found r sequence slots es >>= (λ es. Ok (e ∷ es)))) >>= (λ es. Ok (all_taken p (map part_of es)))) found
entry-step x p more r sequence slots e es false found is = is p

pub entries-all : (r : ℕ) (sequence : ℕ) (kind : ℕ) (name : List ℕ) (slots : List (Slot (Located (Laid (Cells ℕ))))) (entries : List Listed) (p : Progress)
    → entry_parts r sequence kind name slots entries p ≡ (all_found r sequence slots (filter (lists kind name) entries) >>= (λ xs. Ok (all_taken p (map part_of xs))))
unfolding entry_parts entry_part found_part all_found all_taken
entries-all r sequence kind name slots [] p = refl
entries-all r sequence kind name slots (e ∷ es) p =
    entry-step (found_in r sequence e (slot_at slots (target e.reference))) p (λ q. entry_parts r sequence kind name slots es q) r sequence slots e (filter (lists kind name) es) (lists kind name e) refl
    (λ q. entries-all r sequence kind name slots es q)
