-- Bytes that are put piece by piece.
use Rattle.std.proofs.Common.{◌≡◌, ◌≤◌, ◌<◌, ◌+◌, ◌-◌, ◌*◌, ℕ, zero, suc, List, [], ◌∷◌, ◌++◌, length, take, drop, get_or, min, refl, sym, ap, ◌∙◌, subst, arith, length-append, append_assoc, Ok, Err, Option}
use Rattle.std.specs.Option.{option_map}
use Rattle.std.proofs.Math.Seq.{take-append-add}
use Rattle.std.proofs.lemmas.List.{append-nil, drop_more, length-map, map-append, take-append-le, take_all}
use Rattle.ntfs_base.specs.Frames.{IsSettled, Origin, Puts, PutsPrefix}
use Rattle.ntfs_base.specs.Sink.{Put, SinkState, after_put}
use Rattle.ntfs_base.specs.declared.fault.PutFault.{PutFault}
use Rattle.ntfs_base.specs.declared.fault.PutFault.TheVariants as put
use Rattle.ntfs_base.proofs.SinkLemmas.{after_put-append, after_put-nil}
use Rattle.ntfs_runs.specs.declared.run.Run.{Run}
use Rattle.ntfs_runs.specs.Clusters.{behind, row, vcns}
use Rattle.ntfs_runs.proofs.CellsLemmas.{length-row, no_run, vcns-all}
use Rattle.ntfs_stream.specs.Fault.{sink_fault, stream_origin}
use Rattle.ntfs_runs.specs.Cells.{map_cells}
use Rattle.ntfs_stream.specs.Putting.{IsLeft, IsLeftBehind, pieces, shown_cell}
use Rattle.ntfs_stream.specs.declared.row.Remaining.{Remaining}
use Rattle.ntfs_stream.proofs.RowLemmas.{row-split}

-- a refusal of the sink cuts the work off
pub sink-cuts : (fault : PutFault) → IsSettled (stream_origin (sink_fault fault)) → ⊥
sink-cuts put.Failed settled = settled
sink-cuts put.NoMemory settled = settled

pub left-start : (all : List ℕ) (sink : SinkState) → IsLeft all all sink sink
left-start all sink = record { so_far = []; parts = refl; put = sym (after_put-nil sink) }

-- a piece was put
pub left-more : (all piece rest : List ℕ) (old now after : SinkState) → IsLeft all (piece ++ rest) old now → after ≡ after_put piece now → IsLeft all rest old after
left-more all piece rest old now after left is = record {
  so_far = left.so_far ++ piece;
  parts = left.parts ∙ sym (append_assoc left.so_far piece rest);
  put = is ∙ ap (after_put piece) left.put ∙ sym (after_put-append left.so_far piece old);
}

-- a prefix of a piece was put
prefix-more : (all piece rest : List ℕ) (old now after : SinkState) → IsLeft all (piece ++ rest) old now → PutsPrefix piece now after → PutsPrefix all old after
prefix-more all piece rest old now after left is =
    let k = is.0 in
    let within : k ≤ length piece = is.1 in (
      length left.so_far + k,
      omega (arith, ap length left.parts, length-append left.so_far (piece ++ rest), length-append piece rest, within),
      is.2
          ∙ ap (after_put (take k piece)) left.put
          ∙ sym (after_put-append left.so_far (take k piece) old)
          ∙ ap (λ bytes. after_put bytes old) (
          ap (λ xs. left.so_far ++ xs) (sym (take-append-le k piece rest within))
          ∙ sym (take-append-add left.so_far (piece ++ rest) k)
          ∙ ap (take (length left.so_far + k)) (sym left.parts)),
    )

-- a piece was cut off
pub puts-cut : {E : Type 0} (origin : E → Origin) (all piece rest : List ℕ) (old now after : SinkState) (fault : E) → (IsSettled (origin fault) → ⊥) → IsLeft all (piece ++ rest) old now → PutsPrefix piece now after
    → Puts origin (Ok all) old (Err fault) after
puts-cut origin all piece rest old now after fault never left is =
    record { answer = λ settled. absurd (never settled); output = λ settled. absurd (never settled); prefix = prefix-more all piece rest old now after left is }

-- the work was cut off between two pieces
pub puts-stop : {E : Type 0} (origin : E → Origin) (all rest : List ℕ) (old now : SinkState) (fault : E) → (IsSettled (origin fault) → ⊥) → IsLeft all rest old now → Puts origin (Ok all) old (Err fault) now
puts-stop origin all rest old now fault never left = puts-cut origin all [] rest old now now fault never left (0, omega arith, sym (after_put-nil now))

-- bytes that were put at once
pub puts-failed : {T E D : Type 0} (origin : E → Origin) (bytes : List ℕ) (old new : SinkState) (why : D) (fault : E) → (IsSettled (origin fault) → ⊥) → Put {T = T} bytes old (Err why) new → Puts origin (Ok bytes) old (Err fault) new
puts-failed origin bytes old new why fault never put = record { answer = λ settled. absurd (never settled); output = λ settled. absurd (never settled); prefix = put.part }

pub puts-whole : {E : Type 0} (origin : E → Origin) (bytes : List ℕ) (old new : SinkState) → new ≡ after_put bytes old → Puts origin (Ok bytes) old (Ok tt) new
puts-whole origin bytes old new is =
    record { answer = λ settled. refl; output = λ settled. is; prefix = (length bytes, omega arith, is ∙ ap (λ xs. after_put xs old) (sym (take_all (length bytes) bytes (omega arith)))) }

-- nothing is left
pub puts-end : {E : Type 0} (origin : E → Origin) (all rest : List ℕ) (old now : SinkState) → IsLeft all rest old now → rest ≡ [] → Puts origin (Ok all) old (Ok tt) now
puts-end origin all rest old now left none =
    puts-whole origin all old now (left.put ∙ ap (λ bytes. after_put bytes old) (sym (left.parts ∙ ap (λ xs. left.so_far ++ xs) none ∙ append-nil left.so_far)))

-- ---- cells, one after the other

sum_step : (s c n : ℕ) → (s - c) - n * c ≡ s - suc n * c
sum_step s c n = omega arith

pub pieces-append : (c s v : ℕ) (front rest : List (Option (List ℕ))) → pieces c s v (front ++ rest) ≡ pieces c s v front ++ pieces c (s - length front * c) (v - length front * c) rest
unfolding pieces
pieces-append c s v [] rest =
    let size : s - 0 * c ≡ s = omega arith in
    let valid : v - 0 * c ≡ v = omega arith in
    sym (ap (λ n. pieces c n (v - 0 * c) rest) size ∙ ap (λ n. pieces c s n rest) valid)
pieces-append c s v (cell ∷ cells) rest =
    ap (λ bytes. take (min s c) (shown_cell c v cell) ++ bytes) (
    pieces-append c (s - c) (v - c) cells rest
    ∙ ap (λ n. pieces c (s - c) (v - c) cells ++ pieces c n ((v - c) - length cells * c) rest) (sum_step s c (length cells))
    ∙ ap (λ n. pieces c (s - c) (v - c) cells ++ pieces c (s - suc (length cells) * c) n rest) (sum_step v c (length cells)))
    ∙ sym (append_assoc (take (min s c) (shown_cell c v cell)) (pieces c (s - c) (v - c) cells) (pieces c (s - suc (length cells) * c) (v - suc (length cells) * c) rest))

-- ---- a run, row by row

-- no bytes are left, or no cells
pub pieces-none : (c v : ℕ) (cells : List (Option (List ℕ))) → pieces c 0 v cells ≡ []
unfolding pieces
pieces-none c v [] = refl
pieces-none c v (cell ∷ cells) =
    let least : min 0 c ≡ 0 = omega arith in
    let rest : 0 - c ≡ 0 = omega arith in
    ap (λ n. take n (shown_cell c v cell) ++ pieces c (0 - c) (v - c) cells) least ∙ ap (λ s. pieces c s (v - c) cells) rest ∙ pieces-none c (v - c) cells

pub run-end : (f : ℕ → List ℕ) (c s v : ℕ) (cell : Option ℕ) → pieces c s v (map_cells f (row zero cell)) ≡ []
unfolding row pieces
run-end f c s v cell = refl

pub pieces-row : (f : ℕ → List ℕ) (c s v n k : ℕ) (cell : Option ℕ) → k ≤ n
    → pieces c s v (map_cells f (row n cell)) ≡ pieces c s v (map_cells f (row k cell)) ++ pieces c (s - k * c) (v - k * c) (map_cells f (row (n - k) (behind cell k)))
pieces-row f c s v n k cell within =
    let front = row k cell in
    let rest = row (n - k) (behind cell k) in
    let long : length (map_cells f front) ≡ k = length-map front (option_map f) ∙ length-row k cell in
    ap (λ cells. pieces c s v (map_cells f cells)) (row-split n k cell within)
    ∙ ap (pieces c s v) (map-append (option_map f) front rest)
    ∙ pieces-append c s v (map_cells f front) (map_cells f rest)
    ∙ ap (λ m. pieces c s v (map_cells f front) ++ pieces c (s - m * c) (v - m * c) (map_cells f rest)) long

-- a row was put
pub rows-step : (all : List ℕ) (f : ℕ → List ℕ) (c : ℕ) (left part next : Run) (before behind_it : Remaining) (old now after : SinkState)
    → part.length ≤ left.length → part.lcn ≡ left.lcn → next.length ≡ left.length - part.length → next.lcn ≡ behind left.lcn part.length → IsLeftBehind c part.length before behind_it
    → IsLeft all (pieces c before.size before.valid (map_cells f (row left.length left.lcn))) old now
    → after ≡ after_put (pieces c before.size before.valid (map_cells f (row part.length part.lcn))) now
    → IsLeft all (pieces c behind_it.size behind_it.valid (map_cells f (row next.length next.lcn))) old after
rows-step all f c left part next before behind_it old now after within begins length_is lcn_is sizes is put =
    let k = part.length in
    let rest = row (left.length - k) (behind left.lcn k) in
    let put_here = put ∙ ap (λ o. after_put (pieces c before.size before.valid (map_cells f (row k o))) now) begins in
    let more = left-more all (pieces c before.size before.valid (map_cells f (row k left.lcn))) (pieces c (before.size - k * c) (before.valid - k * c) (map_cells f rest)) old now after
    (subst (λ (bytes : List ℕ). IsLeft all bytes old now) (pieces-row f c before.size before.valid left.length k left.lcn within) is) put_here in
    subst (λ (bytes : List ℕ). IsLeft all bytes old after) (sym (
    ap (λ n. pieces c n behind_it.valid (map_cells f (row next.length next.lcn))) sizes.size
    ∙ ap (λ n. pieces c (before.size - k * c) n (map_cells f (row next.length next.lcn))) sizes.valid
    ∙ ap (λ n. pieces c (before.size - k * c) (before.valid - k * c) (map_cells f (row n next.lcn))) length_is
    ∙ ap (λ o. pieces c (before.size - k * c) (before.valid - k * c) (map_cells f (row (left.length - k) o))) lcn_is)) more

-- or was cut off
pub rows-cut : {E : Type 0} (origin : E → Origin) (all : List ℕ) (f : ℕ → List ℕ) (c : ℕ) (left part : Run) (before : Remaining) (old now after : SinkState) (fault : E) → (IsSettled (origin fault) → ⊥)
    → part.length ≤ left.length → part.lcn ≡ left.lcn → IsLeft all (pieces c before.size before.valid (map_cells f (row left.length left.lcn))) old now
    → PutsPrefix (pieces c before.size before.valid (map_cells f (row part.length part.lcn))) now after → Puts origin (Ok all) old (Err fault) after
rows-cut origin all f c left part before old now after fault never within begins is put =
    let k = part.length in
    puts-cut origin all (pieces c before.size before.valid (map_cells f (row k left.lcn))) (pieces c (before.size - k * c) (before.valid - k * c) (map_cells f (row (left.length - k) (behind left.lcn k)))) old now after fault never
    (subst (λ (bytes : List ℕ). IsLeft all bytes old now) (pieces-row f c before.size before.valid left.length k left.lcn within) is)
    (subst (λ (o : Option ℕ). PutsPrefix (pieces c before.size before.valid (map_cells f (row k o))) now after) begins put)

-- what remains behind the clusters so far
pub count-step : (all left c length count k bytes : ℕ) → k ≤ count → count ≤ length → bytes ≡ k * c → left ≡ all - (length - count) * c → left - bytes ≡ all - (length - (count - k)) * c
count-step all left c length count k bytes some within each is =
    let next : length - (count - k) ≡ (length - count) + k = omega arith in
    omega (arith, ap (λ n. n * c) next, is, each)

-- ---- runs, one after the other

pub pieces-run : (f : ℕ → List ℕ) (c s v i : ℕ) (runs : List Run) → i < length runs
    → pieces c s v (map_cells f (vcns (drop i runs)))
    ≡ pieces c s v (map_cells f (row (get_or runs i no_run).length (get_or runs i no_run).lcn))
    ++ pieces c (s - (get_or runs i no_run).length * c) (v - (get_or runs i no_run).length * c) (map_cells f (vcns (drop (i + 1) runs)))
unfolding vcns
pieces-run f c s v i runs lt =
    let run = get_or runs i no_run in
    let cells = row run.length run.lcn in
    let long : length (map_cells f cells) ≡ run.length = length-map cells (option_map f) ∙ length-row run.length run.lcn in
    ap (λ rs. pieces c s v (map_cells f (vcns rs))) (drop_more runs i no_run lt)
    ∙ ap (pieces c s v) (map-append (option_map f) cells (vcns (drop (i + 1) runs)))
    ∙ pieces-append c s v (map_cells f cells) (map_cells f (vcns (drop (i + 1) runs)))
    ∙ ap (λ n. pieces c s v (map_cells f cells) ++ pieces c (s - n * c) (v - n * c) (map_cells f (vcns (drop (i + 1) runs)))) long

-- a run was put
pub runs-step : (all : List ℕ) (f : ℕ → List ℕ) (c i : ℕ) (runs : List Run) (before behind_it : Remaining) (old now after : SinkState) → i < length runs
    → IsLeft all (pieces c before.size before.valid (map_cells f (vcns (drop i runs)))) old now → IsLeftBehind c (get_or runs i no_run).length before behind_it
    → after ≡ after_put (pieces c before.size before.valid (map_cells f (row (get_or runs i no_run).length (get_or runs i no_run).lcn))) now
    → IsLeft all (pieces c behind_it.size behind_it.valid (map_cells f (vcns (drop (i + 1) runs)))) old after
runs-step all f c i runs before behind_it old now after lt left is put =
    let run = get_or runs i no_run in
    let rest = left-more all (pieces c before.size before.valid (map_cells f (row run.length run.lcn))) (pieces c (before.size - run.length * c) (before.valid - run.length * c) (map_cells f (vcns (drop (i + 1) runs)))) old now after
    (subst (λ (bytes : List ℕ). IsLeft all bytes old now) (pieces-run f c before.size before.valid i runs lt) left) put in
    subst (λ (bytes : List ℕ). IsLeft all bytes old after) (sym (ap (λ n. pieces c n behind_it.valid (map_cells f (vcns (drop (i + 1) runs)))) is.size ∙ ap (λ n. pieces c (before.size - run.length * c) n (map_cells f (vcns (drop (i + 1) runs)))) is.valid)) rest

-- or was cut off
pub runs-cut : {E : Type 0} (origin : E → Origin) (all : List ℕ) (f : ℕ → List ℕ) (c i : ℕ) (runs : List Run) (before : Remaining) (old now after : SinkState) (fault : E) → (IsSettled (origin fault) → ⊥) → i < length runs
    → IsLeft all (pieces c before.size before.valid (map_cells f (vcns (drop i runs)))) old now
    → PutsPrefix (pieces c before.size before.valid (map_cells f (row (get_or runs i no_run).length (get_or runs i no_run).lcn))) now after → Puts origin (Ok all) old (Err fault) after
runs-cut origin all f c i runs before old now after fault never lt left put =
    let run = get_or runs i no_run in
    puts-cut origin all (pieces c before.size before.valid (map_cells f (row run.length run.lcn))) (pieces c (before.size - run.length * c) (before.valid - run.length * c) (map_cells f (vcns (drop (i + 1) runs)))) old now after fault never
    (subst (λ (bytes : List ℕ). IsLeft all bytes old now) (pieces-run f c before.size before.valid i runs lt) left) put

pub runs-end : (f : ℕ → List ℕ) (c s v i : ℕ) (runs : List Run) → length runs ≤ i → pieces c s v (map_cells f (vcns (drop i runs))) ≡ []
unfolding pieces
runs-end f c s v i runs le = ap (λ cells. pieces c s v (map_cells f cells)) (vcns-all runs i le)
