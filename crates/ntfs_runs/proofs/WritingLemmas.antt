-- A text that is written at a place.
use Rattle.std.proofs.Common.{◌≡◌, ◌≤◌, ◌+◌, ◌*◌, ℕ, ℤ, pos, List, [], ◌∷◌, ◌++◌, length, take, drop, refl, sym, ap, ◌∙◌, append_assoc, arith, length-append}
use Rattle.std.proofs.lemmas.List.{take_at, drop_at, drop-drop, append-nil, length-take, length-drop}
use Rattle.std.specs.Prelude.{Some, None, ◌-ℤ◌}
use Rattle.ntfs_runs.specs.declared.run.Run.{Run}
use Rattle.ntfs_runs.specs.Number.{shortest}
use Rattle.ntfs_runs.specs.Canon.{run_text}
use Rattle.ntfs_runs.specs.Spelling.{pair}
use Rattle.ntfs_runs.specs.Writing.{put}

-- a text in front of what lies behind a place
pub put-behind : (text : List ℕ) (place n : ℕ) (bytes : List ℕ) → length text ≡ n → take place bytes ++ (text ++ drop n (drop place bytes)) ≡ put text place bytes
put-behind text place n bytes len =
    sym (append_assoc (take place bytes) text (drop n (drop place bytes)))
    ∙ ap (λ (rest : List ℕ). take place bytes ++ text ++ rest) (drop-drop n place bytes ∙ ap (λ (k : ℕ). drop (place + k) bytes) (sym len))

-- the front of what is written ends behind the text
front-length : (text : List ℕ) (place : ℕ) (bytes : List ℕ) → place ≤ length bytes → length (take place bytes ++ text) ≡ place + length text
front-length text place bytes within = omega (arith, length-append (take place bytes) text, length-take place bytes)

pub take-put : (text : List ℕ) (place : ℕ) (bytes : List ℕ) → place ≤ length bytes → take (place + length text) (put text place bytes) ≡ take place bytes ++ text
take-put text place bytes within = take_at (take place bytes ++ text) (drop (place + length text) bytes) (place + length text) (front-length text place bytes within)

pub drop-put : (text : List ℕ) (place : ℕ) (bytes : List ℕ) → place ≤ length bytes → drop (place + length text) (put text place bytes) ≡ drop (place + length text) bytes
drop-put text place bytes within = drop_at (take place bytes ++ text) (drop (place + length text) bytes) (place + length text) (front-length text place bytes within)

pub length-put : (text : List ℕ) (place : ℕ) (bytes : List ℕ) → place + length text ≤ length bytes → length (put text place bytes) ≡ length bytes
length-put text place bytes within =
    omega (arith, length-append (take place bytes ++ text) (drop (place + length text) bytes), front-length text place bytes (omega arith), length-drop (place + length text) bytes)

-- two texts one behind the other
pub put-put : (a b : List ℕ) (place : ℕ) (bytes : List ℕ) → place ≤ length bytes → put b (place + length a) (put a place bytes) ≡ put (a ++ b) place bytes
put-put a b place bytes within =
    let front = take-put a place bytes within in
    let back : drop (place + length a + length b) (put a place bytes) ≡ drop (place + length (a ++ b)) bytes =
    sym (drop-drop (length b) (place + length a) (put a place bytes)) ∙ ap (drop (length b)) (drop-put a place bytes within) ∙ drop-drop (length b) (place + length a) bytes ∙ ap (λ (k : ℕ). drop k bytes) (omega (arith, length-append a b)) in
    rw (front, back, append_assoc (take place bytes) a b) refl

-- a header, a length and a delta
pub put-pair : (header : ℕ) (count delta : List ℕ) (place : ℕ) (bytes : List ℕ) → place + 1 + length count + length delta ≤ length bytes
    → put delta (place + 1 + length count) (put count (place + 1) (put (header ∷ []) place bytes)) ≡ put (header ∷ count ++ delta) place bytes
put-pair header count delta place bytes within =
    let one : place + 1 ≡ place + length (header ∷ []) = omega arith in
    let two : place + 1 + length count ≡ place + length (header ∷ count) = omega arith in
    ap (λ (p : ℕ). put delta p (put count (place + 1) (put (header ∷ []) place bytes))) two
    ∙ ap (λ (p : ℕ). put delta (place + length (header ∷ count)) (put count p (put (header ∷ []) place bytes))) one
    ∙ ap (put delta (place + length (header ∷ count))) (put-put (header ∷ []) count place bytes (omega arith))
    ∙ put-put (header ∷ count) delta place bytes (omega arith)

-- a header and a length, with no delta
pub put-hole : (count : List ℕ) (place : ℕ) (bytes : List ℕ) → place ≤ length bytes
    → put count (place + 1) (put (length count ∷ []) place bytes) ≡ put (pair count []) place bytes
put-hole count place bytes within =
    let one : place + 1 ≡ place + length (length count ∷ []) = omega arith in
    let header : length count ≡ length count + 16 * 0 = omega arith in
    ap (λ (p : ℕ). put count p (put (length count ∷ []) place bytes)) one
    ∙ put-put (length count ∷ []) count place bytes within
    ∙ ap (λ (text : List ℕ). put (length count ∷ text) place bytes) (sym (append-nil count))
    ∙ ap (λ (h : ℕ). put (h ∷ count ++ []) place bytes) header

-- the pair of a run
pub hole-text : (last : ℕ) (run : Run) (z : ℤ) → run.lcn ≡ None → z ≡ pos run.length → pair (shortest z) [] ≡ run_text last run
unfolding run_text
hole-text last run z none is = rw (is, none) refl

pub clusters-text : (last lcn : ℕ) (run : Run) (z d : ℤ) → run.lcn ≡ Some lcn → z ≡ pos run.length → d ≡ pos lcn -ℤ pos last → pair (shortest z) (shortest d) ≡ run_text last run
unfolding run_text
clusters-text last lcn run z d some is delta = rw (is, delta, some) refl
