-- Rows from a place on, up to another.
use Rattle.std.proofs.Common.{◌≡◌, ◌≤◌, ◌<◌, ◌-◌, ⊎_elim, ℕ, zero, suc, List, [], ◌∷◌, ◌++◌, length, take, drop, min, refl, ap, sym, ◌∙◌, arith, length-append, length-drop, append_assoc}
use Rattle.std.proofs.Math.Seq.{take-nil, drop-nil}
use Rattle.std.proofs.lemmas.Bool.{cases_lt}
use Rattle.std.proofs.lemmas.Grind.{flat_map-append}
use Rattle.ntfs_make.specs.declared.shape.Shape.{Shape}
use Rattle.ntfs_make.specs.Table.{RowValue}
use Rattle.ntfs_make.specs.Records.{records_bytes, record_of_row, rows_between}
use Rattle.ntfs_make.specs.Rows.{rows, system_rows, kind_rows, file_rows, spare_rows}

pub take-all : {X : Type 0} (xs : List X) (n : ℕ) → length xs ≤ n → take n xs ≡ xs
take-all [] n past = take-nil n
take-all (x ∷ xs) zero past = absurd (omega arith)
take-all (x ∷ xs) (suc n) past = ap (λ rest. x ∷ rest) (take-all xs n (omega arith))

pub drop-all : {X : Type 0} (xs : List X) (n : ℕ) → length xs ≤ n → drop n xs ≡ []
drop-all [] n past = drop-nil n
drop-all (x ∷ xs) zero past = absurd (omega arith)
drop-all (x ∷ xs) (suc n) past = drop-all xs n (omega arith)

take-append : {X : Type 0} (xs ys : List X) (n : ℕ) → take n (xs ++ ys) ≡ take n xs ++ take (n - length xs) ys
take-append {X = X} [] ys n =
    let same : n - 0 ≡ n = omega arith in
    ap (λ k. take k ys) (sym same) ∙ ap (λ (front : List X). front ++ take (n - 0) ys) (sym (take-nil n))
take-append (x ∷ xs) ys zero =
    let none : 0 - length (x ∷ xs) ≡ 0 = omega arith in
    ap (λ k. take k ys) (sym none)
take-append (x ∷ xs) ys (suc n) =
    let same : suc n - length (x ∷ xs) ≡ n - length xs = omega arith in
    ap (λ rest. x ∷ rest) (take-append xs ys n ∙ ap (λ k. take n xs ++ take k ys) (sym same))

drop-append : {X : Type 0} (xs ys : List X) (n : ℕ) → drop n (xs ++ ys) ≡ drop n xs ++ drop (n - length xs) ys
drop-append {X = X} [] ys n =
    let same : n - 0 ≡ n = omega arith in
    ap (λ k. drop k ys) (sym same) ∙ ap (λ (front : List X). front ++ drop (n - 0) ys) (sym (drop-nil n))
drop-append (x ∷ xs) ys zero =
    let none : 0 - length (x ∷ xs) ≡ 0 = omega arith in
    ap (λ k. x ∷ xs ++ drop k ys) (sym none)
drop-append (x ∷ xs) ys (suc n) =
    let same : suc n - length (x ∷ xs) ≡ n - length xs = omega arith in
    drop-append xs ys n ∙ ap (λ k. drop n xs ++ drop k ys) (sym same)

between-append : (xs ys : List RowValue) (first last : ℕ) → rows_between first last (xs ++ ys) ≡ rows_between first last xs ++ rows_between (first - length xs) (last - length xs) ys
between-append xs ys first last =
    let left : length (drop first xs) ≡ length xs - first = length-drop first xs in
    let same : last - first - length (drop first xs) ≡ last - length xs - (first - length xs) = omega arith in
    ap (take (last - first)) (drop-append xs ys first)
    ∙ take-append (drop first xs) (drop (first - length xs) ys) (last - first)
    ∙ ap (λ k. take (last - first) (drop first xs) ++ take k (drop (first - length xs) ys)) same

-- the same where the places are cut to the rows
pub between-cut : (some : List RowValue) (first last begin end : ℕ) → end ≡ min last (length some) → begin ≡ min first end → rows_between begin end some ≡ rows_between first last some
between-cut some first last begin end ends begins = ⊎_elim
    (λ (past : length some < first).
    let none : drop first some ≡ [] = drop-all some first (omega arith) in
    let same : begin ≡ end = omega arith in
    let gone : drop begin some ≡ drop end some = ap (λ k. drop k some) same in
    let zero_left : end - begin ≡ 0 = omega arith in
    ap (λ k. take k (drop begin some)) zero_left ∙ sym (ap (take (last - first)) none ∙ take-nil (last - first)))
    (λ (within : first ≤ length some). ⊎_elim
    (λ (before : last < first).
    let zero_left : end - begin ≡ 0 = omega arith in
    let zero_right : last - first ≡ 0 = omega arith in
    ap (λ k. take k (drop begin some)) zero_left ∙ sym (ap (λ k. take k (drop first some)) zero_right))
    (λ (behind : first ≤ last).
    let here : begin ≡ first = omega arith in
    let left : length (drop first some) ≡ length some - first = length-drop first some in
    ap (λ k. take (end - k) (drop k some)) here ∙ cut here left behind)
    (cases_lt last first))
    (cases_lt (length some) first)
  where
    cut : begin ≡ first → length (drop first some) ≡ length some - first → first ≤ last → take (end - first) (drop first some) ≡ take (last - first) (drop first some)
    cut here left behind = ⊎_elim
        (λ (short : last < length some). let same : end - first ≡ last - first = omega arith in ap (λ k. take k (drop first some)) same)
        (λ (past : length some ≤ last). take-all (drop first some) (end - first) (omega arith) ∙ sym (take-all (drop first some) (last - first) (omega arith)))
        (cases_lt last (length some))

length-system : length system_rows ≡ 16
unfolding system_rows
length-system = refl

length-kinds : length kind_rows ≡ 16
unfolding kind_rows
length-kinds = refl

length-files : length file_rows ≡ 16
unfolding file_rows
length-files = refl

length-spare : length spare_rows ≡ 16
unfolding spare_rows
length-spare = refl

pub length-rows : length rows ≡ 64
length-rows =
    let system = length-system in
    let kinds = length-kinds in
    let files = length-files in
    let spare = length-spare in
    simp length-append (omega arith)

step : (xs ys : List RowValue) (n first last : ℕ) → length xs ≡ n → rows_between first last (xs ++ ys) ≡ rows_between first last xs ++ rows_between (first - n) (last - n) ys
step xs ys n first last long =
    between-append xs ys first last ∙ ap (λ k. rows_between first last xs ++ rows_between (first - k) (last - k) ys) long

-- the rows of the four tables
tables-between : (first last : ℕ) → rows_between first last rows ≡
    rows_between first last system_rows ++ (rows_between (first - 16) (last - 16) kind_rows
    ++ (rows_between (first - 32) (last - 32) file_rows ++ rows_between (first - 48) (last - 48) spare_rows))
tables-between first last =
    let two : first - 16 - 16 ≡ first - 32 = omega arith in
    let two_last : last - 16 - 16 ≡ last - 32 = omega arith in
    let three : first - 32 - 16 ≡ first - 48 = omega arith in
    let three_last : last - 32 - 16 ≡ last - 48 = omega arith in
    step system_rows (kind_rows ++ (file_rows ++ spare_rows)) 16 first last length-system
    ∙ ap (λ rest. rows_between first last system_rows ++ rest)
    (step kind_rows (file_rows ++ spare_rows) 16 (first - 16) (last - 16) length-kinds
    ∙ ap (λ rest. rows_between (first - 16) (last - 16) kind_rows ++ rest)
    ((λ i. rows_between (two i) (two_last i) (file_rows ++ spare_rows))
    ∙ step file_rows spare_rows 16 (first - 32) (last - 32) length-files
    ∙ (λ i. rows_between (first - 32) (last - 32) file_rows ++ rows_between (three i) (three_last i) spare_rows)))

records-append : (shape : Shape) (xs ys : List RowValue) → records_bytes shape (xs ++ ys) ≡ records_bytes shape xs ++ records_bytes shape ys
records-append shape xs ys = flat_map-append (record_of_row shape) xs ys

-- the records of the four tables, put one after the other
pub records-between : (shape : Shape) (first last : ℕ) (none one two three four : List ℕ) → none ≡ []
    → one ≡ none ++ records_bytes shape (rows_between first last system_rows)
    → two ≡ one ++ records_bytes shape (rows_between (first - 16) (last - 16) kind_rows)
    → three ≡ two ++ records_bytes shape (rows_between (first - 32) (last - 32) file_rows)
    → four ≡ three ++ records_bytes shape (rows_between (first - 48) (last - 48) spare_rows)
    → four ≡ records_bytes shape (rows_between first last rows)
records-between shape first last none one two three four starts first_is second_is third_is fourth_is =
    let a = records_bytes shape (rows_between first last system_rows) in
    let b = records_bytes shape (rows_between (first - 16) (last - 16) kind_rows) in
    let d = records_bytes shape (rows_between (first - 32) (last - 32) file_rows) in
    let e = records_bytes shape (rows_between (first - 48) (last - 48) spare_rows) in
    let one_is : one ≡ a = first_is ∙ ap (λ (l : List ℕ). l ++ a) starts in
    let two_is : two ≡ a ++ b = second_is ∙ ap (λ (l : List ℕ). l ++ b) one_is in
    let three_is : three ≡ (a ++ b) ++ d = third_is ∙ ap (λ (l : List ℕ). l ++ d) two_is in
    let whole : records_bytes shape (rows_between first last rows) ≡ a ++ (b ++ (d ++ e))
    = ap (records_bytes shape) (tables-between first last)
    ∙ records-append shape (rows_between first last system_rows) _
    ∙ ap (λ (l : List ℕ). a ++ l) (records-append shape (rows_between (first - 16) (last - 16) kind_rows) _
    ∙ ap (λ (l : List ℕ). b ++ l) (records-append shape (rows_between (first - 32) (last - 32) file_rows) _)) in
    fourth_is ∙ ap (λ (l : List ℕ). l ++ e) three_is ∙ append_assoc (a ++ b) d e ∙ append_assoc a b (d ++ e) ∙ sym whole
