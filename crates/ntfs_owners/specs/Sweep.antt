-- The clusters of a range row by row, and a sweep over them, as the code makes it. The words are ours; lemmas tie them
-- to the lines of what attributes hold.
use Rattle.std.specs.Prelude.{◌≡◌, ◌<◌, ◌≤◌, ◌+◌, ◌-◌, ◌==◌, ◌&&◌, ℕ, zero, suc, Bool, List, [], ◌∷◌, ◌++◌, length, max, min, nat_le, nat_lt, All, Option, Some, None, get_or, sum_by, if◌then◌else◌}
use Rattle.std.specs.List.Sorted.{IsNonDecreasingBy}
use Rattle.ntfs_runs.specs.declared.run.Run.{Run}
use Rattle.ntfs_owners.specs.Held.{Held}
use Rattle.ntfs_owners.specs.OwnerLines.{cluster_line}
use Rattle.ntfs_print.specs.declared.fault.ShowFault.{ShowFault}
use Rattle.ntfs_print.specs.declared.fault.ShowFault.TheVariants as show
use Rattle.ntfs_owners.specs.declared.row.Row.{Row}

-- clusters in a row from a first one on, below an end, from a VCN on, and the text that tells whose they are
pub record Span : Type 0 where
  pub text : List ℕ
  pub vcn : ℕ
  pub first : ℕ
  pub end : ℕ

-- what the code keeps of it
abbrev pub row_span : Row → Span
row_span row = record { text = row.text.now; vcn = row.vcn; first = row.first; end = row.end }

-- no clusters
abbrev pub no_span : Span
no_span = record { text = []; vcn = 0; first = 0; end = 0 }

-- the clusters of a run from a VCN on that lie from one on, below another one
abbrev pub row_spans : ℕ → ℕ → List ℕ → ℕ → ℕ → Option ℕ → List Span
row_spans from end text vcn count None = []
row_spans from end text vcn count (Some first) =
    if nat_lt (max first from) (min (first + count) end)
    then record {
      text = text;
      vcn = vcn + (max first from - first);
      first = max first from;
      end = min (first + count) end;
    } ∷ []
    else []

-- those of runs from a VCN on
unfoldable pub run_spans : ℕ → ℕ → List ℕ → ℕ → List Run → List Span
run_spans from end text vcn [] = []
run_spans from end text vcn (run ∷ runs) =
    row_spans from end text vcn run.length run.lcn ++ run_spans from end text (vcn + run.length) runs

-- those of what attributes hold
unfoldable pub held_spans : ℕ → ℕ → List Held → List Span
held_spans from end [] = []
held_spans from end (held ∷ rest) = run_spans from end held.text held.lowest held.runs ++ held_spans from end rest

-- ---- rows by their number

abbrev pub span_first : List Span → ℕ → ℕ
span_first spans i = (get_or spans i no_span).first

abbrev pub span_end : List Span → ℕ → ℕ
span_end spans i = (get_or spans i no_span).end

-- each row's first cluster and its number, from a number on
abbrev pub starts_from : ℕ → List Span → List (ℕ × ℕ)
starts_from n [] = []
starts_from n (span ∷ spans) = (span.first, n) ∷ starts_from (suc n) spans

-- the number of the next of the rows that wait, where it begins at this cluster
abbrev pub due_row : ℕ → List (ℕ × ℕ) → Option ℕ
due_row at [] = None
due_row at (start ∷ waiting) = if start.0 == at then Some start.1 else None

-- where the next of them begins
abbrev pub next_start : List (ℕ × ℕ) → Option ℕ
next_start [] = None
next_start (start ∷ waiting) = Some start.0

-- the cluster that is looked at next: this one, where a row is active, else the first of the next row that waits
abbrev pub next_cluster : ℕ → List ℕ → List (ℕ × ℕ) → Option ℕ
next_cluster at [] waiting = next_start waiting
next_cluster at (row ∷ rows) waiting = Some at

-- the line of cluster k in a row that has it
abbrev pub line_in : ℕ → Span → List ℕ
line_in k span = cluster_line k span.text (span.vcn + (k - span.first))

-- the lines of cluster k for the rows of these numbers
unfoldable pub rows_cluster : ℕ → List Span → List ℕ → List ℕ
rows_cluster k spans [] = []
rows_cluster k spans (i ∷ rows) = line_in k (get_or spans i no_span) ++ rows_cluster k spans rows

-- the line of cluster k where a row has it
abbrev pub span_line : ℕ → Span → List ℕ
span_line k span = if nat_le span.first k && nat_lt k span.end then line_in k span else []

-- the lines of cluster k for rows
unfoldable pub span_lines : ℕ → List Span → List ℕ
span_lines k [] = []
span_lines k (span ∷ spans) = span_line k span ++ span_lines k spans

-- the lines of so many clusters from one on, ascending
unfoldable pub swept_lines : List Span → ℕ → ℕ → List ℕ
swept_lines spans from zero = []
swept_lines spans from (suc count) = span_lines from spans ++ swept_lines spans (suc from) count

-- the numbers below one, ascending
abbrev pub upto : ℕ → List ℕ
upto zero = []
upto (suc n) = upto n ++ n ∷ []

-- a number where a test holds
abbrev pub number_where : Bool → ℕ → ℕ
number_where b n = if b then n else 0

-- what is known of m rows before cluster at is looked at, where functions give their first clusters and their ends:
-- active rows begin at it or before, the others wait and begin at it or behind it, by their first clusters; and the
-- rows that haven't ended are these together, which sums tell
pub record IsSwept (first end : ℕ → ℕ) (m at : ℕ) (active : List ℕ) (waiting : List (ℕ × ℕ)) : Type 0 where
  pub law : (f : ℕ → ℕ)
      → sum_by f active + sum_by (λ s. f s.1) waiting ≡ sum_by (λ i. number_where (nat_lt at (end i)) (f i)) (upto m)
  pub begun : All (λ i. (first i ≤ at) × (i < m)) active
  pub later : All (λ s. at ≤ s.0) waiting
  pub tied : All (λ s. (s.0 ≡ first s.1) × (s.0 < end s.1) × (s.1 < m)) waiting
  pub sorted : IsNonDecreasingBy (λ s. s.0) waiting

-- the row of a number has cluster k
pub record HasCluster (spans : List Span) (k i : ℕ) : Type 0 where
  pub there : i < length spans
  pub first : span_first spans i ≤ k
  pub below : k < span_end spans i

-- a row has clusters, all from one on, below another one
pub record LiesBetween (from end : ℕ) (span : Span) : Type 0 where
  pub some : span.first < span.end
  pub low : from ≤ span.first
  pub high : span.end ≤ end

-- a refusal that cuts a printing off: a put or want of memory
abbrev pub IsPutCut : ShowFault → Type 0
IsPutCut show.WriteFault = Unit {0}
IsPutCut show.NoMemory = Unit {0}
IsPutCut other = ⊥
