-- The lines of runs and of clusters with the attributes that have them. The texts are ours.
use Rattle.std.specs.Prelude.{◌+◌, ◌-◌, ℕ, zero, suc, List, [], ◌∷◌, ◌++◌, codes, Option, Some, None, if◌then◌else◌}
use Rattle.std.specs.Fmt.{decimal}
use Rattle.ntfs_bitmap.specs.ClusterSet.{in_run}
use Rattle.ntfs_runs.specs.declared.run.Run.{Run}
use Rattle.ntfs_owners.specs.Held.{Held}
use Rattle.ntfs_owners.specs.declared.owner_lines.Word.{Word}
use Rattle.ntfs_owners.specs.declared.owner_lines.Word.TheVariants.{Cluster, Lcn, Hole, Length, Space, End}

-- the words of the lines; the word is ours
unfoldable pub word_text : Word → List ℕ
word_text Cluster = codes "cluster "
word_text Lcn = codes " lcn "
word_text Hole = codes "hole"
word_text Length = codes " length "
word_text Space = codes " "
word_text End = 10 ∷ []

-- where a run begins
abbrev pub lcn_text : Option ℕ → List ℕ
lcn_text None = word_text Hole
lcn_text (Some first) = decimal first

-- the numbers of a run from a VCN on, and the end of its line
unfoldable pub run_numbers : ℕ → Run → List ℕ
run_numbers vcn run =
    decimal vcn
    ++ (word_text Lcn ++ (lcn_text run.lcn ++ (word_text Length ++ (decimal run.length ++ word_text End))))

-- the lines of runs from a VCN on, behind the text that tells whose they are
unfoldable pub run_lines : List ℕ → ℕ → List Run → List ℕ
run_lines text vcn [] = []
run_lines text vcn (run ∷ runs) = (text ++ run_numbers vcn run) ++ run_lines text (vcn + run.length) runs

-- the lines of what attributes hold, in their order
unfoldable pub held_lines : List Held → List ℕ
held_lines [] = []
held_lines (held ∷ rest) = run_lines held.text held.lowest held.runs ++ held_lines rest

-- ---- clusters

-- a line of cluster k up to the text that tells whose it is, and behind that text
unfoldable pub cluster_head : ℕ → List ℕ
cluster_head k = word_text Cluster ++ (decimal k ++ word_text Space)

unfoldable pub cluster_tail : ℕ → List ℕ
cluster_tail vcn = decimal vcn ++ word_text End

-- the line of cluster k at a VCN
abbrev pub cluster_line : ℕ → List ℕ → ℕ → List ℕ
cluster_line k text vcn = cluster_head k ++ (text ++ cluster_tail vcn)

-- the line of cluster k, where so many clusters in a row from a VCN on have it; a hole has none
abbrev pub row_line : ℕ → List ℕ → ℕ → ℕ → Option ℕ → List ℕ
row_line k text vcn count None = []
row_line k text vcn count (Some first) = if in_run first count k then cluster_line k text (vcn + (k - first)) else []

-- the lines of cluster k for runs from a VCN on, one for each run that has it
unfoldable pub runs_cluster : ℕ → List ℕ → ℕ → List Run → List ℕ
runs_cluster k text vcn [] = []
runs_cluster k text vcn (run ∷ runs) =
    row_line k text vcn run.length run.lcn ++ runs_cluster k text (vcn + run.length) runs

-- the lines of cluster k for what attributes hold, in their order
unfoldable pub held_cluster : ℕ → List Held → List ℕ
held_cluster k [] = []
held_cluster k (held ∷ rest) = runs_cluster k held.text held.lowest held.runs ++ held_cluster k rest

-- the lines of so many clusters from one on, ascending
unfoldable pub held_clusters : ℕ → ℕ → List Held → List ℕ
held_clusters from zero held = []
held_clusters from (suc count) held = held_cluster from held ++ held_clusters (suc from) count held
