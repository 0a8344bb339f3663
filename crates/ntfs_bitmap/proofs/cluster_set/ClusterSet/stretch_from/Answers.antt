use Rattle.std.proofs.Common.{true, false, sym, ap, subst, ◌∙◌, arith}
use Rattle.ntfs_bitmap.specs.ClusterSet.{Clusters, bound_of}
use Rattle.ntfs_bitmap.specs.Runs.{is_covered, lengths_of}
use Rattle.ntfs_bitmap.specs.Stretch.{IsStretch}
use Rattle.ntfs_bitmap.proofs.SetLemmas.{bound-set_where}
use Rattle.ntfs_bitmap.proofs.RunsLemmas.{AreRuns-wider}
use Rattle.ntfs_bitmap.proofs.StretchLemmas.{stretch-free, stretch-in}
use Rattle.ntfs_bitmap.proofs.cluster_set.ClusterSet.stretch_from.Goals as goal

pub end_at-requires : goal.end_at-requires
end_at-requires c = AreRuns-wider c.self.inside.bound _ (lengths_of c.self.inside.runs) (omega arith) c.self.invariant

pub next_first-requires-clause-cluster : goal.next_first-requires-clause-cluster
next_first-requires-clause-cluster c =
    let same = sym (bound-set_where c.self.inside.bound (is_covered (lengths_of c.self.inside.runs)))
    ∙ ap bound_of c.self.view_is in
    omega (arith, same, c.requires)

pub returns-in-Some : goal.returns-in-Some
returns-in-Some c =
    subst (λ (set : Clusters). IsStretch set c.args.cluster (record {
      is_in =
          true;
      end = c.in-Some.end;
    })) c.self.view_is
    (stretch-in c.self.inside.bound (lengths_of c.self.inside.runs) c.self.invariant c.args.cluster c.in-Some.end
    c.in-Some.ensures.end)

pub returns-in-None : goal.returns-in-None
returns-in-None c =
    let same = sym (bound-set_where c.self.inside.bound (is_covered (lengths_of c.self.inside.runs)))
    ∙ ap bound_of c.self.view_is in
    subst (λ (set : Clusters). IsStretch set c.args.cluster (record {
      is_in =
          false;
      end = c.next_first.result;
    })) c.self.view_is
    (stretch-free c.self.inside.bound
    (lengths_of c.self.inside.runs) c.self.invariant c.args.cluster c.next_first.result
    (omega (arith, same, c.requires)) c.in-None.ensures.none c.next_first.ensures)
