use Rattle.std.proofs.Common.{◌∙◌, ap, sym, subst, get_or, Err}
use Rattle.std.proofs.lemmas.List.Elements.{All-get_or}
use Rattle.ntfs_bitmap.specs.ClusterSet.{IsTaken, taken_in}
use Rattle.ntfs_bitmap.specs.Search.{FindsLeast, IsLeast}
use Rattle.ntfs_bitmap.specs.declared.fault.ClaimFault.{ClaimFault}
use Rattle.ntfs_survey.specs.Owned.{LiesBelow}
use Rattle.ntfs_check_clusters.proofs.ClaimLemmas.{claimed-none, claims_of, double-all, double-found, double-next, double-none, no_owner, once-found, once-none, set-all, set-next}
use Rattle.ntfs_check_clusters.proofs.claims.claim_all.Goals as goal

pub owners-init : goal.owners-init
owners-init c = record {
  bound = c.in_ok-set.ensures.bound;
  set = c.in_ok-set.ensures.empty ∙ claimed-none c.args.clusters;
  same = double-all (claims_of c.args.owners.now);
}

pub returns-in-Err-Taken-clause-gives : goal.returns-in-Err-Taken-clause-gives
returns-in-Err-Taken-clause-gives c settled =
    let owner = get_or c.args.owners.now c.owners.owner-index no_owner in
    let lies = All-get_or (LiesBelow c.args.clusters) c.args.owners.now c.owners.owner-index no_owner c.owners-test.true c.requires.below in
    let least : IsLeast (IsTaken c.owners.set owner.first owner.length) c.in-Err-Taken.field-0-0 =
    subst (λ (fault : ClaimFault). FindsLeast (IsTaken c.owners.set owner.first owner.length) (taken_in (Err fault))) c.in-Err-Taken.field-0-is c.in-Err-Taken.ensures.taken in
    once-found c.args.clusters (get_or c.args.owners.now c.owners.owner-index no_owner).number (claims_of c.args.owners.now)
    (double-found c.args.clusters c.owners.owner-index c.in-Err-Taken.field-0-0 c.args.owners.now c.owners.set _ c.owners-test.true lies c.owners.invariant.set least.holds c.owners.invariant.same)
    ∙ ap Err (sym c.damaged.ensures)

pub owners-preserved : goal.owners-preserved
owners-preserved c =
    let lies = All-get_or (LiesBelow c.args.clusters) c.args.owners.now c.owners.owner-index no_owner c.owners-test.true c.requires.below in
    record {
      bound = c.in-Ok.ensures.bound ∙ c.owners.invariant.bound;
      set = set-next c.args.clusters c.owners.owner-index c.args.owners.now c.owners.set c.claim_run.new.self c.owners-test.true c.owners.invariant.set c.in-Ok.ensures.claimed;
      same = double-next c.args.clusters c.owners.owner-index c.args.owners.now c.owners.set _ c.owners-test.true lies c.owners.invariant.set c.in-Ok.ensures.taken c.owners.invariant.same;
    }

pub returns-clause-gives : goal.returns-clause-gives
returns-clause-gives c =
    once-none c.args.clusters (claims_of c.args.owners.now) c.owners.set (double-none c.owners.owner-index c.args.owners.now _ c.owners-test.false c.owners.invariant.same)
    (set-all c.args.clusters c.owners.owner-index c.args.owners.now c.owners.set c.owners-test.false c.owners.invariant.set)
