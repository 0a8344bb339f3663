use Rattle.std.proofs.Common.{◌≡◌, ◌+◌, ◌≤◌, sym, ap, ◌∙◌, arith}
use Rattle.ntfs_bitmap.specs.ClusterSet.{with_claim}
use Rattle.ntfs_bitmap.specs.Runs.{is_covered, lengths_of}
use Rattle.ntfs_bitmap.proofs.SetLemmas.{bound-set_where, claimed-none}
use Rattle.ntfs_bitmap.proofs.JoinLemmas.{joined-runs}
use Rattle.ntfs_bitmap.proofs.ClaimLemmas.{bound-is, claimed-from, free-from}
use Rattle.ntfs_bitmap.proofs.cluster_set.ClusterSet.claim_run.Goals as goal

pub add_run-requires-clause-within : goal.add_run-requires-clause-within
add_run-requires-clause-within c =
    let same = bound-is c.self.inside.bound (lengths_of c.self.inside.runs) c.args.self.now c.self.view_is in
    omega (arith, same, c.requires, c.self.ranges.0.1)

pub add_run-requires-clause-free : goal.add_run-requires-clause-free
add_run-requires-clause-free c =
    let same = bound-is c.self.inside.bound (lengths_of c.self.inside.runs) c.args.self.now c.self.view_is in
    free-from c.self.inside.bound
    (lengths_of c.self.inside.runs) c.args.self.now c.self.view_is c.args.first c.args.length
    (omega (arith, same, c.requires)) c.in_default.ensures

pub invariant_of-self : goal.invariant_of-self
invariant_of-self c =
    let old = lengths_of c.self.inside.runs in
    let same = bound-is c.self.inside.bound old c.args.self.now c.self.view_is in
    let within : c.args.first + c.args.length ≤ c.self.inside.bound = omega (arith, same, c.requires) in
    let free = free-from c.self.inside.bound old c.args.self.now c.self.view_is c.args.first c.args.length within
    c.in_default.ensures in
    joined-runs c.self.inside.bound old (lengths_of c.add_run.new.runs) c.args.first c.args.length c.self.invariant
    c.if-length-gt0.true within free c.in_ok-add_run.ensures.joined

pub returns-in_ok-add_run-clause-claimed : goal.returns-in_ok-add_run-clause-claimed
returns-in_ok-add_run-clause-claimed c =
    let old = lengths_of c.self.inside.runs in
    let same = bound-is c.self.inside.bound old c.args.self.now c.self.view_is in
    let within : c.args.first + c.args.length ≤ c.self.inside.bound = omega (arith, same, c.requires) in
    let free = free-from c.self.inside.bound old c.args.self.now c.self.view_is c.args.first c.args.length within
    c.in_default.ensures in
    claimed-from c.self.inside.bound old c.args.self.now c.self.view_is c.args.first c.args.length
    (lengths_of c.add_run.new.runs) c.self.invariant c.if-length-gt0.true within free c.in_ok-add_run.ensures.joined

pub returns-else-length-gt0-clause-claimed : goal.returns-else-length-gt0-clause-claimed
returns-else-length-gt0-clause-claimed c =
    let none : c.args.length ≡ 0 = omega (arith, c.if-length-gt0.false) in
    sym (ap (λ n. with_claim c.args.first n c.args.self.now) none ∙ claimed-none c.args.first c.args.self.now)

pub returns-in_ok-add_run-clause-bound : goal.returns-in_ok-add_run-clause-bound
returns-in_ok-add_run-clause-bound c =
    bound-set_where c.self.inside.bound (is_covered (lengths_of c.add_run.new.runs))
    ∙ sym (bound-is c.self.inside.bound (lengths_of c.self.inside.runs) c.args.self.now c.self.view_is)
