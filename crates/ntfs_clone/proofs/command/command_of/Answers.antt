use Rattle.std.proofs.Common.{◌≡◌, ◌∷◌, true, nat_eq, refl, sym, ap, ◌∙◌}
use Rattle.ntfs_clone.specs.Commands.{next_command, command_in}
use Rattle.ntfs_clone.proofs.command.command_of.Goals as goal

pub returns-then-kind-eq0-clause-exact : goal.returns-then-kind-eq0-clause-exact
unfolding next_command command_in
returns-then-kind-eq0-clause-exact c =
    let is : nat_eq c.args.kind 0 ≡ true = ap (λ k. nat_eq k 0) c.if-kind-eq0.true in
    c.gap_in.ensures.exact c.args.cluster (c.args.kind ∷ c.args.rest.now) ∙ sym (rw is refl)
