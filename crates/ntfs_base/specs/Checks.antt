-- Refusals in an order: a list of tests, each with what it names where it doesn't hold, of which the first that doesn't
-- hold counts. The words are ours.
use Rattle.std.specs.Prelude.{Bool, List, [], ◌∷◌, Option, Some, None, if◌then◌else◌}

-- whether it holds, and what a refusal names
pub record Check (X : Type 0) : Type 0 where
  pub holds : Bool
  pub names : X

abbrev pub check : {X : Type 0} → Bool → X → Check X
check holds names = record { holds = holds; names = names }

-- what the first names that doesn't hold
abbrev pub first_wrong : {X : Type 0} → List (Check X) → Option X
first_wrong [] = None
first_wrong (c ∷ cs) = if c.holds then first_wrong cs else Some c.names
