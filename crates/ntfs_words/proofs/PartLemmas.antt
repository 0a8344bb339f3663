-- A command with one part more.
use Rattle.std.proofs.Common.{◌≡◌, ◌∙◌, ◌+◌, ◌<◌, ◌∷◌, [], ℕ, List, ap, ap₂, sym, map, take, length, slice_index_or}
use Rattle.std.proofs.lemmas.List.{map-append, take_more}
use Rattle.clap.specs.Words.{App, Rule, Text, with_rule}
use Rattle.ntfs_words.specs.Line.{app_with, rule_for}
use Rattle.ntfs_words.specs.declared.part.Part.{Part}

pub with_one_more : (name : Text) (parts : List Part) (i : ℕ) (d : Part) (app : App) (rule : Rule)
    → app ≡ app_with name (map rule_for (take i parts)) → rule ≡ rule_for (slice_index_or parts i d) → i < length parts
    → with_rule app rule ≡ app_with name (map rule_for (take (i + 1) parts))
with_one_more name parts i d app rule before is within =
    ap₂ with_rule before is ∙ ap (app_with name) (sym (ap (map rule_for) (take_more parts i d within) ∙ map-append rule_for (take i parts) (slice_index_or parts i d ∷ [])))
