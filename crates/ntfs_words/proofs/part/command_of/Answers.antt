use Rattle.std.proofs.Common.{◌∙◌, ap, map, rules, arith}
use Rattle.std.proofs.lemmas.List.{take_all}
use Rattle.ntfs_words.specs.Line.{app_with, rule_for}
use Rattle.ntfs_words.proofs.PartLemmas.{with_one_more}
use Rattle.ntfs_words.proofs.part.command_of.Goals as goal

pub parts-init : goal.parts-init
parts-init c = search rules

pub parts-preserved : goal.parts-preserved
parts-preserved c = c.in_ok-command.ensures.shape c.argument_of.ensures.local ∙ with_one_more c.args.name.now c.args.parts.now c.parts.part-index _ _ _ c.parts.invariant c.argument_of.ensures.rule (omega arith)

pub returns : goal.returns
returns c = c.parts.invariant ∙ ap (λ parts. app_with c.args.name.now (map rule_for parts)) (take_all c.parts.part-index c.args.parts.now (omega arith))
