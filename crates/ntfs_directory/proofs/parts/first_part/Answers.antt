use Rattle.std.proofs.Common.{rules, None, Some, sym, ◌∙◌, arith}
use Rattle.std.proofs.lemmas.Bool.{eqb-true}
use Rattle.std.proofs.lemmas.Str.Pattern.{split_parts}
use Rattle.ntfs_directory.proofs.PathLemmas.{parts-behind, parts-first, shorter}
use Rattle.ntfs_directory.proofs.parts.first_part.Goals as goal

pub last_part-requires : goal.last_part-requires
last_part-requires c = record {
  slashless = split_parts 47 c.slashes.rest.now None c.in-None.ensures.cases (omega arith);
}

pub returns-then-not-is_empty-clause-part : goal.returns-then-not-is_empty-clause-part
returns-then-not-is_empty-clause-part c =
    let split = split_parts 47 c.slashes.rest.now (Some (c.in-Some.part, c.in-Some.behind)) c.in-Some.ensures.cases (omega arith) in
    c.slashes.invariant.1
    ∙ parts-first c.slashes.rest.now c.in-Some.part.now c.in-Some.behind.now split.0 split.1
    (sym c.is_empty.ensures ∙ c.if-not-is_empty.true)

pub slashes-preserved : goal.slashes-preserved
slashes-preserved c =
    let split = split_parts 47 c.slashes.rest.now (Some (c.in-Some.part, c.in-Some.behind)) c.in-Some.ensures.cases (omega arith) in
    let fewer = shorter c.slashes.rest.now c.in-Some.part.now c.in-Some.behind.now split.0 in (
      search rules,
      c.slashes.invariant.1
          ∙ parts-behind c.slashes.rest.now c.in-Some.part.now c.in-Some.behind.now split.0
          (eqb-true _ _ (sym c.is_empty.ensures ∙ c.if-not-is_empty.false)),
      omega (arith, fewer, c.slashes.invariant.2),
    )
