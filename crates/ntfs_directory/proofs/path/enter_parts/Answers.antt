use Rattle.std.proofs.Common.{◌≡◌, Ok, Err, Result, rules, refl, sym, ◌∙◌, arith}
use Rattle.std.proofs.lemmas.Result.{err_from_is_err_and}
use Rattle.ntfs_base.specs.Frames.{IsSettled}
use Rattle.ntfs_base.proofs.FramesLemmas.{told_still}
use Rattle.ntfs_directory.specs.Paths.{part_in, path_origin, path_parts}
use Rattle.ntfs_directory.specs.declared.entries.EntryRecord.{EntryRecord}
use Rattle.ntfs_directory.specs.declared.path_fault.PathFault.{PathFault}
use Rattle.ntfs_directory.proofs.PathLemmas.{parts-end, parts-next, parts-refused}
use Rattle.ntfs_directory.proofs.path.enter_parts.Goals as goal

pub returns-in-None-clause-gives : goal.returns-in-None-clause-gives
returns-in-None-clause-gives g c told =
    let o = c.args.table.now in
    sym (c.parts.invariant.5 told)
    ∙ parts-end o.geometry o.map (g.G.Image.seen c.args.image.now).content c.args.upper.now c.parts.index c.parts.at
    (path_parts c.parts.rest.now) (c.in-None.ensures.none refl)

pub returns-in_err-at-in-Some-clause-gives : goal.returns-in_err-at-in-Some-clause-gives
returns-in_err-at-in-Some-clause-gives g c told =
    let o = c.args.table.now in
    let entered = told_still g.G.Image c.args.image.now c.parts.image
    (λ content. IsSettled (path_origin c.in_err-at-in-Some.field-0.0) → ◌≡◌ {A = Result EntryRecord PathFault}
    (part_in o.geometry o.map content c.args.upper.now c.parts.index c.parts.at c.in-Some.part.now) (Err c.in_err-at-in-Some.field-0.0))
    c.parts.invariant.2 c.in_err-at-in-Some.ensures.gives in
    let p = err_from_is_err_and c.from_residual.result c.from_residual.ensures.1 in
    rw (p.1, p.2)
    (λ settled. sym (c.parts.invariant.5 told)
    ∙ parts-refused o.geometry o.map (g.G.Image.seen c.args.image.now).content c.args.upper.now c.parts.index c.parts.at
    (path_parts c.parts.rest.now) c.in-Some.part.now (path_parts c.in-Some.behind.now) c.in-Some.ensures.part _
    (entered told settled))

pub parts-preserved : goal.parts-preserved
parts-preserved g c =
    let o = c.args.table.now in
    let done = c.in_ok-at-in-Some.ensures in
    let entered = told_still g.G.Image c.args.image.now c.parts.image
    (λ content. ◌≡◌ {A = Result EntryRecord PathFault}
    (part_in o.geometry o.map content c.args.upper.now c.parts.index c.parts.at c.in-Some.part.now) (Ok c.in_ok-at-in-Some.at))
    c.parts.invariant.2 done.gives in (
      search rules,
      c.enter_part.auto.block ∙ c.parts.invariant.1,
      done.reads.seen ∙ c.parts.invariant.2,
      record {
        reads = omega (arith, done.reads.counts.reads, c.parts.invariant.3.reads);
        writes = omega (arith, done.reads.counts.writes, c.parts.invariant.3.writes);
      },
      omega (arith, c.in-Some.ensures.shorter, c.parts.invariant.4),
      λ told.
          sym (parts-next o.geometry o.map (g.G.Image.seen c.args.image.now).content c.args.upper.now c.parts.index c.parts.at
          (path_parts c.parts.rest.now) c.in-Some.part.now (path_parts c.in-Some.behind.now) c.in-Some.ensures.part _
          (entered told)) ∙ c.parts.invariant.5 told,
    )
