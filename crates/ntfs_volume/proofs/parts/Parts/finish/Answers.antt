use Rattle.std.proofs.Common.{sym, ap, ◌∙◌, refl, Ok, Err, option_map, true, false}
use Rattle.ntfs_volume.specs.declared.stream.Content.TheVariants as content
use Rattle.ntfs_volume.proofs.PartsLemmas.{finish-none, finish-readable, finish-runs, finish-value, finish-wrong, readable-as, value-readable}
use Rattle.ntfs_volume.proofs.parts.Parts.finish.Goals as goal

pub returns-in-None-clause-gives : goal.returns-in-None-clause-gives
returns-in-None-clause-gives c settled = finish-none c.args.geometry.now.cluster c.args.number c.args.self c.in-None.is

pub returns-in-Some-value-clause-gives : goal.returns-in-Some-value-clause-gives
returns-in-Some-value-clause-gives c =
    finish-value c.args.geometry.now.cluster c.args.number c.args.self c.in-Some.first (content.Value c.in-Some-value.bytes) c.in-Some.is (ap (option_map (λ value. value.items)) c.in-Some-value.is) refl
    ∙ ap Ok (sym c.new.ensures)

pub returns-in-Some-value-clause-readable : goal.returns-in-Some-value-clause-readable
returns-in-Some-value-clause-readable c =
    readable-as c.args.geometry.now _ _ c.new.ensures (value-readable c.args.geometry.now c.in-Some.first.flags c.in-Some-value.bytes.items)

pub returns-in-Some-wrong-clause-gives : goal.returns-in-Some-wrong-clause-gives
returns-in-Some-wrong-clause-gives c settled =
    finish-wrong c.args.geometry.now.cluster c.args.number c.args.self c.in-Some.first c.in-Some-wrong.wrong c.in-Some.is (ap (option_map (λ value. value.items)) c.in-None-value.is) c.in-Some-wrong.is
    ∙ ap Err (sym c.damaged.ensures)

pub returns-then-not-fit-clause-gives : goal.returns-then-not-fit-clause-gives
returns-then-not-fit-clause-gives c settled =
    finish-runs c.args.geometry.now.clusters c.args.geometry.now.cluster c.args.number c.args.self c.in-Some.first false c.requires c.in-Some.is (ap (option_map (λ value. value.items)) c.in-None-value.is) c.in-None-wrong.is
    (sym c.if-not-fit.true ∙ c.fit.ensures) ∙ ap Err (sym c.damaged-then-not-fit.ensures)

pub returns-else-not-fit-clause-gives : goal.returns-else-not-fit-clause-gives
returns-else-not-fit-clause-gives c =
    finish-runs c.args.geometry.now.clusters c.args.geometry.now.cluster c.args.number c.args.self c.in-Some.first true c.requires c.in-Some.is (ap (option_map (λ value. value.items)) c.in-None-value.is) c.in-None-wrong.is
    (sym c.if-not-fit.false ∙ c.fit.ensures) ∙ ap Ok (sym c.new-in-None-wrong.ensures)

pub returns-else-not-fit-clause-readable : goal.returns-else-not-fit-clause-readable
returns-else-not-fit-clause-readable c =
    readable-as c.args.geometry.now _ _ c.new-in-None-wrong.ensures (finish-readable c.args.geometry.now c.args.self c.in-Some.first true c.requires (sym c.if-not-fit.false ∙ c.fit.ensures) refl)
