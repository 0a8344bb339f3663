use Rattle.std.proofs.Common.{◌≡◌, ◌≤◌, ◌-◌, sym, ap, ◌∙◌, arith, min, length, ℕ, Bool, true, false, nat_le}
use Rattle.std.proofs.lemmas.Result.{err_from_is_err_and}
use Rattle.ntfs_clone.specs.Header.{fixed_part}
use Rattle.ntfs_clone.specs.Taking.{to_come}
use Rattle.ntfs_clone.proofs.TakingLemmas.{given-then, fill-count, length-to_come, told-after}
use Rattle.ntfs_clone.proofs.HeaderLemmas.{fixed-filled, header-refused, header-skipped}
use Rattle.ntfs_clone.proofs.header.read_header.Goals as goal

pub returns-in_err-header-clause-gives : goal.returns-in_err-header-clause-gives
returns-in_err-header-clause-gives g c told =
    let p = err_from_is_err_and c.from_residual-in_err-header.result c.from_residual-in_err-header.ensures.1 in
    let rest = to_come (g.I.Source.seen c.args.source.now) in
    let size : length c.fill.new.into ≡ 50 = c.in_ok-count.ensures.len in
    let within : c.in_ok-count.count ≤ length c.fill.new.into = omega (arith, c.in_ok-count.ensures.room, size) in
    let many : c.in_ok-count.count ≡ min 50 (length rest) = fill-count c.in_ok-count.count 50 c.fill.new.into rest within size (c.in_ok-count.ensures.bytes told) in
    let same : c.clear_behind.new.front ≡ fixed_part rest = c.clear_behind.ensures ∙ fixed-filled c.in_ok-count.count c.fill.new.into rest size within (c.in_ok-count.ensures.bytes told) in
    rw (p.1, p.2) (λ settled. header-refused rest c.clear_behind.new.front c.in_ok-count.count _ many same (sym c.in_err-header.ensures.exact))

-- what was said of the bytes that were left
left-had : (said had : Bool) (n count left all : ℕ) → said ≡ had → left ≡ all - count → said ≡ nat_le n left → count ≡ 50 → (m : ℕ) → n ≡ m → had ≡ nat_le m (all - 50)
left-had said had n count left all is size told whole m same = sym is ∙ told ∙ ap (λ k. nat_le k left) same ∙ ap (nat_le m) (size ∙ ap (λ k. all - k) whole)

pub returns-in_err-skip-clause-kept : goal.returns-in_err-skip-clause-kept
returns-in_err-skip-clause-kept g c = given-then _ _ _ c.in_ok-count.ensures.kept c.skip.ensures.kept

pub returns-then-not-branch-clause-kept : goal.returns-then-not-branch-clause-kept
returns-then-not-branch-clause-kept g c = given-then _ _ _ c.in_ok-count.ensures.kept c.skip.ensures.kept

pub returns-clause-kept : goal.returns-clause-kept
returns-clause-kept g c = given-then _ _ _ c.in_ok-count.ensures.kept c.skip.ensures.kept

pub returns-then-not-branch-clause-gives : goal.returns-then-not-branch-clause-gives
returns-then-not-branch-clause-gives g c told settled =
    let rest = to_come (g.I.Source.seen c.args.source.now) in
    let size : length c.fill.new.into ≡ 50 = c.in_ok-count.ensures.len in
    let within : c.in_ok-count.count ≤ length c.fill.new.into = omega (arith, c.in_ok-count.ensures.room, size) in
    let many : c.in_ok-count.count ≡ min 50 (length rest) = fill-count c.in_ok-count.count 50 c.fill.new.into rest within size (c.in_ok-count.ensures.bytes told) in
    let same : c.clear_behind.new.front ≡ fixed_part rest = c.clear_behind.ensures ∙ fixed-filled c.in_ok-count.count c.fill.new.into rest size within (c.in_ok-count.ensures.bytes told) in
    header-skipped rest c.clear_behind.new.front c.in_ok-count.count c.in_ok-header.header false many same (sym c.in_ok-header.ensures.exact) c.in_ok-header.ensures.whole c.in_ok-header.ensures.good.offset (left-had c.in_ok-skip.field-0 false (c.from.result - 50) c.in_ok-count.count _ _ c.if-not-branch.true (length-to_come c.in_ok-count.count _ _ told c.in_ok-count.ensures.given) (c.in_ok-skip.ensures.had (told-after c.in_ok-count.count _ _ told c.in_ok-count.ensures.given)) (omega (arith, within, size, c.in_ok-header.ensures.whole)) (c.in_ok-header.header.offset - 50) (ap (λ n. n - 50) c.from.ensures))

pub returns-clause-gives : goal.returns-clause-gives
returns-clause-gives g c told =
    let rest = to_come (g.I.Source.seen c.args.source.now) in
    let size : length c.fill.new.into ≡ 50 = c.in_ok-count.ensures.len in
    let within : c.in_ok-count.count ≤ length c.fill.new.into = omega (arith, c.in_ok-count.ensures.room, size) in
    let many : c.in_ok-count.count ≡ min 50 (length rest) = fill-count c.in_ok-count.count 50 c.fill.new.into rest within size (c.in_ok-count.ensures.bytes told) in
    let same : c.clear_behind.new.front ≡ fixed_part rest = c.clear_behind.ensures ∙ fixed-filled c.in_ok-count.count c.fill.new.into rest size within (c.in_ok-count.ensures.bytes told) in
    header-skipped rest c.clear_behind.new.front c.in_ok-count.count c.in_ok-header.header true many same (sym c.in_ok-header.ensures.exact) c.in_ok-header.ensures.whole c.in_ok-header.ensures.good.offset (left-had c.in_ok-skip.field-0 true (c.from.result - 50) c.in_ok-count.count _ _ c.if-not-branch.false (length-to_come c.in_ok-count.count _ _ told c.in_ok-count.ensures.given) (c.in_ok-skip.ensures.had (told-after c.in_ok-count.count _ _ told c.in_ok-count.ensures.given)) (omega (arith, within, size, c.in_ok-header.ensures.whole)) (c.in_ok-header.header.offset - 50) (ap (λ n. n - 50) c.from.ensures))
