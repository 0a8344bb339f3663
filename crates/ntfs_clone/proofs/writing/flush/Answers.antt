use Rattle.std.proofs.Common.{◌≡◌, ◌<◌, ◌+◌, length, ap, ◌∙◌, arith, take, ◌-◌, subst, ◌⊎◌, List, ℕ}
use Rattle.std.proofs.lemmas.Result.{err_from_is_err_and}
use Rattle.ntfs_base.specs.Bytes.{overwrite}
use Rattle.ntfs_base.proofs.ContentLemmas.{told-content_after}
use Rattle.ntfs_clone.proofs.WritingLemmas.{same-wrote, wrote-one, row-written, row-failed}
use Rattle.ntfs_clone.proofs.writing.flush.Goals as goal

pub returns-in_err-write_within-clause-same : goal.returns-in_err-write_within-clause-same
returns-in_err-write_within-clause-same g c = same-wrote _ _ _ _ c.write_within.ensures.wrote

pub returns-clause-same : goal.returns-clause-same
returns-clause-same g c = same-wrote _ _ _ _ c.write_within.ensures.wrote

pub returns-in_err-write_within-clause-front : goal.returns-in_err-write_within-clause-front
returns-in_err-write_within-clause-front g c =
    let p = err_from_is_err_and c.from_residual.result c.from_residual.ensures.1 in
    let row = c.args.row.now in
    let d = c.args.header.now.device in
    let value : c.deref.result.now ≡ row.bytes.items = c.deref.ensures.value in
    let size = ap length value in
    let some : 0 < length row.bytes.items = omega (arith, size, c.deref.ensures.len, c.len.ensures, c.if-len-eq0.false) in
    let old = g.F.Image.seen c.args.target.now in
    let new = g.F.Image.seen c.write_within.new.target in
    rw p.1 (λ read told held.
    row-failed c.args.header.now read row old.content new.content held (c.requires.begins some)
    (subst (λ (xs : List ℕ). (new.content ≡ old.content) ⊎ (new.content ≡ overwrite row.place (take (d - row.place) xs) old.content)) value
    (wrote-one (record { place = row.place; bytes = take (d - row.place) c.deref.result.now }) old new c.in_err-write_within.field-0.0 c.in_err-write_within.ensures.wrote told)))

pub returns-clause-held : goal.returns-clause-held
returns-clause-held g c read told held =
    let row = c.args.row.now in
    let d = c.args.header.now.device in
    let value : c.deref.result.now ≡ row.bytes.items = c.deref.ensures.value in
    let size = ap length value in
    let some : 0 < length row.bytes.items = omega (arith, size, c.deref.ensures.len, c.len.ensures, c.if-len-eq0.false) in
    let old = g.F.Image.seen c.args.target.now in
    let new = g.F.Image.seen c.write_within.new.target in
    let made : new.content ≡ overwrite row.place (take (d - row.place) row.bytes.items) old.content =
    told-content_after _ old new c.in_ok-write_within.ensures.wrote.whole told ∙ ap (λ xs. overwrite row.place (take (d - row.place) xs) old.content) value in
    let long : c.len-2.result ≡ length row.bytes.items = omega (arith, size, c.deref.ensures.len, c.len-2.ensures) in
    row-written c.args.header.now read row _ old.content new.content held (c.requires.begins some) made c.clear.ensures.items (ap (λ n. row.place + n) long)
