use Rattle.std.proofs.Common.{◌≡◌, ◌≤◌, sym, ap, ◌∙◌, subst, ℕ, length, Bool, true, false, Ok, Err}
use Rattle.std.proofs.lemmas.Result.{err_from_is_err_and}
use Rattle.ntfs_base.proofs.FramesLemmas.{puts_none}
use Rattle.ntfs_base.specs.Bytes.{cluster_at}
use Rattle.ntfs_boot.specs.Geometry.{bytes_of_clusters}
use Rattle.ntfs_runs.specs.Clusters.{vcns}
use Rattle.ntfs_runs.specs.Cells.{map_cells}
use Rattle.ntfs_stream.specs.Fault.{stream_origin}
use Rattle.ntfs_stream.specs.Putting.{pieces}
use Rattle.ntfs_stream.specs.StreamBytes.{is_plain}
use Rattle.ntfs_stream.specs.declared.fault.StreamFault.TheVariants.{NotPlain}
use Rattle.ntfs_stream.proofs.AnswerLemmas.{puts_by}
use Rattle.ntfs_stream.proofs.PutLemmas.{puts-failed, puts-whole, sink-cuts}
use Rattle.ntfs_stream.proofs.StreamBytesLemmas.{plain-refused, runs-outcome, value-outcome}
use Rattle.ntfs_stream.proofs.read.put_stream.Goals as goal

plain-is : (flags told : ℕ) (plain wanted : Bool) → told ≡ flags → plain ≡ is_plain told → plain ≡ wanted → is_plain flags ≡ wanted
plain-is flags told plain wanted same is holds = sym (ap is_plain same) ∙ sym is ∙ holds

pub returns-then-not-is_plain-clause-told : goal.returns-then-not-is_plain-clause-told
returns-then-not-is_plain-clause-told g c told =
    let s = c.args.stream.now.stream in
    let refused = plain-refused c.args.geometry.now (g.G.Image.seen c.args.image.now).content s (plain-is s.flags c.flags-flags.result c.is_plain.result false c.flags-flags.ensures c.is_plain.ensures c.if-not-is_plain.true) in
    puts_none stream_origin _ (NotPlain c.flags-flags.result) _ (λ settled. refused ∙ ap (λ n. Err (NotPlain n)) (sym c.flags-flags.ensures))

pub returns-in_err-put-in-Some-clause-told : goal.returns-in_err-put-in-Some-clause-told
returns-in_err-put-in-Some-clause-told g c told =
    let s = c.args.stream.now.stream in
    let p = err_from_is_err_and c.from_residual.result c.from_residual.ensures.1 in
    let plain = plain-is s.flags c.flags-flags.result c.is_plain.result true c.flags-flags.ensures c.is_plain.ensures c.if-not-is_plain.false in
    rw (p.1, p.2) (puts_by stream_origin _ _ _ _ _ (value-outcome c.args.geometry.now (g.G.Image.seen c.args.image.now).content c.in-Some.value.now s plain c.in-Some.ensures)
    (puts-failed stream_origin _ _ _ _ _ (sink-cuts c.in_err-put-in-Some.field-0.0) c.in_err-put-in-Some.ensures.put))

pub returns-in_ok-put-in-Some-clause-told : goal.returns-in_ok-put-in-Some-clause-told
returns-in_ok-put-in-Some-clause-told g c told =
    let s = c.args.stream.now.stream in
    let plain = plain-is s.flags c.flags-flags.result c.is_plain.result true c.flags-flags.ensures c.is_plain.ensures c.if-not-is_plain.false in
    puts_by stream_origin _ _ _ _ _ (value-outcome c.args.geometry.now (g.G.Image.seen c.args.image.now).content c.in-Some.value.now s plain c.in-Some.ensures)
    (puts-whole stream_origin _ _ _ c.in_ok-put-in-Some.ensures.put.whole)

pub returns-in-Some-runs-clause-told : goal.returns-in-Some-runs-clause-told
returns-in-Some-runs-clause-told g c told =
    let k = c.args.geometry.now in
    let s = c.args.stream.now.stream in
    let image = g.G.Image.seen c.args.image.now in
    let f = cluster_at image.content k.cluster in
    let plain = plain-is s.flags c.flags-flags.result c.is_plain.result true c.flags-flags.ensures c.is_plain.ensures c.if-not-is_plain.false in
    let long : length image.content ≡ image.size = g.met.G.Image.told_size c.args.image.now told in
    let held = subst (λ (n : ℕ). bytes_of_clusters k ≤ n) (sym long) c.requires.opened.held in
    let listed = ap (λ rs. map_cells f (vcns rs)) c.runs-in-Some-runs.ensures in
    let sizes = ap (λ n. pieces k.cluster n c.valid.result (map_cells f (vcns c.runs-in-Some-runs.result.now))) c.size.ensures
    ∙ ap (λ n. pieces k.cluster s.size n (map_cells f (vcns c.runs-in-Some-runs.result.now))) c.valid.ensures in
    puts_by stream_origin _ _ _ _ _ (runs-outcome k image.content s (vcns c.in-Some-runs.list.now) plain c.in-Some-runs.ensures.cells c.requires.readable held
    ∙ ap Ok (ap (pieces k.cluster s.size s.valid) (sym listed) ∙ sym sizes)) (c.put_runs.ensures.told told)
