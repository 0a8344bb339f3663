use Rattle.std.proofs.Common.{◌≡◌, ℕ, sym, ap, ◌∙◌, subst, arith, length}
use Rattle.ntfs_boot.specs.Geometry.{IsOpened}
use Rattle.ntfs_directory.specs.UpCase.{up_case_size}
use Rattle.ntfs_directory.proofs.UpCaseLemmas.{can-read, list-back, table-length, table-read}
use Rattle.ntfs_directory.proofs.up_case.table_bytes.Goals as goal

pub read_stream-requires-clause-readable : goal.read_stream-requires-clause-readable
read_stream-requires-clause-readable g c = can-read (g.G.Image.seen c.args.image.now).size c.args.geometry.now c.args.stream.now.stream c.requires.opened c.requires.readable

pub read_stream-requires-clause-within : goal.read_stream-requires-clause-within
read_stream-requires-clause-within g c =
    omega (arith, table-length c.args.geometry.now.clusters c.args.stream.now.stream c.requires.whole, ap length c.deref_mut.ensures.value, c.in_ok-bytes.bytes.ok.0, c.in_ok-bytes.ensures.len)

pub returns-clause-bytes : goal.returns-clause-bytes
returns-clause-bytes g c told =
    let image = g.G.Image.seen c.args.image.now in
    let k = c.args.geometry.now in
    let s = c.args.stream.now.stream in
    let long : length image.content ≡ image.size = g.met.G.Image.told_size c.args.image.now told in
    let opened = subst (λ (n : ℕ). IsOpened n k) (sym long) c.requires.opened in
    let size : length c.deref_mut.result.now ≡ up_case_size = omega (arith, ap length c.deref_mut.ensures.value, c.in_ok-bytes.bytes.ok.0, c.in_ok-bytes.ensures.len) in
    list-back c.in_ok-bytes.bytes.len c.read_stream.new.into c.in_ok-bytes.bytes.items c.deref_mut.result.now c.read_stream.auto.into c.deref_mut.ensures.value c.in_ok-bytes.bytes.ok.0
    ∙ table-read k image.content c.read_stream.new.into s (length c.deref_mut.result.now) (can-read (length image.content) k s opened c.requires.readable) c.requires.whole size (c.in_ok-read_stream.ensures.bytes told)
