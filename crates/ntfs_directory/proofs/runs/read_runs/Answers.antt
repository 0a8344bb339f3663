use Rattle.std.proofs.Common.{◌≡◌, ◌≤◌, ◌+◌, ◌-◌, ◌∙◌, arith, length, take, drop}
use Rattle.ntfs_base.proofs.FramesLemmas.{told_still}
use Rattle.ntfs_base.specs.Bytes.{piece_at}
use Rattle.ntfs_directory.specs.Runs.{placed_bytes}
use Rattle.ntfs_directory.proofs.ReadLemmas.{length-part, length-put, piece-more, piece-whole}
use Rattle.ntfs_directory.proofs.runs.read_runs.Goals as goal

pub pieces-preserved : goal.pieces-preserved
pieces-preserved g c =
    let k = c.args.geometry.now in
    let p = c.args.stream.now in
    let done = c.pieces.done in
    let count = c.piece_length-count.result in
    let within : done + count ≤ length c.pieces.into = omega (arith, c.piece_length-count.ensures, c.pieces.invariant.done) in
    let part = length-part c.pieces.into done count within in
    let size = c.read_piece.auto.into ∙ part in
    let put = length-put c.pieces.into c.read_piece.new.into done count within size in
    let asked = length (take (done + count - done) (drop done c.pieces.into)) in
    let read = told_still g.G.Image _ _ (λ content. c.read_piece.new.into ≡ piece_at (c.args.place + done) asked (placed_bytes k content p)) c.pieces.invariant.seen c.in_ok-read_piece.ensures.bytes in
    record {
      done = omega (arith, put, within);
      long = put ∙ c.pieces.invariant.long;
      seen = c.in_ok-read_piece.ensures.reads.seen ∙ c.pieces.invariant.seen;
      counts = record { reads = omega (arith, c.in_ok-read_piece.ensures.reads.counts.reads, c.pieces.invariant.counts.reads); writes = omega (arith, c.in_ok-read_piece.ensures.reads.counts.writes, c.pieces.invariant.counts.writes) };
      bytes = λ told. piece-more c.pieces.into c.read_piece.new.into (placed_bytes k (g.G.Image.seen c.args.image.now).content p) c.args.place done count asked within size part (c.pieces.invariant.bytes told) (read told);
    }

pub returns-clause-bytes : goal.returns-clause-bytes
returns-clause-bytes g c told =
    let k = c.args.geometry.now in
    let p = c.args.stream.now in
    piece-whole c.pieces.into (placed_bytes k (g.G.Image.seen c.args.image.now).content p) c.args.place c.pieces.done (length c.args.into.now) c.pieces.invariant.long c.pieces-test.false c.pieces.invariant.done (c.pieces.invariant.bytes told)
