use Rattle.std.proofs.Common.{◌≡◌, ◌≤◌, ◌+◌, ℕ, [], sym, ap, ◌∙◌, subst, arith, length}
use Rattle.ntfs_base.specs.Bytes.{piece_at}
use Rattle.ntfs_volume.specs.Streams.{Stream, value_stream}
use Rattle.ntfs_directory.specs.Allocation.{allocation_bytes, allocation_length, allocation_of}
use Rattle.ntfs_directory.proofs.AllocationLemmas.{nothing-read}
use Rattle.ntfs_directory.proofs.allocation.Allocation.read.Goals as goal

pub returns-in-None-clause-bytes : goal.returns-in-None-clause-bytes
returns-in-None-clause-bytes g c told =
    let k = c.args.geometry.now in
    let content = (g.G.Image.seen c.args.image.now).content in
    let m = length c.args.into.now in
    let none : c.args.self.now ≡ value_stream 0 [] = sym c.self.view_is ∙ ap allocation_of c.in-None.is in
    let short = subst (λ (s : Stream ℕ). c.args.place + m ≤ allocation_length s) none c.requires.within in
    subst (λ (s : Stream ℕ). c.args.into.now ≡ piece_at c.args.place m (allocation_bytes k content s)) (sym none) (nothing-read k content c.args.into.now c.args.place (omega (arith, short)))
