use Rattle.std.proofs.Common.{◌≡◌, ℕ, refl, sym, ap, ◌∙◌, subst, length}
use Rattle.std.specs.Option.{option_map}
use Rattle.ntfs_base.specs.Bytes.{piece_at}
use Rattle.ntfs_directory.specs.Allocation.{CanRead, allocation_bytes}
use Rattle.ntfs_directory.proofs.AllocationLemmas.{block-read, blocks-found, some-not-none}
use Rattle.ntfs_directory.proofs.blocks.ImageBlocksBlocks.block.Goals as goal

pub returns-in_default-clause-outside : goal.returns-in_default-clause-outside
returns-in_default-clause-outside g c told =
    let b = c.args.self.now in
    let image = g.G.Image.seen b.image.now in
    let long : length image.content ≡ image.size = g.met.G.Image.told_size b.image.now told in
    let can = subst (λ (n : ℕ). CanRead n b.geometry.now b.allocation.now) (sym long) c.args.self.now.readable in
    let found = blocks-found b.geometry.now image.content b.allocation.now c.args.vcn c.vcn_unit.result c.len.result c.block_place.result can c.vcn_unit.ensures.unit c.len.ensures c.block_place.ensures.block in
    (λ _. found ∙ ap (option_map (λ place. piece_at place b.geometry.now.block (allocation_bytes b.geometry.now image.content b.allocation.now))) c.in_default.is, λ _. refl)

pub returns-in-Ok-clause-gives : goal.returns-in-Ok-clause-gives
returns-in-Ok-clause-gives g c told =
    let b = c.args.self.now in
    let image = g.G.Image.seen b.image.now in
    let bytes = allocation_bytes b.geometry.now image.content b.allocation.now in
    let long : length image.content ≡ image.size = g.met.G.Image.told_size b.image.now told in
    let can = subst (λ (n : ℕ). CanRead n b.geometry.now b.allocation.now) (sym long) c.args.self.now.readable in
    let found = blocks-found b.geometry.now image.content b.allocation.now c.args.vcn c.vcn_unit.result c.len.result c.block_place.result can c.vcn_unit.ensures.unit c.len.ensures c.block_place.ensures.block in
    found ∙ ap (option_map (λ place. piece_at place b.geometry.now.block bytes)) c.in-Some.is
    ∙ block-read bytes c.read.new.into c.in-Some.place (length c.args.into.now) b.geometry.now.block c.requires (c.in-Ok.ensures.bytes told)

pub returns-in-Ok-clause-outside : goal.returns-in-Ok-clause-outside
returns-in-Ok-clause-outside g c told =
    let b = c.args.self.now in
    let image = g.G.Image.seen b.image.now in
    let bytes = allocation_bytes b.geometry.now image.content b.allocation.now in
    let long : length image.content ≡ image.size = g.met.G.Image.told_size b.image.now told in
    let can = subst (λ (n : ℕ). CanRead n b.geometry.now b.allocation.now) (sym long) c.args.self.now.readable in
    let found = blocks-found b.geometry.now image.content b.allocation.now c.args.vcn c.vcn_unit.result c.len.result c.block_place.result can c.vcn_unit.ensures.unit c.len.ensures c.block_place.ensures.block in
    let there = found ∙ ap (option_map (λ place. piece_at place b.geometry.now.block bytes)) c.in-Some.is in
    (λ is. absurd cc, λ none. absurd (some-not-none _ _ there none))

pub returns-in-Err-clause-outside : goal.returns-in-Err-clause-outside
returns-in-Err-clause-outside g c told =
    let b = c.args.self.now in
    let image = g.G.Image.seen b.image.now in
    let bytes = allocation_bytes b.geometry.now image.content b.allocation.now in
    let long : length image.content ≡ image.size = g.met.G.Image.told_size b.image.now told in
    let can = subst (λ (n : ℕ). CanRead n b.geometry.now b.allocation.now) (sym long) c.args.self.now.readable in
    let found = blocks-found b.geometry.now image.content b.allocation.now c.args.vcn c.vcn_unit.result c.len.result c.block_place.result can c.vcn_unit.ensures.unit c.len.ensures c.block_place.ensures.block in
    let there = found ∙ ap (option_map (λ place. piece_at place b.geometry.now.block bytes)) c.in-Some.is in
    (λ is. absurd cc, λ none. absurd (some-not-none _ _ there none))
