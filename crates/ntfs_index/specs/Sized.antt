-- The map of an allocation's blocks is finite, and its blocks have one size: the proof of the law of `Blocks` for
-- blocks in memory.
use Rattle.std.proofs.Common.{◌≡◌, ◌+◌, ◌*◌, ◌<◌, ◌≤◌, ℕ, true, List, length, take, drop, Some, None, nat_le, sym, ap, ◌∙◌, arith}
use Rattle.std.proofs.lemmas.Bool.{cond-false, leb-true, lt-leb}
use Rattle.std.proofs.lemmas.List.{length-take, length-drop}
use Rattle.std.proofs.lemmas.Option.{cond_some}
use Rattle.std.proofs.Math.Nat.{mul-le-mul_left}
use Rattle.ntfs_base.specs.Bytes.{piece_at}
use Rattle.ntfs_index.specs.Blocks.{IsSized, blocks_of}

module _ (unit size : ℕ) (bytes : List ℕ) where
  blocks_of-size : (vcn : ℕ) (block : List ℕ) → blocks_of unit size bytes vcn ≡ Some block → length block ≡ size
  unfolding blocks_of piece_at
  blocks_of-size vcn block is =
      let end : ℕ = vcn * unit + size in
      let found = cond_some (nat_le end (length bytes)) (take size (drop (vcn * unit) bytes)) block is in
      let within : end ≤ length bytes = leb-true end (length bytes) found.0 in
      ap length (sym found.1) ∙ simp (length-take, length-drop) (omega arith)

  blocks_of-none : 0 < unit → (vcn : ℕ) → length bytes + 1 ≤ vcn → blocks_of unit size bytes vcn ≡ None
  unfolding blocks_of piece_at
  blocks_of-none some vcn far =
      let long : vcn * 1 ≤ vcn * unit = mul-le-mul_left vcn some in
      let short = lt-leb (vcn * unit + size) (length bytes) (omega arith) in
      cond-false (nat_le (vcn * unit + size) (length bytes)) (Some (take size (drop (vcn * unit) bytes))) None short

  pub blocks_of-sized : 0 < unit
      → IsSized (record { is_told = true; blocks = blocks_of unit size bytes; size = size; footing = None })
  blocks_of-sized some =
      record { finite = λ told. (length bytes + 1, blocks_of-none some); sizes = λ told. blocks_of-size }
