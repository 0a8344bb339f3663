-- What `byteorder` reads is the number that the definitions name.
use Rattle.std.proofs.Common.{◌≡◌, ◌≤◌, ℕ, ◌+◌, ◌-◌, List, length, take, drop, ◌∙◌, arith}
use Rattle.byteorder.specs.Endian.{little_number}
use Rattle.ntfs_base.specs.Bytes.{number_at}
use Rattle.ntfs_base.proofs.BytesLemmas.{little_number-part}

-- a number at the front of a slice that begins at a place
pub number_at_slice : (n place x : ℕ) (bytes : List ℕ) → place + n ≤ length bytes → x ≡ little_number n (take (length bytes - place) (drop place bytes)) → x ≡ number_at n place bytes
number_at_slice n place x bytes within is = is ∙ little_number-part n place (length bytes - place) bytes (omega arith)
