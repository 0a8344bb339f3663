-- What `byteorder` reads is the number that the definitions name.
use Rattle.std.proofs.Common.{◌≡◌, ℕ, ◌-◌, List, length, take, drop, ap, ◌∙◌}
use Rattle.std.proofs.lemmas.List.{take_rest}
use Rattle.byteorder.specs.Endian.{little_number}
use Rattle.ntfs_base.specs.Bytes.{number_at}
use Rattle.ntfs_base.proofs.BytesLemmas.{little_number-drop}

-- a number at the front of a slice that begins at a place
pub number_at-slice : (n place x : ℕ) (bytes : List ℕ)
    → x ≡ little_number n (take (length bytes - place) (drop place bytes)) → x ≡ number_at n place bytes
number_at-slice n place x bytes is =
    is ∙ ap (little_number n) (take_rest bytes place) ∙ little_number-drop n place bytes
