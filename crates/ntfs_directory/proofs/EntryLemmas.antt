-- The name in a key.
use Rattle.std.proofs.Common.{◌≡◌, ◌*◌, ℕ, List, length, take, drop, min, ap, ◌∙◌}
use Rattle.std.proofs.lemmas.List.{drop_min, take_min}
use Rattle.ntfs_base.specs.Bytes.{piece_at}
use Rattle.ntfs_directory.specs.Entries.{key_name, key_name_length}

-- cuts that end where the key does
pub name-cut : (key name : List ℕ) (at cut : ℕ) → at ≡ min 0x42 (length key) → name ≡ drop at key
    → cut ≡ min (2 * key_name_length key) (length name) → take cut name ≡ key_name key
unfolding key_name piece_at
name-cut key name at cut begins behind ends =
    ap (λ n. take n name) ends
    ∙ take_min (2 * key_name_length key) name
    ∙ ap (take (2 * key_name_length key)) (behind ∙ ap (λ n. drop n key) begins ∙ drop_min 0x42 key)
