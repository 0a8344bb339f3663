-- The steps of an edit in place, as the private functions take them: what they come to is told in `Edits` and
-- `Respelt`.
use Rattle.std.specs.Prelude.{ℕ, ◌+◌, ◌-◌, max, List, length}
use Rattle.ntfs_base.specs.Bytes.{piece_at, overwrite}
use Rattle.ntfs_record.specs.Layout.{in_use_of, length_at, pairs_offset_at, value_offset_at, with_in_use, with_length_at, with_highest_at, with_value_length_at}
use Rattle.ntfs_edit.specs.Edits.{up8, less_one, padded}

-- where the attribute at a place ends
abbrev pub end_at : ℕ → List ℕ → ℕ
end_at place bytes = place + length_at place bytes

-- the bytes in use with another length of the attribute at a place
unfoldable pub resized_need : ℕ → ℕ → List ℕ → ℕ
resized_need place size bytes = place + size + (in_use_of bytes - end_at place bytes)

-- what follows the attribute at a place is shifted, and the bytes in use and the attribute's length are told
unfoldable pub resized : ℕ → ℕ → List ℕ → List ℕ
resized place size bytes =
    let more = piece_at (end_at place bytes) (in_use_of bytes - end_at place bytes) bytes in
    with_length_at place size (with_in_use (resized_need place size bytes) (overwrite (place + size) more bytes))

-- the length of the attribute at a place with so many bytes of mapping pairs, and with a value of so many bytes
abbrev pub pairs_size_at : ℕ → ℕ → List ℕ → ℕ
pairs_size_at place count bytes = max (length_at place bytes) (up8 (pairs_offset_at place bytes + count))

abbrev pub value_size_at : ℕ → ℕ → List ℕ → ℕ
value_size_at place count bytes = up8 (value_offset_at place bytes + count)

-- the bytes in use that these need
abbrev pub pairs_need_at : ℕ → ℕ → List ℕ → ℕ
pairs_need_at place count bytes = resized_need place (pairs_size_at place count bytes) bytes

abbrev pub value_need_at : ℕ → ℕ → List ℕ → ℕ
value_need_at place count bytes = resized_need place (value_size_at place count bytes) bytes

-- mapping pairs, and a value, are put over the attribute at a place
unfoldable pub pairs_put : ℕ → List ℕ → ℕ → List ℕ → List ℕ
pairs_put place pairs next bytes =
    let size = pairs_size_at place (length pairs) bytes in
    let offset = pairs_offset_at place bytes in
    overwrite (place + offset) (padded (size - offset) pairs)
    (with_highest_at place (less_one next) (resized place size bytes))

unfoldable pub value_put : ℕ → List ℕ → List ℕ → List ℕ
value_put place value bytes =
    let size = value_size_at place (length value) bytes in
    let offset = value_offset_at place bytes in
    overwrite (place + offset) (padded (size - offset) value)
    (with_value_length_at place (length value) (resized place size bytes))
