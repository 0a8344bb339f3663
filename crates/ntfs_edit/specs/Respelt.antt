-- A file record with other attributes: the bytes that it then has, and the room that it needs (the Linux-NTFS
-- documentation, "File Record" and "Attribute Header": attributes stand one behind the other, the mark of type
-- 0xFFFFFFFF behind the last, and the header tells the bytes in use; the words are ours).
use Rattle.std.specs.Prelude.{◌≡◌, ◌≤◌, ℕ, ◌+◌, ◌-◌, List, ◌++◌, length, take, drop, Result, Ok, Err, nat_le, if◌then◌else◌}
use Rattle.std.specs.List.{concat}
use Rattle.ntfs_base.specs.Bytes.{piece_at}
use Rattle.ntfs_record.specs.FileRecord.{FileRecord}
use Rattle.ntfs_record.specs.Layout.{first_attribute_of, in_use_of, with_in_use}
use Rattle.ntfs_record.specs.Header.{head_of, layout_of}
use Rattle.ntfs_record.specs.Parsing.{parse_of, IsAccepted}
use Rattle.ntfs_record.specs.Spelling.{AllRaw, Spelling, spell, attributes_end}
use Rattle.ntfs_edit.specs.declared.room.NoRoom.{NoRoom}

-- how many of the bytes in use stand behind the attributes
unfoldable pub tail_length : List ℕ → ℕ
tail_length bytes = in_use_of bytes - attributes_end bytes

-- what stands behind the attributes in the bytes in use: the mark that ends the list, and what follows it
unfoldable pub tail_of : List ℕ → List ℕ
tail_of bytes = piece_at (attributes_end bytes) (tail_length bytes) bytes

-- the bytes in use that the record needs with these attributes
unfoldable pub need_of : List ℕ → List (List ℕ) → ℕ
need_of bytes raws = first_attribute_of bytes + length (concat raws) + tail_length bytes

-- the parts of the record with these attributes: the header tells the bytes in use, and behind them every byte stays
-- at its place
abbrev pub respelling : List ℕ → List (List ℕ) → Spelling
respelling bytes raws = record {
  front = with_in_use (need_of bytes raws) (take (first_attribute_of bytes) bytes);
  raws = raws;
  rest = tail_of bytes ++ drop (need_of bytes raws) bytes;
}

-- the bytes of the record with these attributes
unfoldable pub respelt : List ℕ → List (List ℕ) → List ℕ
respelt bytes raws = spell (respelling bytes raws)

-- what the record with these attributes says: all but the bytes in use is the old
abbrev pub respelt_record : List ℕ → List (List ℕ) → FileRecord
respelt_record bytes raws = record {
  head = head_of bytes;
  layout = record (layout_of bytes) { in_use = need_of bytes raws };
  raws = raws;
}

-- what a change of a record's attributes asks: the old record is right, its first attribute stands behind the whole
-- header, the new attributes are sound, and the record has room for them
pub record IsChange (bytes : List ℕ) (raws : List (List ℕ)) : Type 0 where
  pub accepted : IsAccepted bytes
  pub first : 0x30 ≤ first_attribute_of bytes
  pub all : AllRaw raws
  pub room : need_of bytes raws ≤ length bytes

-- the new bytes parse to the old record with these attributes, where those are sound and the first stands behind the
-- header's last field
abbrev pub ParsesWith : List ℕ → List (List ℕ) → List ℕ → Type 0
ParsesWith old raws new =
    AllRaw raws → 0x30 ≤ first_attribute_of old → parse_of new ≡ Ok (respelt_record old raws)

-- the answer of an edit after which the record has so many bytes in use: a refusal, with both numbers, where they pass
-- the record
abbrev pub room_for : ℕ → List ℕ → Result (Unit {0}) NoRoom
room_for need bytes = if nat_le need (length bytes) then Ok tt else Err (record { need = need; have = length bytes })

-- what the bytes then are: after a refusal nothing has changed
abbrev pub where_room : ℕ → List ℕ → List ℕ → List ℕ
where_room need bytes new = if nat_le need (length bytes) then new else bytes

-- a record's bytes with these attributes, where it has room for them
abbrev pub respelt_where_room : List ℕ → List (List ℕ) → List ℕ
respelt_where_room bytes raws = where_room (need_of bytes raws) bytes (respelt bytes raws)
