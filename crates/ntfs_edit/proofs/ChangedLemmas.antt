-- A record in which one attribute is edited has sound attributes.
use Rattle.std.proofs.Common.{◌≡◌, ◌≤◌, ℕ, List, [], ◌∷◌, ◌++◌, Ok, sym, subst, arith}
use Rattle.ntfs_record.specs.Layout.{first_attribute_of}
use Rattle.ntfs_record.specs.Attribute.{IsRaw}
use Rattle.ntfs_record.specs.Parsing.{raws_of, record_of, parse_of, IsAccepted}
use Rattle.ntfs_record.specs.Spelling.{AllRaw}
use Rattle.ntfs_record.proofs.SpellingLemmas.{parses-spelled}
use Rattle.ntfs_edit.specs.Edits.{changed, with_sizes}
use Rattle.ntfs_edit.specs.Respelt.{respelt, respelt_record}
use Rattle.ntfs_edit.proofs.PartsLemmas.{accepted-record}
use Rattle.ntfs_edit.proofs.RespeltLemmas.{respelt-parses}
use Rattle.ntfs_edit.proofs.CallLemmas.{Call, changed-call, sizes-need}
use Rattle.ntfs_edit.proofs.AttributeLemmas.{sizes-raw}

-- sound attributes with a sound one in place of another
pub all-replaced : (before : List (List ℕ)) (raw new : List ℕ) (after : List (List ℕ)) → AllRaw (before ++ (raw ∷ after))
    → IsRaw new → AllRaw (before ++ (new ∷ after))
all-replaced [] raw new after all is = (is, all.1)
all-replaced (other ∷ before) raw new after all is = (all.0, all-replaced before raw new after all.1 is)

-- the attributes of a record are sound
pub all-accepted : (bytes : List ℕ) → IsAccepted bytes → AllRaw (raws_of bytes (first_attribute_of bytes))
all-accepted bytes is = (parses-spelled bytes (record_of bytes) (accepted-record bytes is)).is.all

-- so they are once one of them was edited, where it stays sound
pub all-changed : (residence place : ℕ) (bytes : List ℕ) (f : List ℕ → List ℕ) (c : Call residence place bytes)
    → IsAccepted bytes → IsRaw (f c.here.raw) → AllRaw (changed place f bytes)
all-changed residence place bytes f c accepted is =
    let all = subst AllRaw c.here.parts (all-accepted bytes accepted) in
    subst AllRaw (sym (changed-call residence place bytes f c))
    (all-replaced c.here.before c.here.raw (f c.here.raw) c.here.after all is)

-- other sizes leave a record with nothing wrong
pub sizes-parse : (place allocated size valid : ℕ) (bytes : List ℕ) → IsAccepted bytes → Call 1 place bytes
    → 0x30 ≤ first_attribute_of bytes
    → parse_of (respelt bytes (changed place (with_sizes allocated size valid) bytes)) ≡ Ok (respelt_record bytes (changed place (with_sizes allocated size valid) bytes))
sizes-parse place allocated size valid bytes is c first =
    let need = sizes-need place allocated size valid bytes c in
    respelt-parses bytes (changed place (with_sizes allocated size valid) bytes)
    (record {
      accepted = is;
      first = first;
      all = all-changed 1 place bytes (with_sizes allocated size valid) c is
          (sizes-raw allocated size valid c.here.raw c.here.is c.here.residence_is);
      room = omega (arith, need, c.split.within);
    })
