-- Records as their bytes stand on disk.
use Rattle.std.proofs.Common.{◌≡◌, ℕ, List, refl, true, false, Option, Some, None, Result, Ok, Err}
use Rattle.std.specs.Prelude.{is_err, MatchResult}
use Rattle.ntfs_fixup.specs.Fixups.{unfix_of}
use Rattle.ntfs_fixup.specs.declared.header.Magic.TheVariants.{File}
use Rattle.ntfs_fixup.specs.declared.unfixing.FixFault.{FixFault}
use Rattle.ntfs_record.specs.FileRecord.{FileRecord}
use Rattle.ntfs_record.specs.Parsing.{parse_of}
use Rattle.ntfs_record.specs.Slots.{is_in_use, record_in, tells_own}
use Rattle.ntfs_record.specs.declared.fault.RecordFault.{RecordFault}
use Rattle.ntfs_boot.specs.declared.geometry.Geometry.{Geometry}
use Rattle.ntfs_volume.specs.MftMap.{Map, live_record}
use Rattle.ntfs_volume.specs.Records.{raw_record, read_of, unfixed_record, unsound}
use Rattle.ntfs_volume.specs.declared.fault.VolumeFault.TheVariants as volume

pub live-not : (raw : List ℕ) → is_in_use raw ≡ false → live_record raw ≡ None
unfolding live_record
live-not raw is = rw is refl

pub live-is : (raw : List ℕ) (o : Option FileRecord) → is_in_use raw ≡ true → record_in raw ≡ o → live_record raw ≡ o
unfolding live_record
live-is raw o is same = rw is same

-- ---- the unfixed bytes of a record

pub unfixed-idle : (r : ℕ) (raw : List ℕ) → is_in_use raw ≡ false → unfixed_record r raw ≡ Err volume.Absent
unfolding unfixed_record
unfixed-idle r raw is = rw is refl

pub unfixed-torn : (r : ℕ) (raw new : List ℕ) (result : Result (Unit {0}) FixFault) → is_in_use raw ≡ true
    → MatchResult result (λ _. unfix_of File raw ≡ Ok new) (λ fault. unfix_of File raw ≡ Err fault) → is_err result ≡ true
    → unfixed_record r raw ≡ Err (unsound r)
unfolding unfixed_record
unfixed-torn r raw new (Ok x) live exact is = absurd cc
unfixed-torn r raw new (Err fault) live exact is = rw (live, exact) refl

pub unfix-whole : (raw new : List ℕ) (result : Result (Unit {0}) FixFault)
    → MatchResult result (λ _. unfix_of File raw ≡ Ok new) (λ fault. unfix_of File raw ≡ Err fault) → is_err result ≡ false
    → unfix_of File raw ≡ Ok new
unfix-whole raw new (Ok x) exact is = exact
unfix-whole raw new (Err fault) exact is = absurd cc

pub unfixed-wrong : (r : ℕ) (raw block : List ℕ) (fault : RecordFault) → is_in_use raw ≡ true → unfix_of File raw ≡ Ok block → parse_of block ≡ Err fault
    → unfixed_record r raw ≡ Err (unsound r)
unfolding unfixed_record
unfixed-wrong r raw block fault live whole is = rw (live, whole, is) refl

pub unfixed-own : (r : ℕ) (raw block : List ℕ) (said : FileRecord) → is_in_use raw ≡ true → unfix_of File raw ≡ Ok block → parse_of block ≡ Ok said
    → tells_own r said.layout.number ≡ true → unfixed_record r raw ≡ Ok block
unfolding unfixed_record
unfixed-own r raw block said live whole is own = rw (live, whole, is, own) refl

pub unfixed-other : (r : ℕ) (raw block : List ℕ) (said : FileRecord) → is_in_use raw ≡ true → unfix_of File raw ≡ Ok block → parse_of block ≡ Ok said
    → tells_own r said.layout.number ≡ false → unfixed_record r raw ≡ Err (unsound r)
unfolding unfixed_record
unfixed-other r raw block said live whole is own = rw (live, whole, is, own) refl

-- ---- the record of a number

pub read-absent : (g : Geometry) (map : Map) (f : ℕ → List ℕ) (r : ℕ) → raw_record g map f r ≡ None → read_of g map f r ≡ Err volume.Absent
unfolding read_of
read-absent g map f r is = rw is refl

pub read-there : (g : Geometry) (map : Map) (f : ℕ → List ℕ) (r : ℕ) (raw : List ℕ) → raw_record g map f r ≡ Some raw → read_of g map f r ≡ unfixed_record r raw
unfolding read_of
read-there g map f r raw is = rw is refl
