-- Rule C12 of one record.
use Rattle.std.proofs.Common.{◌≡◌, ◌<◌, ◌==◌, ◌&&◌, ◌||◌, inl, inr, ℕ, Bool, true, false, List, Option, Some, None, Result, Ok, Err, refl, sym, ap, subst, ◌∙◌, arith}
use Rattle.std.specs.Prelude.{IfErr, IfOk, not}
use Rattle.std.specs.List.{list_all}
use Rattle.std.proofs.lemmas.Bool.{cases_Bool}
use Rattle.std.proofs.lemmas.Bool.Decides.{nat_tests}
use Rattle.ntfs_attrlist.specs.Entry.{Listed}
use Rattle.ntfs_base.specs.Frames.{IsSettled}
use Rattle.ntfs_boot.specs.declared.geometry.Geometry.{Geometry}
use Rattle.ntfs_check_streams.proofs.IdLemmas.{ids-listed, ids-own, own-all}
use Rattle.ntfs_check_streams.proofs.ListedLemmas.{listed-at}
use Rattle.ntfs_check_records.proofs.AnswerLemmas.{answers-by, answers-of}
use Rattle.ntfs_check_records.proofs.RecordLemmas.{cells-at, record-at, unread-idle, whole-at}
use Rattle.ntfs_check_streams.proofs.SaidLemmas.{Record, said-listed, said-own, stream-said}
use Rattle.ntfs_check_records.specs.Asked.{asked_at, passes_asked}
use Rattle.ntfs_check_records.specs.Reading.{records_of}
use Rattle.ntfs_check_streams.specs.Asked.{KeepsEleven, celled, clusters_read, keeps_rule, lists_in, stream_answer}
use Rattle.ntfs_check_streams.specs.Join.{is_stream, join_shown}
use Rattle.ntfs_check_records.specs.Reading.{Answers, is_readable}
use Rattle.ntfs_check_streams.specs.Said.{all_listed, is_listed_stream, are_own, are_streams, good_listed, lead_in, shown_in}
use Rattle.ntfs_check_streams.specs.declared.join.Joined.TheVariants as joined
use Rattle.ntfs_record.specs.FileRecord.{Attribute, FileRecord, Laid}
use Rattle.ntfs_record.specs.Slots.{Slot}
use Rattle.ntfs_record.specs.Views.{Shown, placed_of}
use Rattle.ntfs_rules.proofs.DataLemmas.{c4-is}
use Rattle.ntfs_rules.specs.Files.{ids_of, is_in_stream, is_no_base, members_from}
use Rattle.ntfs_rules.specs.Files as files
use Rattle.ntfs_rules.specs.Outcome.{check_origin}
use Rattle.ntfs_rules.specs.VolumeData.{volume_data}
use Rattle.ntfs_rules.specs.declared.fault.CheckFault.{CheckFault}
use Rattle.ntfs_runs.specs.Cells.{Cells}
use Rattle.ntfs_survey.specs.Owned.{is_whole}
use Rattle.ntfs_survey.specs.Surveying.{record_at}
use Rattle.ntfs_volume.proofs.GatherLemmas.{is-there, listing-told}
use Rattle.ntfs_volume.specs.Gather.{Id}
use Rattle.ntfs_volume.specs.Gathering.{file_lists}
use Rattle.ntfs_volume.specs.ListViews.{list_bytes_of}
use Rattle.ntfs_volume.specs.Listing.{RecordListing, listing_of_bytes}
use Rattle.ntfs_volume.specs.Located.{Located, located_slot, slot_at, sound_located}
use Rattle.ntfs_volume.specs.Opened.{Opened}
use Rattle.ntfs_volume.specs.Records.{raw_record}

-- ---- as the code asks it

is-zero : (n : ℕ) → n ≡ 0 → (n == 0) ≡ true
is-zero n is = grind (arith, nat_tests)

pub base-answer : (base : ℕ) (test : Bool) → base ≡ 0 → test ≡ (not (base == 0) || test)
base-answer base test is = sym (ap (λ b. not b || test) (is-zero base is))

streams-own : (c r : ℕ) (file : FileRecord) (listing : RecordListing) (slots : List Record) → listing.is_there ≡ false → are_streams c r file listing slots ≡ list_all (are_own c (shown_in file)) (shown_in file)
unfolding are_streams
streams-own c r file listing slots without = rw without refl

streams-listed : (c r : ℕ) (file : FileRecord) (listing : RecordListing) (slots : List Record) → listing.is_there ≡ true
    → are_streams c r file listing slots ≡ good_listed c r file.head.sequence slots listing (lead_in file) (shown_in file)
unfolding are_streams
streams-listed c r file listing slots there = rw there refl

pub own-answer : (g : Geometry) (f : ℕ → List ℕ) (r : ℕ) (file : FileRecord) (slots : List Record) → None ≡ lead_in file
    → list_all (are_own g.cluster (shown_in file)) (shown_in file) ≡ are_streams g.cluster r file (file_lists g f file) slots
own-answer g f r file slots none =
    sym (streams-own g.cluster r file (file_lists g f file) slots (ap (λ (l : RecordListing). l.is_there) (listing-told g f file None none)))

pub list-answer : (g : Geometry) (f : ℕ → List ℕ) (r : ℕ) (file : FileRecord) (slots : List Record) (lead : Shown) (a : Attribute (Laid (List ℕ))) → Some lead ≡ lead_in file
    → file_lists g f file ≡ listing_of_bytes (list_bytes_of g f a file)
    → good_listed g.cluster r file.head.sequence slots (listing_of_bytes (list_bytes_of g f a file)) (Some lead) (shown_in file) ≡ are_streams g.cluster r file (file_lists g f file) slots
list-answer g f r file slots lead a is listing =
    ap (λ (l : RecordListing). good_listed g.cluster r file.head.sequence slots l (Some lead) (shown_in file)) (sym listing)
    ∙ ap (λ (o : Option Shown). good_listed g.cluster r file.head.sequence slots (file_lists g f file) o (shown_in file)) is
    ∙ sym (streams-listed g.cluster r file (file_lists g f file) slots (ap (λ (l : RecordListing). l.is_there) listing ∙ is-there (list_bytes_of g f a file)))

-- ---- as the rule has it

streams-same : (o : Opened) (f : ℕ → List ℕ) (r : ℕ) (file : FileRecord) → KeepsEleven (volume_data o f) → slot_at (records_of o f) r ≡ sound_located file
    → slot_at (clusters_read o f) r ≡ celled o.geometry.clusters (sound_located file) → (file.head.base == 0) ≡ true
    → are_streams o.geometry.cluster r file (file_lists o.geometry f file) (records_of o f)
    ≡ list_all (is_in_stream o.geometry.cluster (lists_in o f) (clusters_read o f) r (celled o.geometry.clusters (sound_located file))) (ids_of (clusters_read o f) r (celled o.geometry.clusters (sound_located file)))
streams-same o f r file keeps is with_is base = elim (cases_Bool listing.is_there) [
  | inl there ↦
      let listed = listed-at o f r file keeps is with_is base true there in
      let good = (parts listing.is_good (files.are_listed listing.entries (members_from r file.head.sequence 0 (clusters_read o f))) listed).0 in
      let are = (parts listing.is_good (files.are_listed listing.entries (members_from r file.head.sequence 0 (clusters_read o f))) listed).1 in
      let of : ℕ → List ℕ → Bool = is_listed_stream c r file.head.sequence slots listing.entries (lead_in file) in
      let same : (id : Id) → test id ≡ of id.kind id.name = (λ id. stream-said o f r file id keeps is with_is base ∙ said-listed c r file listing slots id.kind id.name there good) in
      streams-listed c r file listing slots there
      ∙ ap (λ b. b && all_listed c r file.head.sequence slots listing.entries (lead_in file) (shown_in file)) good
      ∙ sym (ids-listed test of same r t (clusters_read o f) listing.entries are
      ∙ ap (λ b. b && list_all (λ (entry : Listed). of entry.kind entry.name) listing.entries) (own-all test of same o.geometry.clusters file.head (placed_of file)))
  | inr without ↦
      let of : ℕ → List ℕ → Bool = (λ kind name. is_stream c (join_shown kind name joined.Nothing (shown_in file))) in
      let same : (id : Id) → test id ≡ of id.kind id.name = (λ id. stream-said o f r file id keeps is with_is base ∙ said-own o.geometry f r file slots id.kind id.name without) in
      streams-own c r file listing slots without
      ∙ sym (ids-own test r t (clusters_read o f) with_is (listed-at o f r file keeps is with_is base false without)
      ∙ own-all test of same o.geometry.clusters file.head (placed_of file))
]
  where
    c : ℕ
    c = o.geometry.cluster

    slots : List Record
    slots = records_of o f

    listing : RecordListing
    listing = file_lists o.geometry f file

    t : Slot (Located (Laid (Cells ℕ)))
    t = celled o.geometry.clusters (sound_located file)

    test : Id → Bool
    test = is_in_stream o.geometry.cluster (lists_in o f) (clusters_read o f) r (celled o.geometry.clusters (sound_located file))

    parts : (a b : Bool) → (a && b) ≡ true → (a ≡ true) × (b ≡ true)
    parts true b both = (refl, both)
    parts false b both = absurd cc

or-same : (b c d : Bool) → (b ≡ true → c ≡ d) → (not b || c) ≡ (not b || d)
or-same true c d same = same refl
or-same false c d same = refl

keeps-said : (o : Opened) (f : ℕ → List ℕ) (r : ℕ) (file : FileRecord) → KeepsEleven (volume_data o f) → slot_at (records_of o f) r ≡ sound_located file
    → (not (file.head.base == 0) || are_streams o.geometry.cluster r file (file_lists o.geometry f file) (records_of o f)) ≡ keeps_rule o f r (celled o.geometry.clusters (sound_located file))
unfolding keeps_rule
keeps-said o f r file keeps is =
    or-same (file.head.base == 0) (are_streams o.geometry.cluster r file (file_lists o.geometry f file) (records_of o f)) _
    (streams-same o f r file keeps is (cells-at o.geometry.clusters r (records_of o f) ∙ ap (celled o.geometry.clusters) is))

-- ---- by the bytes on disk

pub asked-idle : (o : Opened) (f : ℕ → List ℕ) (n : ℕ) (raw : List ℕ) → KeepsEleven (volume_data o f) → 0 < o.geometry.record_size → raw_record o.geometry o.map f n ≡ Some raw
    → is_readable (located_slot n (Some raw)) ≡ false → true ≡ asked_at (stream_answer o f) o f n
asked-idle o f n raw keeps some held unread =
    let is : is_readable (record_at o f n) ≡ false = ap (λ raw. is_readable (located_slot n raw)) held ∙ unread in
    let at : slot_at (records_of o f) n ≡ record_at o f n = record-at o f n some in
    let kept : is_whole (record_at o f n) ≡ true = ap (λ (s : Record). is_whole s) (sym at) ∙ whole-at (records_of o f) n (sym (c4-is o f) ∙ keeps.whole) in
    let idle : (record_at o f n).is_live ≡ false = unread-idle (record_at o f n) kept is in
    sym (ap (λ b. not b || keeps_rule o f n (celled o.geometry.clusters (record_at o f n))) idle)

asked-said : (o : Opened) (f : ℕ → List ℕ) (n : ℕ) (raw : List ℕ) (file : FileRecord) → KeepsEleven (volume_data o f) → 0 < o.geometry.record_size → raw_record o.geometry o.map f n ≡ Some raw
    → located_slot n (Some raw) ≡ sound_located file
    → (not (file.head.base == 0) || are_streams o.geometry.cluster n file (file_lists o.geometry f file) (records_of o f)) ≡ asked_at (stream_answer o f) o f n
asked-said o f n raw file keeps some held is =
    let said : record_at o f n ≡ sound_located file = ap (located_slot n) held ∙ is in
    keeps-said o f n file keeps (record-at o f n some ∙ said)
    ∙ sym (ap (λ (s : Record). passes_asked (stream_answer o f) n s) said)

pub said-answers : (o : Opened) (f : ℕ → List ℕ) (n : ℕ) (raw : List ℕ) (file : FileRecord) (result : Result Bool CheckFault) → KeepsEleven (volume_data o f) → 0 < o.geometry.record_size
    → raw_record o.geometry o.map f n ≡ Some raw → located_slot n (Some raw) ≡ sound_located file
    → IfOk result (λ is. is ≡ (not (file.head.base == 0) || are_streams o.geometry.cluster n file (file_lists o.geometry f file) (records_of o f)))
    → IfErr result (λ fault. IsSettled (check_origin fault) → ⊥) → Answers (asked_at (stream_answer o f) o f n) result
said-answers o f n raw file result keeps some held is found cut =
    answers-by _ _ result (asked-said o f n raw file keeps some held is) (answers-of _ result found cut)
