-- The attributes of a file as the code keeps them.
use Rattle.std.proofs.Common.{◌≡◌, ◌<◌, ◌+◌, ◌==◌, ◌&&◌, ℕ, Bool, true, false, List, [], ◌∷◌, ◌++◌, length, map, drop, get_or, Option, Some, None, refl, sym, ap, ◌∙◌, append_assoc, append-nil, add-one, if◌then◌else◌}
use Rattle.std.proofs.Math.Seq.{drop-cons}
use Rattle.std.proofs.lemmas.List.{map-append}
use Rattle.ntfs_check_files.specs.Members.{members_in, members_read, members_said, shown_but, shown_member, told_member}
use Rattle.ntfs_check_records.specs.Reading.{IsView, is_readable}
use Rattle.ntfs_check_files.specs.declared.members.Attribute.{Attribute as Kept}
use Rattle.ntfs_record.specs.FileRecord.{FileRecord, Laid}
use Rattle.ntfs_record.specs.Slots.{Slot}
use Rattle.ntfs_record.specs.Views.{Placed, Shown, placed_of, shown_placed}
use Rattle.ntfs_rules.specs.Files.{Member, member_at, without_list}
use Rattle.ntfs_volume.specs.Located.{Located, located_attributes, located_of, slot_at, sound_located}

-- ---- one attribute more

but-skip : (xs rest : List Shown) (s : Shown) (skips : Bool) → xs ≡ s ∷ rest → (skips && (s.kind == 0x20)) ≡ true → shown_but skips xs ≡ shown_but false rest
unfolding shown_but
but-skip xs rest s skips is test = ap (shown_but skips) is ∙ ap (λ b. if b then shown_but false rest else s ∷ shown_but skips rest) test

but-keep : (xs rest : List Shown) (s : Shown) (skips : Bool) → xs ≡ s ∷ rest → (skips && (s.kind == 0x20)) ≡ false → shown_but skips xs ≡ s ∷ shown_but skips rest
unfolding shown_but
but-keep xs rest s skips is test = ap (shown_but skips) is ∙ ap (λ b. if b then shown_but false rest else s ∷ shown_but skips rest) test

but-end : (xs : List Shown) (skips : Bool) → xs ≡ [] → shown_but skips xs ≡ []
unfolding shown_but
but-end xs skips is = ap (shown_but skips) is

pub skip-step : (show : Shown → Member) (kept : List Kept) (xs rest : List Shown) (s : Shown) (skips : Bool) (whole : List Member) → xs ≡ s ∷ rest → (skips && (s.kind == 0x20)) ≡ true
    → map told_member kept ++ map show (shown_but skips xs) ≡ whole → map told_member kept ++ map show (shown_but false rest) ≡ whole
skip-step show kept xs rest s skips whole is test same = ap (λ them. map told_member kept ++ map show them) (sym (but-skip xs rest s skips is test)) ∙ same

told-more : (old new : List Kept) (m : Kept) (x : Member) → new ≡ old ++ m ∷ [] → told_member m ≡ x → map told_member new ≡ map told_member old ++ x ∷ []
told-more old new m x is same = ap (map told_member) is ∙ map-append told_member old (m ∷ []) ∙ ap (λ (y : Member). map told_member old ++ y ∷ []) same

pub keep-step : (show : Shown → Member) (old new : List Kept) (m : Kept) (xs rest : List Shown) (s : Shown) (skips : Bool) (whole : List Member) → new ≡ old ++ m ∷ [] → told_member m ≡ show s
    → xs ≡ s ∷ rest → (skips && (s.kind == 0x20)) ≡ false → map told_member old ++ map show (shown_but skips xs) ≡ whole → map told_member new ++ map show (shown_but skips rest) ≡ whole
keep-step show old new m xs rest s skips whole added told is test same =
    ap (λ them. them ++ map show (shown_but skips rest)) (told-more old new m (show s) added told)
    ∙ append_assoc (map told_member old) (show s ∷ []) (map show (shown_but skips rest))
    ∙ ap (λ them. map told_member old ++ map show them) (sym (but-keep xs rest s skips is test))
    ∙ same

pub keep-end : (show : Shown → Member) (kept : List Kept) (xs : List Shown) (skips : Bool) (whole : List Member) → xs ≡ [] → map told_member kept ++ map show (shown_but skips xs) ≡ whole → map told_member kept ≡ whole
keep-end show kept xs skips whole is same =
    sym (append-nil (map told_member kept)) ∙ ap (λ them. map told_member kept ++ map show them) (sym (but-end xs skips is)) ∙ same

-- ---- the attributes of a record that was read

all-said : (n : ℕ) (s : Slot (Located (Laid (List ℕ)))) (placed : List Placed) → map (member_at n s) (map located_of placed) ≡ map (shown_member n s.head.sequence) (shown_but false (map shown_placed placed))
unfolding shown_but
all-said n s [] = refl
all-said n s (p ∷ placed) = ap (λ (rest : List Member). member_at n s (located_of p) ∷ rest) (all-said n s placed)

pub read-said : (n : ℕ) (said : FileRecord) → members_said false n said ≡ members_read n (sound_located said)
read-said n said = sym (all-said n (sound_located said) (placed_of said))

own-placed : (n : ℕ) (s : Slot (Located (Laid (List ℕ)))) (placed : List Placed)
    → map (member_at n s) (without_list (map located_of placed)) ≡ map (shown_member n s.head.sequence) (shown_but true (map shown_placed placed))
unfolding shown_but
own-placed n s [] = refl
own-placed n s (p ∷ placed) = go ((shown_placed p).kind == 0x20) (all-said n s placed) (own-placed n s placed)
  where
    go : (b : Bool) → map (member_at n s) (map located_of placed) ≡ map (shown_member n s.head.sequence) (shown_but false (map shown_placed placed))
        → map (member_at n s) (without_list (map located_of placed)) ≡ map (shown_member n s.head.sequence) (shown_but true (map shown_placed placed))
        → map (member_at n s) (if b then map located_of placed else located_of p ∷ without_list (map located_of placed))
        ≡ map (shown_member n s.head.sequence) (if b then shown_but false (map shown_placed placed) else shown_placed p ∷ shown_but true (map shown_placed placed))
    go true all rest = all
    go false all rest = ap (λ (rest : List Member). member_at n s (located_of p) ∷ rest) rest

pub own-said : (n : ℕ) (said : FileRecord) → members_said true n said ≡ map (member_at n (sound_located said)) (without_list (located_attributes said))
own-said n said = sym (own-placed n (sound_located said) (placed_of said))

read-none : (n : ℕ) (s : Slot (Located (Laid (List ℕ)))) → is_readable s ≡ false → members_read n s ≡ []
read-none n s is = rw is refl

pub kept-none : (before : List Member) (n : ℕ) (s : Slot (Located (Laid (List ℕ)))) (view : Option FileRecord) → view ≡ None → IsView s view → before ≡ before ++ members_read n s
kept-none before n s None none is = sym (ap (λ them. before ++ them) (read-none n s is) ∙ append-nil before)
kept-none before n s (Some said) none is = absurd cc

pub kept-said : (before after : List Member) (n : ℕ) (s : Slot (Located (Laid (List ℕ)))) (view : Option FileRecord) (said : FileRecord) → view ≡ Some said → IsView s view
    → after ≡ before ++ members_said false n said → after ≡ before ++ members_read n s
kept-said before after n s None said some is same = absurd cc
kept-said before after n s (Some other) said some is same =
    let one : other ≡ said = cc in
    same ∙ ap (λ them. before ++ them) (read-said n said ∙ ap (λ (r : FileRecord). members_read n (sound_located r)) (sym one) ∙ ap (members_read n) (sym is))

-- ---- record after record

pub more-kept : (slots : List (Slot (Located (Laid (List ℕ))))) (numbers : List ℕ) (i : ℕ) (before mid after whole : List Member) → i < length numbers
    → mid ≡ before ++ members_read (get_or numbers i 0) (slot_at slots (get_or numbers i 0))
    → before ++ members_in slots (drop i numbers) ≡ whole → mid ++ members_in slots (drop (i + 1) numbers) ≡ whole
more-kept slots numbers i before mid after whole lt is same =
    ap (λ them. them ++ members_in slots (drop (i + 1) numbers)) is
    ∙ append_assoc before (members_read (get_or numbers i 0) (slot_at slots (get_or numbers i 0))) (members_in slots (drop (i + 1) numbers))
    ∙ ap (λ (them : List ℕ). before ++ members_in slots them) (sym (next-number i numbers lt))
    ∙ same
  where
    next-number : (i : ℕ) (numbers : List ℕ) → i < length numbers → drop i numbers ≡ get_or numbers i 0 ∷ drop (i + 1) numbers
    next-number i numbers lt = rw (add-one, drop-cons numbers i 0) refl
