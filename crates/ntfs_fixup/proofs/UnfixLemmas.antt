-- `unfix_of` by its cases, and what each answer means.
use Rattle.std.proofs.Common.{◌≡◌, ◌<◌, ◌≤◌, ◌+◌, ◌*◌, ◌%◌, ◌↔◌, ℕ, true, false, List, length, get_or, Some, None, Result, Ok, Err, refl, sym, ap, ◌∙◌, arith, inl, inr, ◌⊎◌, subst, MatchResult, IsOk, OnOk}
use Rattle.std.proofs.lemmas.Bool.{cases_lt, cases_Bool}
use Rattle.std.proofs.lemmas.List.FromFn.{length-map-range_with_len, get_or-map-range_with_len, fill_by_all}
use Rattle.std.proofs.lemmas.List.{get_or_past}
use Rattle.ntfs_fixup.specs.declared.header.Magic.{Magic}
use Rattle.ntfs_fixup.specs.declared.unfixing.FixFault.{FixFault}
use Rattle.ntfs_fixup.specs.declared.unfixing.FixFault.TheVariants.{NoMagic, BadArray, Torn}
use Rattle.ntfs_fixup.specs.Fixups.{HasFront, KeepsFront, AllAgree, Refuses, array_offset, stride_count, has_magic, has_good_array, first_torn, unfix_byte, unfix_block, unfix_of}
use Rattle.ntfs_fixup.proofs.FixupLemmas.{good_room, unfix_byte-inside, first_torn-IsFirstTorn, first_torn-AllAgree, IsFirstTorn-first_torn, AllAgree-first_torn, HasFront-kept}

-- ---- the unfixed block

pub length-unfix_block : (block : List ℕ) → length (unfix_block block) ≡ length block
unfolding unfix_block
length-unfix_block block = length-map-range_with_len (unfix_byte block) 0 (length block)

pub get_or-unfix_block : (block : List ℕ) (p : ℕ) → p < length block
    → get_or (unfix_block block) p 0 ≡ unfix_byte block p
unfolding unfix_block
get_or-unfix_block block p within =
    get_or-map-range_with_len (unfix_byte block) 0 (length block) p p 0 within (omega arith)

-- a block of its length whose bytes are the unfixed ones
pub unfix_block-by_bytes : (old new : List ℕ) → length new ≡ length old
    → ((p : ℕ) → p < length old → get_or new p 0 ≡ unfix_byte old p) → new ≡ unfix_block old
unfolding unfix_block
unfix_block-by_bytes old new long each = fill_by_all (unfix_byte old) new (length old) 0 long each

-- ---- the answers, by their causes

pub unfix_of-no_magic : (magic : Magic) (block : List ℕ) → has_magic magic block ≡ false
    → unfix_of magic block ≡ Err NoMagic
unfolding unfix_of
unfix_of-no_magic magic block none = rw none refl

pub unfix_of-bad_array : (magic : Magic) (block : List ℕ) → has_magic magic block ≡ true
    → has_good_array magic block ≡ false → unfix_of magic block ≡ Err BadArray
unfolding unfix_of
unfix_of-bad_array magic block begins bad = rw (begins, bad) refl

pub unfix_of-torn : (magic : Magic) (block : List ℕ) (k : ℕ) → has_magic magic block ≡ true
    → has_good_array magic block ≡ true → first_torn block ≡ Some k → unfix_of magic block ≡ Err (Torn k)
unfolding unfix_of
unfix_of-torn magic block k begins good torn = rw (begins, good, torn) refl

pub unfix_of-whole : (magic : Magic) (block : List ℕ) → has_magic magic block ≡ true → has_good_array magic block ≡ true
    → first_torn block ≡ None → unfix_of magic block ≡ Ok (unfix_block block)
unfolding unfix_of
unfix_of-whole magic block begins good none = rw (begins, good, none) refl

-- ---- from a cause to the answer, and back

-- what is refused
pub unfix_of-Refuses : (magic : Magic) (block : List ℕ) (fault : FixFault) → Refuses magic block fault
    → unfix_of magic block ≡ Err fault
unfix_of-Refuses magic block NoMagic why = unfix_of-no_magic magic block why
unfix_of-Refuses magic block BadArray why = unfix_of-bad_array magic block why.0 why.1
unfix_of-Refuses magic block (Torn k) why =
    unfix_of-torn magic block k why.0.begins why.0.array (first_torn-IsFirstTorn block k why.1)

-- what is accepted
pub unfix_of-accepted : (magic : Magic) (block : List ℕ) → HasFront magic block → AllAgree block
    → unfix_of magic block ≡ Ok (unfix_block block)
unfix_of-accepted magic block front all =
    unfix_of-whole magic block front.begins front.array (first_torn-AllAgree block all)

-- a block is refused for a cause, or accepted
pub data Judged (magic : Magic) (block : List ℕ) : Type 0 where
  Faulty : (fault : FixFault) → Refuses magic block fault → Judged magic block
  Whole : HasFront magic block → AllAgree block → Judged magic block

cases_torn : (block : List ℕ) → ((k : ℕ) × (first_torn block ≡ Some k)) ⊎ (first_torn block ≡ None)
cases_torn block =
    elim (first_torn block) as (λ o. ((k : ℕ) × (o ≡ Some k)) ⊎ (o ≡ None)) [ Some k ↦ inl (k, refl) | None ↦ inr refl ]

pub judged : (magic : Magic) (block : List ℕ) → Judged magic block
judged magic block =
    elim (cases_Bool (has_magic magic block)) [
      | inr none ↦ Faulty NoMagic none
      | inl begins ↦ elim (cases_Bool (has_good_array magic block)) [
        | inr bad ↦ Faulty BadArray (begins, bad)
        | inl good ↦ (let front : HasFront magic block = record { begins = begins; array = good } in
            elim (cases_torn block) [
              | inl torn ↦ Faulty (Torn torn.0) (front, IsFirstTorn-first_torn block torn.0 torn.1)
              | inr none ↦ Whole front (AllAgree-first_torn block none)
            ])
      ]
    ]

-- an answer has its cause
pub Refuses-unfix_of : (magic : Magic) (block : List ℕ) (fault : FixFault) → unfix_of magic block ≡ Err fault
    → Refuses magic block fault
Refuses-unfix_of magic block fault is =
    elim (judged magic block) [
      | Faulty why cause ↦
          (let so = unfix_of-Refuses magic block why cause in let same : why ≡ fault = cc in subst
          (Refuses magic block) same cause)
      | Whole front all ↦ (let so = unfix_of-accepted magic block front all in cc)
    ]

-- what was accepted
pub record IsAccepted (magic : Magic) (old new : List ℕ) : Type 0 where
  pub front : HasFront magic old
  pub agree : AllAgree old
  pub block : new ≡ unfix_block old

pub IsAccepted-unfix_of : (magic : Magic) (old new : List ℕ) → unfix_of magic old ≡ Ok new → IsAccepted magic old new
IsAccepted-unfix_of magic old new is =
    elim (judged magic old) [
      | Faulty why cause ↦ (let so = unfix_of-Refuses magic old why cause in cc)
      | Whole front all ↦
          (let so = unfix_of-accepted magic old front all in record { front = front; agree = all; block = cc })
    ]

-- ---- the clauses of `unfix`, from its exact one

-- a result that says what `unfix_of` does
abbrev pub Gives : {T : Type 0} → Magic → List ℕ → List ℕ → Result T FixFault → Type 0
Gives magic old new result =
    MatchResult result (λ _. unfix_of magic old ≡ Ok new) (λ fault. unfix_of magic old ≡ Err fault)

pub refused : {T : Type 0} (magic : Magic) (old new : List ℕ) (result : Result T FixFault) → Gives magic old new result
    → (fault : FixFault) → (result ≡ Err fault) ↔ Refuses magic old fault
refused magic old new (Ok x) exact fault = (λ is. cc, λ why. let so = unfix_of-Refuses magic old fault why in cc)
refused magic old new (Err e) exact fault = (
  λ is. let same : e ≡ fault = cc in subst (Refuses magic old) same (Refuses-unfix_of magic old e exact),
  λ why. let so = unfix_of-Refuses magic old fault why in let same : e ≡ fault = cc in ap Err same,
)

pub accepted : {T : Type 0} (magic : Magic) (old new : List ℕ) (result : Result T FixFault) → Gives magic old new result
    → IsOk result ↔ (HasFront magic old × AllAgree old)
accepted magic old new (Ok x) exact =
    (λ _. let so = IsAccepted-unfix_of magic old new exact in (so.front, so.agree), λ _. refl)
accepted magic old new (Err e) exact = (λ is. cc, λ whole. let so = unfix_of-accepted magic old whole.0 whole.1 in cc)

-- what holds of the unfixed block holds after Ok
pub on_ok : {T : Type 0} (magic : Magic) (old new : List ℕ) (P : Type 0) (result : Result T FixFault)
    → Gives magic old new result → (IsAccepted magic old new → P) → OnOk result P
on_ok magic old new P (Ok x) exact holds = holds (IsAccepted-unfix_of magic old new exact)
on_ok magic old new P (Err e) exact holds = tt

pub bytes : (magic : Magic) (old new : List ℕ) → IsAccepted magic old new → (p : ℕ) → p < length old
    → get_or new p 0 ≡ unfix_byte old p
bytes magic old new so p within = ap (λ b. get_or b p 0) so.block ∙ get_or-unfix_block old p within

pub others : (magic : Magic) (old new : List ℕ) → IsAccepted magic old new → (p : ℕ) → p % 512 < 510
    → get_or new p 0 ≡ get_or old p 0
others magic old new so p inside =
    let long : length new ≡ length old = ap length so.block ∙ length-unfix_block old in
    elim (cases_lt p (length old)) [
      | inl within ↦ bytes magic old new so p within ∙ unfix_byte-inside old p inside
      | inr past ↦ get_or_past new p 0 (omega arith) ∙ sym (get_or_past old p 0 past)
    ]

pub keeps : (magic : Magic) (old new : List ℕ) → IsAccepted magic old new → KeepsFront old new
keeps magic old new so =
    let long : length new ≡ length old = ap length so.block ∙ length-unfix_block old in
    let room = good_room magic old so.front.array in
    let ends : array_offset old + 2 * (stride_count old + 1) ≤ 510 = room.ends in
    record { long = long; front = λ p within. others magic old new so p (omega arith) }

pub front : (magic : Magic) (old new : List ℕ) → IsAccepted magic old new → HasFront magic new
front magic old new so = HasFront-kept magic old new (keeps magic old new so) so.front
