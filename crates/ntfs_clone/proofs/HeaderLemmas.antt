-- The header of a clone image, read from its first 50 bytes.
use Rattle.std.proofs.Common.{◌≡◌, ◌≤◌, ◌-◌, ℕ, Bool, true, false, List, length, take, replicate, ◌++◌, refl, sym, ap, ◌∙◌, arith, min, nat_le, nat_lt, Ok, Err, if◌then◌else◌}
use Rattle.std.proofs.lemmas.Bool.{leb-false, leb-true}
use Rattle.ntfs_base.specs.Frames.{must, ◌>>=◌}
use Rattle.ntfs_base.specs.Growth.{resize_of}
use Rattle.ntfs_clone.specs.declared.fault.CloneFault.{CloneFault}
use Rattle.ntfs_clone.specs.declared.fault.CloneFault.TheVariants.{BadClone}
use Rattle.ntfs_clone.specs.declared.header.CloneHeader.{CloneHeader}
use Rattle.ntfs_clone.specs.Header.{header_in, clone_header, is_device, fixed_part}
use Rattle.ntfs_clone.proofs.TakingLemmas.{fill-count}

-- a test of a length, of which only the first 50 count
le-most : (k len : ℕ) → k ≤ 50 → nat_le k (min 50 len) ≡ nat_le k len
le-most k len within = two (nat_le k (min 50 len)) (nat_le k len) refl refl
  where
    two : (a b : Bool) → nat_le k (min 50 len) ≡ a → nat_le k len ≡ b → nat_le k (min 50 len) ≡ nat_le k len
    two true true one other = one ∙ sym other
    two false false one other = one ∙ sym other
    two true false one other = let x = leb-true k (min 50 len) one in let y = leb-false k len other in absurd (omega arith)
    two false true one other = let x = leb-false k (min 50 len) one in let y = leb-true k len other in absurd (omega arith)

lt-most : (len : ℕ) → nat_lt (min 50 len) 38 ≡ nat_lt len 38
lt-most len = grind arith

pub header_in-most : (len : ℕ) (front : List ℕ) → header_in (min 50 len) front ≡ header_in len front
unfolding header_in is_device
header_in-most len front =
    rw (le-most 16 len (omega arith), le-most 18 len (omega arith), le-most 22 len (omega arith), le-most 30 len (omega arith), le-most 38 len (omega arith), le-most 46 len (omega arith), le-most 50 len (omega arith), lt-most len) refl

-- a front of bytes, with zeros behind it
pub fixed-filled : (count : ℕ) (front bytes : List ℕ) → length front ≡ 50 → count ≤ length front → take count front ≡ take 50 bytes
    → take count front ++ replicate (50 - count) 0 ≡ fixed_part bytes
unfolding resize_of
fixed-filled count front bytes size within is =
    let many : count ≡ min 50 (length bytes) = fill-count count 50 front bytes within size is in
    let behind : 50 - count ≡ 50 - length bytes = omega arith in
    rw (is, behind) refl

-- a header of which a field is wrong
pub header-refused : (bytes front : List ℕ) (count : ℕ) (fault : CloneFault) → count ≡ min 50 (length bytes) → front ≡ fixed_part bytes
    → header_in count front ≡ Err fault → clone_header bytes ≡ Err fault
unfolding clone_header
header-refused bytes front count fault many same is =
    let here : header_in (length bytes) (fixed_part bytes) ≡ Err fault =
    sym (header_in-most (length bytes) (fixed_part bytes)) ∙ ap (λ n. header_in n (fixed_part bytes)) (sym many) ∙ ap (header_in count) (sym same) ∙ is in
    rw here refl

-- a header whose fields are right, and whether the bytes go up to the first command
pub header-skipped : (bytes front : List ℕ) (count : ℕ) (h : CloneHeader) (had : Bool) → count ≡ min 50 (length bytes) → front ≡ fixed_part bytes
    → header_in count front ≡ Ok h → 50 ≤ count → 50 ≤ h.offset → had ≡ nat_le (h.offset - 50) (length bytes - 50)
    → clone_header bytes ≡ (if had then Ok h else Err (BadClone 50))
unfolding clone_header
header-skipped bytes front count h had many same is whole least said =
    let here : header_in (length bytes) (fixed_part bytes) ≡ Ok h =
    sym (header_in-most (length bytes) (fixed_part bytes)) ∙ ap (λ n. header_in n (fixed_part bytes)) (sym many) ∙ ap (header_in count) (sym same) ∙ is in
    let test : nat_le h.offset (length bytes) ≡ had = same-test h.offset (length bytes) least (omega arith) ∙ sym said in
    rw (here, test) (both had)
  where
    both : (had : Bool) → (must had (BadClone 50) >>= (λ done. Ok h)) ≡ (if had then Ok h else Err (BadClone 50))
    both true = refl
    both false = refl

    same-test : (a b : ℕ) → 50 ≤ a → 50 ≤ b → nat_le a b ≡ nat_le (a - 50) (b - 50)
    same-test a b one other = two (nat_le a b) (nat_le (a - 50) (b - 50)) refl refl
      where
        two : (x y : Bool) → nat_le a b ≡ x → nat_le (a - 50) (b - 50) ≡ y → nat_le a b ≡ nat_le (a - 50) (b - 50)
        two true true p q = p ∙ sym q
        two false false p q = p ∙ sym q
        two true false p q = let x = leb-true a b p in let y = leb-false (a - 50) (b - 50) q in absurd (omega arith)
        two false true p q = let x = leb-false a b p in let y = leb-true (a - 50) (b - 50) q in absurd (omega arith)
