-- The records that extend base records, taken one after the other.
use Rattle.std.proofs.Common.{◌≡◌, ◌+◌, ℕ, zero, suc, List, [], ◌++◌, Some, refl, sym, ap, subst, ◌∙◌, arith, append_assoc, append-nil}
use Rattle.ntfs_check_files.specs.Extending.{AreExtensions, HasTaken, extending, number_if, numbers_from}
use Rattle.ntfs_check_files.specs.declared.extensions.Extensions.{Extensions}
use Rattle.ntfs_record.specs.Slots.{Slot}
use Rattle.ntfs_survey.specs.Surveying.{record_at}
use Rattle.ntfs_volume.specs.Located.{located_slot}
use Rattle.ntfs_volume.specs.Opened.{Opened}
use Rattle.ntfs_volume.specs.Records.{raw_record}
use Rattle.ntfs_volume.specs.Scan.{initialised_count}

none-from : {P : Type 0} (q : ℕ) (slot : ℕ → Slot P) (first : ℕ) → numbers_from q slot first 0 ≡ []
unfolding numbers_from
none-from q slot first = refl

more-from : {P : Type 0} (q : ℕ) (slot : ℕ → Slot P) (first count : ℕ) → numbers_from q slot first (count + 1) ≡ numbers_from q slot first count ++ number_if q (first + count) (slot (first + count))
unfolding numbers_from
more-from q slot first count = let same : count + 1 ≡ suc count = omega arith in ap (numbers_from q slot first) same

pub taken-none : {P : Type 0} (slot : ℕ → Slot P) (first : ℕ) (e : Extensions) → HasTaken slot first 0 e e
taken-none slot first e q = sym (ap (λ xs. extending e q ++ xs) (none-from q slot first) ∙ append-nil (extending e q))

pub taken-one : {P : Type 0} (slot : ℕ → Slot P) (first index : ℕ) (old mid new : Extensions) (s : Slot P) → s ≡ slot (first + index) → HasTaken slot first index old mid
    → ((q : ℕ) → extending new q ≡ extending mid q ++ number_if q (first + index) s) → HasTaken slot first (index + 1) old new
taken-one {P = P} slot first index old mid new s same taken one q =
    one q
    ∙ ap (λ (s : Slot P). extending mid q ++ number_if q (first + index) s) same
    ∙ ap (λ xs. xs ++ number_if q (first + index) (slot (first + index))) (taken q)
    ∙ append_assoc (extending old q) (numbers_from q slot first index) (number_if q (first + index) (slot (first + index)))
    ∙ ap (λ xs. extending old q ++ xs) (sym (more-from q slot first index))

parts-from : {P : Type 0} (q : ℕ) (slot : ℕ → Slot P) (first a b : ℕ) → numbers_from q slot first (a + b) ≡ numbers_from q slot first a ++ numbers_from q slot (first + a) b
unfolding numbers_from
parts-from q slot first a zero =
    let same : a + zero ≡ a = omega arith in ap (numbers_from q slot first) same ∙ sym (append-nil (numbers_from q slot first a))
parts-from q slot first a (suc b) =
    let same : a + suc b ≡ suc (a + b) = omega arith in
    let place : first + (a + b) ≡ first + a + b = omega arith in
    ap (numbers_from q slot first) same
    ∙ ap (λ xs. xs ++ number_if q (first + (a + b)) (slot (first + (a + b)))) (parts-from q slot first a b)
    ∙ ap (λ n. (numbers_from q slot first a ++ numbers_from q slot (first + a) b) ++ number_if q n (slot n)) place
    ∙ append_assoc (numbers_from q slot first a) (numbers_from q slot (first + a) b) (number_if q (first + a + b) (slot (first + a + b)))

pub taken-more : {P : Type 0} (slot : ℕ → Slot P) (next count after : ℕ) (old mid new : Extensions) → after ≡ next + count → HasTaken slot 0 next old mid → HasTaken slot next count mid new → HasTaken slot 0 after old new
taken-more slot next count after old mid new is taken more q =
    let place : 0 + next ≡ next = omega arith in
    more q
    ∙ ap (λ xs. xs ++ numbers_from q slot next count) (taken q)
    ∙ append_assoc (extending old q) (numbers_from q slot 0 next) (numbers_from q slot next count)
    ∙ ap (λ n. extending old q ++ (numbers_from q slot 0 next ++ numbers_from q slot n count)) (sym place)
    ∙ ap (λ xs. extending old q ++ xs) (sym (parts-from q slot 0 next count))
    ∙ ap (λ n. extending old q ++ numbers_from q slot 0 n) (sym is)

pub held-slot : (o : Opened) (f : ℕ → List ℕ) (n : ℕ) (raw : List ℕ) → raw_record o.geometry o.map f n ≡ Some raw → located_slot n (Some raw) ≡ record_at o f n
held-slot o f n raw held = sym (ap (located_slot n) held)

pub taken-from : {P : Type 0} (slot : ℕ → Slot P) (next : ℕ) (e : Extensions) → next ≡ 0 → HasTaken slot 0 next e e
taken-from slot next e is = subst (λ n. HasTaken slot 0 n e e) (sym is) (taken-none slot 0 e)

pub all-taken : (o : Opened) (f : ℕ → List ℕ) (next : ℕ) (old new : Extensions) → next ≡ initialised_count o.geometry o.map → ((q : ℕ) → extending old q ≡ []) → HasTaken (record_at o f) 0 next old new → AreExtensions o f new
all-taken o f next old new is none taken q =
    taken q ∙ ap (λ xs. xs ++ numbers_from q (record_at o f) 0 next) (none q) ∙ ap (numbers_from q (record_at o f) 0) is
