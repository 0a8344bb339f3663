-- What is saved by way of bytes that wait.
use Rattle.std.proofs.Common.{◌≡◌, ◌+◌, ℕ, List, [], ◌++◌, length, take, refl, sym, ap, ◌∙◌, subst, arith, length-append, append_assoc, Result, Ok, Err}
use Rattle.std.specs.Prelude.{IfErr}
use Rattle.std.proofs.Math.Seq.{take-append-add}
use Rattle.std.proofs.lemmas.List.{append-nil, take-append-le, take_all}
use Rattle.ntfs_base.specs.Frames.{IsSettled, Origin, Puts, PutsPrefix}
use Rattle.ntfs_base.specs.Sink.{Put, SinkState, after_put}
use Rattle.ntfs_base.proofs.SinkLemmas.{after_put-append, after_put-nil}
use Rattle.ntfs_clone.specs.declared.fault.CloneFault.{CloneFault}
use Rattle.ntfs_clone.specs.declared.fault.CloneFault.TheVariants as clone
use Rattle.ntfs_clone.specs.Fault.{IsSaveFault, IsWriteFault, clone_origin}
use Rattle.ntfs_clone.specs.Saving.{HasPut, IsSaved, Saves}

-- ---- prefixes

-- a prefix of a front is one of all
prefix-more : (all front rest : List ℕ) (old new : SinkState) → all ≡ front ++ rest → PutsPrefix front old new → PutsPrefix all old new
prefix-more all front rest old new is (k, within, put) = (
  k,
  omega (arith, within, length-append front rest, ap length is),
  put ∙ ap (λ bytes. after_put bytes old) (sym (take-append-le k front rest within) ∙ ap (take k) (sym is)),
)

-- a front was put, and a prefix of what follows
prefix-behind : (all front rest : List ℕ) (old now new : SinkState) → all ≡ front ++ rest → now ≡ after_put front old → PutsPrefix rest now new → PutsPrefix all old new
prefix-behind all front rest old now new is front_put (k, within, put) = (
  length front + k,
  omega (arith, within, length-append front rest, ap length is),
  put ∙ ap (after_put (take k rest)) front_put ∙ sym (after_put-append front (take k rest) old)
      ∙ ap (λ bytes. after_put bytes old) (sym (take-append-add front rest k) ∙ ap (take (length front + k)) (sym is)),
)

prefix-whole : (all : List ℕ) (old new : SinkState) → new ≡ after_put all old → PutsPrefix all old new
prefix-whole all old new is = (length all, omega arith, is ∙ ap (λ bytes. after_put bytes old) (sym (take_all (length all) all (omega arith))))

-- ---- what was saved so far

-- bytes that wait, and nothing was put
pub saved-kept : (bytes waiting : List ℕ) (sink : SinkState) → waiting ≡ bytes → IsSaved bytes sink waiting sink
saved-kept bytes waiting sink is = record { front = []; parts = sym is; put = sym (after_put-nil sink) }

-- bytes that were all put
saved-put : (bytes waiting : List ℕ) (old new : SinkState) → waiting ≡ [] → new ≡ after_put bytes old → IsSaved bytes old waiting new
saved-put bytes waiting old new none is =
    record { front = bytes; parts = sym (ap (λ xs. bytes ++ xs) none ∙ append-nil bytes); put = is }

-- further bytes
pub saved-step : (saved bytes waiting held : List ℕ) (before now after : SinkState) → IsSaved saved before waiting now → IsSaved (waiting ++ bytes) now held after
    → IsSaved (saved ++ bytes) before held after
saved-step saved bytes waiting held before now after is next = record {
  front = is.front ++ next.front;
  parts = ap (λ xs. xs ++ bytes) is.parts ∙ append_assoc is.front waiting bytes ∙ ap (λ xs. is.front ++ xs) next.parts ∙ sym (append_assoc is.front next.front held);
  put = next.put ∙ ap (after_put next.front) is.put ∙ sym (after_put-append is.front next.front before);
}

-- bytes that wait behind those that waited
pub saved-more : (saved bytes waiting held : List ℕ) (before now : SinkState) → IsSaved saved before waiting now → held ≡ waiting ++ bytes → IsSaved (saved ++ bytes) before held now
saved-more saved bytes waiting held before now is more = record {
  front = is.front;
  parts = ap (λ xs. xs ++ bytes) is.parts ∙ append_assoc is.front waiting bytes ∙ ap (λ xs. is.front ++ xs) (sym more);
  put = is.put;
}

-- what was put is a prefix of all
pub saved-stop : (all saved rest waiting : List ℕ) (before now : SinkState) → all ≡ saved ++ rest → IsSaved saved before waiting now → PutsPrefix all before now
saved-stop all saved rest waiting before now is so_far =
    prefix-more all saved rest before now is
    (prefix-more saved so_far.front waiting before now so_far.parts (prefix-whole so_far.front before now so_far.put))

-- the sink cut the next bytes off
pub saved-cut : (all saved bytes rest waiting : List ℕ) (before now after : SinkState) → all ≡ (saved ++ bytes) ++ rest → IsSaved saved before waiting now
    → PutsPrefix (waiting ++ bytes) now after → PutsPrefix all before after
saved-cut all saved bytes rest waiting before now after is so_far cut =
    prefix-more all (saved ++ bytes) rest before after is
    (prefix-behind (saved ++ bytes) so_far.front (waiting ++ bytes) before now after
    (ap (λ xs. xs ++ bytes) so_far.parts ∙ append_assoc so_far.front waiting bytes) so_far.put cut)

-- ---- calls that save

pub saves-none : {T E : Type 0} (waiting : List ℕ) (sink : SinkState) (x : T) → Saves {E = E} [] waiting sink (Ok x) waiting sink
saves-none waiting sink x = record { whole = saved-kept (waiting ++ []) waiting sink (sym (append-nil waiting)); part = tt }

-- what waited was put
pub saves-rest : {T E : Type 0} (waiting held : List ℕ) (before after : SinkState) (x : T) → held ≡ [] → after ≡ after_put waiting before → Saves {E = E} [] waiting before (Ok x) held after
saves-rest waiting held before after x none is = record { whole = saved-put (waiting ++ []) held before after none (is ∙ ap (λ xs. after_put xs before) (sym (append-nil waiting))); part = tt }

pub saves-rest-cut : {T E : Type 0} (waiting held : List ℕ) (before after : SinkState) (e : E) → PutsPrefix waiting before after → Saves {T = T} [] waiting before (Err e) held after
saves-rest-cut waiting held before after e is = record { whole = tt; part = prefix-more (waiting ++ []) waiting [] before after refl is }

-- one follows another
pub saves-then : {T U E : Type 0} (a b waiting held kept : List ℕ) (before now after : SinkState) (x : U) (result : Result T E)
    → Saves {E = E} a waiting before (Ok x) held now → Saves b held now result kept after → Saves (a ++ b) waiting before result kept after
saves-then a b waiting held kept before now after x (Ok y) one two =
    record { whole = subst (λ xs. IsSaved xs before kept after) (append_assoc waiting a b) (saved-step (waiting ++ a) b held kept before now after one.whole two.whole); part = tt }
saves-then a b waiting held kept before now after x (Err e) one two = record {
  whole = tt;
  part = saved-cut (waiting ++ (a ++ b)) (waiting ++ a) b [] held before now after (sym (append_assoc waiting a b) ∙ sym (append-nil ((waiting ++ a) ++ b))) one.whole two.part;
}

-- what isn't reached isn't saved
pub saves-cut : {T U D E : Type 0} (a b waiting held kept : List ℕ) (before after : SinkState) (d : D) (e : E) → Saves {T = U} a waiting before (Err d) held after
    → Saves {T = T} (a ++ b) waiting before (Err e) kept after
saves-cut a b waiting held kept before after d e is =
    record { whole = tt; part = prefix-more (waiting ++ (a ++ b)) (waiting ++ a) b before after (sym (append_assoc waiting a b)) is.part }

-- a fault before anything more was put
pub saves-stop : {T E : Type 0} (bytes waiting held : List ℕ) (sink : SinkState) (e : E) → Saves {T = T} bytes waiting sink (Err e) held sink
saves-stop bytes waiting held sink e = record { whole = tt; part = (0, omega arith, sym (after_put-nil sink)) }

-- room was made, and then the bytes wait
pub saves-wait : {T U E : Type 0} (bytes waiting held kept : List ℕ) (before now : SinkState) (x : U) (y : T) → Saves {E = E} [] waiting before (Ok x) held now
    → kept ≡ held ++ bytes → Saves {E = E} bytes waiting before (Ok y) kept now
saves-wait bytes waiting held kept before now x y room is = record {
  whole = saved-more waiting bytes held kept before now (subst (λ xs. IsSaved xs before held now) (append-nil waiting) room.whole) is;
  part = tt;
}

-- room was made, and then memory was wanting
pub saves-want : {T U D E : Type 0} (bytes waiting held kept : List ℕ) (before now : SinkState) (x : U) (e : E) → Saves {E = D} [] waiting before (Ok x) held now
    → Saves {T = T} bytes waiting before (Err e) kept now
saves-want bytes waiting held kept before now x e room =
    record { whole = tt; part = saved-stop (waiting ++ bytes) waiting bytes held before now refl (subst (λ xs. IsSaved xs before held now) (append-nil waiting) room.whole) }

-- no room could be made
pub saves-full : {T U D E : Type 0} (bytes waiting held kept : List ℕ) (before now : SinkState) (d : D) (e : E) → Saves {T = U} [] waiting before (Err d) held now
    → Saves {T = T} bytes waiting before (Err e) kept now
saves-full bytes waiting held kept before now d e room =
    record { whole = tt; part = prefix-more (waiting ++ bytes) (waiting ++ []) bytes before now (ap (λ xs. xs ++ bytes) (sym (append-nil waiting))) room.part }

-- ---- what a sink is after any call

pub kept-none : (sink : SinkState) → HasPut sink sink
kept-none sink = record { bytes = []; put = sym (after_put-nil sink) }

pub kept-then : (before now after : SinkState) → HasPut before now → HasPut now after → HasPut before after
kept-then before now after first next = record {
  bytes = first.bytes ++ next.bytes;
  put = next.put ∙ ap (after_put next.bytes) first.put ∙ sym (after_put-append first.bytes next.bytes before);
}

pub put-kept : {T E : Type 0} (bytes : List ℕ) (before after : SinkState) (result : Result T E) → Put bytes before result after → HasPut before after
put-kept bytes before after (Ok x) is = record { bytes = bytes; put = is.whole }
put-kept bytes before after (Err e) is = record { bytes = take is.part.0 bytes; put = is.part.2 }

pub saves-kept : {T E : Type 0} (bytes waiting held : List ℕ) (before after : SinkState) (result : Result T E) → Saves bytes waiting before result held after
    → HasPut before after
saves-kept bytes waiting held before after (Ok x) is = record { bytes = is.whole.front; put = is.whole.put }
saves-kept bytes waiting held before after (Err e) is = record { bytes = take is.part.0 (waiting ++ bytes); put = is.part.2 }

-- ---- loops that save

-- some of the bytes were saved behind those that waited, and this is the rest of them
pub record IsUnderWay (all rest waiting : List ℕ) (before : SinkState) (held : List ℕ) (after : SinkState) : Type 0 where
  pub done : List ℕ
  pub parts : all ≡ done ++ rest
  pub saved : IsSaved (waiting ++ done) before held after

pub way-start : (all waiting : List ℕ) (sink : SinkState) → IsUnderWay all all waiting sink waiting sink
way-start all waiting sink = record { done = []; parts = refl; saved = saved-kept (waiting ++ []) waiting sink (sym (append-nil waiting)) }

pub way-same : (all rest waiting : List ℕ) (before : SinkState) → all ≡ rest → IsUnderWay all rest waiting before waiting before
way-same all rest waiting before is = subst (λ xs. IsUnderWay all xs waiting before waiting before) is (way-start all waiting before)

-- a turn
pub way-next : {T E : Type 0} (all rest bytes more waiting held kept : List ℕ) (before now after : SinkState) (x : T) → rest ≡ bytes ++ more → IsUnderWay all rest waiting before held now
    → Saves {E = E} bytes held now (Ok x) kept after → IsUnderWay all more waiting before kept after
way-next all rest bytes more waiting held kept before now after x is way next = record {
  done = way.done ++ bytes;
  parts = way.parts ∙ ap (λ xs. way.done ++ xs) is ∙ sym (append_assoc way.done bytes more);
  saved = subst (λ xs. IsSaved xs before kept after) (append_assoc waiting way.done bytes) (saved-step (waiting ++ way.done) bytes held kept before now after way.saved next.whole);
}

-- a turn that was cut off
pub way-cut : {T U D E : Type 0} (all rest bytes more waiting held kept last : List ℕ) (before now after : SinkState) (d : D) (e : E) → rest ≡ bytes ++ more → IsUnderWay all rest waiting before held now
    → Saves {T = U} bytes held now (Err d) kept after → Saves {T = T} all waiting before (Err e) last after
way-cut all rest bytes more waiting held kept last before now after d e is way next = record {
  whole = tt;
  part = saved-cut (waiting ++ all) (waiting ++ way.done) bytes more held before now after
      (ap (λ xs. waiting ++ xs) (way.parts ∙ ap (λ xs. way.done ++ xs) is) ∙ sym (append_assoc waiting way.done (bytes ++ more)) ∙ sym (append_assoc (waiting ++ way.done) bytes more)) way.saved next.part;
}

-- the end
pub way-end : {T E : Type 0} (all rest waiting held : List ℕ) (before after : SinkState) (x : T) → rest ≡ [] → IsUnderWay all rest waiting before held after
    → Saves {E = E} all waiting before (Ok x) held after
way-end all rest waiting held before after x none way = record {
  whole = subst (λ xs. IsSaved (waiting ++ xs) before held after) (sym (way.parts ∙ ap (λ xs. way.done ++ xs) none ∙ append-nil way.done)) way.saved;
  part = tt;
}

-- ---- the whole image

-- all was saved, and then what waited was put
pub puts-saved : {E : Type 0} (origin : E → Origin) (all waiting : List ℕ) (before now after : SinkState) (result : Result (Unit {0}) E)
    → ((e : E) → result ≡ Err e → IsSettled (origin e) → ⊥) → IsSaved all before waiting now → Put waiting now result after → Puts origin (Ok all) before result after
puts-saved origin all waiting before now after (Ok done) fails is put = record {
  answer = λ settled. refl;
  output = λ settled. whole;
  prefix = prefix-whole all before after whole;
}
  where
    whole : after ≡ after_put all before
    whole = put.whole ∙ ap (after_put waiting) is.put ∙ sym (after_put-append is.front waiting before) ∙ ap (λ bytes. after_put bytes before) (sym is.parts)
puts-saved origin all waiting before now after (Err e) fails is put = record {
  answer = λ settled. absurd (fails e refl settled);
  output = λ settled. absurd (fails e refl settled);
  prefix = prefix-behind all is.front waiting before now after is.parts is.put put.part;
}

-- the work was cut off
pub puts-cut : {E : Type 0} (origin : E → Origin) (all : List ℕ) (before after : SinkState) (e : E) → (IsSettled (origin e) → ⊥)
    → PutsPrefix all before after → Puts origin (Ok all) before (Err e) after
puts-cut origin all before after e fails prefix =
    record { answer = λ settled. absurd (fails settled); output = λ settled. absurd (fails settled); prefix = prefix }

pub save-unsettled : (fault : CloneFault) → IsSaveFault fault → IsSettled (clone_origin fault) → ⊥
save-unsettled (clone.BadClone place) is settled = is
save-unsettled (clone.Damaged rule number) is settled = is
save-unsettled clone.ReadFault is settled = settled
save-unsettled clone.WriteFault is settled = settled
save-unsettled clone.NoMemory is settled = settled

pub write-unsettled : (result : Result (Unit {0}) CloneFault) → IfErr result IsWriteFault → (e : CloneFault) → result ≡ Err e → IsSettled (clone_origin e) → ⊥
write-unsettled (Ok done) fails e is settled = absurd cc
write-unsettled (Err fault) fails e is settled = let same : fault ≡ e = cc in of e (subst IsWriteFault same fails) settled
  where
    of : (fault : CloneFault) → IsWriteFault fault → IsSettled (clone_origin fault) → ⊥
    of (clone.BadClone place) is settled = is
    of (clone.Damaged rule number) is settled = is
    of clone.ReadFault is settled = is
    of clone.WriteFault is settled = settled
    of clone.NoMemory is settled = settled

-- nothing was put
pub puts-nothing : (all : List ℕ) (sink : SinkState) (fault : CloneFault) → (IsSettled (clone_origin fault) → ⊥) → Puts clone_origin (Ok all) sink (Err fault) sink
puts-nothing all sink fault fails = puts-cut clone_origin all sink sink fault fails (0, omega arith, sym (after_put-nil sink))

-- the clusters were cut off
pub puts-clusters : {T : Type 0} (all head body tail waiting held : List ℕ) (before now : SinkState) (fault : CloneFault) → all ≡ (head ++ body) ++ tail → waiting ≡ head → IsSaveFault fault
    → Saves {T = T} body waiting before (Err fault) held now → Puts clone_origin (Ok all) before (Err fault) now
puts-clusters all head body tail waiting held before now fault parts is fails saves =
    puts-cut clone_origin all before now fault (save-unsettled fault fails)
    (prefix-more all (waiting ++ body) tail before now (parts ∙ ap (λ xs. (xs ++ body) ++ tail) (sym is)) saves.part)

-- all clusters were saved, and the tail was cut off
pub puts-tail : {T U : Type 0} (all head body tail waiting held kept : List ℕ) (before now after : SinkState) (x : U) (fault : CloneFault) → all ≡ (head ++ body) ++ tail → waiting ≡ head → IsSaveFault fault
    → Saves {E = CloneFault} body waiting before (Ok x) held now → Saves {T = T} tail held now (Err fault) kept after → Puts clone_origin (Ok all) before (Err fault) after
puts-tail all head body tail waiting held kept before now after x fault parts is fails clusters saves =
    puts-cut clone_origin all before after fault (save-unsettled fault fails)
    (saved-cut all (waiting ++ body) tail [] held before now after (parts ∙ ap (λ xs. (xs ++ body) ++ tail) (sym is) ∙ sym (append-nil ((waiting ++ body) ++ tail))) clusters.whole saves.part)

-- all was saved, and what waited was put
pub puts-all : {U V : Type 0} (all head body tail waiting held kept : List ℕ) (before now then after : SinkState) (x : U) (y : V) (result : Result (Unit {0}) CloneFault) → all ≡ (head ++ body) ++ tail
    → waiting ≡ head → IfErr result IsWriteFault → Saves {E = CloneFault} body waiting before (Ok x) held now → Saves {E = CloneFault} tail held now (Ok y) kept then → Put kept then result after
    → Puts clone_origin (Ok all) before result after
puts-all all head body tail waiting held kept before now then after x y result parts is fails clusters last put =
    puts-saved clone_origin all kept before then after result (write-unsettled result fails)
    (subst (λ xs. IsSaved xs before kept then) (sym (parts ∙ ap (λ xs. (xs ++ body) ++ tail) (sym is))) (saved-step (waiting ++ body) tail held kept before now then clusters.whole last.whole)) put
