-- What is printed by way of a buffer, text by text.
use Rattle.std.proofs.Common.{◌≡◌, ◌+◌, ℕ, List, [], ◌++◌, length, take, refl, sym, ap, ap₂, ◌∙◌, subst, arith, length-append, append_assoc, Result, Ok, Err, Some}
use Rattle.std.proofs.Math.Seq.{take-append-add}
use Rattle.std.proofs.lemmas.List.{append-nil, take-append-le, take_all}
use Rattle.ntfs_base.specs.Frames.{IsSettled, Origin, Puts, PutsPrefix}
use Rattle.ntfs_base.specs.Sink.{SinkState, after_put}
use Rattle.ntfs_base.proofs.SinkLemmas.{after_put-append, after_put-nil}
use Rattle.ntfs_print.specs.Pending.{IsPrinted, Pushes}
use Rattle.ntfs_print.specs.Printing.{Printing, Prints, end_of, printing_of}

-- ---- prefixes

-- a prefix of a front is one of all
pub prefix-more : (all front rest : List ℕ) (old new : SinkState) → all ≡ front ++ rest → PutsPrefix front old new → PutsPrefix all old new
prefix-more all front rest old new is (k, within, put) = (
  k,
  omega (arith, within, length-append front rest, ap length is),
  put ∙ ap (λ bytes. after_put bytes old) (sym (take-append-le k front rest within) ∙ ap (take k) (sym is)),
)

-- a front was put, and a prefix of what follows
pub prefix-behind : (all front rest : List ℕ) (old now new : SinkState) → all ≡ front ++ rest → now ≡ after_put front old → PutsPrefix rest now new → PutsPrefix all old new
prefix-behind all front rest old now new is front_put (k, within, put) = (
  length front + k,
  omega (arith, within, length-append front rest, ap length is),
  put ∙ ap (after_put (take k rest)) front_put ∙ sym (after_put-append front (take k rest) old)
      ∙ ap (λ bytes. after_put bytes old) (sym (take-append-add front rest k) ∙ ap (take (length front + k)) (sym is)),
)

-- all of them is a prefix
pub prefix-whole : (all : List ℕ) (old new : SinkState) → new ≡ after_put all old → PutsPrefix all old new
prefix-whole all old new is = (length all, omega arith, is ∙ ap (λ bytes. after_put bytes old) (sym (take_all (length all) all (omega arith))))

-- ---- what was printed so far

-- nothing is printed at first
pub printed-start : (sink : SinkState) → IsPrinted [] sink [] sink
printed-start sink = record { front = []; parts = refl; put = sym (after_put-nil sink) }

-- bytes that wait before anything is put
pub printed-kept : (text waiting : List ℕ) (sink : SinkState) → waiting ≡ text → IsPrinted text sink waiting sink
printed-kept text waiting sink is = record { front = []; parts = sym is; put = sym (after_put-nil sink) }

-- bytes that were all put
pub printed-put : (text waiting : List ℕ) (old new : SinkState) → waiting ≡ [] → new ≡ after_put text old → IsPrinted text old waiting new
printed-put text waiting old new none is =
    record { front = text; parts = sym (ap (λ xs. text ++ xs) none ∙ append-nil text); put = is }

-- one text more
pub printed-step : (printed text waiting held : List ℕ) (before now after : SinkState) → IsPrinted printed before waiting now → IsPrinted (waiting ++ text) now held after
    → IsPrinted (printed ++ text) before held after
printed-step printed text waiting held before now after is next = record {
  front = is.front ++ next.front;
  parts = ap (λ xs. xs ++ text) is.parts ∙ append_assoc is.front waiting text ∙ ap (λ xs. is.front ++ xs) next.parts ∙ sym (append_assoc is.front next.front held);
  put = next.put ∙ ap (after_put next.front) is.put ∙ sym (after_put-append is.front next.front before);
}

-- it is a prefix of all that is to be printed
pub printed-stop : (all printed rest waiting : List ℕ) (before now : SinkState) → all ≡ printed ++ rest → IsPrinted printed before waiting now → PutsPrefix all before now
printed-stop all printed rest waiting before now is so_far =
    prefix-more all printed rest before now is
    (prefix-more printed so_far.front waiting before now so_far.parts (prefix-whole so_far.front before now so_far.put))

-- the sink cut the next text off
pub printed-cut : (all printed text rest waiting : List ℕ) (before now after : SinkState) → all ≡ (printed ++ text) ++ rest → IsPrinted printed before waiting now
    → PutsPrefix (waiting ++ text) now after → PutsPrefix all before after
printed-cut all printed text rest waiting before now after is so_far cut =
    prefix-more all (printed ++ text) rest before after is
    (prefix-behind (printed ++ text) so_far.front (waiting ++ text) before now after
    (ap (λ xs. xs ++ text) so_far.parts ∙ append_assoc so_far.front waiting text) so_far.put cut)

-- what waited was put: all that was printed is there
pub printed-end : (printed waiting : List ℕ) (before now after : SinkState) → IsPrinted printed before waiting now → after ≡ after_put waiting now → after ≡ after_put printed before
printed-end printed waiting before now after is put =
    put ∙ ap (after_put waiting) is.put ∙ sym (after_put-append is.front waiting before) ∙ ap (λ bytes. after_put bytes before) (sym is.parts)

-- it was cut off
pub printed-end-cut : (all printed rest waiting : List ℕ) (before now after : SinkState) → all ≡ printed ++ rest → IsPrinted printed before waiting now → PutsPrefix waiting now after
    → PutsPrefix all before after
printed-end-cut all printed rest waiting before now after is so_far cut =
    prefix-more all printed rest before after is (prefix-behind printed so_far.front waiting before now after so_far.parts so_far.put cut)

-- ---- calls that print

-- nothing is printed
pub pushes-none : {T E : Type 0} (waiting : List ℕ) (sink : SinkState) (x : T) → Pushes {E = E} [] waiting sink (Ok x) waiting sink
pushes-none waiting sink x = record { whole = printed-kept (waiting ++ []) waiting sink (sym (append-nil waiting)); part = tt }

-- one follows another
pub pushes-then : {T U E : Type 0} (a b waiting held kept : List ℕ) (before now after : SinkState) (x : U) (result : Result T E)
    → Pushes {E = E} a waiting before (Ok x) held now → Pushes b held now result kept after → Pushes (a ++ b) waiting before result kept after
pushes-then a b waiting held kept before now after x (Ok y) one two =
    record { whole = subst (λ xs. IsPrinted xs before kept after) (append_assoc waiting a b) (printed-step (waiting ++ a) b held kept before now after one.whole two.whole); part = tt }
pushes-then a b waiting held kept before now after x (Err e) one two = record {
  whole = tt;
  part = printed-cut (waiting ++ (a ++ b)) (waiting ++ a) b [] held before now after (sym (append_assoc waiting a b) ∙ sym (append-nil ((waiting ++ a) ++ b))) one.whole two.part;
}

-- what isn't reached isn't printed
pub pushes-cut : {T D E : Type 0} (a b waiting held kept : List ℕ) (before after : SinkState) (d : D) (e : E) → Pushes {T = T} a waiting before (Err d) held after
    → Pushes {T = T} (a ++ b) waiting before (Err e) kept after
pushes-cut a b waiting held kept before after d e is =
    record { whole = tt; part = prefix-more (waiting ++ (a ++ b)) (waiting ++ a) b before after (sym (append_assoc waiting a b)) is.part }

-- a refusal before anything more was printed
pub pushes-stop : {T E : Type 0} (text waiting held : List ℕ) (sink : SinkState) (e : E) → Pushes {T = T} text waiting sink (Err e) held sink
pushes-stop text waiting held sink e = record { whole = tt; part = (0, omega arith, sym (after_put-nil sink)) }

-- what waited was put, and text follows
pub printed-behind : (waiting text held : List ℕ) (old now after : SinkState) → now ≡ after_put waiting old → IsPrinted text now held after → IsPrinted (waiting ++ text) old held after
printed-behind waiting text held old now after is = printed-step waiting text [] held old now after (printed-put waiting [] old now refl is)

pub pushes-behind : {T E : Type 0} (waiting text held : List ℕ) (old now after : SinkState) (result : Result T E) → now ≡ after_put waiting old → Pushes text [] now result held after
    → Pushes text waiting old result held after
pushes-behind waiting text held old now after (Ok x) is next = record { whole = printed-behind waiting text held old now after is next.whole; part = tt }
pushes-behind waiting text held old now after (Err e) is next = record { whole = tt; part = prefix-behind (waiting ++ text) waiting text old now after refl is next.part }

-- ---- the end of a printing

-- the work was cut off: by a read or want of memory, by a text that wasn't taken, or at the end
pub prints-stop : {E : Type 0} (origin : E → Origin) (expected : Printing E) (printed rest waiting : List ℕ) (before now : SinkState) (fault : E) → (IsSettled (origin fault) → ⊥)
    → expected.output ≡ printed ++ rest → IsPrinted printed before waiting now → Prints origin expected before (Err fault) now
prints-stop origin expected printed rest waiting before now fault never is so_far = record {
  answer = λ settled. absurd (never settled);
  output = λ settled. absurd (never settled);
  prefix = printed-stop expected.output printed rest waiting before now is so_far;
}

pub prints-cut : {E : Type 0} (origin : E → Origin) (expected : Printing E) (printed text rest waiting : List ℕ) (before now after : SinkState) (fault : E) → (IsSettled (origin fault) → ⊥)
    → expected.output ≡ (printed ++ text) ++ rest → IsPrinted printed before waiting now → PutsPrefix (waiting ++ text) now after → Prints origin expected before (Err fault) after
prints-cut origin expected printed text rest waiting before now after fault never is so_far cut = record {
  answer = λ settled. absurd (never settled);
  output = λ settled. absurd (never settled);
  prefix = printed-cut expected.output printed text rest waiting before now after is so_far cut;
}

pub prints-end-cut : {E : Type 0} (origin : E → Origin) (expected : Printing E) (printed rest waiting : List ℕ) (before now after : SinkState) (fault : E) → (IsSettled (origin fault) → ⊥)
    → expected.output ≡ printed ++ rest → IsPrinted printed before waiting now → PutsPrefix waiting now after → Prints origin expected before (Err fault) after
prints-end-cut origin expected printed rest waiting before now after fault never is so_far cut = record {
  answer = λ settled. absurd (never settled);
  output = λ settled. absurd (never settled);
  prefix = printed-end-cut expected.output printed rest waiting before now after is so_far cut;
}

-- the rest was put, and the printing ends as it has to, also by a refusal
pub prints-end : {E : Type 0} (origin : E → Origin) (expected : Printing E) (printed waiting : List ℕ) (before now after : SinkState) (result : Result (Unit {0}) E)
    → expected.output ≡ printed → IsPrinted printed before waiting now → after ≡ after_put waiting now → result ≡ end_of expected.fault → Prints origin expected before result after
prints-end origin expected printed waiting before now after result is so_far put ends =
    let all : after ≡ after_put expected.output before = printed-end printed waiting before now after so_far put ∙ ap (λ bytes. after_put bytes before) (sym is) in
    record { answer = λ settled. ends; output = λ settled. all; prefix = prefix-whole expected.output before after all }

-- ---- printings, and bytes or a refusal

-- a refusal before anything is put
pub prints-none : {E : Type 0} (origin : E → Origin) (expected : Printing E) (fault : E) (sink : SinkState) → (IsSettled (origin fault) → (expected.output ≡ []) × (expected.fault ≡ Some fault))
    → Prints origin expected sink (Err fault) sink
prints-none origin expected fault sink is = record {
  answer = λ settled. sym (ap end_of (is settled).1);
  output = λ settled. sym (ap (λ bytes. after_put bytes sink) (is settled).0 ∙ after_put-nil sink);
  prefix = (0, omega arith, sym (after_put-nil sink));
}

pub prints-puts : {E : Type 0} (origin : E → Origin) (expected : Result (List ℕ) E) (old : SinkState) (result : Result (Unit {0}) E) (new : SinkState)
    → Prints origin (printing_of expected) old result new → Puts origin expected old result new
prints-puts origin (Ok bytes) old result new is = record { answer = is.answer; output = is.output; prefix = is.prefix }
prints-puts origin (Err fault) old result new is = record { answer = is.answer; output = is.output; prefix = is.prefix }

pub puts-prints : {E : Type 0} (origin : E → Origin) (expected : Result (List ℕ) E) (old : SinkState) (result : Result (Unit {0}) E) (new : SinkState)
    → Puts origin expected old result new → Prints origin (printing_of expected) old result new
puts-prints origin (Ok bytes) old result new is = record { answer = is.answer; output = is.output; prefix = is.prefix }
puts-prints origin (Err fault) old result new is = record { answer = is.answer; output = is.output; prefix = is.prefix }

-- ---- loops that print

-- some of the text was printed behind what waited, and this is the rest of it
pub record IsUnderWay (all rest waiting : List ℕ) (before : SinkState) (held : List ℕ) (after : SinkState) : Type 0 where
  pub done : List ℕ
  pub parts : all ≡ done ++ rest
  pub so_far : IsPrinted (waiting ++ done) before held after

pub way-start : (all waiting : List ℕ) (sink : SinkState) → IsUnderWay all all waiting sink waiting sink
way-start all waiting sink = record { done = []; parts = refl; so_far = printed-kept (waiting ++ []) waiting sink (sym (append-nil waiting)) }

-- a turn
pub way-next : {T E : Type 0} (all rest text more waiting held kept : List ℕ) (before now after : SinkState) (x : T) → rest ≡ text ++ more → IsUnderWay all rest waiting before held now
    → Pushes {E = E} text held now (Ok x) kept after → IsUnderWay all more waiting before kept after
way-next all rest text more waiting held kept before now after x is way next = record {
  done = way.done ++ text;
  parts = way.parts ∙ ap (λ xs. way.done ++ xs) is ∙ sym (append_assoc way.done text more);
  so_far = subst (λ xs. IsPrinted xs before kept after) (append_assoc waiting way.done text) (printed-step (waiting ++ way.done) text held kept before now after way.so_far next.whole);
}

-- a turn that was cut off
pub way-cut : {T D E : Type 0} (all rest text more waiting held kept last : List ℕ) (before now after : SinkState) (d : D) (e : E) → rest ≡ text ++ more → IsUnderWay all rest waiting before held now
    → Pushes {T = T} text held now (Err d) kept after → Pushes {T = T} all waiting before (Err e) last after
way-cut all rest text more waiting held kept last before now after d e is way next = record {
  whole = tt;
  part = printed-cut (waiting ++ all) (waiting ++ way.done) text more held before now after
      (ap (λ xs. waiting ++ xs) (way.parts ∙ ap (λ xs. way.done ++ xs) is) ∙ sym (append_assoc waiting way.done (text ++ more)) ∙ sym (append_assoc (waiting ++ way.done) text more)) way.so_far next.part;
}

-- the end
pub way-end : {T E : Type 0} (all rest waiting held : List ℕ) (before after : SinkState) (x : T) → rest ≡ [] → IsUnderWay all rest waiting before held after
    → Pushes {E = E} all waiting before (Ok x) held after
way-end all rest waiting held before after x none way = record {
  whole = subst (λ xs. IsPrinted (waiting ++ xs) before held after) (sym (way.parts ∙ ap (λ xs. way.done ++ xs) none ∙ append-nil way.done)) way.so_far;
  part = tt;
}

-- two texts by other words
pub pushes-same : {T U E : Type 0} (a b x y waiting held kept : List ℕ) (before now after : SinkState) (u : U) (result : Result T E) → x ≡ a → y ≡ b
    → Pushes {E = E} x waiting before (Ok u) held now → Pushes y held now result kept after → Pushes (a ++ b) waiting before result kept after
pushes-same a b x y waiting held kept before now after u result is same one two =
    subst (λ text. Pushes text waiting before result kept after) (ap₂ (λ x y. x ++ y) is same) (pushes-then x y waiting held kept before now after u result one two)

-- three texts by other words
pub pushes-three : {T U E : Type 0} (a b c x y z waiting w1 w2 w3 : List ℕ) (s0 s1 s2 s3 : SinkState) (u : U) (result : Result T E) → x ≡ a → y ≡ b → z ≡ c
    → Pushes {E = E} x waiting s0 (Ok u) w1 s1 → Pushes {E = E} y w1 s1 (Ok u) w2 s2 → Pushes z w2 s2 result w3 s3 → Pushes (a ++ (b ++ c)) waiting s0 result w3 s3
pushes-three a b c x y z waiting w1 w2 w3 s0 s1 s2 s3 u result xa yb zc one two three =
    subst (λ text. Pushes text waiting s0 result w3 s3) (ap₂ (λ p q. p ++ q) xa (ap₂ (λ p q. p ++ q) yb zc))
    (pushes-then x (y ++ z) waiting w1 w3 s0 s1 s3 u result one (pushes-then y z w1 w2 w3 s1 s2 s3 u result two three))

-- one that is cut off follows another one
pub pushes-then-cut : {T U D E : Type 0} (a b waiting held kept last : List ℕ) (before now after : SinkState) (u : U) (d : D) (e : E) → Pushes {E = D} a waiting before (Ok u) held now
    → Pushes {T = T} b held now (Err d) kept after → Pushes {T = T} (a ++ b) waiting before (Err e) last after
pushes-then-cut a b waiting held kept last before now after u d e one two = record {
  whole = tt;
  part = printed-cut (waiting ++ (a ++ b)) (waiting ++ a) b [] held before now after (sym (append_assoc waiting a b) ∙ sym (append-nil ((waiting ++ a) ++ b))) one.whole two.part;
}

-- the second of three was cut off
pub pushes-second : {T U D E : Type 0} (a b c x y waiting w1 w2 w3 : List ℕ) (s0 s1 s2 : SinkState) (u : U) (d : D) (e : E) → x ≡ a → y ≡ b
    → Pushes {E = D} x waiting s0 (Ok u) w1 s1 → Pushes {T = T} y w1 s1 (Err d) w2 s2 → Pushes {T = T} (a ++ (b ++ c)) waiting s0 (Err e) w3 s2
pushes-second {T = T} a b c x y waiting w1 w2 w3 s0 s1 s2 u d e xa yb one two =
    subst (λ text. Pushes {T = T} text waiting s0 (Err e) w3 s2) (ap₂ (λ p q. p ++ q) xa (ap (λ q. q ++ c) yb))
    (pushes-then-cut x (y ++ c) waiting w1 w2 w3 s0 s1 s2 u d e one (pushes-cut y c w1 w2 w2 s1 s2 d d two))

-- a refusal between two turns
pub way-stop : {T E : Type 0} (all rest waiting held last : List ℕ) (before now : SinkState) (e : E) → IsUnderWay all rest waiting before held now → Pushes {T = T} all waiting before (Err e) last now
way-stop all rest waiting held last before now e way = record {
  whole = tt;
  part = printed-stop (waiting ++ all) (waiting ++ way.done) rest held before now (ap (λ xs. waiting ++ xs) way.parts ∙ sym (append_assoc waiting way.done rest)) way.so_far;
}
