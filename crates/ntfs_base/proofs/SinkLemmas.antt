-- Puts: how a sink in memory meets what a sink promises, and how one put follows another.
use Rattle.std.proofs.Common.{◌≡◌, ◌≤◌, ◌+◌, ℕ, List, [], ◌++◌, length, take, min, refl, sym, ap, ◌∙◌, arith, length-append, append_assoc, Result, Ok, Err, Bool, true, false, Option, Some, None, if◌then◌else◌}
use Rattle.std.proofs.Math.Seq.{take-append-add}
use Rattle.std.proofs.lemmas.List.{take_min, take_all, take-append-le, append-nil}
use Rattle.ntfs_base.specs.Calls.{front_by}
use Rattle.ntfs_base.specs.Sink.{SinkState, Put, after_put}
use Rattle.ntfs_base.specs.declared.calls.Leaves.{Leaves}
use Rattle.ntfs_base.specs.declared.calls.Leaves.TheVariants as leaves

-- what goes of a put is a front of its bytes
pub front_by-take : (plan : Option Leaves) (bytes : List ℕ)
    → (k : ℕ) × (k ≤ length bytes) × (front_by plan bytes ≡ take k bytes)
front_by-take None bytes = (length bytes, omega arith, sym (take_all (length bytes) bytes (omega arith)))
front_by-take (Some leaves.Before) bytes = (0, omega arith, refl)
front_by-take (Some leaves.Asked) bytes = (length bytes, omega arith, sym (take_all (length bytes) bytes (omega arith)))
front_by-take (Some (leaves.Front n)) bytes = (min n (length bytes), omega arith, sym (take_min n bytes))

-- a sink that tells its content, after bytes were appended to it
abbrev pub told_sink : List ℕ → List ℕ → SinkState
told_sink content name = record { is_told = true; content = content; name = name }

pub put_whole : {T E : Type 0} (content name bytes after : List ℕ) (x : T) → after ≡ content ++ bytes
    → Put {E = E} bytes (told_sink content name) (Ok x) (told_sink after name)
unfolding after_put
put_whole content name bytes after x same = record { whole = rw same refl; part = tt }

pub put_front : {T E : Type 0} (plan : Option Leaves) (content name bytes after : List ℕ) (e : E)
    → after ≡ content ++ front_by plan bytes
    → Put {T = T} bytes (told_sink content name) (Err e) (told_sink after name)
unfolding after_put
put_front plan content name bytes after e same =
    let front = front_by-take plan bytes in
    record { whole = tt; part = (front.0, front.1, rw (same, front.2) refl) }

pub put_none : {T E : Type 0} (content name bytes after : List ℕ) (e : E) → after ≡ content
    → Put {T = T} bytes (told_sink content name) (Err e) (told_sink after name)
unfolding after_put
put_none content name bytes after e same =
    record { whole = tt; part = (0, omega arith, rw same (ap (λ c. told_sink c name) (simp append-nil))) }

after_put-told : (told : Bool) (content a b : List ℕ)
    → (if told then content ++ (a ++ b) else content)
    ≡ (if told then (if told then content ++ a else content) ++ b else (if told then content ++ a else content))
after_put-told true content a b = sym (append_assoc content a b)
after_put-told false content a b = refl

-- bytes that are put in two parts
pub after_put-append : (a b : List ℕ) (sink : SinkState) → after_put (a ++ b) sink ≡ after_put b (after_put a sink)
unfolding after_put
after_put-append a b sink = ap (λ c. record sink { content = c }) (after_put-told sink.is_told sink.content a b)

put_nothing : (told : Bool) (content : List ℕ) → (if told then content ++ [] else content) ≡ content
put_nothing true content = append-nil content
put_nothing false content = refl

-- no bytes change nothing
pub after_put-nil : (sink : SinkState) → after_put [] sink ≡ sink
unfolding after_put
after_put-nil sink = ap (λ c. record sink { content = c }) (put_nothing sink.is_told sink.content)

-- one put follows another
pub put_then : {T U E : Type 0} (a b : List ℕ) (first second third : SinkState) (x : U) (result : Result T E)
    → Put {E = E} a first (Ok x) second → Put b second result third → Put (a ++ b) first result third
put_then a b first second third x (Ok y) one two =
    record { whole = two.whole ∙ ap (after_put b) one.whole ∙ sym (after_put-append a b first); part = tt }
put_then a b first second third x (Err e) one two = record {
  whole = tt;
  part = (
    length a + two.part.0,
    omega (arith, two.part.1, length-append a b),
    two.part.2 ∙ ap (after_put (take two.part.0 b)) one.whole ∙ sym (after_put-append a (take two.part.0 b) first)
        ∙ ap (λ bytes. after_put bytes first) (sym (take-append-add a b two.part.0)),
  );
}

-- what isn't reached isn't put
pub put_cut : {T E : Type 0} (a b : List ℕ) (old new : SinkState) (e : E) → Put {T = T} a old (Err e) new
    → Put {T = T} (a ++ b) old (Err e) new
put_cut a b old new e is = record {
  whole = tt;
  part =
      (is.part.0, omega (arith, is.part.1, length-append a b), is.part.2 ∙ ap (λ bytes. after_put bytes old) (sym (take-append-le is.part.0 a b is.part.1)));
}

-- to put no bytes is to put nothing
pub put_no_bytes : {T E : Type 0} (sink : SinkState) (x : T) → Put {E = E} [] sink (Ok x) sink
put_no_bytes sink x = record { whole = sym (after_put-nil sink); part = tt }
