-- What a file is after it was cut or grew.
use Rattle.std.proofs.Common.{◌≡◌, ℕ, List, length, take, refl, ap, ◌∙◌, inl, inr, arith, length-append, Result, Ok, Err}
use Rattle.std.proofs.lemmas.List.{length-take, length-replicate}
use Rattle.ntfs_base.specs.FileStream.{sink_of}
use Rattle.ntfs_base.specs.Image.{ImageState}
use Rattle.ntfs_base.specs.Sink.{Put, after_put}
use Rattle.ntfs_base.specs.Growth.{resize_of, after_set_len, after_append, SetLength, Appended}

-- a content at another length has it
pub length-resized : (len : ℕ) (content : List ℕ) → length (resize_of len content) ≡ len
unfolding resize_of
length-resized len content = simp (length-append, length-take, length-replicate) (omega arith)

after_set_len-name : (len : ℕ) (file : ImageState) → (after_set_len len file).name ≡ file.name
unfolding after_set_len
after_set_len-name len file = refl

-- another length keeps the name
pub SetLength-name : {T E : Type 0} (len : ℕ) (old new : ImageState) (result : Result T E)
    → SetLength len old result new → new.name ≡ old.name
SetLength-name len old new (Ok x) is = ap (λ file. file.name) is.whole ∙ after_set_len-name len old
SetLength-name len old new (Err e) is =
    elim is.part [ inl same ↦ ap (λ file. file.name) same | inr asked ↦ ap (λ file. file.name) asked ∙ after_set_len-name len old ]

after_append-name : (bytes : List ℕ) (file : ImageState) → (after_append bytes file).name ≡ file.name
unfolding after_append
after_append-name bytes file = refl

-- bytes at the end keep the name
pub Appended-name : {T E : Type 0} (bytes : List ℕ) (old new : ImageState) (result : Result T E)
    → Appended bytes old result new → new.name ≡ old.name
Appended-name bytes old new (Ok x) is = ap (λ file. file.name) is.whole ∙ after_append-name bytes old
Appended-name bytes old new (Err e) is = ap (λ file. file.name) is.part.2 ∙ after_append-name (take is.part.0 bytes) old

sink_of-append : (bytes : List ℕ) (file : ImageState)
    → sink_of (after_append bytes file) ≡ after_put bytes (sink_of file)
unfolding after_append after_put
sink_of-append bytes file = refl

-- what is appended to a file is put into the sink over it
pub put_appended : {T E : Type 0} (bytes : List ℕ) (old new : ImageState) (result : Result T E)
    → Appended bytes old result new → Put bytes (sink_of old) result (sink_of new)
put_appended bytes old new (Ok x) is = record { whole = ap sink_of is.whole ∙ sink_of-append bytes old; part = tt }
put_appended bytes old new (Err e) is =
    record {
      whole = tt;
      part = (is.part.0, is.part.1, ap sink_of is.part.2 ∙ sink_of-append (take is.part.0 bytes) old);
    }
