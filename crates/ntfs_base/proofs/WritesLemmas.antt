-- What writes leave.
use Rattle.std.proofs.Common.{◌≡◌, ℕ, List, [], ◌∷◌, ◌++◌, refl, ap, ◌∙◌, take, Result, Ok, Err, if◌then◌else◌, Bool, true, false}
use Rattle.ntfs_base.specs.Bytes.{overwrite}
use Rattle.ntfs_base.specs.Image.{ImageState}
use Rattle.ntfs_base.specs.Writes.{Write, content_after, after_writes, Wrote}

-- all of the first writes, and then all of the others
pub content_after-append : (front rest : List Write) (content : List ℕ)
    → content_after (front ++ rest) content ≡ content_after rest (content_after front content)
content_after-append [] rest content = refl
content_after-append (w ∷ ws) rest content = content_after-append ws rest (overwrite w.place w.bytes content)

after_writes-told : (told : Bool) (front rest : List Write) (content : List ℕ)
    → (if told then content_after (front ++ rest) content else content)
    ≡ (if told then content_after rest (if told then content_after front content else content) else (if told then content_after front content else content))
after_writes-told true front rest content = content_after-append front rest content
after_writes-told false front rest content = refl

pub after_writes-append : (front rest : List Write) (image : ImageState)
    → after_writes (front ++ rest) image ≡ after_writes rest (after_writes front image)
unfolding after_writes
after_writes-append front rest image =
    ap (λ c. record image { content = c }) (after_writes-told image.is_told front rest image.content)

same_if : (told : Bool) (content : List ℕ) → (if told then content else content) ≡ content
same_if true content = refl
same_if false content = refl

-- no writes change nothing
pub after_writes-nil : (image : ImageState) → after_writes [] image ≡ image
unfolding after_writes
after_writes-nil image = ap (λ c. record image { content = c }) (same_if image.is_told image.content)

after_writes-name : (ws : List Write) (image : ImageState) → (after_writes ws image).name ≡ image.name
unfolding after_writes
after_writes-name ws image = refl

-- writes keep the name
pub Wrote-name : {T E : Type 0} (ws : List Write) (old new : ImageState) (result : Result T E)
    → Wrote ws old result new → new.name ≡ old.name
Wrote-name ws old new (Ok x) is = ap (λ image. image.name) is.whole ∙ after_writes-name ws old
Wrote-name ws old new (Err e) is = ap (λ image. image.name) is.part.2 ∙ after_writes-name (take is.part.0 ws) old
