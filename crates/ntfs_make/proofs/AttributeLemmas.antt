-- Attributes whose instances count up.
use Rattle.std.proofs.Common.{◌≡◌, ◌+◌, ℕ, List, [], ◌∷◌, ◌++◌, length, sym, ap, ◌∙◌, append_assoc, append-nil, arith}
use Rattle.ntfs_make.specs.declared.shape.Shape.{Shape}
use Rattle.ntfs_make.specs.Table.{AttributeValue}
use Rattle.ntfs_make.specs.Attributes.{attribute_bytes, attributes_bytes}

pub attributes_bytes-more : (shape : Shape) (instance next : ℕ) (front : List AttributeValue) (last : AttributeValue) → instance + length front ≡ next → attributes_bytes shape instance (front ++ last ∷ []) ≡ attributes_bytes shape instance front ++ attribute_bytes shape next last
attributes_bytes-more shape instance next [] last is =
    let here : instance ≡ next = omega arith in
    append-nil (attribute_bytes shape instance last) ∙ ap (λ i. attribute_bytes shape i last) here
attributes_bytes-more shape instance next (first ∷ others) last is =
    let rest = attributes_bytes-more shape (instance + 1) next others last (omega arith) in
    ap (λ bytes. attribute_bytes shape instance first ++ bytes) rest
    ∙ sym (append_assoc (attribute_bytes shape instance first) (attributes_bytes shape (instance + 1) others) (attribute_bytes shape next last))
