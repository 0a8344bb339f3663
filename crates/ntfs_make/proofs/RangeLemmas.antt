-- One more number of a range.
use Rattle.std.proofs.Common.{◌≡◌, ◌+◌, ◌*◌, ◌%◌, ℕ, zero, suc, List, [], ◌∷◌, ◌++◌, map, refl, ap, ◌∙◌, zero-add, add-one, arith}
use Rattle.std.specs.Prelude.{flat_map}
use Rattle.std.specs.List.{range_with_len}
use Rattle.std.proofs.lemmas.List.{append-nil}
use Rattle.std.proofs.lemmas.List.FromFn.{map-range_with_len_more}
use Rattle.std.proofs.lemmas.Grind.{flat_map-append}
use Rattle.byteorder.specs.Endian.{little_bytes}
use Rattle.ntfs_make.specs.declared.shape.Shape.{Shape}
use Rattle.ntfs_make.specs.Streams.{counting_bytes, bitmap_bytes, byte_of}
use Rattle.ntfs_make.specs.UpCase.{up_case_bytes, upper}

range-suc : (a n : ℕ) → range_with_len a (suc n) ≡ range_with_len a n ++ (a + n) ∷ []
range-suc a zero = ap (λ k. k ∷ []) (omega arith)
range-suc a (suc n) =
    let rest = range-suc (a + 1) n in
    let last : a + 1 + n ≡ a + suc n = omega arith in
    ap (λ ks. a ∷ ks) (rest ∙ ap (λ k. range_with_len (a + 1) n ++ k ∷ []) last)

range-more : (n : ℕ) → range_with_len 0 (n + 1) ≡ range_with_len 0 n ++ n ∷ []
range-more n = ap (range_with_len 0) (add-one n) ∙ range-suc 0 n ∙ ap (λ k. range_with_len 0 n ++ k ∷ []) (zero-add n)

flat_map-range-more : (f : ℕ → List ℕ) (n : ℕ) → flat_map f (range_with_len 0 (n + 1)) ≡ flat_map f (range_with_len 0 n) ++ f n
flat_map-range-more f n =
    ap (flat_map f) (range-more n) ∙ flat_map-append f (range_with_len 0 n) (n ∷ [])
    ∙ ap (λ bytes. flat_map f (range_with_len 0 n) ++ bytes) (append-nil (f n))

map-range-more : (f : ℕ → ℕ) (n : ℕ) → map f (range_with_len 0 (n + 1)) ≡ map f (range_with_len 0 n) ++ f n ∷ []
map-range-more f n = map-range_with_len_more f 0 n n (zero-add n)

pub counting_more : (first n : ℕ) → counting_bytes first (n + 1) ≡ counting_bytes first n ++ ((first + n) % 256) ∷ []
unfolding counting_bytes
counting_more first n = map-range-more (λ place. (first + place) % 256) n

pub counting_none : (first : ℕ) → counting_bytes first 0 ≡ []
unfolding counting_bytes
counting_none first = refl

pub up_case_more : (n : ℕ) → up_case_bytes (n + 1) ≡ up_case_bytes n ++ little_bytes 2 (upper n)
unfolding up_case_bytes
up_case_more n = flat_map-range-more (λ unit. little_bytes 2 (upper unit)) n

pub up_case_none : up_case_bytes 0 ≡ []
unfolding up_case_bytes
up_case_none = refl

pub bitmap_more : (shape : Shape) (n : ℕ) → bitmap_bytes shape (n + 1) ≡ bitmap_bytes shape n ++ byte_of shape (8 * n) ∷ []
unfolding bitmap_bytes
bitmap_more shape n = map-range-more (λ place. byte_of shape (8 * place)) n

pub bitmap_none : (shape : Shape) → bitmap_bytes shape 0 ≡ []
unfolding bitmap_bytes
bitmap_none shape = refl
