-- What ntfsinfo makes of words of any kind.
use Rattle.std.proofs.Common.{◌≡◌, ◌==◌, Bool, true, false, List, [], ◌∷◌, ◌++◌, refl, codes, Ok, Err, Option, Some, None, ℕ}
use Rattle.clap.specs.Words.{Kinds, Text, fault_of, matches_of}
use Rattle.clap.specs.declared.error.kind.ErrorKind.{ErrorKind}
use Rattle.ntfs_base.specs.declared.refusal.UsageKind.TheVariants as usage
use Rattle.ntfs_words.specs.declared.request.WordsFault.TheVariants.{Usage}
use Rattle.clap.proofs.OnLiterals.{clap_on_literals}
use Rattle.ntfs_words.proofs.LineLemmas.{refused, taken}
use Rattle.ntfs_words.proofs.SpellingLemmas.{equals_first, first_differs, hyphen_first, nothing_spells}
use Rattle.ntfs_words.specs.Info.{info_app, info_asked, info_request}
use Rattle.ntfs_words.specs.Line.{begins_with_hyphen, is_on, text_of, word_of}
use Rattle.ntfs_words.specs.Numbers.{number_of}
use Rattle.ntfs_words.specs.Values.{number_in}
use Rattle.ntfs_words.specs.declared.request.Request.TheVariants as request

-- the words are taken, and say this much
pub record Says (words : List Text) (image : Text) (number : Option Text) (mft : Bool) : Type 0 where
  pub taken : fault_of info_app words ≡ []
  pub image_is : text_of (codes "IMAGE") (matches_of info_app words) ≡ Some image
  pub number_is : text_of (codes "inode") (matches_of info_app words) ≡ number
  pub mft_is : is_on (codes "mft") (matches_of info_app words) ≡ mft

pub asks_number : (words : List Text) (image number : Text) (n : ℕ) → Says words image (Some number) false → number_of number ≡ Some n
    → info_asked words ≡ Ok (request.Info false (Some n) image)
unfolding info_asked info_request word_of number_in
asks_number words image number n says is = rw (taken info_app words says.taken, says.image_is, says.number_is, says.mft_is, is) refl

asks_mft : (words : List Text) (image : Text) → Says words image None true → info_asked words ≡ Ok (request.Info true None image)
unfolding info_asked info_request word_of number_in
asks_mft words image says = rw (taken info_app words says.taken, says.image_is, says.number_is, says.mft_is) refl

faulty : (words : List Text) (kind : ErrorKind) (kinds : Kinds) → fault_of info_app words ≡ kind ∷ kinds → info_asked words ≡ Err (Usage usage.Line)
unfolding info_asked
faulty words kind kinds some = rw (refused info_app words kind kinds some) refl

says_apart : (word image number : Text) (d : ℕ) → (d == 45) ≡ false → begins_with_hyphen image ≡ false
    → Says (word ∷ codes "-i" ∷ (d ∷ number) ∷ image ∷ []) image (Some (d ∷ number)) false
unfolding info_app clap_on_literals is_on begins_with_hyphen
says_apart word [] number d digit plain = record { taken = simp digit; image_is = simp digit; number_is = simp digit; mft_is = simp digit }
says_apart word (c ∷ image) number d digit plain =
    record { taken = simp (digit, plain); image_is = simp (digit, plain); number_is = simp (digit, plain); mft_is = simp (digit, plain) }

says_after : (word image number : Text) (d : ℕ) → (d == 45) ≡ false → begins_with_hyphen image ≡ false
    → Says (word ∷ image ∷ codes "-i" ∷ (d ∷ number) ∷ []) image (Some (d ∷ number)) false
unfolding info_app clap_on_literals is_on begins_with_hyphen
says_after word [] number d digit plain = record { taken = simp digit; image_is = simp digit; number_is = simp digit; mft_is = simp digit }
says_after word (c ∷ image) number d digit plain =
    record { taken = simp (digit, plain); image_is = simp (digit, plain); number_is = simp (digit, plain); mft_is = simp (digit, plain) }

says_joined : (word image number : Text) (d : ℕ) → (d == 61) ≡ false → begins_with_hyphen image ≡ false
    → Says (word ∷ (codes "-i" ++ (d ∷ number)) ∷ image ∷ []) image (Some (d ∷ number)) false
unfolding info_app clap_on_literals is_on begins_with_hyphen
says_joined word [] number d digit plain = record { taken = simp digit; image_is = simp digit; number_is = simp digit; mft_is = simp digit }
says_joined word (c ∷ image) number d digit plain =
    record { taken = simp (digit, plain); image_is = simp (digit, plain); number_is = simp (digit, plain); mft_is = simp (digit, plain) }

says_equals : (word image number : Text) → begins_with_hyphen image ≡ false
    → Says (word ∷ (codes "-i=" ++ number) ∷ image ∷ []) image (Some number) false
unfolding info_app clap_on_literals is_on begins_with_hyphen
says_equals word [] number plain = record { taken = refl; image_is = refl; number_is = refl; mft_is = refl }
says_equals word (c ∷ image) number plain = record { taken = simp plain; image_is = simp plain; number_is = simp plain; mft_is = simp plain }

says_long : (word image number : Text) → begins_with_hyphen image ≡ false
    → Says (word ∷ (codes "--inode=" ++ number) ∷ image ∷ []) image (Some number) false
unfolding info_app clap_on_literals is_on begins_with_hyphen
says_long word [] number plain = record { taken = refl; image_is = refl; number_is = refl; mft_is = refl }
says_long word (c ∷ image) number plain = record { taken = simp plain; image_is = simp plain; number_is = simp plain; mft_is = simp plain }

says_behind : (word image : Text) → Says (word ∷ codes "-m" ∷ codes "--" ∷ image ∷ []) image None true
unfolding info_app clap_on_literals is_on
says_behind word image = record { taken = refl; image_is = refl; number_is = refl; mft_is = refl }

pub apart : (word number image : Text) (n : ℕ) → number_of number ≡ Some n → begins_with_hyphen image ≡ false
    → info_asked (word ∷ codes "-i" ∷ number ∷ image ∷ []) ≡ Ok (request.Info false (Some n) image)
apart word [] image n is plain = absurd (nothing_spells n is)
apart word (d ∷ number) image n is plain =
    asks_number _ image (d ∷ number) n (says_apart word image number d (first_differs 45 d number n hyphen_first is) plain) is

pub after : (word number image : Text) (n : ℕ) → number_of number ≡ Some n → begins_with_hyphen image ≡ false
    → info_asked (word ∷ image ∷ codes "-i" ∷ number ∷ []) ≡ Ok (request.Info false (Some n) image)
after word [] image n is plain = absurd (nothing_spells n is)
after word (d ∷ number) image n is plain =
    asks_number _ image (d ∷ number) n (says_after word image number d (first_differs 45 d number n hyphen_first is) plain) is

pub joined : (word number image : Text) (n : ℕ) → number_of number ≡ Some n → begins_with_hyphen image ≡ false
    → info_asked (word ∷ (codes "-i" ++ number) ∷ image ∷ []) ≡ Ok (request.Info false (Some n) image)
joined word [] image n is plain = absurd (nothing_spells n is)
joined word (d ∷ number) image n is plain =
    asks_number _ image (d ∷ number) n (says_joined word image number d (first_differs 61 d number n equals_first is) plain) is

pub equals : (word number image : Text) (n : ℕ) → number_of number ≡ Some n → begins_with_hyphen image ≡ false
    → info_asked (word ∷ (codes "-i=" ++ number) ∷ image ∷ []) ≡ Ok (request.Info false (Some n) image)
equals word number image n is plain = asks_number _ image number n (says_equals word image number plain) is

pub long : (word number image : Text) (n : ℕ) → number_of number ≡ Some n → begins_with_hyphen image ≡ false
    → info_asked (word ∷ (codes "--inode=" ++ number) ∷ image ∷ []) ≡ Ok (request.Info false (Some n) image)
long word number image n is plain = asks_number _ image number n (says_long word image number plain) is

pub behind : (word image : Text) → info_asked (word ∷ codes "-m" ∷ codes "--" ∷ image ∷ []) ≡ Ok (request.Info true None image)
behind word image = asks_mft _ image (says_behind word image)

pub twice : (word : Text) (words : List Text) → info_asked (word ∷ codes "-m" ∷ codes "-m" ∷ words) ≡ Err (Usage usage.Line)
unfolding info_app clap_on_literals
twice word words = faulty (word ∷ codes "-m" ∷ codes "-m" ∷ words) _ _ refl
