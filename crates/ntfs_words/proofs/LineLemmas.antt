-- What is known of a command that is simple and free, and of its lines.
use Rattle.std.proofs.Common.{◌≡◌, ◌&&◌, ◌==◌, length, arith, Bool, true, false, List, [], ◌∷◌, Ok, Err, refl}
use Rattle.std.proofs.lemmas.Bool.Decides.{nat_tests}
use Rattle.clap.specs.Words.{App, Kinds, Text, fault_of, is_simple, is_simple_and_free, matches_of}
use Rattle.clap.specs.declared.error.kind.ErrorKind.{ErrorKind}
use Rattle.ntfs_base.specs.declared.refusal.UsageKind.TheVariants as usage
use Rattle.ntfs_words.specs.Line.{line_of}
use Rattle.ntfs_words.specs.declared.request.WordsFault.TheVariants.{Usage}

first : (a b : Bool) → a && b ≡ true → a ≡ true
first true b is = refl
first false b is = is

pub free_is_simple : (app : App) → is_simple_and_free app ≡ true → is_simple app ≡ true
free_is_simple app is = first (is_simple app) _ is

pub taken : (app : App) (words : List Text) → fault_of app words ≡ [] → line_of app words ≡ Ok (matches_of app words)
unfolding line_of
taken app words none = rw none refl

pub refused : (app : App) (words : List Text) (kind : ErrorKind) (kinds : Kinds) → fault_of app words ≡ kind ∷ kinds → line_of app words ≡ Err (Usage usage.Line)
unfolding line_of
refused app words kind kinds some =
    let faulty : (length (fault_of app words) == 0) ≡ false = rw some (grind (arith, nat_tests)) in
    rw faulty refl
