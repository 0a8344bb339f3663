-- The names of ntfsclone, as they are read, are those of two files.
use Rattle.std.proofs.Common.{◌≡◌, ◌||◌, ℕ, Bool, true, false, List, refl, sym, ap, subst, ◌∙◌, Some, Result, Ok, Err, IfOk, not, codes}
use Rattle.ntfs_base.specs.Frames.{must}
use Rattle.ntfs_words.specs.Answers.{tool_for}
use Rattle.ntfs_words.specs.Clone.{are_same, clone_app, clone_asked, clone_request, has_clash, has_gap, output_word}
use Rattle.ntfs_words.specs.Line.{Reads, line_of, text_of}
use Rattle.ntfs_words.specs.Values.{combination, same_name_usage}
use Rattle.ntfs_words.specs.Words.{asked, tool_asked}
use Rattle.ntfs_words.specs.Tool.{tool_of}
use Rattle.ntfs_words.specs.declared.request.Request.{Request}
use Rattle.ntfs_words.specs.declared.request.Request.TheVariants as request
use Rattle.ntfs_words.specs.declared.request.WordsFault.{WordsFault}
use Rattle.ntfs_run.specs.Command.{HasApartNames}
use Rattle.ntfs_run.proofs.ToolLemmas.{bind_ok, must_ok}

not_true : (b : Bool) → not b ≡ true → b ≡ false
not_true true is = absurd cc
not_true false is = refl

same_request : (a b : Request) (r : Result Request WordsFault) → r ≡ Ok a → r ≡ Ok b → HasApartNames a → HasApartNames b
same_request a b r one other is = let equal : a ≡ b = cc in subst HasApartNames equal is

apart_asked : (words : List (List ℕ)) (r : Request) → clone_asked words ≡ Ok r → HasApartNames r
unfolding clone_asked clone_request
apart_asked words r is =
    let line = bind_ok (line_of clone_app words) clone_request r is in
    let rows = line.0 in
    let fit = bind_ok (must (not (has_clash rows || has_gap rows)) combination) _ r line.2 in
    let other = bind_ok (must (not (are_same (text_of (codes "SOURCE") rows) (output_word rows))) same_name_usage) _ r fit.2 in
    same_request _ r _ refl other.2 (not_true (are_same (text_of (codes "SOURCE") rows) (output_word rows)) (must_ok _ same_name_usage other.0 other.1))

apart_of : (words : List (List ℕ)) (r : Request) → asked words ≡ Ok r → tool_of words ≡ Some (tool_for r) → HasApartNames r
apart_of words (request.Clone save restore no_action force output overwrite source) is named =
    apart_asked words (request.Clone save restore no_action force output overwrite source) (ap (λ tool. tool_asked tool words) (sym named) ∙ is)
apart_of words other is named = tt

pub apart_read : (words : List (List ℕ)) (result : Result Request WordsFault) → Reads (asked words) result → IfOk result (λ r. tool_of words ≡ Some (tool_for r))
    → IfOk result HasApartNames
apart_read words (Ok r) reads named = apart_of words r reads named
apart_read words (Err fault) reads named = tt
