-- The entries of a list that are right.
use Rattle.std.proofs.Common.{◌≡◌, ◌∙◌, List, [], ◌∷◌, Result, Ok, Err, ap, refl}
use Rattle.std.specs.Result.{result_map_both}
use Rattle.ntfs_attrlist.specs.Entry.{Listed}
use Rattle.ntfs_attrlist.specs.Reading.{all_or_first}
use Rattle.ntfs_attrlist.specs.declared.fault.BadEntry.{BadEntry}
use Rattle.ntfs_check_records.specs.Entries.{good_entries}

pub good-entry : (items rest : List (Result Listed BadEntry)) (entry : Listed) → items ≡ Ok entry ∷ rest → good_entries items ≡ entry ∷ good_entries rest
unfolding good_entries
good-entry items rest entry is = ap good_entries is

pub good-fault : (items rest : List (Result Listed BadEntry)) (fault : BadEntry) → items ≡ Err fault ∷ rest → good_entries items ≡ good_entries rest
unfolding good_entries
good-fault items rest fault is = ap good_entries is

pub good-end : (items : List (Result Listed BadEntry)) → items ≡ [] → good_entries items ≡ []
unfolding good_entries
good-end items is = ap good_entries is

good-first : (entry : Listed) (right : List Listed) (rest : Result (List Listed) BadEntry) (entries : List Listed) → ((others : List Listed) → rest ≡ Ok others → right ≡ others)
    → result_map_both (λ xs. entry ∷ xs) (λ (e : BadEntry). e) rest ≡ Ok entries → entry ∷ right ≡ entries
good-first entry right (Ok others) entries more is =
    let same : ◌≡◌ {A = Result (List Listed) BadEntry} (Ok (entry ∷ others)) (Ok entries) = is in
    let whole : entry ∷ others ≡ entries = cc in
    ap (λ xs. entry ∷ xs) (more others refl) ∙ whole
good-first entry right (Err fault) entries more is = let same : ◌≡◌ {A = Result (List Listed) BadEntry} (Err fault) (Ok entries) = is in absurd cc

-- where all are right, these are all
pub good-all : (items : List (Result Listed BadEntry)) (entries : List Listed) → all_or_first items ≡ Ok entries → good_entries items ≡ entries
unfolding good_entries
good-all [] entries is = let here : ◌≡◌ {A = Result (List Listed) BadEntry} (Ok []) (Ok entries) = is in cc
good-all (Ok entry ∷ items) entries is = good-first entry (good_entries items) (all_or_first items) entries (good-all items) is
good-all (Err fault ∷ items) entries is = let here : ◌≡◌ {A = Result (List Listed) BadEntry} (Err fault) (Ok entries) = is in absurd cc
