-- The directories that a listing is in: one more below, and one less.
use Rattle.std.proofs.Common.{BTreeSet, ◌≡◌, ◌-◌, ◌<◌, ◌≤◌, ◌+◌, ℕ, suc, Bool, true, false, List, [], ◌∷◌, ◌++◌, length, take, Result, Ok, Err, refl, sym, ap, subst, ◌∙◌, arith, length-append}
use Rattle.std.proofs.Math.Seq.{take-append_seam}
use Rattle.ntfs_base.specs.Frames.{refused_as}
use Rattle.ntfs_directory.specs.Directory.{DirectoryWalk, begun_walk}
use Rattle.ntfs_directory.specs.State.{left_of}
use Rattle.ntfs_volume.specs.Opened.{Opened}
use Rattle.ntfs_volume.specs.declared.fault.VolumeFault.{VolumeFault}
use Rattle.ntfs_show.specs.Descent.{AreWalked, IsDescent, IsBack, MeetsOne, above_descent, after_present, around_present, below_descent, descent_most, levels_front, left_above, left_in_level, left_of_descent, more_of_descent, unmet}
use Rattle.ntfs_print.specs.Fault.{gather_refusal}
use Rattle.ntfs_show.specs.ListState.{IsWalked, left_to_list}
use Rattle.ntfs_show.specs.Listing.{Enter, Next, also_met, front_below, was_entered, list_directory, list_entries, list_of, list_walk, nothing_more, record_numbers}
use Rattle.ntfs_print.specs.Printing.{Printing, prints, stops}
use Rattle.ntfs_print.specs.declared.fault.ShowFault.{ShowFault}
use Rattle.ntfs_show.specs.declared.list_options.ListOptions.{ListOptions}
use Rattle.ntfs_show.specs.declared.listing.Descent.{Descent}
use Rattle.ntfs_show.specs.declared.listing.Level.{Level}
use Rattle.ntfs_show.proofs.UnmetLemmas.{unmet-less, unmet-most}

pub front_of-append : (front : List ℕ) (xs : List Level) (level : Level)
    → levels_front front (xs ++ level ∷ []) ≡ levels_front front xs ++ level.name.items
front_of-append front [] level = refl
front_of-append front (x ∷ xs) level = front_of-append (front ++ x.name.items) xs level

pub left_above-append : (o : ListOptions) (v : Opened) (image : List ℕ) (levels : ℕ) (front : List ℕ) (xs : List Level)
    (level : Level) (next : Next) → left_above o v image levels front (xs ++ level ∷ []) next
    ≡ left_in_level o v image (levels - length xs) (levels_front front xs ++ level.name.items) level
    (left_above o v image levels front xs next)
left_above-append o v image levels front [] level next =
    let all : levels ≡ levels - 0 = omega arith in
    ap (λ (n : ℕ). left_in_level o v image n (front ++ level.name.items) level next) all
left_above-append o v image levels front (x ∷ xs) level next =
    let fewer : levels - 1 - length xs ≡ levels - suc (length xs) = omega arith in
    left_above-append o v image (levels - 1) (front ++ x.name.items) xs level
    (left_in_level o v image levels (front ++ x.name.items) x next)
    ∙ ap (λ (n : ℕ). left_in_level o v image n (levels_front (front ++ x.name.items) xs ++ level.name.items) level
    (left_above o v image (levels - 1) (front ++ x.name.items) xs
    (left_in_level o v image levels (front ++ x.name.items) x next))) fewer

pub AreWalked-append : (v : Opened) (xs : List Level) (level : Level) → AreWalked v xs
    → IsWalked v level.number level.directory → AreWalked v (xs ++ level ∷ [])
AreWalked-append v [] level all last = (last, tt)
AreWalked-append v (x ∷ xs) level all last = (all.0, AreWalked-append v xs level all.1 last)

pub AreWalked-parts : (v : Opened) (xs : List Level) (level : Level) → AreWalked v (xs ++ level ∷ [])
    → AreWalked v xs × IsWalked v level.number level.directory
AreWalked-parts v [] level all = (tt, all.0)
AreWalked-parts v (x ∷ xs) level all =
    let rest = AreWalked-parts v xs level all.1 in ((all.0, rest.0), rest.1)

-- ---- a walk that begins, or is refused

pub walk-found : (d : ℕ) (begun : Result DirectoryWalk VolumeFault) (walk : DirectoryWalk)
    → refused_as (gather_refusal d) begun ≡ Ok walk → begun ≡ Ok walk
walk-found d (Ok found) walk is = let same : found ≡ walk = cc in ap (λ (w : DirectoryWalk). Ok w) same
walk-found d (Err fault) walk is = absurd cc

pub walk-refused : (o : ListOptions) (v : Opened) (image : List ℕ) (enter : Enter) (front : List ℕ) (d : ℕ)
    (begun : Result DirectoryWalk VolumeFault) (next : Next) (met : List ℕ) (fault : ShowFault)
    → refused_as (gather_refusal d) begun ≡ Err fault → list_walk o v image enter front d begun next met ≡ stops fault
walk-refused o v image enter front d (Ok found) next met fault is = absurd cc
walk-refused o v image enter front d (Err f) next met fault is =
    let same : gather_refusal d f ≡ fault = cc in ap (λ (e : ShowFault). stops e) same

-- where a level is left, a directory is its walk
pub directory-walk : (o : ListOptions) (v : Opened) (image : List ℕ) (levels k : ℕ) (front : List ℕ) (d : ℕ) (next : Next)
    (met : List ℕ) → levels ≡ suc k → list_directory o v image levels front d next met
    ≡ list_walk o v image (list_directory o v image k) front d (begun_walk v.geometry v.map image d) next met
unfolding list_directory
directory-walk o v image levels k front d next met more = rw more refl

-- ---- one more below

-- what is left of the present one behind the entry of a directory
abbrev pub behind_below : ListOptions → Opened → List ℕ → ℕ → Descent → Next
behind_below o v image levels d =
    left_to_list o v image (around_present o v image levels d) d.path.items d.present.directory

-- a directory was entered
pub descent-entered : (o : ListOptions) (v : Opened) (image : List ℕ) (levels number : ℕ) (old new : Descent)
    → length old.above.items < levels
    → old.path.items ≡ levels_front [] old.above.items ++ old.present.name.items
    → new.above.items ≡ old.above.items ++ old.present ∷ []
    → new.path.items ≡ front_below old.path.items old.present.directory.walk.key
    → new.met.keys ≡ also_met number old.met.keys → new.present.directory.number ≡ number
    → refused_as (gather_refusal number) (begun_walk v.geometry v.map image number)
    ≡ Ok (left_of v.geometry image new.present.directory)
    → below_descent o v image levels old number ≡ left_of_descent o v image levels new
unfolding left_to_list
descent-entered o v image levels number old new few front above path met bears begun =
    let k = levels - suc (length old.above.items) in
    let more : levels - length old.above.items ≡ suc k = omega (arith, few) in
    let fewer : levels - length new.above.items ≡ k =
    omega (arith, ap length above, length-append old.above.items (old.present ∷ [])) in
    let next : after_present o v image levels new ≡ behind_below o v image levels old =
    ap (λ (xs : List Level). left_above o v image levels [] xs nothing_more) above
    ∙ left_above-append o v image levels [] old.above.items old.present nothing_more
    ∙ ap (λ (f : List ℕ). left_in_level o v image (levels - length old.above.items) f old.present
    (after_present o v image levels old)) (sym front) in
    let below = front_below old.path.items old.present.directory.walk.key in
    let now = also_met number old.met.keys in
    let walk = left_of v.geometry image new.present.directory in
    let opened : below_descent o v image levels old number
    ≡ list_entries o v image (list_directory o v image k) below number walk.entries walk.fault
    (behind_below o v image levels old) now =
    directory-walk o v image (levels - length old.above.items) k below number (behind_below o v image levels old) now
    more
    ∙ ap (λ (w : Result DirectoryWalk VolumeFault). list_walk o v image (list_directory o v image k) below number w
    (behind_below o v image levels old) now) (walk-found number _ walk begun) in
    let level : (n : ℕ) → n ≡ k → (f : List ℕ) → f ≡ below → (r : ℕ) → r ≡ number → (b : Next)
    → b ≡ behind_below o v image levels old → (m : List ℕ) → m ≡ now
    → list_entries o v image (list_directory o v image k) below number walk.entries walk.fault
    (behind_below o v image levels old) now
    ≡ list_entries o v image (list_directory o v image n) f r walk.entries walk.fault b m =
    λ n a f b r c x e m i. rw (a, b, c, e, i) refl in
    opened ∙ level (levels - length new.above.items) fewer new.path.items path new.present.directory.number bears
    (after_present o v image levels new) next new.met.keys met

-- it is refused
pub descent-refused : (o : ListOptions) (v : Opened) (image : List ℕ) (levels number : ℕ) (old : Descent)
    (fault : ShowFault) → length old.above.items < levels
    → refused_as (gather_refusal number) (begun_walk v.geometry v.map image number) ≡ Err fault
    → below_descent o v image levels old number ≡ stops fault
descent-refused o v image levels number old fault few refused =
    let k = levels - suc (length old.above.items) in
    let more : levels - length old.above.items ≡ suc k = omega (arith, few) in
    let below = front_below old.path.items old.present.directory.walk.key in
    let now = also_met number old.met.keys in
    directory-walk o v image (levels - length old.above.items) k below number (behind_below o v image levels old) now more
    ∙ walk-refused o v image (list_directory o v image k) below number (begun_walk v.geometry v.map image number)
    (behind_below o v image levels old) now fault refused

-- there is a level for a number that wasn't met
pub descent-few : (v : Opened) (levels number : ℕ) (old : Descent) (met : List ℕ) → IsDescent v levels old
    → number < levels → was_entered number old.met.keys ≡ false → MeetsOne number old.met.keys met
    → (length old.above.items < levels) × (unmet levels met < unmet levels old.met.keys)
descent-few v levels number old met is within apart one =
    let less = unmet-less levels number old.met.keys met one within apart in
    (omega (arith, less, is.levels_left), less)

pub descent-kept : (v : Opened) (levels number : ℕ) (old new : Descent) → IsDescent v levels old → number < levels
    → was_entered number old.met.keys ≡ false → MeetsOne number old.met.keys new.met.keys
    → new.above.items ≡ old.above.items ++ old.present ∷ []
    → new.path.items ≡ old.path.items ++ new.present.name.items
    → IsWalked v new.present.number new.present.directory
    → IsDescent v levels new
descent-kept v levels number old new is within apart one above path walked =
    let less = (descent-few v levels number old new.met.keys is within apart one).1 in
    record {
      present = walked;
      above = subst (AreWalked v) (sym above) (AreWalked-append v old.above.items old.present is.above is.present);
      path = path ∙ ap (λ (f : List ℕ). f ++ new.present.name.items) (is.path
          ∙ sym (front_of-append [] old.above.items old.present)
          ∙ ap (levels_front []) (sym above));
      levels_left = omega (arith, less, is.levels_left, ap length above, length-append old.above.items (old.present ∷ []));
    }

pub descent-fewer : (v : Opened) (levels number : ℕ) (old new : Descent) → IsDescent v levels old → number < levels
    → was_entered number old.met.keys ≡ false → MeetsOne number old.met.keys new.met.keys
    → new.above.items ≡ old.above.items ++ old.present ∷ []
    → descent_most levels new < descent_most levels old
descent-fewer v levels number old new is within apart one above =
    let less = (descent-few v levels number old new.met.keys is within apart one).1 in
    omega (arith, less, ap length above, length-append old.above.items (old.present ∷ []))

-- ---- one less

front-behind : (old new : Descent) → old.path.items ≡ levels_front [] old.above.items ++ old.present.name.items
    → IsBack old new → new.path.items ≡ levels_front [] new.above.items ++ new.present.name.items
front-behind old new front up =
    let all = levels_front [] old.above.items in
    let long : length old.path.items - length old.present.name.items ≡ length all =
    omega (arith, ap length front, length-append all old.present.name.items) in
    up.path ∙ ap (λ (n : ℕ). take n old.path.items) long ∙ ap (take (length all)) front
    ∙ take-append_seam all old.present.name.items
    ∙ ap (levels_front []) up.above ∙ front_of-append [] new.above.items new.present

pub descent-up : (v : Opened) (levels : ℕ) (old new : Descent) → IsDescent v levels old → IsBack old new
    → IsDescent v levels new
descent-up v levels old new is up =
    let parts = AreWalked-parts v new.above.items new.present (subst (AreWalked v) up.above is.above) in
    record {
      present = parts.1;
      above = parts.0;
      path = front-behind old new is.path up;
      levels_left = omega (
        arith,
        is.levels_left,
        ap (λ (m : BTreeSet ℕ). unmet levels m.keys) up.met,
        ap length up.above,
        length-append new.above.items (new.present ∷ []),
      );
    }

pub descent-up-fewer : (levels : ℕ) (old new : Descent) → IsBack old new → descent_most levels new < descent_most levels old
descent-up-fewer levels old new up =
    omega (
      arith,
      ap (λ (m : BTreeSet ℕ). unmet levels m.keys) up.met,
      ap length up.above,
      length-append new.above.items (new.present ∷ []),
    )

pub descent-left : (o : ListOptions) (v : Opened) (image : List ℕ) (levels : ℕ) (old new : Descent)
    → old.path.items ≡ levels_front [] old.above.items ++ old.present.name.items → IsBack old new
    → above_descent o v image levels old ≡ left_of_descent o v image levels new
descent-left o v image levels old new front up =
    let next : after_present o v image levels old
    ≡ left_in_level o v image (levels - length new.above.items) new.path.items new.present
    (after_present o v image levels new) =
    ap (λ (xs : List Level). left_above o v image levels [] xs nothing_more) up.above
    ∙ left_above-append o v image levels [] new.above.items new.present nothing_more
    ∙ ap (λ (f : List ℕ). left_in_level o v image (levels - length new.above.items) f new.present
    (after_present o v image levels new)) (sym (front-behind old new front up)) in
    ap (λ (n : Next). n old.met.keys) next
    ∙ ap (λ (m : BTreeSet ℕ). left_in_level o v image (levels - length new.above.items) new.path.items new.present
    (after_present o v image levels new) m.keys) (sym up.met)

pub descent-over : (o : ListOptions) (v : Opened) (image : List ℕ) (levels : ℕ) (old : Descent) → old.above.items ≡ []
    → above_descent o v image levels old ≡ prints []
descent-over o v image levels old none =
    ap (λ (xs : List Level). left_above o v image levels [] xs nothing_more old.met.keys) none

-- the present one was left, or it was the start
pub descent-turned : (o : ListOptions) (v : Opened) (image : List ℕ) (levels : ℕ) (old new : Descent) (more : Bool)
    → old.path.items ≡ levels_front [] old.above.items ++ old.present.name.items → (more ≡ true → IsBack old new)
    → (more ≡ false → old.above.items ≡ [])
    → above_descent o v image levels old ≡ more_of_descent o v image levels new more
descent-turned o v image levels old new true front up start = descent-left o v image levels old new front (up refl)
descent-turned o v image levels old new false front up start = descent-over o v image levels old (start refl)

-- ---- the start

pub descent-begun : (o : ListOptions) (v : Opened) (image : List ℕ) (levels start : ℕ) (d : Descent)
    → d.above.items ≡ [] → d.path.items ≡ [] → d.met.keys ≡ start ∷ [] → d.present.directory.number ≡ start
    → refused_as (gather_refusal start) (begun_walk v.geometry v.map image start)
    ≡ Ok (left_of v.geometry image d.present.directory)
    → list_directory o v image (suc levels) [] start nothing_more (start ∷ []) ≡ left_of_descent o v image levels d
unfolding left_to_list
descent-begun o v image levels start d above path met bears begun =
    let walk = left_of v.geometry image d.present.directory in
    let same : levels ≡ levels - length d.above.items = omega (arith, ap length above) in
    let level : (n : ℕ) → levels ≡ n → (f : List ℕ) → f ≡ [] → (r : ℕ) → r ≡ start → (b : Next) → b ≡ nothing_more
    → (m : List ℕ) → m ≡ start ∷ []
    → list_entries o v image (list_directory o v image levels) [] start walk.entries walk.fault nothing_more
    (start ∷ []) ≡ list_entries o v image (list_directory o v image n) f r walk.entries walk.fault b m =
    λ n a f b r c x e m i. rw (← a, b, c, e, i) refl in
    directory-walk o v image (suc levels) levels [] start nothing_more (start ∷ []) refl
    ∙ ap (λ (w : Result DirectoryWalk VolumeFault). list_walk o v image (list_directory o v image levels) [] start w
    nothing_more (start ∷ [])) (walk-found start _ walk begun)
    ∙ level (levels - length d.above.items) same d.path.items path d.present.directory.number bears
    (after_present o v image levels d) (ap (λ (xs : List Level). left_above o v image levels [] xs nothing_more) above)
    d.met.keys met

pub start-refused : (o : ListOptions) (v : Opened) (image : List ℕ) (levels start : ℕ) (fault : ShowFault)
    → refused_as (gather_refusal start) (begun_walk v.geometry v.map image start) ≡ Err fault
    → list_directory o v image (suc levels) [] start nothing_more (start ∷ []) ≡ stops fault
start-refused o v image levels start fault refused =
    directory-walk o v image (suc levels) levels [] start nothing_more (start ∷ []) refl
    ∙ walk-refused o v image (list_directory o v image levels) [] start (begun_walk v.geometry v.map image start)
    nothing_more (start ∷ []) fault refused

pub start-kept : (v : Opened) (levels : ℕ) (d : Descent) → d.above.items ≡ [] → d.path.items ≡ []
    → d.present.name.items ≡ [] → IsWalked v d.present.number d.present.directory → IsDescent v levels d
start-kept v levels d above path name walked = record {
  present = walked;
  above = subst (AreWalked v) (sym above) tt;
  path = path ∙ rw (above, name) refl;
  levels_left = omega (arith, unmet-most levels d.met.keys, ap length above);
}

pub list-begins : (o : ListOptions) (v : Opened) (image : List ℕ) (start : ℕ)
    → list_of o v image start ≡ list_directory o v image (suc record_numbers) [] start nothing_more (start ∷ [])
unfolding list_of
list-begins o v image start = refl
