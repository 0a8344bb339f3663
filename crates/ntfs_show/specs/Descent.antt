-- The directories that a listing with the recursion is in: what is left of each, from the present one up to the start.
-- The words are ours.
use Rattle.std.specs.Prelude.{◌≡◌, ◌<◌, ◌≤◌, ◌+◌, ◌-◌, ◌++◌, ℕ, zero, suc, Bool, true, false, cond, List, [], ◌∷◌, length, take, Result, Ok, Err, if◌then◌else◌}
use Rattle.std.specs.BTreeMap.{is_at}
use Rattle.std.specs.Ordering.{nat_cmp}
use Rattle.ntfs_base.specs.Frames.{IsSettled}
use Rattle.ntfs_volume.specs.Opened.{Opened}
use Rattle.ntfs_print.specs.Fault.{show_origin}
use Rattle.ntfs_show.specs.ListState.{Around, IsWalked, left_to_list}
use Rattle.ntfs_show.specs.Listing.{Next, also_met, front_below, was_entered, list_directory, nothing_more}
use Rattle.ntfs_print.specs.Printing.{Printing, prints, stops}
use Rattle.ntfs_print.specs.declared.fault.ShowFault.{ShowFault}
use Rattle.ntfs_show.specs.declared.list_options.ListOptions.{ListOptions}
use Rattle.ntfs_show.specs.declared.listing.Descent.{Descent}
use Rattle.ntfs_show.specs.declared.listing.Level.{Level}

-- what stands before the names of the entries of the last of these directories, where this stands before the first's
abbrev pub levels_front : List ℕ → List Level → List ℕ
levels_front front [] = front
levels_front front (level ∷ levels) = levels_front (front ++ level.name.items) levels

-- ---- what is left to be printed

module _ (o : ListOptions) (v : Opened) (image : List ℕ) where
  -- where so many levels may be below a directory
  abbrev pub around_of : ℕ → Next → Around
  around_of levels next = record { enter = list_directory o v image levels; next = next }

  -- what is left of one, and what is printed after it
  abbrev pub left_in_level : ℕ → List ℕ → Level → Next → Next
  left_in_level levels front level next = left_to_list o v image (around_of levels next) front level.directory

  -- what is left of these, given from the start on, of which the first may have so many levels below it
  abbrev pub left_above : ℕ → List ℕ → List Level → Next → Next
  left_above levels front [] next = next
  left_above levels front (level ∷ above) next =
      left_above (levels - 1) (front ++ level.name.items) above
      (left_in_level levels (front ++ level.name.items) level next)

  -- what is printed after the present one
  abbrev pub after_present : ℕ → Descent → Next
  after_present levels d = left_above levels [] d.above.items nothing_more

  -- the present one and its entries, where so many levels may be below the start
  abbrev pub around_present : ℕ → Descent → Around
  around_present levels d = around_of (levels - length d.above.items) (after_present levels d)

  abbrev pub left_of_descent : ℕ → Descent → Printing ShowFault
  left_of_descent levels d =
      left_to_list o v image (around_present levels d) d.path.items d.present.directory d.met.keys

  -- where a directory below is to be entered
  abbrev pub below_descent : ℕ → Descent → ℕ → Printing ShowFault
  below_descent levels d number =
      list_directory o v image (levels - length d.above.items) (front_below d.path.items d.present.directory.walk.key)
      number (left_to_list o v image (around_present levels d) d.path.items d.present.directory)
      (also_met number d.met.keys)

  -- where the present one has ended
  abbrev pub above_descent : ℕ → Descent → Printing ShowFault
  above_descent levels d = after_present levels d d.met.keys

  -- while there is more
  abbrev pub more_of_descent : ℕ → Descent → Bool → Printing ShowFault
  more_of_descent levels d true = left_of_descent levels d
  more_of_descent levels d false = prints []

-- ---- what holds of them

-- each is walked, under its number
abbrev pub AreWalked : Opened → List Level → Type 0
AreWalked v [] = Unit {0}
AreWalked v (level ∷ levels) = IsWalked v level.number level.directory × AreWalked v levels

-- how many of so many numbers weren't met
unfoldable pub unmet : ℕ → List ℕ → ℕ
unmet zero met = 0
unmet (suc n) met = unmet n met + (if was_entered n met then 0 else 1)

-- what was met after one more is
pub record MeetsOne (number : ℕ) (old new : List ℕ) : Type 0 where
  pub updates : (q : ℕ) → was_entered q new ≡ cond (is_at (nat_cmp number) q) true (was_entered q old)

-- all are walked, the path is that of their names, and there is a level for each number that wasn't met
pub record IsDescent (v : Opened) (levels : ℕ) (d : Descent) : Type 0 where
  pub present : IsWalked v d.present.number d.present.directory
  pub above : AreWalked v d.above.items
  pub path : d.path.items ≡ levels_front [] d.above.items ++ d.present.name.items
  pub levels_left : unmet levels d.met.keys + length d.above.items ≤ levels

-- how much is left at most: directories that can be entered, each of which is left then, and those that are to be left
abbrev pub descent_most : ℕ → Descent → ℕ
descent_most levels d = unmet levels d.met.keys + unmet levels d.met.keys + length d.above.items

-- the directory of a number was entered, or it is nothing but a refusal
abbrev pub HasEntered : ListOptions → Opened → List ℕ → ℕ → ℕ → Descent → Result (Unit {0}) ShowFault → Descent → Type 0
HasEntered o v image levels number old (Ok done) new =
    below_descent o v image levels old number ≡ left_of_descent o v image levels new
HasEntered o v image levels number old (Err fault) new =
    IsSettled (show_origin fault) → below_descent o v image levels old number ≡ stops fault

-- the present one has become the one above it
pub record IsBack (old new : Descent) : Type 0 where
  pub above : old.above.items ≡ new.above.items ++ new.present ∷ []
  pub path : new.path.items ≡ take (length old.path.items - length old.present.name.items) old.path.items
  pub met : new.met ≡ old.met

-- all that is printed from a directory on is left, or it is nothing but a refusal
abbrev pub IsBegunAt : ListOptions → Opened → List ℕ → ℕ → ℕ → Result Descent ShowFault → Type 0
IsBegunAt o v image levels start (Ok d) =
    list_directory o v image (suc levels) [] start nothing_more (start ∷ []) ≡ left_of_descent o v image levels d
IsBegunAt o v image levels start (Err fault) =
    IsSettled (show_origin fault)
    → list_directory o v image (suc levels) [] start nothing_more (start ∷ []) ≡ stops fault
