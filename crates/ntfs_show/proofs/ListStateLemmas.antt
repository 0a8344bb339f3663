-- What is left of a directory that is listed, by what is known of its next entry.
use Rattle.std.proofs.Common.{◌≡◌, ◌++◌, ◌&&◌, ℕ, Bool, true, false, not, List, [], ◌∷◌, Option, Some, None, Result, Ok, Err, refl, sym, ap, ◌∙◌}
use Rattle.std.proofs.lemmas.Bool.{not-true}
use Rattle.ntfs_base.specs.Frames.{IsSettled, PutsPrefix}
use Rattle.ntfs_base.specs.Sink.{SinkState}
use Rattle.ntfs_directory.specs.State.{DirectoryState, entry_before, left_of, whole}
use Rattle.ntfs_directory.specs.Directory.{DirectoryWalk, only_refused}
use Rattle.ntfs_index.specs.Node.{IndexEntry}
use Rattle.ntfs_volume.specs.Opened.{Opened}
use Rattle.ntfs_volume.specs.References.{target}
use Rattle.ntfs_volume.specs.Fault.{volume_origin}
use Rattle.ntfs_volume.specs.declared.fault.VolumeFault.{VolumeFault}
use Rattle.ntfs_volume.specs.declared.fault.VolumeFault.TheVariants as volume
use Rattle.ntfs_print.specs.Fault.{gather_refusal, show_origin}
use Rattle.ntfs_show.specs.ListState.{Around, after_turn, below_to_list, left_to_list}
use Rattle.ntfs_show.specs.Listing.{Next, entry_kind, entry_line, entry_path, front_below, is_entered, was_entered, is_shown, list_below, list_end, list_entries, entry_printing, list_given}
use Rattle.ntfs_print.specs.Pending.{IsPrinted}
use Rattle.ntfs_print.specs.Printing.{Printing, before, stops}
use Rattle.ntfs_show.specs.Progress.{Goes, Stops}
use Rattle.ntfs_print.specs.declared.fault.ShowFault.{ShowFault}
use Rattle.ntfs_show.specs.declared.list_options.ListOptions.{ListOptions}
use Rattle.ntfs_show.specs.declared.list_walk.Turn.TheVariants as turn
use Rattle.ntfs_show.proofs.ListLemmas.{goes-at, goes-none, goes-pushed, stops-at, stops-cut, stops-here}

-- ---- the line of an entry

module _ (told : Type 0) (o : ListOptions) (front : List ℕ) (entry : IndexEntry) (kind : Result Bool ShowFault) where
  -- what is printed of the entry
  abbrev pub of_entry : (Bool → Printing ShowFault) → Printing ShowFault
  of_entry behind = entry_printing o front entry kind behind

  -- its record is refused, or memory is wanting
  pub entry-refused : (fault : ShowFault) (waiting : List ℕ) (was : SinkState)
      → (told → IsSettled (show_origin fault) → kind ≡ Err fault)
      → Stops told (λ behind. before waiting (of_entry behind)) fault was waiting was
  entry-refused fault waiting was refused =
      stops-here told of_entry fault waiting was
      (λ is settled behind. ap (λ k. entry_printing o front entry k behind) (refused is settled))

  -- its line was printed
  pub entry-printed : (is_directory : Bool) (text waiting : List ℕ) (was : SinkState) (held : List ℕ) (now : SinkState)
      → (told → kind ≡ Ok is_directory) → text ≡ entry_line o (target entry.reference) (entry_path front entry.key) is_directory
      → IsPrinted (waiting ++ text) was held now
      → Goes told (λ behind. before waiting (of_entry behind)) (λ behind. before held (behind is_directory)) was now
  entry-printed is_directory text waiting was held now known spelled printed =
      goes-pushed told of_entry (λ behind. behind is_directory) text waiting was held now
      (λ is behind. ap (λ k. entry_printing o front entry k behind) (known is)
      ∙ ap (λ bytes. before bytes (behind is_directory)) (sym spelled)) printed

  -- its line was cut off
  pub entry-cut : (is_directory : Bool) (fault : ShowFault) (text waiting : List ℕ) (was : SinkState) (held : List ℕ)
      (now : SinkState) → (IsSettled (show_origin fault) → ⊥) → (told → kind ≡ Ok is_directory)
      → text ≡ entry_line o (target entry.reference) (entry_path front entry.key) is_directory → held ≡ []
      → PutsPrefix (waiting ++ text) was now
      → Stops told (λ behind. before waiting (of_entry behind)) fault was held now
  entry-cut is_directory fault text waiting was held now never known spelled none cut =
      stops-cut told of_entry (λ behind. behind is_directory) fault text waiting was held now never none
      (λ is behind. ap (λ k. entry_printing o front entry k behind) (known is)
      ∙ ap (λ bytes. before bytes (behind is_directory)) (sym spelled)) cut

-- ---- an entry, and the others

module _ (told : Type 0) (o : ListOptions) (v : Opened) (image front : List ℕ) (d : ℕ) (entry : IndexEntry)
    (met : List ℕ) where
  abbrev pub of_given : Around → Printing ShowFault
  of_given around = list_given o v image around.enter front d entry around.next met

  abbrev pub behind_given : Around → Bool → Printing ShowFault
  behind_given around is_directory =
      list_below around.enter (is_entered o is_directory (target entry.reference) met) (front_below front entry.key)
      (target entry.reference) around.next met

  abbrev pub after_given : Option ℕ → Around → Printing ShowFault
  after_given below around = below_to_list around.enter (front_below front entry.key) around.next met below

  abbrev pub old_entry : (Bool → Printing ShowFault) → Printing ShowFault
  old_entry behind = entry_printing o front entry (entry_kind o v image d entry.reference) behind

  given-shown : is_shown o entry.key ≡ true → (around : Around) → of_given around ≡ old_entry (behind_given around)
  given-shown is around = rw is refl

  -- it isn't shown
  pub given-hidden : (waiting : List ℕ) (was : SinkState) → is_shown o entry.key ≡ false
      → Goes told (λ around. before waiting (of_given around)) (λ around. before waiting (after_given None around)) was was
  given-hidden waiting was hidden =
      goes-none told (λ around. before waiting (of_given around)) (λ around. before waiting (after_given None around))
      was (λ is around. rw hidden refl)

  -- its line was printed
  pub given-printed : (is_directory : Bool) (below : Option ℕ) (waiting : List ℕ) (was : SinkState) (held : List ℕ)
      (now : SinkState) → is_shown o entry.key ≡ true
      → ((around : Around) → behind_given around is_directory ≡ after_given below around)
      → Goes told (λ behind. before waiting (old_entry behind)) (λ behind. before held (behind is_directory)) was now
      → Goes told (λ around. before waiting (of_given around)) (λ around. before held (after_given below around)) was now
  given-printed is_directory below waiting was held now shown same goes =
      goes-at told behind_given (λ behind. before waiting (old_entry behind)) (λ behind. before held (behind is_directory))
      (λ around. before waiting (of_given around)) (λ around. before held (after_given below around)) was now goes
      (λ is around. ap (before waiting) (given-shown shown around)) (λ is around. ap (before held) (same around))

  pub given-entered : (is_directory : Bool) → is_entered o is_directory (target entry.reference) met ≡ true
      → (around : Around) → behind_given around is_directory ≡ after_given (Some (target entry.reference)) around
  given-entered is_directory entered around = rw entered refl

  pub given-passed : (is_directory : Bool) → is_entered o is_directory (target entry.reference) met ≡ false
      → (around : Around) → behind_given around is_directory ≡ after_given None around
  given-passed is_directory passed around = rw passed refl

  -- it was refused, or cut off
  pub given-stopped : (fault : ShowFault) (waiting : List ℕ) (was : SinkState) (held : List ℕ) (now : SinkState)
      → is_shown o entry.key ≡ true → Stops told (λ behind. before waiting (old_entry behind)) fault was held now
      → Stops told (λ around. before waiting (of_given around)) fault was held now
  given-stopped fault waiting was held now shown stops =
      stops-at told behind_given (λ behind. before waiting (old_entry behind))
      (λ around. before waiting (of_given around)) fault was held now stops
      (λ is around. ap (before waiting) (given-shown shown around))

-- ---- the next entry of a directory

module _ (told : Type 0) (o : ListOptions) (v : Opened) (image front : List ℕ) (number : ℕ) (met : List ℕ)
    (old new : DirectoryState) where
  abbrev pub of_next : Around → Printing ShowFault
  of_next around = left_to_list o v image around front old met

  abbrev pub after_next : Around → Around
  after_next around = record { enter = around.enter; next = left_to_list o v image around front new }

  -- it refuses
  pub next-refused : (fault : VolumeFault) (waiting : List ℕ) (was : SinkState) → old.number ≡ number
      → (told → IsSettled (show_origin (gather_refusal number fault)) → left_of v.geometry image old ≡ only_refused fault)
      → Stops told (λ around. before waiting (of_next around)) (gather_refusal number fault) was waiting was
  unfolding left_to_list
  next-refused fault waiting was bears refused =
      stops-here told of_next (gather_refusal number fault) waiting was
      (λ is settled around. ap (λ (w : DirectoryWalk). list_entries o v image around.enter front old.number w.entries
      w.fault around.next met) (refused is settled) ∙ ap (λ n. stops (gather_refusal n fault)) bears)

  -- there is none
  pub next-ended : (waiting : List ℕ) (was : SinkState) → (told → left_of v.geometry image old ≡ whole)
      → Goes told (λ around. before waiting (of_next around))
      (λ around. before waiting (after_turn o v image around front new met turn.Ended)) was was
  unfolding left_to_list
  next-ended waiting was is =
      goes-none told (λ around. before waiting (of_next around)) (λ around. before waiting (around.next met)) was
      (λ known around. ap (λ (w : DirectoryWalk). before waiting (list_entries o v image around.enter front old.number
      w.entries w.fault around.next met)) (is known))

  next-given : (entry : IndexEntry) → old.number ≡ number → new.number ≡ number
      → left_of v.geometry image old ≡ entry_before entry (left_of v.geometry image new) → (around : Around)
      → of_next around ≡ of_given told o v image front number entry met (after_next around)
  unfolding left_to_list
  next-given entry bears still is around =
      ap (λ (w : DirectoryWalk). list_entries o v image around.enter front old.number w.entries w.fault around.next met) is
      ∙ ap (λ n. list_given o v image around.enter front n entry (list_entries o v image around.enter front n
      (left_of v.geometry image new).entries (left_of v.geometry image new).fault around.next) met) (bears ∙ sym still)
      ∙ ap (λ n. list_given o v image around.enter front n entry (left_to_list o v image around front new) met) still

  pub next-printed : (entry : IndexEntry) (below : Option ℕ) (waiting : List ℕ) (was : SinkState) (held : List ℕ)
      (now : SinkState) → old.number ≡ number → new.number ≡ number → new.walk.key ≡ entry.key
      → (told → left_of v.geometry image old ≡ entry_before entry (left_of v.geometry image new))
      → Goes told (λ around. before waiting (of_given told o v image front number entry met around))
      (λ around. before held (after_given told o v image front number entry met below around)) was now
      → Goes told (λ around. before waiting (of_next around))
      (λ around. before held (after_turn o v image around front new met (turn.Given below))) was now
  next-printed entry below waiting was held now bears still key is goes =
      goes-at told after_next (λ around. before waiting (of_given told o v image front number entry met around))
      (λ around. before held (after_given told o v image front number entry met below around))
      (λ around. before waiting (of_next around))
      (λ around. before held (after_turn o v image around front new met (turn.Given below))) was now goes
      (λ known around. ap (before waiting) (next-given entry bears still (is known) around))
      (λ known around. ap (λ k. before held (below_to_list around.enter (front_below front k)
      (left_to_list o v image around front new) met below)) (sym key))

  pub next-stopped : (entry : IndexEntry) (fault : ShowFault) (waiting : List ℕ) (was : SinkState) (held : List ℕ)
      (now : SinkState) → old.number ≡ number → new.number ≡ number
      → (told → left_of v.geometry image old ≡ entry_before entry (left_of v.geometry image new))
      → Stops told (λ around. before waiting (of_given told o v image front number entry met around)) fault was held now
      → Stops told (λ around. before waiting (of_next around)) fault was held now
  next-stopped entry fault waiting was held now bears still is stops =
      stops-at told after_next (λ around. before waiting (of_given told o v image front number entry met around))
      (λ around. before waiting (of_next around)) fault was held now stops
      (λ known around. ap (before waiting) (next-given entry bears still (is known) around))

both-second : (x y : Bool) → (x && y) ≡ true → y ≡ true
both-second true y both = both
both-second false y both = absurd cc

-- a directory that is entered wasn't met
pub entered-new : (o : ListOptions) (is_directory : Bool) (number : ℕ) (met : List ℕ)
    → is_entered o is_directory number met ≡ true → was_entered number met ≡ false
unfolding is_entered
entered-new o is_directory number met entered =
    not-true (was_entered number met) (both-second (o.recursive && is_directory) (not (was_entered number met)) entered)

-- a refusal of a directory that didn't cut the work off didn't as one of the volume
pub gather-settled : (number : ℕ) (fault : VolumeFault) → IsSettled (show_origin (gather_refusal number fault))
    → IsSettled (volume_origin fault)
gather-settled number volume.NotNtfs settled = settled
gather-settled number (volume.BadGeometry field value) settled = settled
gather-settled number (volume.ImageShort len need) settled = settled
gather-settled number (volume.Damaged rule r) settled = settled
gather-settled number volume.Absent settled = settled
gather-settled number volume.NoAttribute settled = settled
gather-settled number volume.ReadFault settled = settled
gather-settled number volume.WriteFault settled = settled
gather-settled number volume.NoMemory settled = settled
