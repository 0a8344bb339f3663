-- Rule C12 by what is asked of each record.
use Rattle.std.proofs.Common.{◌≡◌, ◌||◌, ℕ, List, Option, None, Result, refl, sym, ap, subst, ◌∙◌}
use Rattle.std.specs.Prelude.{not}
use Rattle.ntfs_base.specs.Frames.{Gives}
use Rattle.ntfs_base.specs.declared.refusal.Rule.TheVariants as rule
use Rattle.ntfs_check_records.specs.Asked.{first_refused, passes_asked}
use Rattle.ntfs_check_records.specs.Reading.{records_of}
use Rattle.ntfs_check_streams.specs.Asked.{KeepsEleven, clusters_read, keeps_rule, lists_in, stream_answer}
use Rattle.ntfs_record.proofs.SlotLemmas.{first_not-map}
use Rattle.ntfs_record.specs.FileRecord.{Laid}
use Rattle.ntfs_record.specs.Slots.{Slot, map_laid, on_payload}
use Rattle.ntfs_rules.proofs.DataLemmas.{listings-are, numbers-are}
use Rattle.ntfs_rules.specs.Files.{c11, c12}
use Rattle.ntfs_rules.specs.Outcome.{check_origin, unless_number}
use Rattle.ntfs_rules.specs.Records.{c4, c7}
use Rattle.ntfs_rules.specs.VolumeData.{Records, VolumeData, listings, numbers, volume_data}
use Rattle.ntfs_rules.specs.declared.fault.CheckFault.{CheckFault}
use Rattle.ntfs_runs.specs.Cells.{Cells, cells_below}
use Rattle.ntfs_volume.specs.Gather.{Lists}
use Rattle.ntfs_volume.specs.Located.{Located, map_located, with_cells}
use Rattle.ntfs_volume.specs.Opened.{Opened}

cells-asked : (o : Opened) (f : ℕ → List ℕ) → first_refused (stream_answer o f) o f ≡ c12 o.geometry.cluster (lists_in o f) (clusters_read o f)
unfolding c12 keeps_rule with_cells
cells-asked o f =
    sym (first_not-map (on_payload (map_located (map_laid (cells_below o.geometry.clusters)))) (passes_asked (stream_answer o f))
    (λ r (s : Slot (Located (Laid (Cells ℕ)))). not s.is_live || keeps_rule o f r s) 0 (records_of o f) (λ r s. refl))

c12-is : (o : Opened) (f : ℕ → List ℕ) → c12 (volume_data o f).geometry.cluster (listings (volume_data o f)) (numbers (volume_data o f)) ≡ c12 o.geometry.cluster (lists_in o f) (clusters_read o f)
unfolding volume_data
c12-is o f =
    ap (λ (lists : Lists). c12 o.geometry.cluster lists (numbers (volume_data o f))) (listings-are o f)
    ∙ ap (λ (slots : Records ℕ). c12 o.geometry.cluster (lists_in o f) slots) (numbers-are o f)

pub presumed : (v : VolumeData) → c4 v.slots ≡ None → c7 (numbers v) ≡ None → c11 (listings v) v.slots ≡ None → KeepsEleven v
presumed v whole cells listed = record { whole = whole; cells = cells; listed = listed }

pub streams-given : (o : Opened) (f : ℕ → List ℕ) (result : Result (Unit {0}) CheckFault) → Gives check_origin (λ done. done) (unless_number rule.C12 (first_refused (stream_answer o f) o f) tt) result
    → Gives check_origin (λ done. done) (unless_number rule.C12 (c12 (volume_data o f).geometry.cluster (listings (volume_data o f)) (numbers (volume_data o f))) tt) result
streams-given o f result = subst (λ (found : Option ℕ). Gives check_origin (λ done. done) (unless_number rule.C12 found tt) result) (cells-asked o f ∙ sym (c12-is o f))
