-- The first fault of a volume.
use Rattle.std.proofs.Common.{◌≡◌, ℕ, List, Option, Some, None, Result, Ok, Err, refl, sym, ap, ◌∙◌}
use Rattle.std.specs.Option.{option_map}
use Rattle.ntfs_base.specs.Bytes.{cluster_at}
use Rattle.ntfs_rules.specs.Accepts.{Accepts, Broken, damaged, fault_of, first_fault, opened_fault}
use Rattle.ntfs_rules.specs.Laws.{IsWhole, data_in}
use Rattle.ntfs_rules.specs.VolumeData.{VolumeData, volume_data}
use Rattle.ntfs_volume.specs.Opened.{Opened, opened_of}
use Rattle.ntfs_volume.specs.declared.fault.VolumeFault.{VolumeFault}

fault-opened : (image : List ℕ) (o : Opened) → opened_of image ≡ Ok o
    → first_fault image ≡ option_map damaged (fault_of (volume_data o (cluster_at image o.geometry.cluster)))
unfolding first_fault
fault-opened image o is = ap (opened_fault image) is

pub same-fault : (image other : List ℕ) (o p : Opened) → opened_of image ≡ Ok o → opened_of other ≡ Ok p
    → volume_data o (cluster_at image o.geometry.cluster) ≡ volume_data p (cluster_at other p.geometry.cluster) → first_fault image ≡ first_fault other
same-fault image other o p opened there same =
    fault-opened image o opened ∙ ap (λ (v : VolumeData). option_map damaged (fault_of v)) same ∙ sym (fault-opened other p there)

-- ---- images that are accepted

pub whole-accepted : (image : List ℕ) (o : Opened) → IsWhole image o → Accepts image
whole-accepted image o is = fault-opened image o is.opened ∙ ap (option_map damaged) is.whole

none-broken : (o : Option Broken) → option_map damaged o ≡ None → o ≡ None
none-broken None is = refl
none-broken (Some broken) is = absurd cc

opened-whole : (image : List ℕ) (r : Result Opened VolumeFault) → opened_of image ≡ r → opened_fault image r ≡ None → (o : Opened) × IsWhole image o
opened-whole image (Ok o) opened is = (o, record { opened = opened; whole = none-broken (fault_of (data_in image o)) is })
opened-whole image (Err fault) opened is = absurd cc

pub accepted-whole : (image : List ℕ) → Accepts image → (o : Opened) × IsWhole image o
unfolding first_fault
accepted-whole image is = opened-whole image (opened_of image) refl is

pub accepted-opened : (image : List ℕ) (o : Opened) → Accepts image → opened_of image ≡ Ok o → IsWhole image o
accepted-opened image o is opened =
    record { opened = opened; whole = none-broken (fault_of (data_in image o)) (sym (fault-opened image o opened) ∙ is) }
