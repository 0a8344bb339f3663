-- Numbers that are in the ranges of the words are those of a volume.
use Rattle.std.proofs.Common.{◌≡◌, ◌&&◌, ◌==◌, ℕ, Bool, true, false, refl, ◌∙◌, nat_le, if◌then◌else◌, IfOk, Result, Ok}
use Rattle.std.proofs.lemmas.Bool.{leb-true}
use Rattle.std.specs.Prelude.{List}
use Rattle.ntfs_make.specs.Shape.{IsShape, is_cluster_size, shape_of}
use Rattle.ntfs_words.specs.Answers.{HasRanges}
use Rattle.ntfs_words.specs.Make as ranges
use Rattle.ntfs_words.specs.declared.request.Request.{Request}
use Rattle.ntfs_words.specs.declared.request.Request.TheVariants as request
use Rattle.ntfs_words.specs.declared.request.WordsFault.{WordsFault}

both : (a b : Bool) → (a && b) ≡ true → (a ≡ true) × (b ≡ true)
both true b is = (refl, is)
both false b is = absurd cc

same_sizes : (cluster : ℕ) → is_cluster_size cluster ≡ ranges.is_cluster_size cluster
unfolding is_cluster_size ranges.is_cluster_size
same_sizes cluster = refl

range_shape : (seed clusters cluster : ℕ) → ranges.is_in_range clusters cluster ≡ true → IsShape (shape_of seed clusters cluster)
unfolding ranges.is_in_range
range_shape seed clusters cluster is =
    let first = both (ranges.is_cluster_size cluster) (nat_le (if cluster == 512 then 2048 else 1024) clusters && nat_le clusters 1048576) is in
    let second = both (nat_le (if cluster == 512 then 2048 else 1024) clusters) (nat_le clusters 1048576) first.1 in
    record { cluster = same_sizes cluster ∙ first.0; least = leb-true _ _ second.0; most = leb-true _ _ second.1 }

-- of a request of ntfsmake
pub made_shape : (reading : Result Request WordsFault) (file : List ℕ) (seed clusters cluster : ℕ) → IfOk reading HasRanges
    → reading ≡ Ok (request.Make file seed clusters cluster) → IsShape (shape_of seed clusters cluster)
made_shape reading file seed clusters cluster held is =
    range_shape seed clusters cluster (rw is at held)
