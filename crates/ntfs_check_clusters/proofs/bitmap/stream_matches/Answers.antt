use Rattle.std.proofs.Common.{◌≡◌, ◌≤◌, ◌&&◌, ◌∙◌, ap, sym, subst, length, Bool, ℕ, List}
use Rattle.std.specs.Borrow.{Bor}
use Rattle.std.specs.Option.{option_map}
use Rattle.ntfs_bitmap.specs.ClusterSet.{has}
use Rattle.ntfs_boot.specs.Geometry.{bytes_of_clusters}
use Rattle.ntfs_check_clusters.proofs.BitmapLemmas.{bitmap-bits, bitmap-room, bitmap-value}
use Rattle.ntfs_rules.proofs.ContentLemmas.{ok-weaker}
use Rattle.ntfs_check_clusters.proofs.bitmap.stream_matches.Goals as goal
use Rattle.ntfs_rules.specs.Clusters.{are_bits_of}
use Rattle.ntfs_rules.specs.Content.{shown_bytes}
use Rattle.ntfs_rules.specs.FixedRecords.{is_bitmap}
use Rattle.ntfs_runs.specs.Clusters.{vcns}
use Rattle.ntfs_runs.specs.declared.run.Run.{Run}
use Rattle.ntfs_stream.specs.StreamBytes.{bytes_of_stream, filled_stream}

pub are_bits_of-requires-clause-room : goal.are_bits_of-requires-clause-room
are_bits_of-requires-clause-room g c =
    bitmap-room c.args.geometry.now c.args.stream.now (vcns c.in-Some.runs.now) (sym c.if-not-is_bitmap.ensures)
    (ap (option_map (λ (runs : Bor (List Run)). vcns runs.now)) (sym c.in-Some.is) ∙ c.runs.ensures.cells) c.requires.readable

pub returns-in-None-clause-found : goal.returns-in-None-clause-found
returns-in-None-clause-found g c told =
    bitmap-value c.args.geometry.now.clusters c.args.stream.now _ (ap (option_map (λ (runs : Bor (List Run)). vcns runs.now)) (sym c.in-None.is) ∙ c.runs.ensures.cells)

pub returns-in-Some-clause-found : goal.returns-in-Some-clause-found
returns-in-Some-clause-found g c told =
    let k = c.args.geometry.now in
    let image = g.G.Image.seen c.args.image.now in
    let size : length image.content ≡ image.size = g.met.G.Image.told_size c.args.image.now told in
    let held = subst (λ (n : ℕ). bytes_of_clusters k ≤ n) (sym size) c.requires.opened.held in
    ok-weaker (λ (is : Bool). is ≡ are_bits_of (has c.args.set.now) k.clusters (shown_bytes k image.content c.valid.result c.in-Some.runs.now))
    (λ (is : Bool). is ≡ (is_bitmap k.clusters c.args.stream.now && are_bits_of (has c.args.set.now) k.clusters (bytes_of_stream k.cluster (filled_stream k image.content c.args.stream.now.stream)))) c.are_bits_of.result
    (λ is same. bitmap-bits k image.content c.args.stream.now (vcns c.in-Some.runs.now) (has c.args.set.now) c.valid.result is (sym c.if-not-is_bitmap.ensures) c.valid.ensures
    (ap (option_map (λ (runs : Bor (List Run)). vcns runs.now)) (sym c.in-Some.is) ∙ c.runs.ensures.cells) c.requires.readable held same) (c.are_bits_of.ensures.found told)
