use Rattle.std.proofs.Common.{◌≡◌, ◌≤◌, ◌∙◌, ap, sym, subst, length, take, ℕ, List}
use Rattle.std.specs.Prelude.{IsTrue}
use Rattle.std.specs.Borrow.{Bor}
use Rattle.std.specs.Option.{option_map}
use Rattle.ntfs_boot.specs.Geometry.{bytes_of_clusters}
use Rattle.ntfs_rules.proofs.ContentLemmas.{front-runs, front-value, ok-weaker}
use Rattle.ntfs_rules.proofs.content.read_front.Goals as goal
use Rattle.ntfs_rules.specs.Content.{shown_bytes}
use Rattle.ntfs_runs.specs.Clusters.{vcns}
use Rattle.ntfs_runs.specs.declared.run.Run.{Run}
use Rattle.ntfs_stream.specs.StreamBytes.{bytes_of_stream, filled_stream}

pub returns-in-Some-clause-bytes : goal.returns-in-Some-clause-bytes
returns-in-Some-clause-bytes g c told =
    c.in_ok-front_of.ensures
    ∙ ap (take c.args.most) (front-value c.args.geometry.now (g.G.Image.seen c.args.image.now).content c.args.stream.now.stream c.in-Some.value.now
    (ap (option_map (λ (value : Bor (List ℕ)). value.now)) (sym c.in-Some.is) ∙ c.value.ensures))

pub returns-clause-bytes : goal.returns-clause-bytes
returns-clause-bytes g c =
    let k = c.args.geometry.now in
    let s = c.args.stream.now.stream in
    let image = g.G.Image.seen c.args.image.now in
    ok-weaker (λ (front : List ℕ). IsTrue image.is_told → front ≡ take c.min-count.result (shown_bytes k image.content c.valid.result c.in-Some-runs.runs.now))
    (λ (front : List ℕ). IsTrue image.is_told → front ≡ take c.args.most (bytes_of_stream k.cluster (filled_stream k image.content s))) c.read_runs.result
    (λ front is told.
    let size : length image.content ≡ image.size = g.met.G.Image.told_size c.args.image.now told in
    is told ∙ front-runs k image.content s (vcns c.in-Some-runs.runs.now) c.args.most c.min-count.result c.size.result c.valid.result c.size.ensures c.valid.ensures c.min-count.ensures
    (ap (option_map (λ (runs : Bor (List Run)). vcns runs.now)) (sym c.in-Some-runs.is) ∙ c.runs.ensures.cells) c.requires.readable
    (subst (λ (n : ℕ). bytes_of_clusters k ≤ n) (sym size) c.requires.opened.held)) c.read_runs.ensures.bytes
