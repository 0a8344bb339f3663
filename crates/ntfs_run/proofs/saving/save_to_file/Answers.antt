use Rattle.ntfs_run.specs.Clone.{volume_in}
use Rattle.ntfs_run.proofs.FillLemmas.{put_bears, saved_fills}
use Rattle.ntfs_run.proofs.saving.save_to_file.Goals as goal

pub returns-clause-filled : goal.returns-clause-filled
returns-clause-filled g c told inside =
    rw c.into_file.ensures (saved_fills (volume_in c.args.checked.now (g.G.Image.seen c.args.image.now).content) (g.F.Image.seen c.args.file)
    (g.F.Image.seen c.save_to-result.new.sink.file) c.save_to-result.result
    (rw c.new-sink.ensures.file at c.save_to-result.ensures.puts told) inside (c.requires.empty inside))

pub returns-clause-fills : goal.returns-clause-fills
returns-clause-fills g c = rw c.into_file.ensures (record {
  seen = c.save_to-result.ensures.copies.seen;
  counts = c.save_to-result.ensures.copies.counts;
  bears = put_bears (g.F.Image.seen c.args.file) (g.F.Image.seen c.save_to-result.new.sink.file) (rw c.new-sink.ensures.file at c.save_to-result.ensures.kept);
  cause = rw c.new-sink.ensures.file at c.save_to-result.ensures.copies.cause;
})
