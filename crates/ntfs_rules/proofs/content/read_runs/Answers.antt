use Rattle.std.proofs.Common.{◌≡◌, ◌*◌, ◌∙◌, sym, arith, length}
use Rattle.ntfs_base.proofs.FramesLemmas.{told_still}
use Rattle.ntfs_base.specs.Bytes.{piece_at}
use Rattle.ntfs_rules.proofs.ContentLemmas.{count-next, front-more, whole-buffer}
use Rattle.ntfs_rules.proofs.content.read_runs.Goals as goal
use Rattle.ntfs_rules.specs.Content.{shown_bytes}

pub clusters-preserved : goal.clusters-preserved
clusters-preserved g c =
    let k = c.args.geometry.now in
    let v = c.clusters.vcn in
    let long : length c.read_vcn.new.into ≡ k.cluster = c.read_vcn.auto.into ∙ c.deref_mut.ensures.len ∙ c.clusters.invariant.room in
    let held : c.deref.result.now ≡ c.read_vcn.new.into = c.deref.ensures.value ∙ whole-buffer c.read_vcn.new.into _ c.clusters.buffer.len (long ∙ sym c.clusters.invariant.room) in
    let read = told_still g.G.Image _ _ (λ content. c.read_vcn.new.into ≡ piece_at (v * k.cluster) k.cluster (shown_bytes k content c.args.valid c.args.runs.now)) c.clusters.invariant.seen c.in_default.ensures.bytes in
    record {
      seen = c.in_default.ensures.reads.seen ∙ c.clusters.invariant.seen;
      counts = record { reads = omega (arith, c.in_default.ensures.reads.counts.reads, c.clusters.invariant.counts.reads); writes = omega (arith, c.in_default.ensures.reads.counts.writes, c.clusters.invariant.counts.writes) };
      room = c.clusters.invariant.room;
      most = count-next v k.cluster c.from-cluster.result c.args.most c.from-cluster.ensures c.clusters-test.true;
      front = λ told. front-more (shown_bytes k (g.G.Image.seen c.args.image.now).content c.args.valid c.args.runs.now) c.clusters.bytes.items c.extend_from_slice.new.self.items c.deref.result.now v k.cluster c.from-cluster.result
          c.min-count.result c.args.most c.from-cluster.ensures c.clusters-test.true c.min-count.ensures (c.clusters.invariant.front told) (held ∙ read told) c.in_ok-extend_from_slice.ensures.items;
    }
