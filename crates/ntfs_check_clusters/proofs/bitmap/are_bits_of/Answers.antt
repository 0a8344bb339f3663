use Rattle.std.proofs.Common.{◌≡◌, ◌*◌, ◌∙◌, ap, sym, arith, length}
use Rattle.ntfs_base.proofs.FramesLemmas.{told_still}
use Rattle.ntfs_base.specs.Bytes.{piece_at}
use Rattle.ntfs_check_clusters.proofs.BitmapLemmas.{bits-all, bits-end, bits-found, bits-passed, most-next}
use Rattle.ntfs_rules.proofs.ContentLemmas.{whole-buffer}
use Rattle.ntfs_check_clusters.proofs.bitmap.are_bits_of.Goals as goal
use Rattle.ntfs_rules.specs.Content.{shown_bytes}

pub returns-then-is_some-clause-found : goal.returns-then-is_some-clause-found
returns-then-is_some-clause-found g c told =
    let k = c.args.geometry.now in
    let v = c.clusters.vcn in
    let long : length c.read_vcn.new.into ≡ k.cluster = c.read_vcn.auto.into ∙ c.deref_mut.ensures.len ∙ c.clusters.invariant.room in
    let held : c.deref.result.now ≡ c.read_vcn.new.into = c.deref.ensures.value ∙ whole-buffer c.read_vcn.new.into _ c.clusters.buffer.len (long ∙ sym c.clusters.invariant.room) in
    let read = told_still g.G.Image _ _ (λ content. c.read_vcn.new.into ≡ piece_at (v * k.cluster) k.cluster (shown_bytes k content c.args.valid c.args.runs.now)) c.clusters.invariant.seen c.in_default.ensures.bytes told in
    bits-found c.args.set.now (shown_bytes k (g.G.Image.seen c.args.image.now).content c.args.valid c.args.runs.now) c.deref.result.now k.clusters k.cluster c.from-cluster.result v c.first_difference.result
    c.from-cluster.ensures c.requires.bound (held ∙ read) (ap length held ∙ long) (omega (arith, c.requires.readable.opened.good.least_cluster)) (sym c.if-is_some.ensures) c.first_difference.ensures

pub clusters-preserved : goal.clusters-preserved
clusters-preserved g c =
    let k = c.args.geometry.now in
    let v = c.clusters.vcn in
    let long : length c.read_vcn.new.into ≡ k.cluster = c.read_vcn.auto.into ∙ c.deref_mut.ensures.len ∙ c.clusters.invariant.room in
    let held : c.deref.result.now ≡ c.read_vcn.new.into = c.deref.ensures.value ∙ whole-buffer c.read_vcn.new.into _ c.clusters.buffer.len (long ∙ sym c.clusters.invariant.room) in
    let read = told_still g.G.Image _ _ (λ content. c.read_vcn.new.into ≡ piece_at (v * k.cluster) k.cluster (shown_bytes k content c.args.valid c.args.runs.now)) c.clusters.invariant.seen c.in_default.ensures.bytes in
    record {
      seen = c.in_default.ensures.reads.seen ∙ c.clusters.invariant.seen;
      counts = record { reads = omega (arith, c.in_default.ensures.reads.counts.reads, c.clusters.invariant.counts.reads); writes = omega (arith, c.in_default.ensures.reads.counts.writes, c.clusters.invariant.counts.writes) };
      room = c.clusters.invariant.room;
      most = most-next v k.cluster c.from-cluster.result k.clusters c.from-cluster.ensures c.clusters-test.true;
      same = λ told. bits-passed c.args.set.now (shown_bytes k (g.G.Image.seen c.args.image.now).content c.args.valid c.args.runs.now) c.deref.result.now k.clusters k.cluster c.from-cluster.result v c.first_difference.result
          c.from-cluster.ensures c.requires.bound (held ∙ read told) (ap length held ∙ long) (omega (arith, c.requires.readable.opened.good.least_cluster)) (sym c.if-is_some.ensures) c.first_difference.ensures (c.clusters.invariant.same told);
    }

pub returns-clause-found : goal.returns-clause-found
returns-clause-found g c told =
    let k = c.args.geometry.now in
    sym (bits-all c.args.set.now (shown_bytes k (g.G.Image.seen c.args.image.now).content c.args.valid c.args.runs.now) k.clusters (c.clusters.vcn * k.cluster)
    (bits-end c.clusters.vcn k.cluster c.from-cluster.result k.clusters c.from-cluster.ensures c.clusters-test.false) (c.clusters.invariant.same told))
