use Rattle.std.proofs.Common.{◌≡◌, rules}
use Rattle.byteorder.specs.Endian.{little_bytes}
use Rattle.ntfs_clone.proofs.VolumeLemmas.{header-spelled}
use Rattle.ntfs_clone.proofs.waiting.add_header.Goals as goal

pub returns : goal.returns
returns c =
    let h = c.args.header.now in
    let cluster : c.to_le_bytes.result ≡ little_bytes 4 h.cluster = search rules in
    let device : c.to_le_bytes-2.result ≡ little_bytes 8 h.device = search rules in
    let clusters : c.to_le_bytes-3.result ≡ little_bytes 8 h.clusters = search rules in
    let in_use : c.to_le_bytes-4.result ≡ little_bytes 8 h.in_use = search rules in
    let offset : c.to_le_bytes-5.result ≡ little_bytes 4 h.offset = search rules in
    header-spelled h _ _ _ _ _ _ _ _ _ _ _ _ _ c.in_ok-extend_from_slice.ensures.items cluster c.in_ok-extend_from_slice-2.ensures.items device c.in_ok-extend_from_slice-3.ensures.items
    clusters c.in_ok-extend_from_slice-4.ensures.items in_use c.in_ok-extend_from_slice-5.ensures.items offset c.in_ok-extend_from_slice-6.ensures.items c.in_ok-extend_from_slice-7.ensures.items
