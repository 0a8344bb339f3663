use Rattle.std.proofs.Common.{sym, ◌∙◌, arith}
use Rattle.ntfs_base.proofs.BytesLemmas.{number_at-byte, little_number-part}
use Rattle.ntfs_boot.specs.BootSector.{fields_of}
use Rattle.ntfs_boot.proofs.boot_sector.BootSector.read.Goals as goal

pub returns : goal.returns
unfolding fields_of
returns c =
    let size = c.read_u16.ensures ∙ little_number-part 2 0x0B 501 c.args.sector.now (omega arith) in
    let sectors = c.read_u64.ensures ∙ little_number-part 8 0x28 472 c.args.sector.now (omega arith) in
    let mft = c.read_u64-2.ensures ∙ little_number-part 8 0x30 464 c.args.sector.now (omega arith) in
    let mirror = c.read_u64-3.ensures ∙ little_number-part 8 0x38 456 c.args.sector.now (omega arith) in
    let serial = c.read_u64-4.ensures ∙ little_number-part 8 0x48 440 c.args.sector.now (omega arith) in
    λ i. record {
      bytes_per_sector = size i;
      sectors_per_cluster = sym (number_at-byte 0x0D c.args.sector.now) i;
      sectors = sectors i;
      mft = mft i;
      mirror = mirror i;
      record_code = sym (number_at-byte 0x40 c.args.sector.now) i;
      block_code = sym (number_at-byte 0x44 c.args.sector.now) i;
      serial = serial i;
    }
