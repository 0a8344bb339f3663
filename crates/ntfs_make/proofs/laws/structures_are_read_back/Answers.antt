use Rattle.ntfs_make.proofs.ReadBackLemmas.{boot-read, entry-read, extent-read, header-read, list-entry-read, resident-read, root-read}
use Rattle.ntfs_make.proofs.laws.structures_are_read_back.Goals as goal

pub returns : goal.returns
returns c = record {
  headers = header-read;
  residents = resident-read;
  extents = extent-read;
  listed = list-entry-read;
  roots = root-read;
  entries = entry-read;
  boot = boot-read;
}
