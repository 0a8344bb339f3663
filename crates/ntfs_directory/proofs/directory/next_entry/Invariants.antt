use Rattle.ntfs_directory.proofs.directory.next_entry.Given as goal

abbrev pub ghosts-next_lent : goal.ghosts-next_lent
ghosts-next_lent g a = record { writes = (g.G.Image.faults a.over.image.now).writes; reference = a.over.image.ghost_name }
