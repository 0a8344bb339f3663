use Rattle.std.proofs.Common.{ℕ}
use Rattle.ntfs_make.specs.Shape.{IsShape, shape_of}
use Rattle.ntfs_made.proofs.OwnerLemmas.{made-once, made-owned}
use Rattle.ntfs_made.proofs.RuleLemmas.{IsRead, is-read, made-cells, made-sound, made-survey}
use Rattle.ntfs_made.proofs.laws.made_volumes_are_volumes.Goals as goal

pub returns-clause-opened : goal.returns-clause-opened
returns-clause-opened c = c.made_volumes_open.ensures.opened

-- what the laws of the crates below say of a made volume
volume-read : goal.After-made_records_are_read → (seed clusters cluster : ℕ) → IsShape (shape_of seed clusters cluster) → IsRead (shape_of seed clusters cluster)
volume-read c seed clusters cluster is =
    is-read (shape_of seed clusters cluster)
    (λ r row there. c.made_volumes_open.ensures.records seed clusters cluster r row is there)
    (c.made_volumes_open.ensures.count seed clusters cluster)
    (λ r row there. c.made_records_are_read.ensures.slots seed clusters cluster r row is there)
    (λ r row there. c.made_records_are_read.ensures.cells seed clusters cluster r row is there)

pub returns-clause-slots : goal.returns-clause-slots
returns-clause-slots c = λ seed clusters cluster is. (volume-read c seed clusters cluster is).slots

pub returns-clause-sound : goal.returns-clause-sound
returns-clause-sound c = λ seed clusters cluster is. made-sound (shape_of seed clusters cluster) (volume-read c seed clusters cluster is)

pub returns-clause-cells : goal.returns-clause-cells
returns-clause-cells c = λ seed clusters cluster is. made-cells (shape_of seed clusters cluster) (volume-read c seed clusters cluster is)

pub returns-clause-once : goal.returns-clause-once
returns-clause-once c = λ seed clusters cluster is. made-once (shape_of seed clusters cluster) is (volume-read c seed clusters cluster is)

pub returns-clause-surveyed : goal.returns-clause-surveyed
returns-clause-surveyed c = λ seed clusters cluster is. made-survey (shape_of seed clusters cluster) (volume-read c seed clusters cluster is)

pub returns-clause-owned : goal.returns-clause-owned
returns-clause-owned c = λ seed clusters cluster k is. made-owned (shape_of seed clusters cluster) k is (volume-read c seed clusters cluster is)
