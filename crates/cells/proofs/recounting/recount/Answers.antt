use Rattle.cells_spec.proofs.Recount.{new-room, block-names}
use Rattle.cells.proofs.recounting.recount.Goals as goal

pub claim-requires : goal.claim-requires
claim-requires c = let a = c.args in
    rw c.release.ensures (new-room a.counts.now a.r a.q a.c a.d c.requires)

pub rename-requires : goal.rename-requires
rename-requires c = let a = c.args in
    rw (c.claim.ensures, c.release.ensures) (block-names a.counts.now a.r a.q a.c a.d c.requires)
