-- Tables of N places.
use lib.ListN.{length-replicate}
use Rattle.sheet.proofs.open_sized.Goals as goal

pub open_in-requires : goal.open_in-requires
open_in-requires g c = simp length-replicate (c.requires.0, c.requires.0)
