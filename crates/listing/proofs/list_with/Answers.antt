-- Zeros for the scratch.
use Prim.Native.Nat.{ℕ}
use lib.ListN.{length-replicate}
use Rattle.listing.proofs.Zeros.{zeros}
use Rattle.listing.proofs.list_with.Goals as goal

pub list-requires : goal.list-requires
list-requires g c = let long = length-replicate {A = ℕ} g.row.N 0 in (rw long c.requires.0, (rw long c.requires.1, zeros g.row.N))
