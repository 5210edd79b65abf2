-- The copy stands where its range says.
use native.Mathlib.Omega.{arith}
use Rattle.texts.proofs.Laying.{lays-copied}
use Rattle.texts.proofs.pieces.lay.Goals as goal

pub returns : goal.returns
returns c = rw c.copy_from_slice.ensures.after (lays-copied c.args.piece.now c.args.out.now c.args.at _ (omega arith) c.requires)
