-- The entry stays, moves down or is passed, as its name's head says.
use native.Mathlib.Omega.{arith}
use Rattle.visible.proofs.Places.{write}
use Rattle.visible.proofs.Halves.{turn-pass, turn-take, turn-stay}
use Rattle.visible.proofs.keep.Goals as goal

pub returns-then-j-i : goal.returns-then-j-i
returns-then-j-i c =
    turn-take c.if-vis-x.true (write _ _ _ _ _ 0 _ c.requires.1.1.1.1 (omega arith))

pub returns-then-vis-x : goal.returns-then-vis-x
returns-then-vis-x c =
    turn-stay (omega arith) c.requires.1.1.1.1 c.requires.1.1.1.0 c.if-vis-x.true

pub returns : goal.returns
returns c =
    turn-pass c.if-vis-x.false
