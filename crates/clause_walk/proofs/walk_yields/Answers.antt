-- A loop of rounds (`Turning`).
use native.Mathlib.Omega.{arith}
use Rattle.walk.proofs.Stage.{ready}
use Rattle.clause_parts.proofs.Passing.{turn, fall, over}
use Rattle.clause_walk.proofs.walk_yields.Goals as goal

pub walk_yield-requires : goal.walk_yield-requires
walk_yield-requires c = ready (omega arith) c.requires c.loop.invariant.stage

pub returns-in_err-walk_yield : goal.returns-in_err-walk_yield
returns-in_err-walk_yield c = fall c.loop.invariant _ (omega arith) c.in_err-walk_yield.ensures c.from_residual.ensures

pub loop-preserved : goal.loop-preserved
loop-preserved c = turn c.loop.invariant (omega arith) c.in_ok-walk_yield.ensures

pub returns : goal.returns
returns c = over c.loop.invariant (omega arith)
