-- A loop of rounds (walk's Turning).
use native.Mathlib.Omega.{arith}
use Rattle.walk.proofs.Stage.{ready, turn, fall, over}
use Rattle.return_walk.proofs.walk_outputs.Goals as goal

pub walk_output-requires : goal.walk_output-requires
walk_output-requires c = ready (omega arith) c.requires c.loop.invariant.stage

pub returns-in_err-walk_output : goal.returns-in_err-walk_output
returns-in_err-walk_output c = fall c.loop.invariant _ (omega arith) c.in_err-walk_output.ensures c.from_residual.ensures

pub loop-preserved : goal.loop-preserved
loop-preserved c = turn c.loop.invariant (omega arith) (omega arith) c.in_ok-walk_output.ensures

pub returns : goal.returns
returns c = over c.loop.invariant (omega arith)
