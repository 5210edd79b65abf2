-- The first projections were carried: none, one more each turn, and at the end all of them.
use native.Mathlib.Omega.{arith}
use Rattle.steps.specs.Modes.{mode_of}
use Rattle.steps.proofs.Held.{ready-less}
use Rattle.clause_parts.proofs.Passing.{held_on}
use Rattle.projection_walk.proofs.Chained.{carried-ready, carried-holding}
use Rattle.projection_walk.proofs.Projected.{begun, turn, fall}
use Rattle.projection_walk.proofs.walk_projections.Goals as goal

pub loop-init : goal.loop-init
loop-init c = begun (mode_of c.args.mode)

pub walk_projection-requires : goal.walk_projection-requires
walk_projection-requires c =
    let x = c.loop.invariant in
    let q = c.requires in
    (held_on x.held.size q.0, (carried-holding x q.1.0, ready-less (omega arith) (carried-ready x q.1.1)))

pub returns-in_err-walk_projection : goal.returns-in_err-walk_projection
returns-in_err-walk_projection c =
    fall (mode_of c.args.mode) c.loop.counter c.loop.invariant c.args.n _ c.loop-test.true c.in_err-walk_projection.ensures c.from_residual.ensures

pub loop-preserved : goal.loop-preserved
loop-preserved c =
    turn (mode_of c.args.mode) c.loop.counter c.loop.invariant _ c.in_ok-walk_projection.ensures
