-- A loop of rounds, each of which stores what it carries (`Rounds`).
use mathlib.Core.Path.{◌∙◌}
use native.Mathlib.Omega.{arith}
use Rattle.clause_parts.proofs.Passing.{fall, over}
use Rattle.arm_walk.proofs.Rounds.{asks, turned}
use Rattle.arm_walk.proofs.Taken.{full, refused-takes}
use Rattle.arm_walk.proofs.walk_arms.Goals as goal

pub walk_arm-requires : goal.walk_arm-requires
walk_arm-requires c = asks c.loop.invariant c.requires

pub returns-in_err-walk_arm-clause-takes : goal.returns-in_err-walk_arm-clause-takes
returns-in_err-walk_arm-clause-takes c =
    let o = c.loop.invariant in
    let e = c.in_err-walk_arm.ensures in
    refused-takes _ c.from_residual.ensures.0 (e.takes.kept ∙ o.filling.kept) (fall o.turning _ (omega arith) e.passes c.from_residual.ensures)

pub returns-in_err-walk_arm-clause-passes : goal.returns-in_err-walk_arm-clause-passes
returns-in_err-walk_arm-clause-passes c =
    fall c.loop.invariant.turning _ (omega arith) c.in_err-walk_arm.ensures.passes c.from_residual.ensures

pub loop-preserved : goal.loop-preserved
loop-preserved c =
    let e = c.in_ok-walk_arm.ensures in
    turned c.loop.invariant (omega arith) e.kept e.same e.passes e.takes

pub returns-clause-takes : goal.returns-clause-takes
returns-clause-takes c = full c.loop.invariant.filling (omega arith)

pub returns-clause-passes : goal.returns-clause-passes
returns-clause-passes c = over c.loop.invariant.turning (omega arith)
