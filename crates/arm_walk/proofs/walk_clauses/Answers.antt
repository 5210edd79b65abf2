-- A loop of rounds, after each of which what it carries is stored (`Rounds`).
use native.Mathlib.Omega.{arith}
use Rattle.steps.specs.Modes.{mode_of}
use Rattle.clause_parts.proofs.Passing.{fall, over}
use Rattle.arm_walk.proofs.Rounds.{asks, turned}
use Rattle.arm_walk.proofs.Storing.{storing}
use Rattle.arm_walk.proofs.Taken.{full, refused-takes, clause-takes}
use Rattle.arm_walk.proofs.walk_clauses.Goals as goal

pub walk_clause-requires : goal.walk_clause-requires
walk_clause-requires c = asks c.loop.invariant c.requires

pub returns-in_err-walk_clause-clause-takes : goal.returns-in_err-walk_clause-clause-takes
returns-in_err-walk_clause-clause-takes c =
    let o = c.loop.invariant in
    let e = c.in_err-walk_clause.ensures in
    refused-takes _ c.from_residual.ensures.0 o.filling.kept (fall o.turning _ (omega arith) e.passes c.from_residual.ensures)

pub returns-in_err-walk_clause-clause-passes : goal.returns-in_err-walk_clause-clause-passes
returns-in_err-walk_clause-clause-passes c =
    fall c.loop.invariant.turning _ (omega arith) c.in_err-walk_clause.ensures.passes c.from_residual.ensures

pub take_carried-requires : goal.take_carried-requires
take_carried-requires c =
    storing (c.in_ok-walk_clause.ensures.passes.passes.fit 0 (asks c.loop.invariant c.requires).1.fit)

pub loop-preserved : goal.loop-preserved
loop-preserved c =
    let e = c.in_ok-walk_clause.ensures in
    turned c.loop.invariant (omega arith) e.kept e.same e.passes (clause-takes (mode_of c.args.mode) c.requires.0.0.resolves e.passes c.take_carried.ensures)

pub returns-clause-takes : goal.returns-clause-takes
returns-clause-takes c = full c.loop.invariant.filling (omega arith)

pub returns-clause-passes : goal.returns-clause-passes
returns-clause-passes c = over c.loop.invariant.turning (omega arith)
