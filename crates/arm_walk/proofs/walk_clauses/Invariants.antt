-- A loop of rounds, after each of which what it carries is stored (`Rounds`).
use Rattle.steps.specs.Modes.{mode_of}
use Rattle.clause_walk.specs.Clauses.{clause_at}
use Rattle.arm_walk.proofs.Rounds.{Rounds}
use Rattle.arm_walk.proofs.walk_clauses.Given as goal

abbrev pub invariant-loop : goal.invariant-loop
invariant-loop l = Rounds l.context l.initial.walk l.initial.held l.initial.marks l.initial.carried l.n (clause_at l.context (mode_of l.mode)) l.walk l.held l.marks l.carried l.counter
