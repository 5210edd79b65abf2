-- A loop of rounds, each of which stores what it carries (`Rounds`).
use Rattle.arm_walk.specs.Clauses.{both_walks, arm_at}
use Rattle.arm_walk.proofs.Rounds.{Rounds}
use Rattle.arm_walk.proofs.walk_arms.Given as goal

abbrev pub invariant-loop : goal.invariant-loop
invariant-loop l = Rounds l.context l.initial.walk l.initial.held l.initial.marks l.initial.carried l.n (arm_at l.context both_walks) l.walk l.held l.marks l.carried l.counter
