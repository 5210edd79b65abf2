-- A loop of rounds (`Turning`).
use Rattle.std.specs.Prelude.{None}
use Rattle.walk.proofs.Stage.{Turning}
use Rattle.clause_walk.specs.Clauses.{yield_at}
use Rattle.clause_walk.proofs.walk_yields.Given as goal

abbrev pub invariant-loop : goal.invariant-loop
invariant-loop l = Turning None l.context l.initial.walk l.n (yield_at l.context l.head.start l.head.end) l.walk l.counter
