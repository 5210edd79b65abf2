-- The loop's invariant: what the scope `from` answers is what the present scope answers, which lies not above it.
use Rattle.std.proofs.Common.{◌≡◌, ◌≤◌}
use Rattle.scope.specs.Answer.{name_of}
use Rattle.scope.proofs.Climbing.{climbs}
use Rattle.scope.proofs.Graph.climb.Given as goal

abbrev pub invariant-loop-variable : goal.invariant-loop-variable
invariant-loop-variable l = (l.scope ≤ l.from) × (climbs l.self (name_of l.name) l.from ≡ climbs l.self (name_of l.name) l.scope)

abbrev pub decreases-loop-variable : goal.decreases-loop-variable
decreases-loop-variable l = l.scope
