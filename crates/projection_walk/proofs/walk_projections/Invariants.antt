-- The first projections were carried.
use Rattle.std.specs.Prelude.{Ok}
use Rattle.steps.specs.Modes.{mode_of}
use Rattle.projection_walk.specs.Carries.{Carries, projections_at}
use Rattle.projection_walk.proofs.walk_projections.Given as goal

abbrev pub invariant-loop : goal.invariant-loop
invariant-loop l = Carries 0 l.context l.initial.walk l.initial.pairs l.walk l.pairs (projections_at l.context (mode_of l.mode) l.counter) (Ok tt)
