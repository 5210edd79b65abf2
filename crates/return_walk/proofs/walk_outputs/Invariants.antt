-- A loop of rounds (walk's Turning).
use Rattle.std.specs.Prelude.{Some}
use Rattle.clauses.specs.Read.{max_depth}
use Rattle.steps.specs.Modes.{mode_of}
use Rattle.walk.proofs.Stage.{Turning}
use Rattle.return_walk.specs.Returns.{output_at}
use Rattle.return_walk.proofs.walk_outputs.Given as goal

abbrev pub invariant-loop : goal.invariant-loop
invariant-loop l = Turning (Some max_depth) l.context l.initial.walk l.n (output_at l.context (mode_of l.mode)) l.walk l.counter
