-- The loop's invariant: the words are as they were, and what is left is the definition's look from the next queue on (`Round`).
use Rattle.std.specs.Prelude.{◌+◌, ◌%◌}
use Rattle.dispatcher.proofs.Round.{Round}
use Rattle.dispatcher.proofs.take.Given as goal

abbrev pub invariant-loop-passed : goal.invariant-loop-passed
invariant-loop-passed l = Round l.initial.words l.words ((l.first + l.passed) % 32) l.passed
