-- An operator a turn.
use Rattle.condition_reader.proofs.Working.{Unwinding}
use Rattle.condition_reader.proofs.machine.Machine.unwind.Given as goal

abbrev pub invariant-loop-self : goal.invariant-loop-self
invariant-loop-self l = Unwinding l.limit l.initial.self l.self

abbrev pub decreases-loop-self : goal.decreases-loop-self
decreases-loop-self l = l.self.waiting
