-- An operator a turn.
use native.Mathlib.Omega.{arith}
use mathlib.Core.Path.{refl}
use Rattle.condition_reader.proofs.Working.{turns, stops, ends}
use Rattle.condition_reader.proofs.machine.Machine.unwind.Goals as goal

pub loop-self-preserved : goal.loop-self-preserved
loop-self-preserved c =
    turns c.loop-self.invariant (omega arith) (omega arith) refl refl refl refl c.write.ensures

pub returns-else-self-limit : goal.returns-else-self-limit
returns-else-self-limit c =
    stops c.loop-self.invariant (omega arith) (omega arith)

pub returns-after-loop-self : goal.returns-after-loop-self
returns-after-loop-self c =
    ends c.loop-self.invariant (omega arith)
