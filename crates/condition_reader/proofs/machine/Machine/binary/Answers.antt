-- What waits with a tighter level is written, and the operator waits.
use mathlib.Core.Path.{refl}
use Rattle.condition_reader.proofs.Working.{joined}
use Rattle.condition_reader.proofs.machine.Machine.binary.Goals as goal

pub returns : goal.returns
returns c =
    joined _ c.requires (rw c.binary_level.ensures at c.rank-rank.ensures) c.unwind.ensures refl refl refl refl refl
