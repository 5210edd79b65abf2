-- Two stores.
use native.Mathlib.Omega.{arith}
use mathlib.Core.Path.{refl}
use Rattle.condition_reader.proofs.Working.{written}
use Rattle.condition_reader.proofs.machine.Machine.write.Goals as goal

pub returns : goal.returns
returns c =
    written (omega arith) refl refl refl refl refl
