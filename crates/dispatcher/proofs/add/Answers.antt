-- Each return is a case of the definition: a number above 31, a full queue, or an item at the first free place of the ring.
use native.Mathlib.Omega.{arith}
use Rattle.dispatcher.proofs.Ring.{adds-nowhere, adds-full, adds-done}
use Rattle.dispatcher.proofs.add.Goals as goal

pub returns-then-queue-gt31 : goal.returns-then-queue-gt31
returns-then-queue-gt31 c =
    adds-nowhere _ _ _ c.if-queue-gt31.true

pub returns-then-n-ge16 : goal.returns-then-n-ge16
returns-then-n-ge16 c =
    adds-full _ _ (omega arith) (omega arith) _ (omega arith)

pub returns : goal.returns
returns c =
    adds-done _ _ (omega arith) (omega arith) _ (omega arith)
