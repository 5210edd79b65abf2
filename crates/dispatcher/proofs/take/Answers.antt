-- The loop's invariant: the words are as they were, and what is left is the definition's look from the queue on (`Round`).
use Rattle.std.proofs.Common.{arith}
use Rattle.dispatcher.proofs.Round.{starts, passes, stops, ends}
use Rattle.dispatcher.proofs.take.Goals as goal

pub loop-passed-init : goal.loop-passed-init
loop-passed-init c = starts _

pub returns-then-words-queue-gt0 : goal.returns-then-words-queue-gt0
returns-then-words-queue-gt0 c =
    stops _ _ _ _ c.loop-passed.invariant _ _ (omega arith) c.serve-item.ensures

pub loop-passed-preserved : goal.loop-passed-preserved
loop-passed-preserved c =
    passes _ _ _ _ c.loop-passed.invariant _ (omega arith) (omega arith) (omega arith)

pub returns : goal.returns
returns c =
    ends _ _ _ _ c.loop-passed.invariant (omega arith)
