-- The words stored are the ring's with its oldest item out (`serves`).
use Rattle.std.proofs.Common.{arith}
use Rattle.dispatcher.proofs.Ring.{serves}
use Rattle.dispatcher.proofs.serve.Goals as goal

pub returns : goal.returns
returns c =
    serves _ _ (omega arith) c.requires.0 _ c.min-count.ensures c.requires.1
