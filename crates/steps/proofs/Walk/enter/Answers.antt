-- The event is said where it is wanted, and then the numbers of the scopes move on (`enters`).
use native.Mathlib.Omega.{arith}
use Rattle.steps.proofs.Held.{more-costs}
use Rattle.steps.proofs.Numbers.{kind-number}
use Rattle.steps.proofs.Moved.{enters}
use Rattle.steps.proofs.Walk.enter.Goals as goal

pub returns : goal.returns
returns c =
    rw (kind-number c.args.kind) (more-costs (omega arith) (omega arith) (omega arith) (enters c.say_wanted.ensures))
