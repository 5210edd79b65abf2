-- The loop's invariant: the number is what the digits that are left write behind those of the value.
use Rattle.std.proofs.Common.{◌≡◌, drop}
use Rattle.turns.specs.Command.{digits_from}
use Rattle.turns.proofs.line.value.Given as goal

abbrev pub invariant-loop-digit : goal.invariant-loop-digit
invariant-loop-digit l = digits_from 0 l.digits ≡ digits_from l.value (drop l.digit-index l.digits)
