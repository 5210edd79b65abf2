-- The loop's invariant: what all digits say is what those that are left say behind the number so far.
use Rattle.std.proofs.Common.{◌≡◌, drop}
use Rattle.tables.proofs.VarNames.{say}
use Rattle.tables.proofs.var_name.var_id.Given as goal

abbrev pub invariant-loop-digit : goal.invariant-loop-digit
invariant-loop-digit l = say 0 l.digits ≡ say l.v (drop l.digit-index l.digits)
