-- Ten bytes after the prefix are enough for the digits.
use Rattle.std.proofs.Common.{arith, refl}
use Rattle.tables.proofs.VarNames.{laid}
use Rattle.tables.proofs.var_name.VarName.new.Goals as goal

pub overflow_add-result : goal.overflow_add-result
overflow_add-result c = omega (arith, (laid _ _ _ _ c.ranges.v.fits refl c.put_decimal-digits.ensures).0)

pub invariant_of-result : goal.invariant_of-result
invariant_of-result c = record { within = omega (arith, (laid _ _ _ _ c.ranges.v.fits refl c.put_decimal-digits.ensures).0) }

pub returns : goal.returns
returns c = (laid _ _ _ _ c.ranges.v.fits refl c.put_decimal-digits.ensures).1
