-- Eleven bytes, the digits and a line feed; nothing for 0.
use native.Mathlib.Omega.{arith}
use mathlib.Core.Path.{ap}
use lib.ListN.{length}
use Rattle.words.proofs.Digits.{width-le}
use Rattle.lines.proofs.Sizes.{old-none, old-long}
use Rattle.lines.proofs.measure.old_len.Goals as goal

pub returns-then-n-eq0 : goal.returns-then-n-eq0
returns-then-n-eq0 c = omega (arith, ap length (old-none c.if-n-eq0.true))

pub overflow_add-result : goal.overflow_add-result
overflow_add-result c = omega (arith, c.decimal_width.ensures, width-le c.args.n (omega arith))

pub returns : goal.returns
returns c = omega (arith, c.decimal_width.ensures, old-long c.args.n (omega arith))
