-- The number is laid where the words ended; for 0 there is no line.
use native.Mathlib.Omega.{arith}
use Rattle.words.proofs.Digits.{length-decimal}
use Rattle.texts.proofs.Laying.{lays-none, lays-then}
use Rattle.lines.proofs.Sizes.{old-none, old-some, old-long}
use Rattle.lines.proofs.lay.lay_old.Goals as goal

pub returns-then-n-eq0 : goal.returns-then-n-eq0
returns-then-n-eq0 c = rw (old-none c.if-n-eq0.true) (lays-none _ 0)

pub lay-a-requires : goal.lay-a-requires
lay-a-requires c = omega (arith, old-long c.args.n (omega arith), c.requires)

pub lay_number-requires : goal.lay_number-requires
lay_number-requires c = omega (arith, old-long c.args.n (omega arith), length-decimal c.args.n, c.requires, c.lay-a.ensures)

pub returns : goal.returns
returns c = rw (old-some c.args.n (omega arith)) (lays-then c.lay-a.ensures c.lay_number.ensures)
