-- The digits are written from the last to the first. Those still to be written, before what stands from i on,
-- are always the whole decimal before the rest of the page as it came.
use Rattle.std.proofs.Common.{◌≡◌, ◌++◌, drop}
use Rattle.words.specs.Decimal.{low_digits, decimal}
use Rattle.words.proofs.decimal.put_decimal.Given as goal

abbrev pub invariant-loop-i : goal.invariant-loop-i
invariant-loop-i l = decimal l.n ++ drop l.k l.initial.out ≡ low_digits l.i l.m ++ drop l.i l.out
