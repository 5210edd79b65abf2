-- One digit is a byte; more of them are put into the rest of the page.
use Prim.Native.Nat.{ℕ, ◌+◌, ◌%◌, ◌<◌}
use native.Mathlib.Omega.{arith}
use mathlib.Core.Path.{◌≡◌}
use mathlib.Core.List.{[], ◌∷◌}
use lib.ListN.{length-take, length-drop}
use Rattle.words.specs.Decimal.{low_digits, decimal}
use Rattle.words.proofs.Digits.{width_one, length-decimal}
use Rattle.texts.proofs.Laying.{lays-rest, lays-put}
use Rattle.lines.proofs.lay.lay_digits.Goals as goal

one-digit : (n : ℕ) → n < 10 → decimal n ≡ (48 + n) ∷ []
unfolding decimal low_digits
one-digit n h = let e : 48 + n % 10 ≡ 48 + n = omega arith in rw (width_one n h, e)

pub lay-requires : goal.lay-requires
lay-requires c = let n = c.args.n in omega (arith, length-decimal n, width_one n c.if-n-lt10.true, c.requires)

pub returns-then-n-lt10 : goal.returns-then-n-lt10
returns-then-n-lt10 c = rw (one-digit c.args.n c.if-n-lt10.true) c.lay.ensures

pub overflow_add-result : goal.overflow_add-result
overflow_add-result c =
    let laid = lays-rest (lays-put c.put_decimal.ensures (simp (length-take, length-drop) (omega (arith, c.requires)))) c.requires in
    omega (arith, laid.next, c.requires, c.well_formed)

pub returns : goal.returns
returns c = lays-rest (lays-put c.put_decimal.ensures (simp (length-take, length-drop) (omega (arith, c.requires)))) c.requires
