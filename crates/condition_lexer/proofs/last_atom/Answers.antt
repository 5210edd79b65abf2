-- A digit more.
use Prim.Native.Nat.{◌-◌, ◌*◌, ◌≤◌}
use native.Mathlib.Nat.{mul-le-mul_right}
use native.Mathlib.Numerals.{add-one}
use native.Mathlib.Omega.{arith}
use lib.ListN.{get_or, length}
use Rattle.condition_lexer.proofs.Ends.{digits_turn}
use Rattle.condition_lexer.proofs.last_atom.Goals as goal

pub loop-digits-preserved : goal.loop-digits-preserved
loop-digits-preserved c =
    let b = get_or c.loop-digits.rest.now (length c.loop-digits.rest.now - 1) 0 in
    let d : b ≤ 57 = grind arith in
    let p : (b - 48) * c.loop-digits.scale ≤ 9 * c.loop-digits.scale = mul-le-mul_right c.loop-digits.scale (omega (arith, d)) in
    (rw (c.loop-digits.invariant.0, add-one) (omega arith), omega arith, grind (arith, digits_turn))
