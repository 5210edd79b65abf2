-- The loop's invariant: the words hold the stack up to the entry that comes next, and what is below the height asked for is as it was.
use Prim.Native.Nat.{suc, ◌-◌}
use native.Mathlib.Omega.{arith}
use mathlib.Core.Path.{◌≡◌, ◌∙◌}
use lib.ListN.{length-set}
use Rattle.visible.specs.Visible.{Tabled}
use Rattle.visible.proofs.Places.{less-seens, less-tabled}
use Rattle.visible.proofs.Visible.cut.Goals as goal

pub loop-i-preserved : goal.loop-i-preserved
loop-i-preserved c =
    let v = c.loop-i.self in
    let i = c.loop-i.i in
    let f = c.loop-i.invariant in
    let z : i ≡ suc (i - 1) = omega arith in
    let w : Tabled v.names (suc (i - 1)) v.words.now = rw (← z) f.sound in
    record {
      low = omega arith;
      still = record { names = f.still.names; lent = f.still.lent; size = length-set _ _ _ ∙ f.still.size };
      same = less-seens _ _ _ w _ ∙ f.same;
      sound = less-tabled _ _ _ w;
    }
