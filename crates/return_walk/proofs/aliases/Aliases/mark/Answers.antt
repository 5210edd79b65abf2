-- The first aliases are marked, one more with each turn.
use Prim.Native.Nat.{◌<◌}
use native.Mathlib.Omega.{arith}
use mathlib.Core.Path.{sym}
use lib.Seq.{get_or-take, length-take-le}
use Rattle.return_walk.proofs.Marking.{none-marked, one-marked}
use Rattle.return_walk.proofs.aliases.Aliases.mark.Goals as goal

pub loop-x-init : goal.loop-x-init
loop-x-init c = none-marked

pub loop-x-preserved : goal.loop-x-preserved
loop-x-preserved c =
    let l = c.loop-x in
    let a = c.args.self.now in
    let h : l.x-index < a.count = omega (arith, length-take-le a.count a.words.now c.requires.wide) in
    let same = get_or-take a.count a.words.now l.x-index 0 h in
    one-marked l.invariant (sym same) (rw same (c.requires.named.named l.x-index h))
