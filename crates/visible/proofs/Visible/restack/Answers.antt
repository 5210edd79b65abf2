-- The loop's invariant: of the entries below i the newest of their names are kept, and the rest is as it was.
use native.Mathlib.Omega.{arith}
use mathlib.Core.Path.{◌≡◌, refl}
use Rattle.visible.proofs.Halves.{begin, once-seens, once-tabled}
use Rattle.visible.proofs.Visible.restack.Goals as goal

pub loop-i-init : goal.loop-i-init
loop-i-init c =
    record { still = record { names = refl; lent = refl; size = refl }; half = begin c.requires.1 }

pub returns : goal.returns
returns c =
    let l = c.loop-i.invariant in
    let z : c.loop-i.i ≡ c.args.self.now.top = omega arith in
    let f = rw z at l.half in
    record { still = record { names = l.still.names; lent = l.still.lent; size = l.still.size }; same = rw l.still.names (once-seens f); sound = rw l.still.names (once-tabled c.requires.1 f); few = f.few }
