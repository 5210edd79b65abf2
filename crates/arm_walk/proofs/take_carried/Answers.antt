-- After i turns the list has the i oldest visible names behind those that it had (`Stored`).
use mathlib.Core.Path.{ap}
use native.Mathlib.Omega.{arith}
use Rattle.arm_walk.proofs.Storing.{placed-below, none-stored, one-stored}
use Rattle.arm_walk.proofs.take_carried.Goals as goal

pub loop-i-init : goal.loop-i-init
loop-i-init c = none-stored

pub name-name-requires : goal.name-name-requires
name-name-requires c = (rw (ap (λ p. p.0) c.entry-place.ensures) (placed-below c.requires _ (omega arith)), c.requires.numbered)

pub loop-i-preserved : goal.loop-i-preserved
loop-i-preserved c = one-stored (omega arith) c.loop-i.invariant (rw (c.name-name.ensures.name, ap (λ p. p.0) c.entry-place.ensures, ap (λ p. p.1) c.entry-place.ensures) at c.put_carried.ensures)
