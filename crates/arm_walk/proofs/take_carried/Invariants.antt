-- After i turns the list has the i oldest visible names behind those that it had (`Stored`).
use Rattle.arm_walk.proofs.Storing.{Stored}
use Rattle.arm_walk.proofs.take_carried.Given as goal

abbrev pub invariant-loop-i : goal.invariant-loop-i
invariant-loop-i l = Stored l.walk l.initial.carried l.barrier l.from l.carried l.i
