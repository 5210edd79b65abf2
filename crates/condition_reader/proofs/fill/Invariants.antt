-- A token a turn (`Filling`); the bytes that are left fall.
use mathlib.Core.Path.{◌≡◌}
use lib.ListN.{length}
use Rattle.condition_reader.proofs.FillTurns.{Filling}
use Rattle.condition_reader.proofs.fill.Given as goal

abbrev pub invariant-loop-token : goal.invariant-loop-token
invariant-loop-token l = (l.machine.list.ghost_name ≡ l.initial.machine.list.ghost_name) × Filling l.text l.entries l.fn.list l.rest l.machine

abbrev pub decreases-loop-token : goal.decreases-loop-token
decreases-loop-token l = length l.rest
