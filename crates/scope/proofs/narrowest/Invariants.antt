-- The loop's invariant: the best of all scopes is the best of those from the number i on, with the best so far.
use Rattle.std.proofs.Common.{◌≡◌, map, drop}
use Rattle.scope.specs.Answer.{best_as}
use Rattle.scope.specs.Flat.{scope_of}
use Rattle.scope.specs.Offset.{none', narrowest}
use Rattle.scope.proofs.narrowest.Given as goal

abbrev pub invariant-loop-i : goal.invariant-loop-i
invariant-loop-i l = narrowest l.o 0 (map scope_of l.scopes) none' ≡ narrowest l.o l.i (map scope_of (drop l.i l.scopes)) (best_as l.best)
