-- The loop's invariant: from the entry i on, none is of the scope and the name.
use Rattle.std.proofs.Common.{drop, map}
use Rattle.scope.specs.Flat.{binding_of}
use Rattle.scope.specs.Graph.{name}
use Rattle.entries.specs.Adding.{Without, is_binding}
use Rattle.entries.proofs.place_of_name.Given as goal

abbrev pub invariant-loop-i : goal.invariant-loop-i
invariant-loop-i l = Without (is_binding l.scope (name l.mark l.word)) (map binding_of (drop l.i l.bindings))
