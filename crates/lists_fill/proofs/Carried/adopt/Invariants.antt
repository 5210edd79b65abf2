-- The loop's invariant: what the barrier carries up to p is bound.
use Rattle.std.proofs.Common.{◌-◌}
use Rattle.entries.specs.Stamps.{IsStill, kept}
use Rattle.lists_fill.specs.Weaving.{kinds}
use Rattle.lists_fill.proofs.Weaving.{Adopting}
use Rattle.lists_fill.proofs.Carried.adopt.Given as goal

abbrev pub invariant-loop-p : goal.invariant-loop-p
invariant-loop-p l =
    record {
      still : IsStill l.initial.bindings l.bindings;
      adopting : Adopting (kinds l.self) l.self.taken l.self.list.now (l.root - 1) l.c (kept l.initial.bindings) (kept l.bindings) l.p;
    }
