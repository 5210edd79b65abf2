-- The loop's invariant: the list has what the events passed bind, with what their barriers carry.
use Rattle.entries.specs.Stamps.{IsStill, kept}
use Rattle.lists_fill.proofs.Weaving.{Weaving}
use Rattle.lists_fill.proofs.Carried.weave_all.Given as goal

abbrev pub invariant-loop-i : goal.invariant-loop-i
invariant-loop-i l =
    record {
      still : IsStill l.initial.bindings l.bindings;
      weaving : Weaving l.self l.found l.n (kept l.initial.bindings) (kept l.bindings) l.i l.c;
    }
