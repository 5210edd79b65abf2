-- The loop's invariant: what may be needed, the first i lines measured. It is never less than the listing's length, and at last just that.
use Prim.Native.Nat.{◌≤◌}
use mathlib.Core.Path.{◌≡◌}
use Rattle.lines.proofs.Most.{needed}
use Rattle.lines.proofs.has_room.Given as goal

abbrev pub invariant-loop-i : goal.invariant-loop-i
invariant-loop-i l = record { same : l.need ≡ needed l.names l.found l.i; small : l.need ≤ 17119274 }
