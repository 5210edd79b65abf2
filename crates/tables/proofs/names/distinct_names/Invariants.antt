-- The loop's invariant: no name of the whole stands among those before it if none of those that are left does.
use Rattle.std.proofs.Common.{◌≡◌, take, drop}
use Rattle.tables.specs.Distinct.{name_in, fresh_after, distinct}
use Rattle.tables.specs.Answer.{names_at}
use Rattle.tables.proofs.names.distinct_names.Given as goal

abbrev pub invariant-loop-i : goal.invariant-loop-i
invariant-loop-i l = distinct name_in (names_at l.s l.places) ≡ fresh_after name_in (names_at l.s (take l.i l.places)) (names_at l.s (drop l.i l.places))
