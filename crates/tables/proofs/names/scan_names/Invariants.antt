-- The loop's invariant is `Scan`: the names read so far are in the tables, and those that are left give the rest.
-- A name takes at least a word, so the tables have a place for each.
use Rattle.std.proofs.Common.{◌≡◌, ◌-◌, length}
use Rattle.tables.proofs.Scan.{Scan}
use Rattle.tables.proofs.names.scan_names.Given as goal

abbrev pub invariant-loop-i : goal.invariant-loop-i
invariant-loop-i l = Scan l.s l.n l.tab l.ids l.p l.i (l.n - l.i) × (length l.tab ≡ length l.initial.tab) × (length l.ids ≡ length l.initial.ids)
