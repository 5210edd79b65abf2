-- The loop's invariant: the records are those that were lent, with the first i stored.
use Rattle.std.proofs.Common.{◌≡◌, take}
use Rattle.finding.specs.Records.{into}
use Rattle.finding.proofs.store_all.Given as goal

abbrev pub invariant-loop-i : goal.invariant-loop-i
invariant-loop-i l = l.record-items ≡ into (take l.fn.count l.fn.list) l.flat l.i
