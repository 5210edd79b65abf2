-- The loop's invariant: the flat list is the one that was lent, with its first i records stored.
use Rattle.std.proofs.Common.{◌≡◌}
use Rattle.finding.specs.Records.{out_of}
use Rattle.finding.proofs.load_all.Given as goal

abbrev pub invariant-loop-i : goal.invariant-loop-i
invariant-loop-i l = l.flat ≡ out_of l.fn.flat l.list l.i
