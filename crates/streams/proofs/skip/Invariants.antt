-- So many pages were there, and are gone.
use Rattle.std.proofs.Common.{◌*◌, true}
use Rattle.streams.specs.Skip.{Skips}
use Rattle.streams.proofs.skip.Given as goal

abbrev pub invariant-loop : goal.invariant-loop
invariant-loop g l = Skips (l.counter * 8192) (g.R.Read.remaining l.initial.input) (g.R.Read.remaining l.input) true
