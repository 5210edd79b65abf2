-- The front is what was copied, and the rest is as it was.
use Rattle.std.proofs.Common.{length-take-le}
use Rattle.entries.specs.Filled.{filled}
use Rattle.checker.proofs.copy.Goals as goal

pub returns : goal.returns
unfolding filled
returns c =
    let long = length-take-le c.args.n c.args.from.now c.requires.0 in
    rw (c.copy_from_slice.ensures.after, long)
