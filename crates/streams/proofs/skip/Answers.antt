-- A page more, and what is left after whole pages.
use Rattle.std.proofs.Common.{◌%◌, true, eqb, arith, ap}
use Rattle.std.proofs.lemmas.List.{length-take}
use Rattle.std.proofs.lemmas.Bool.Decides.{nat_tests}
use Rattle.streams.proofs.Skipping.{Skips-add_read}
use Rattle.streams.proofs.skip.Goals as goal

pub loop-preserved : goal.loop-preserved
loop-preserved g c =
    let e = c.in_ok-read_full.ensures in
    Skips-add_read _ _ _ _ _ _ _ c.loop.invariant e.within.1 e.bytes e.front (omega arith) true (grind (arith, nat_tests))

pub returns : goal.returns
returns g c =
    let e = c.in_ok-read_full-2.ensures in
    let lengths = length-take (c.args.n % 8192) c.loop.room in
    Skips-add_read _ _ _ _ _ _ _ c.loop.invariant e.within.1 e.bytes e.front (omega (arith, lengths)) _ (ap (eqb c.in_ok-read_full-2.field-0) (omega (arith, lengths)))
