-- The names stand in the bytes before the bindings, and take fewer words than the sheet has.
use Prim.Native.Nat.{◌*◌}
use native.Mathlib.Omega.{arith}
use borrow.Author.Rules.{rules}
use lib.ListN.{length-take}
use Rattle.words.proofs.Words.{length-words}
use Rattle.sheet_walk.proofs.reading.names_of.Goals as goal

pub are_names-requires : goal.are_names-requires
are_names-requires c =
    let a = c.args in
    (search rules, omega (arith, length-words a.s.now, length-take (a.p.rows * 4) a.s.now))
