-- The code's tests are the definition's, of the words that were read.
use native.Mathlib.Omega.{arith}
use Prim.Native.Nat.{◌+◌, ◌-◌}
use mathlib.Core.Path.{◌≡◌}
use lib.ListN.{length}
use Rattle.words.specs.Words.{words}
use Rattle.sheet.specs.Trailer.{in_place}
use Rattle.sheet.proofs.trailer.is_in_place.Goals as goal

pub returns : goal.returns
unfolding in_place
returns c =
    let a = c.args in
    let at : length (words a.s.now) - 10 ≡ a.t = omega arith in
    let none : a.t + 0 ≡ a.t = omega arith in
    rw (at, none, c.word-names.ensures, c.word-rows.ensures, c.word-head.ensures, c.word-arms.ensures, c.word-start.ensures, c.word-end.ensures)
