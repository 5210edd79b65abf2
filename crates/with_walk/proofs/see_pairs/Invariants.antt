-- After i turns the first i pairs are seen, and as many of them counted as are the first of their name (`Seeing`).
use Rattle.with_walk.proofs.Seeing.{Seeing}
use Rattle.with_walk.proofs.see_pairs.Given as goal

abbrev pub invariant-loop-i : goal.invariant-loop-i
invariant-loop-i l = Seeing l.i l.pairs l.initial.walk l.walk l.made
