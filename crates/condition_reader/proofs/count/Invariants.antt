-- The passes so far looked at every level below low; what is left of the deepest level falls.
use Prim.Native.Nat.{◌-◌}
use Rattle.condition_reader.specs.Pass.{peak, toks_of}
use Rattle.condition_reader.proofs.Whole.{Passed}
use Rattle.condition_reader.proofs.count.Given as goal

abbrev pub invariant-loop-judged : goal.invariant-loop-judged
invariant-loop-judged l = Passed l.text l.low

abbrev pub decreases-loop-judged : goal.decreases-loop-judged
decreases-loop-judged l = peak (toks_of l.text) 0 0 - l.low
