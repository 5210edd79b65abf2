-- The first aliases are marked, one more with each turn.
use Rattle.return_walk.specs.Returns.{Marked}
use Rattle.return_walk.proofs.aliases.Aliases.mark.Given as goal

abbrev pub invariant-loop-x : goal.invariant-loop-x
invariant-loop-x l = Marked l.to l.x-index l.self.words.now l.initial.marks l.marks
