-- The loop's invariant: of the entries below i the newest of their names are kept, and the rest is as it was.
use Rattle.visible.specs.Visible.{Halfway}
use Rattle.visible.specs.Stack.{Still}
use Rattle.visible.proofs.Visible.restack.Given as goal

abbrev pub invariant-loop-i : goal.invariant-loop-i
invariant-loop-i l = record {
  still : Still l.initial.self l.self;
  half : Halfway l.initial.self.names l.initial.self.top l.scope l.initial.self.words.now l.self.words.now l.i l.kept;
}
