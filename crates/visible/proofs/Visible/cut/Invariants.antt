-- The loop's invariant: the words hold the stack up to the entry that comes next, and what is below the height asked for is as it was.
use Rattle.std.specs.Prelude.{◌≡◌, ◌≤◌}
use Rattle.visible.specs.Visible.{seens, Tabled}
use Rattle.visible.specs.Stack.{Still}
use Rattle.visible.proofs.Visible.cut.Given as goal

abbrev pub invariant-loop-i : goal.invariant-loop-i
invariant-loop-i l = record {
  low : l.height ≤ l.i;
  still : Still l.initial.self l.self;
  same : seens l.self.names l.height l.self.words.now ≡ seens l.self.names l.height l.initial.self.words.now;
  sound : Tabled l.self.names l.i l.self.words.now;
}
