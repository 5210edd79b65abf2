-- The loop's invariant: the lines of the first i findings are laid.
use Rattle.texts.specs.Laid.{Lays}
use Rattle.lines.proofs.Told.{told}
use Rattle.lines.proofs.lay_lines.Given as goal

abbrev pub invariant-loop-i : goal.invariant-loop-i
invariant-loop-i l = Lays (told l.names l.found l.i) l.initial.out 0 l.out l.at
