-- Each number is laid where the last one's blank ended.
use mathlib.Core.List.{append_assoc}
use Rattle.texts.proofs.Laying.{lays-then}
use Rattle.lines.specs.Lines.{front}
use Rattle.lines.proofs.lay.lay_front.Goals as goal

pub returns : goal.returns
unfolding front
returns c = simp append_assoc at (lays-then c.lay_code-a.ensures (lays-then c.lay_number-b.ensures c.lay_number.ensures))
