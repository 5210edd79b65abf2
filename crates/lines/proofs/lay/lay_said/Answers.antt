-- No text is none laid.
use Rattle.texts.proofs.Laying.{lays-none}
use Rattle.lines.proofs.lay.lay_said.Goals as goal

pub returns-in-None : goal.returns-in-None
returns-in-None c = rw (← c.text_for.ensures, c.in-None.is) (lays-none _ 0)
