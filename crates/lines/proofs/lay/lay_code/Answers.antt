-- The number is laid after the letter.
use Rattle.texts.proofs.Laying.{lays-then}
use Rattle.lines.proofs.lay.lay_code.Goals as goal

pub returns : goal.returns
returns c = lays-then c.lay-p.ensures c.lay_number.ensures
