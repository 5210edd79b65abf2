-- The number is laid where the word ended.
use Rattle.texts.proofs.Laying.{lays-then}
use Rattle.lines.proofs.lay.lay_head.Goals as goal

pub returns : goal.returns
returns c = lays-then c.lay-a.ensures c.lay_number.ensures
