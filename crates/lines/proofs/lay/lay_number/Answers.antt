-- The byte is laid where the digits ended.
use Rattle.texts.proofs.Laying.{lays-then}
use Rattle.lines.proofs.lay.lay_number.Goals as goal

pub returns : goal.returns
returns c = lays-then c.lay_digits-p.ensures c.lay.ensures
