-- Each piece is laid where the last one ended.
use Rattle.texts.proofs.Laying.{lays-then}
use Rattle.texts.proofs.pieces.lay_around.Goals as goal

pub returns : goal.returns
returns c = lays-then c.lay-p.ensures (lays-then c.lay-q.ensures c.lay.ensures)
