-- Each piece is laid where the last one ended.
use mathlib.Core.List.{append_assoc}
use Rattle.texts.proofs.Laying.{lays-then}
use Rattle.texts.proofs.pieces.lay_kind.Goals as goal

pub returns : goal.returns
returns c = rw (← c.kind_name.ensures) (simp append_assoc at (lays-then c.lay_around-p.ensures (lays-then c.lay-q.ensures c.lay.ensures)))
