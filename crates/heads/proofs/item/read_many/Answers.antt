-- One item a turn (`Row`).
use Rattle.std.proofs.Common.{arith}
use Rattle.heads.proofs.Rows.{row_begun, row_next, row_stop, row_done}
use Rattle.heads.proofs.item.read_many.Goals as goal

pub loop-init : goal.loop-init
loop-init g c = row_begun _ _ _ _ c.requires

pub returns-in_err-p : goal.returns-in_err-p
returns-in_err-p g c = row_stop c.loop.invariant _ _ (omega arith) c.in_err-p.ensures c.from_residual.ensures

pub loop-preserved : goal.loop-preserved
loop-preserved g c = row_next c.loop.invariant (omega arith) c.in_ok-p.ensures

pub returns : goal.returns
returns g c = row_done c.loop.invariant (omega arith)
