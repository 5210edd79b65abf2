-- A token a turn (`Judging`); the bytes that are left fall.
use lib.ListN.{length}
use Rattle.condition_reader.proofs.JudgeTurns.{Judging}
use Rattle.condition_reader.proofs.judging.judge.Given as goal

abbrev pub invariant-loop-rest : goal.invariant-loop-rest
invariant-loop-rest l = Judging l.text l.low l.rest l.window l.mode l.depth l.deepest l.entries

abbrev pub decreases-loop-rest : goal.decreases-loop-rest
decreases-loop-rest l = length l.rest
