-- The loop's invariant: the entries are those of the first i names.
use Rattle.tables.specs.Answer.{names_at}
use Rattle.rowless.proofs.Listed.{Begun}
use Rattle.rowless.proofs.Rowless.restart.Given as goal

abbrev pub invariant-loop-i : goal.invariant-loop-i
invariant-loop-i l = Begun (names_at l.section l.names) l.fn.self l.self l.i
