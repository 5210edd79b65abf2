-- What is left to read is what the whole is (`Row`).
use Rattle.heads.specs.Answer.{words_of}
use Rattle.heads.proofs.Rows.{Row, many_rows}
use Rattle.heads.proofs.item.read_many.Given as goal

abbrev pub invariant-loop : goal.invariant-loop
invariant-loop g l = Row (many_rows (g.I.Item.one l.section.names)) (words_of l.section) l.at l.n l.counter l.p
