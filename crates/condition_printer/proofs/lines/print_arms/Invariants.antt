-- One a turn (`Rows`).
use Prim.Native.Nat.{◌-◌}
use Rattle.heads.specs.Answer.{words_of}
use Rattle.condition_printer.proofs.RowKinds.{arms}
use Rattle.condition_printer.proofs.Rows.{Row}
use Rattle.condition_printer.proofs.lines.print_arms.Given as goal

abbrev pub invariant-loop : goal.invariant-loop
invariant-loop l = Row (arms l.section.names) (words_of l.section) l.at l.n l.initial.page l.next (l.n - l.counter) l.page
