-- One a turn (`Rows`).
use native.Mathlib.Omega.{arith}
use Rattle.condition_printer.proofs.RowKinds.{clauses}
use Rattle.condition_printer.proofs.Rows.{row-begins, row-ready, row-turns, row_put}
use Rattle.condition_printer.proofs.lines.print_clauses.Goals as goal

pub loop-init : goal.loop-init
loop-init c =
    row-begins (clauses c.args.section.now.names) c.args.page.now (omega arith) c.requires

pub print_clause-next-requires : goal.print_clause-next-requires
print_clause-next-requires c =
    row-ready (clauses _) c.loop.invariant (omega arith)

pub loop-preserved : goal.loop-preserved
loop-preserved c =
    row-turns (clauses _) c.loop.invariant (omega arith) (omega arith) c.print_clause-next.ensures

pub returns : goal.returns
returns c =
    row_put (clauses _) c.loop.invariant (omega arith)
