-- One a turn (`Rows`).
use native.Mathlib.Omega.{arith}
use Rattle.condition_printer.proofs.RowKinds.{arms}
use Rattle.condition_printer.proofs.Rows.{row-begins, row-ready, row-turns, row_put}
use Rattle.condition_printer.proofs.lines.print_arms.Goals as goal

pub loop-init : goal.loop-init
loop-init c =
    row-begins (arms c.args.section.now.names) c.args.page.now (omega arith) c.requires

pub print_arm-next-requires : goal.print_arm-next-requires
print_arm-next-requires c =
    row-ready (arms _) c.loop.invariant (omega arith)

pub loop-preserved : goal.loop-preserved
loop-preserved c =
    row-turns (arms _) c.loop.invariant (omega arith) (omega arith) c.print_arm-next.ensures

pub returns : goal.returns
returns c =
    row_put (arms _) c.loop.invariant (omega arith)
