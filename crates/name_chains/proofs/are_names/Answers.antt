-- The names are read to the end of their bytes or not; then no two are the same, by pairs or by chains.
use Rattle.sheet.proofs.Section.{names-none, names-whole}
use Rattle.name_chains.proofs.are_names.Goals as goal

pub returns-then-not-are_read : goal.returns-then-not-are_read
returns-then-not-are_read c = names-none (rw c.if-not-are_read.true at c.are_read.ensures)

pub returns-then-n-le-FEW : goal.returns-then-n-le-FEW
returns-then-n-le-FEW c = names-whole (rw c.if-not-are_read.false at c.are_read.ensures) c.distinct_names.ensures

pub returns : goal.returns
returns c = names-whole (rw c.if-not-are_read.false at c.are_read.ensures) c.distinct_by_chains.ensures
