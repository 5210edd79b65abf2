-- The names are read to the end of their bytes or not; then no two are the same.
use Rattle.std.proofs.Common.{refl, sym, arith}
use lib.Seq.{length-take-le}
use Rattle.sheet.proofs.Section.{names-none, names-whole}
use Rattle.sheet.proofs.names.are_names.Goals as goal

pub returns-else-are_read : goal.returns-else-are_read
returns-else-are_read c = rw c.if-are_read.false (names-none (rw c.if-are_read.false at c.are_read.ensures))

pub slice_bounds-distinct_names-end : goal.slice_bounds-distinct_names-end
slice_bounds-distinct_names-end c =
    let x = rw c.if-are_read.true at c.are_read.ensures in
    omega (arith, x.many refl)

pub slice_bounds-distinct_names-end-then-are_read : goal.slice_bounds-distinct_names-end-then-are_read
slice_bounds-distinct_names-end-then-are_read c =
    let x = rw c.if-are_read.true at c.are_read.ensures in
    sym (length-take-le _ _ (omega (arith, x.many refl)))

pub distinct_names-requires : goal.distinct_names-requires
distinct_names-requires c =
    let x = rw c.if-are_read.true at c.are_read.ensures in
    x.uses refl

pub returns-then-are_read : goal.returns-then-are_read
returns-then-are_read c = names-whole (rw c.if-are_read.true at c.are_read.ensures) c.distinct_names.ensures
