-- The count, the projections, which hold what they carry, the flag and the filter (`Filters`).
use native.Mathlib.Omega.{arith}
use Rattle.steps.specs.Modes.{mode_of}
use Rattle.clause_parts.proofs.Passing.{in_range}
use Rattle.projection_walk.proofs.Filters.{pairs-refused, filter-asks, filter_passes}
use Rattle.projection_walk.proofs.walk_filtered.Goals as goal

pub returns-in_err-walk_projections : goal.returns-in_err-walk_projections
returns-in_err-walk_projections c =
    pairs-refused (mode_of c.args.mode) c.in_ok-n.ensures _ c.in_err-walk_projections.ensures c.from_residual-in_err-walk_projections.ensures

pub walk_row-requires : goal.walk_row-requires
walk_row-requires c =
    ((omega arith, omega (arith, (in_range c.in_ok-filters.ensures).1)), filter-asks (mode_of c.args.mode) c.in_ok-n.ensures c.in_ok-walk_projections.ensures c.in_ok-filters.ensures c.requires.1.1)

pub returns : goal.returns
returns c =
    filter_passes (mode_of c.args.mode) c.in_ok-n.ensures c.in_ok-walk_projections.ensures c.in_ok-filters.ensures _ (rw c.all.ensures at c.walk_row.ensures)
