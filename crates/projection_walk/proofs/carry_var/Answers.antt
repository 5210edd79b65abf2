-- Its use is said, and it is held under its alias, or under the name of its row.
use native.Mathlib.Omega.{arith}
use Rattle.semantics.specs.World.{a_var}
use Rattle.projection_walk.proofs.Carrying.{adds-pair, adds_none, var-aliased, var-named, var-none}
use Rattle.projection_walk.proofs.carry_var.Goals as goal

pub returns-in-Some : goal.returns-in-Some
returns-in-Some c =
    let h = rw c.in-Some.is at c.requires.0 in
    adds-pair c.args.alias (a_var c.args.v) h (omega arith) c.use_var.ensures c.keep.ensures (λ id s b. var-aliased _ _ _ c.in-Some.is)

pub returns-in-Some-row_of : goal.returns-in-Some-row_of
returns-in-Some-row_of c =
    adds-pair c.args.alias (a_var c.args.v) c.in-Some-row_of.ensures.range.0 (omega arith) c.use_var.ensures c.keep-in-Some-row_of.ensures
    (λ id s b. var-named _ _ _ c.in-None.is c.in-Some-row_of.ensures.value)

pub returns-in-None-row_of : goal.returns-in-None-row_of
returns-in-None-row_of c =
    adds_none c.args.alias (a_var c.args.v) (omega arith) c.use_var.ensures (λ id s b. var-none _ _ _ c.in-None.is c.in-None-row_of.ensures.value)
