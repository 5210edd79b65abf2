-- The judge tells whether there is a tree, and the machine makes its entries.
use native.Mathlib.Omega.{arith}
use mathlib.Core.Path.{refl}
use Rattle.condition_reader.proofs.Whole.{unread, fillable, filled}
use Rattle.condition_reader.proofs.read_condition.Goals as goal

pub returns-in_default : goal.returns-in_default
returns-in_default c =
    (omega arith, (unread _ (rw c.in_default.is at c.count.ensures), refl))

pub fill-requires : goal.fill-requires
fill-requires c =
    let told = rw c.in-Some.is at c.count.ensures in
    let g = c.well_formed in
    fillable _ _ _ told.0 told.1.0 (omega (arith, told.1.1)) (omega (arith, g))

pub returns : goal.returns
returns c =
    let told = rw c.in-Some.is at c.count.ensures in
    (omega arith, filled _ _ _ _ told.0 told.1.0 (omega (arith, told.1.1)) c.fill.ensures)
