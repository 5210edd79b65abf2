-- The letter, and the digits after it.
use native.Mathlib.Omega.{arith}
use Rattle.condition_text.proofs.Stages.{atom-wrote, keeps}
use Rattle.condition_text.proofs.page.Page.put_atom.Goals as goal

pub overflow_add-self : goal.overflow_add-self
overflow_add-self c =
    let w = atom-wrote c.args.place c.args.self.now c.put.new.self c.put.ensures c.requires c.put_decimal.ensures in omega (arith, w.fits, c.well_formed)

pub invariant_of-self : goal.invariant_of-self
invariant_of-self c =
    let w = atom-wrote c.args.place c.args.self.now c.put.new.self c.put.ensures c.requires c.put_decimal.ensures in record { within = omega (arith, w.fits, keeps w) }

pub returns : goal.returns
returns c =
    record { wrote = atom-wrote c.args.place c.args.self.now c.put.new.self c.put.ensures c.requires c.put_decimal.ensures; lent = c.put.ensures.lent }
