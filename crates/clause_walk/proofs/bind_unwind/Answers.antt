-- The scope is opened, the place of the variable's name is found, and the name is bound there (`unwound`).
use native.Mathlib.Omega.{arith}
use Rattle.clause_walk.proofs.Rescoped.{costs-ready, unwound}
use Rattle.clause_walk.proofs.bind_unwind.Goals as goal

pub place-x-requires : goal.place-x-requires
place-x-requires c =
    (record { same = c.row_of-r.ensures.value; range = c.row_of-r.ensures.range }, costs-ready {i = 3} (omega arith) c.requires c.enter.ensures)

pub bind_name-requires : goal.bind_name-requires
bind_name-requires c =
    let p = costs-ready {i = 3} (omega arith) c.requires c.enter.ensures in
    let x = c.place-x.ensures in (x.below, record { fine = p.fine; fit = x.costs.fit 3 3 0 p.fit })

pub returns : goal.returns
returns c =
    unwound c.enter.ensures c.place-x.ensures c.bind_name.ensures
