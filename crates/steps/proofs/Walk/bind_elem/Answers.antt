-- The name is bound and the kind checked, one after the other (`elem-steps`), where there is a variable.
use Rattle.steps.proofs.Shown.{name_small}
use Rattle.steps.proofs.Placed.{elem-steps, elem-none}
use Rattle.steps.proofs.Held.{roomy-in, more-costs}
use native.Mathlib.Omega.{arith}
use Rattle.steps.proofs.Walk.bind_elem.Goals as goal

pub bind_new-requires : goal.bind_new-requires
bind_new-requires c =
    (record { same = c.row_of-r.ensures.value; range = c.row_of-r.ensures.range }, c.requires.1)

pub misplace-requires : goal.misplace-requires
misplace-requires c =
    let p = c.requires.1 in (name_small p (record { same = c.row_of-r.ensures.value; range = c.row_of-r.ensures.range }), roomy-in p.fine (c.bind_new.ensures.fit 2 0 0 p.fit))

pub returns-in_default : goal.returns-in_default
returns-in_default c =
    let a = c.args in elem-none a.h.kind a.h.start a.h.end a.mode c.in_default.is

pub returns-in-Some : goal.returns-in-Some
returns-in-Some c =
    more-costs (omega arith) (omega arith) (omega arith)
    (elem-steps _ c.args.mode (record { same = c.row_of-r.ensures.value; range = c.row_of-r.ensures.range }) _ _ _ c.in-Some.is c.bind_new.ensures c.misplace.ensures)
