-- The name is bound and the kind checked, one after the other (`path-steps`).
use Rattle.steps.proofs.Shown.{name_small}
use Rattle.steps.proofs.Placed.{path-steps}
use Rattle.steps.proofs.Held.{roomy-in}
use Rattle.steps.proofs.Walk.bind_path.Goals as goal

pub bind_path_name-requires : goal.bind_path_name-requires
bind_path_name-requires c =
    (record { same = c.row_of-r.ensures.value; range = c.row_of-r.ensures.range }, c.requires)

pub misplace-requires : goal.misplace-requires
misplace-requires c =
    let p = c.requires in (name_small p (record { same = c.row_of-r.ensures.value; range = c.row_of-r.ensures.range }), roomy-in p.fine (c.bind_path_name.ensures.fit 1 0 0 p.fit))

pub returns : goal.returns
returns c =
    path-steps _ c.args.mode (record { same = c.row_of-r.ensures.value; range = c.row_of-r.ensures.range }) c.bind_path_name.ensures c.misplace.ensures
