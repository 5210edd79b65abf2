-- The name's place is found, and the name bound there.
use Rattle.steps.proofs.Placed.{named-path}
use Rattle.steps.proofs.Held.{idle-step}
use Rattle.steps.proofs.Walk.bind_path_name.Goals as goal

pub bind_anew-requires : goal.bind_anew-requires
bind_anew-requires c =
    let p = c.requires.1 in let x = c.place-x.ensures in (x.below, record { fine = p.fine; fit = x.costs.fit 3 3 0 p.fit })

pub returns-then-mode : goal.returns-then-mode
returns-then-mode c =
    rw c.if-mode.true (named-path c.place-x.ensures _ _ _ c.bind_anew.ensures)

pub returns-else-mode : goal.returns-else-mode
returns-else-mode c =
    rw c.if-mode.false (idle-step _ (λ id s h. h))
